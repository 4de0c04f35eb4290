-- The plan that the lines read so far make, and what each line adds to it.
use Rattle.std.specs.Prelude.{ℕ, ◌==◌, not, Bool, false, nat_lt, nat_le, List, [], ◌∷◌, ◌++◌, length, map, position, slice_get, Option, Some, None, is_some, is_none, option_map, Result, bytes_eq}
use Rattle.std.specs.List.{list_any}
use Rattle.klp_types.specs.Compatible.{SystemState}
use Rattle.klp_types.specs.Image.{Object, symbols_of}
use Rattle.klp_types.specs.declared.limits.TheConstants.{MAX_EDITS, MAX_PATCHES, MAX_STATES}
use Rattle.klp_types.specs.declared.limits.TheConstants.{MAX_OBJECTS, MAX_SITES, MAX_BODY, MAX_TARGETS, MAX_FUNCTIONS}
use Rattle.klp_catalog_text.specs.declared.fault.TextFaultKind.{TextFaultKind}
use Rattle.klp_catalog_text.specs.declared.fault.TextFaultKind.TheVariants.{OutOfPlace, UnknownObject, Twice, TooMany}
use Rattle.klp_catalog_text.specs.declared.line.CatalogLine.{CatalogLine}
use Rattle.klp_catalog_text.specs.declared.line.CatalogLine.TheVariants as line
use Rattle.klp_catalog_text.specs.Plan.{PlanTarget, PlanPatch}
use Rattle.klp_catalog_text.specs.PlanParts.{last_of, on_last, has_some, targets_of, states_of, callbacks_of, has_which, names_state, function_count, with_symbol, with_target, with_function_in, with_callback_in, with_state}
use Rattle.klp_types.specs.FirstOf.{first_of, unless}

pub record Draft : Type 0 where
  pub handler : Option ℕ
  pub objects : List Object
  pub patches : List PlanPatch

abbrev pub empty_draft : Draft
empty_draft = record { handler = None; objects = []; patches = [] }

abbrev pub names_of : List Object → List (List ℕ)
names_of objects = map (λ (o : Object). o.name) objects

abbrev pub patch_names_of : List PlanPatch → List (List ℕ)
patch_names_of patches = map (λ (p : PlanPatch). p.name) patches

-- the index of a name in a list of names
abbrev pub number_of : List ℕ → List (List ℕ) → Option ℕ
number_of name names = position (bytes_eq name) names

-- the targets of the last patch
abbrev pub open_targets : Draft → List PlanTarget
open_targets draft = targets_of (last_of draft.patches)

-- the system states that the last patch names
abbrev pub open_states : Draft → List SystemState
open_states draft = states_of (last_of draft.patches)

abbrev pub object_name : List Object → Option PlanTarget → Option (List ℕ)
object_name objects None = None
object_name objects (Some target) = option_map (λ (o : Object). o.name) (slice_get objects target.object)

-- the name of the open target's object; the open target is the last target of the last patch
abbrev pub open_object : Draft → Option (List ℕ)
open_object draft = object_name draft.objects (last_of (open_targets draft))

abbrev pub has_target : List PlanTarget → Option ℕ → Bool
has_target targets None = false
has_target targets (Some object) = list_any (λ (t : PlanTarget). t.object == object) targets

-- the faults that a line can have at its place, in the order in which they are checked
abbrev pub place_faults : Draft → CatalogLine → List (Bool × TextFaultKind)
place_faults draft (line.Handler address) = (has_some draft.patches, OutOfPlace) ∷ (is_some draft.handler, Twice) ∷ []
place_faults draft (line.Object name) =
    (has_some draft.patches, OutOfPlace) ∷ (is_some (number_of name (names_of draft.objects)), Twice)
    ∷ (nat_le MAX_OBJECTS (length draft.objects), TooMany) ∷ []
place_faults draft (line.Symbol symbol) =
    (has_some draft.patches, OutOfPlace) ∷ (not (has_some draft.objects), OutOfPlace)
    ∷ (nat_le MAX_SITES (length (symbols_of draft.objects)), TooMany) ∷ (nat_lt MAX_BODY (length symbol.body), TooMany) ∷ []
place_faults draft (line.Patch name replace) =
    (is_some (number_of name (patch_names_of draft.patches)), Twice) ∷ (nat_le MAX_PATCHES (length draft.patches), TooMany) ∷ []
place_faults draft (line.Target name) =
    (not (has_some draft.patches), OutOfPlace) ∷ (is_none (number_of name (names_of draft.objects)), UnknownObject)
    ∷ (has_target (open_targets draft) (number_of name (names_of draft.objects)), Twice)
    ∷ (nat_le MAX_TARGETS (length (open_targets draft)), TooMany) ∷ []
place_faults draft (line.Function function) =
    (not (has_some (open_targets draft)), OutOfPlace) ∷ (nat_le MAX_FUNCTIONS (function_count (open_targets draft)), TooMany) ∷ []
place_faults draft (line.Callback which script) =
    (not (has_some (open_targets draft)), OutOfPlace) ∷ (has_which which (callbacks_of (last_of (open_targets draft))), Twice)
    ∷ (nat_lt MAX_EDITS (length script.edits), TooMany) ∷ []
place_faults draft (line.State state) =
    (not (has_some draft.patches), OutOfPlace) ∷ (names_state state.id (open_states draft), Twice)
    ∷ (nat_le MAX_STATES (length (open_states draft)), TooMany) ∷ []

-- the draft with what the line says
abbrev pub added : Draft → CatalogLine → Draft
added draft (line.Handler address) = record draft { handler = Some address }
added draft (line.Object name) = record draft { objects = draft.objects ++ record { name = name; symbols = [] } ∷ [] }
added draft (line.Symbol symbol) = record draft { objects = on_last (with_symbol symbol) draft.objects }
added draft (line.Patch name replace) = record draft { patches = draft.patches ++ record { name = name; replace = replace; targets = []; states = [] } ∷ [] }
added draft (line.Target name) = record draft { patches = on_last (with_target (number_of name (names_of draft.objects))) draft.patches }
added draft (line.Function function) = record draft { patches = on_last (with_function_in function) draft.patches }
added draft (line.Callback which script) = record draft { patches = on_last (with_callback_in (record { which = which; script = script })) draft.patches }
added draft (line.State state) = record draft { patches = on_last (with_state state) draft.patches }

abbrev pub placed : Draft → CatalogLine → Result Draft TextFaultKind
placed draft line = unless (first_of (place_faults draft line)) (added draft line)
