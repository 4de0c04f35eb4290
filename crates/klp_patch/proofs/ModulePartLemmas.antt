-- What a patch has for an object, by the object's place: a patch names an object at most once.
use Rattle.std.proofs.Common.{◌≡◌, ℕ, suc, ◌+◌, ◌≤◌, Bool, true, false, cond, List, [], ◌∷◌, ◌++◌, Option, Some, None, refl, sym, ap, subst, ◌∙◌, option_map, slice_get, arith}
use Rattle.std.specs.Prelude.{◌==◌, find, not, is_some}
use Rattle.std.specs.List.{count_by, filter, enumerate_from, position_from, flat_map}
use Rattle.std.proofs.lemmas.List.{append-nil}
use Rattle.std.proofs.lemmas.List.Sums.{sum_by-cons}
use Rattle.std.proofs.lemmas.Iterator.Adapters.{position_from-zero}
use Rattle.klp_types.specs.declared.callback.Which.TheVariants.{Pre, Post, PreUn, PostUn}
use Rattle.klp_types.specs.declared.version.Transition.{Transition}
use Rattle.klp_types.specs.Setting.{PatchObject}
use Rattle.klp_types.specs.Pick.{moves}
use Rattle.klp_types.specs.Script.{is_success}
use Rattle.klp_types.specs.Callbacks.{Call, script_for, call_of, is_refusing}
use Rattle.klp_model.specs.Callbacks.{status_of}
use Rattle.klp_model.specs.ModuleCalls.{Part, parts_among, part_call, still_call, part_refuses, parts_before, part_going}
use Rattle.klp_model.specs.EventCalls.{coming_may_run, going_may_run}
use Rattle.klp_catalog.specs.Catalog.{Catalog}
use Rattle.klp_catalog.specs.Runs.{callbacks_of, callbacks_at, objects_at, place_of, script_at}
use Rattle.klp_patch.specs.Refusing.{refusal_of}
use Rattle.klp_patch.specs.Places.{call_at, call_unless_moving, coming_at, going_at}
use Rattle.klp_patch.specs.ModuleParts.{parts_at}
use Rattle.klp_patch.specs.UntilRefused.{calls_until_refused, refusal}
use Rattle.klp_patch.proofs.LoopLemmas.{refusing-status}

module _ (object : ℕ) where
  abbrev is_here : PatchObject → Bool
  is_here o = o.object == object

  -- those of these objects that are this one, of which the first has this place
  abbrev here_from : ℕ → List PatchObject → List (ℕ × PatchObject)
  here_from n objects = filter (λ (o : ℕ × PatchObject). o.1.object == object) (enumerate_from n objects)

  count-cons : (o : PatchObject) (objects : List PatchObject) → count_by is_here (o ∷ objects) ≡ cond (is_here o) 1 0 + count_by is_here objects
  count-cons o objects = sum_by-cons (λ (x : PatchObject). cond (is_here x) 1 0) o objects

  none_here : (n : ℕ) (objects : List PatchObject) → count_by is_here objects ≡ 0 → here_from n objects ≡ []
  none_here n [] none = refl
  none_here n (o ∷ objects) none = by (λ rest. none_here (n + 1) objects rest) (is_here o) refl
    where
      by : (count_by is_here objects ≡ 0 → here_from (n + 1) objects ≡ []) → (b : Bool) → is_here o ≡ b → cond b ((n, o) ∷ here_from (n + 1) objects) (here_from (n + 1) objects) ≡ []
      by later true is = let first : cond {A = ℕ} (is_here o) 1 0 ≡ cond {A = ℕ} true 1 0 = ap (λ b. cond {A = ℕ} b 1 0) is in absurd (omega (arith, count-cons o objects, first, none))
      by later false is = let first : cond {A = ℕ} (is_here o) 1 0 ≡ cond {A = ℕ} false 1 0 = ap (λ b. cond {A = ℕ} b 1 0) is in later (omega (arith, count-cons o objects, first, none))

  -- the object's place, and the object
  abbrev IsOnlyHere : ℕ → List PatchObject → Option ℕ → Type 0
  IsOnlyHere n objects None = here_from n objects ≡ []
  IsOnlyHere n objects (Some place) = (k : ℕ) × (o : PatchObject) × (place ≡ n + k) × (slice_get objects k ≡ Some o) × (here_from n objects ≡ (place, o) ∷ [])

  only_here : (n : ℕ) (objects : List PatchObject) → count_by is_here objects ≤ 1 → IsOnlyHere n objects (position_from is_here n objects)
  only_here n [] once = refl
  only_here n (o ∷ objects) once = by (λ rest. only_here (n + 1) objects rest) (is_here o) refl
    where
      step : (found : Option ℕ) → IsOnlyHere (n + 1) objects found → is_here o ≡ false → IsOnlyHere n (o ∷ objects) found
      step None rest is = ap (λ b. cond b ((n, o) ∷ here_from (n + 1) objects) (here_from (n + 1) objects)) is ∙ rest
      step (Some place) rest is = (
        suc rest.0,
        rest.1,
        omega (arith, rest.2),
        rest.3,
        ap (λ b. cond b ((n, o) ∷ here_from (n + 1) objects) (here_from (n + 1) objects)) is ∙ rest.4,
      )

      by : (count_by is_here objects ≤ 1 → IsOnlyHere (n + 1) objects (position_from is_here (n + 1) objects)) → (b : Bool) → is_here o ≡ b
          → IsOnlyHere n (o ∷ objects) (cond b (Some n) (position_from is_here (n + 1) objects))
      by later true is =
          let first : cond {A = ℕ} (is_here o) 1 0 ≡ cond {A = ℕ} true 1 0 = ap (λ b. cond {A = ℕ} b 1 0) is in
          let none = none_here (n + 1) objects (omega (arith, count-cons o objects, first, once)) in
          (0, o, omega arith, refl, ap (λ b. cond b ((n, o) ∷ here_from (n + 1) objects) (here_from (n + 1) objects)) is ∙ ap (λ rest. (n, o) ∷ rest) none)
      by later false is =
          let first : cond {A = ℕ} (is_here o) 1 0 ≡ cond {A = ℕ} false 1 0 = ap (λ b. cond {A = ℕ} b 1 0) is in
          step (position_from is_here (n + 1) objects) (later (omega (arith, count-cons o objects, first, once))) is

-- what a patch has for the object that it names at a place
pub record IsPart (catalog : Catalog) (object patch place : ℕ) : Type 0 where
  pub own : PatchObject
  pub there : own.callbacks ≡ callbacks_at catalog patch place
  pub only : parts_at catalog object patch ≡ (patch, (place, own)) ∷ []

module _ (catalog : Catalog) (object patch : ℕ) (once : count_by (λ (o : PatchObject). o.object == object) (objects_at catalog patch) ≤ 1) where
  only_of : (found : Option ℕ) → found ≡ place_of object (objects_at catalog patch) → IsOnlyHere object 0 (objects_at catalog patch) found
  only_of found is =
      subst (IsOnlyHere object 0 (objects_at catalog patch)) (sym (is ∙ position_from-zero (λ (o : PatchObject). o.object == object) (objects_at catalog patch)))
      (only_here object 0 (objects_at catalog patch) once)

  pub no_part : None ≡ place_of object (objects_at catalog patch) → parts_at catalog object patch ≡ []
  no_part none = ap (parts_among patch) (only_of None none)

  pub one_part : (place : ℕ) → Some place ≡ place_of object (objects_at catalog patch) → IsPart catalog object patch place
  one_part place some =
      let here = only_of (Some place) some in
      let same : place ≡ here.0 = omega (arith, here.2) in
      record {
        own = here.1;
        there = ap callbacks_of (sym (ap (slice_get (objects_at catalog patch)) same ∙ here.3));
        only = ap (parts_among patch) here.4;
      }

-- its callbacks are those of the place
module _ (catalog : Catalog) (object patch place : ℕ) (part : IsPart catalog object patch place) (moving : Option Transition) where
  abbrev whole : Part
  whole = (patch, (place, part.own))

  alone : (f : Part → List Call) → flat_map f (parts_at catalog object patch) ≡ f whole
  alone f = ap (flat_map f) part.only ∙ append-nil (f whole)

  pub brings : calls_until_refused moving (parts_at catalog object patch) ≡ coming_at moving catalog patch place
  brings =
      ap (calls_until_refused moving) part.only
      ∙ ap (λ rest. part_call Pre whole ++ cond (part_refuses whole) [] rest) (append-nil (still_call moving Post whole))
      ∙ ap (λ cs. call_of patch place Pre (script_for Pre cs)
      ++ cond (is_refusing (script_for Pre cs)) [] (cond (moves moving patch) [] (call_of patch place Post (script_for Post cs)))) part.there

  pub lets_go : flat_map (part_going moving) (parts_at catalog object patch) ≡ going_at moving catalog patch place
  lets_go =
      alone (part_going moving)
      ∙ ap (λ cs. cond (moves moving patch) [] (call_of patch place PreUn (script_for PreUn cs)) ++ call_of patch place PostUn (script_for PostUn cs)) part.there

  pub may_go : flat_map (going_may_run moving) (parts_at catalog object patch) ≡ call_at catalog patch place PostUn ++ call_unless_moving moving catalog patch place PreUn
  may_go =
      alone (going_may_run moving)
      ∙ ap (λ cs. call_of patch place PostUn (script_for PostUn cs) ++ cond (moves moving patch) [] (call_of patch place PreUn (script_for PreUn cs))) part.there

  pub may_come : flat_map (coming_may_run moving) (parts_at catalog object patch)
      ≡ call_at catalog patch place Pre ++ call_at catalog patch place PostUn ++ call_unless_moving moving catalog patch place Post ++ call_unless_moving moving catalog patch place PreUn
  may_come =
      alone (coming_may_run moving)
      ∙ ap (λ cs. call_of patch place Pre (script_for Pre cs) ++ call_of patch place PostUn (script_for PostUn cs)
      ++ cond (moves moving patch) [] (call_of patch place Post (script_for Post cs)) ++ cond (moves moving patch) [] (call_of patch place PreUn (script_for PreUn cs))) part.there

  -- the status with which it refuses
  pub has_effect : option_map (λ status. (patch, status)) (refusal_of (status_of (script_at catalog patch place Pre))) ≡ option_map refusal (find part_refuses (parts_at catalog object patch))
  has_effect =
      ap (λ cs. option_map (λ status. (patch, status)) (refusal_of (status_of (script_for Pre cs)))) (sym part.there)
      ∙ by (is_success (status_of (script_for Pre part.own.callbacks))) (is_refusing (script_for Pre part.own.callbacks)) (refusing-status (script_for Pre part.own.callbacks))
      ∙ ap (λ parts. option_map refusal (find part_refuses parts)) (sym part.only)
    where
      by : (success refusing : Bool) → refusing ≡ not success
          → option_map (λ status. (patch, status)) (cond success None (Some (status_of (script_for Pre part.own.callbacks)))) ≡ option_map refusal (cond refusing (Some whole) None)
      by true true wrong = let no : ⊥ = cc in absurd no
      by true false e = refl
      by false true e = refl
      by false false wrong = let no : ⊥ = cc in absurd no

  -- nothing stands before it
  pub none_before : is_some (refusal_of (status_of (script_at catalog patch place Pre))) ≡ true → parts_before (parts_at catalog object patch) ≡ []
  none_before there =
      ap parts_before part.only
      ∙ by (is_success (status_of (script_for Pre part.own.callbacks))) (is_refusing (script_for Pre part.own.callbacks)) (refusing-status (script_for Pre part.own.callbacks))
      (ap (λ cs. is_some (refusal_of (status_of (script_for Pre cs)))) part.there ∙ there)
    where
      by : (success refusing : Bool) → refusing ≡ not success → is_some (cond success None (Some (status_of (script_for Pre part.own.callbacks)))) ≡ true
          → cond refusing [] (whole ∷ []) ≡ []
      by true refusing e wrong = let no : ⊥ = cc in absurd no
      by false true e some = refl
      by false false wrong some = let no : ⊥ = cc in absurd no
