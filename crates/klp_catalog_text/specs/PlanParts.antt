-- The parts of a plan, and how items are appended to them.
use Rattle.std.specs.Prelude.{ℕ, ◌==◌, ◌-◌, not, Bool, List, [], ◌∷◌, ◌++◌, length, slice_get, Option, Some, None, sum_by}
use Rattle.std.specs.List.{list_any}
use Rattle.klp_types.specs.Compatible.{SystemState}
use Rattle.klp_types.specs.Image.{Symbol, Object}
use Rattle.klp_types.specs.declared.callback.Which.{Which}
use Rattle.klp_types.specs.declared.callback.Which.TheVariants.{Pre, Post, PreUn, PostUn}
use Rattle.klp_catalog_text.specs.Plan.{PlanFunction, PlanTarget, PlanPatch}
use Rattle.klp_types.specs.Setting.{Callback as PlanCallback}

abbrev pub last_of : {A : Type 0} → List A → Option A
last_of xs = slice_get xs (length xs - 1)

-- the list with its last item changed
abbrev pub on_last : {A : Type 0} → (A → A) → List A → List A
on_last change [] = []
on_last change (x ∷ []) = change x ∷ []
on_last change (x ∷ y ∷ xs) = x ∷ on_last change (y ∷ xs)

abbrev pub has_some : {A : Type 0} → List A → Bool
has_some xs = not (length xs == 0)

abbrev pub targets_of : Option PlanPatch → List PlanTarget
targets_of None = []
targets_of (Some patch) = patch.targets

abbrev pub states_of : Option PlanPatch → List SystemState
states_of None = []
states_of (Some patch) = patch.states

abbrev pub callbacks_of : Option PlanTarget → List PlanCallback
callbacks_of None = []
callbacks_of (Some target) = target.callbacks

-- a number for each kind of callback
abbrev pub which_number : Which → ℕ
which_number Pre = 0
which_number Post = 1
which_number PreUn = 2
which_number PostUn = 3

-- whether there is a callback of this kind
abbrev pub has_which : Which → List PlanCallback → Bool
has_which which callbacks = list_any (λ (c : PlanCallback). which_number c.which == which_number which) callbacks

-- whether the state with this id is named
abbrev pub names_state : ℕ → List SystemState → Bool
names_state id states = list_any (λ (s : SystemState). s.id == id) states

-- how many functions all targets have together
abbrev pub function_count : List PlanTarget → ℕ
function_count targets = sum_by (λ (t : PlanTarget). length t.functions) targets

abbrev pub with_symbol : Symbol → Object → Object
with_symbol symbol object = record object { symbols = object.symbols ++ symbol ∷ [] }

abbrev pub with_target : Option ℕ → PlanPatch → PlanPatch
with_target None patch = patch
with_target (Some object) patch = record patch { targets = patch.targets ++ record { object = object; functions = []; callbacks = [] } ∷ [] }

abbrev pub with_function : PlanFunction → PlanTarget → PlanTarget
with_function function target = record target { functions = target.functions ++ function ∷ [] }

abbrev pub with_function_in : PlanFunction → PlanPatch → PlanPatch
with_function_in function patch = record patch { targets = on_last (with_function function) patch.targets }

abbrev pub with_callback : PlanCallback → PlanTarget → PlanTarget
with_callback callback target = record target { callbacks = target.callbacks ++ callback ∷ [] }

abbrev pub with_callback_in : PlanCallback → PlanPatch → PlanPatch
with_callback_in callback patch = record patch { targets = on_last (with_callback callback) patch.targets }

abbrev pub with_state : SystemState → PlanPatch → PlanPatch
with_state state patch = record patch { states = patch.states ++ state ∷ [] }
