-- One turn of a loop over the objects of a patch.
use Rattle.std.proofs.Common.{◌≡◌, ℕ, ◌+◌, ◌≤◌, ◌<◌, Bool, true, false, cond, List, [], ◌∷◌, ◌++◌, take, drop, length, get_or, Option, Some, None, refl, sym, ap, ◌∙◌, arith}
use Rattle.std.specs.Prelude.{ℤ, slice_get, find, not, pos, negsuc}
use Rattle.std.proofs.lemmas.Bool.{eqb-true}
use Rattle.std.proofs.lemmas.Option.{slice_get-get_or}
use Rattle.std.proofs.lemmas.List.{get_or-take, length-take-le, append-nil}
use Rattle.klp_types.specs.declared.callback.Which.{Which}
use Rattle.klp_types.specs.declared.callback.Which.TheVariants.{Pre}
use Rattle.klp_types.specs.Setting.{PatchObject}
use Rattle.klp_types.specs.Script.{Script, is_success}
use Rattle.klp_types.specs.Callbacks.{Call, script_for, call_of, calls_of, is_refusing, refuses}
use Rattle.klp_model.specs.Callbacks.{status_of}
use Rattle.klp_catalog.specs.Catalog.{Catalog}
use Rattle.klp_catalog.specs.Runs.{objects_at}
use Rattle.klp_modules.specs.Names.{ModuleTable}
use Rattle.klp_patch.specs.Loaded.{is_loaded_in, loaded_from}
use Rattle.klp_patch.specs.Refusing.{loaded_call, loaded_status, call_for, status_for, refusal_of, pre_calls}
use Rattle.klp_patch.proofs.CallLemmas.{from-loaded, from-unloaded, from-end}

pub object_in-take : (objects : List PatchObject) (end k : ℕ) → k < end → end ≤ length objects → slice_get (take end objects) k ≡ slice_get objects k
object_in-take [] end k below fits = absurd (omega (arith, below, fits))
object_in-take (o ∷ objects) end k below fits =
    slice_get-get_or (take end (o ∷ objects)) k o (omega (arith, below, length-take-le end (o ∷ objects) fits))
    ∙ ap (λ x. Some x) (get_or-take end (o ∷ objects) k o below)
    ∙ sym (slice_get-get_or (o ∷ objects) k o (omega (arith, below, fits)))

-- the callbacks that are left
abbrev pub left_from : (ℕ → Bool) → ℕ → Which → ℕ → List PatchObject → List Call
left_from loaded patch which k objects = calls_of patch which (loaded_from loaded k (drop k objects))

one_left : (loaded : ℕ → Bool) (patch : ℕ) (which : Which) (objects : List PatchObject) (k : ℕ) (o : PatchObject) (is : Bool) → slice_get objects k ≡ Some o → loaded o.object ≡ is
    → left_from loaded patch which k objects ≡ cond is (call_of patch k which (script_for which o.callbacks)) [] ++ left_from loaded patch which (k + 1) objects
one_left loaded patch which objects k o true at is = ap (calls_of patch which) (from-loaded loaded objects k o at is)
one_left loaded patch which objects k o false at is = ap (calls_of patch which) (from-unloaded loaded objects k o at is)

at_left : (loaded : ℕ → Bool) (patch : ℕ) (which : Which) (objects : List PatchObject) (k : ℕ) (found : Option PatchObject) → slice_get objects k ≡ found → k < length objects
    → left_from loaded patch which k objects ≡ call_for loaded patch which k found ++ left_from loaded patch which (k + 1) objects
at_left loaded patch which objects k (Some o) at below = one_left loaded patch which objects k o (loaded o.object) at refl
at_left loaded patch which [] k None at below = absurd (omega (arith, below))
at_left loaded patch which (o ∷ objects) k None at below = let no : ⊥ = cc (at, slice_get-get_or (o ∷ objects) k o below) in absurd no

-- the callback of the next object, and those behind it
pub next_left : (loaded : ℕ → Bool) (patch : ℕ) (which : Which) (objects : List PatchObject) (k : ℕ) → k < length objects
    → left_from loaded patch which k objects ≡ call_for loaded patch which k (slice_get objects k) ++ left_from loaded patch which (k + 1) objects
next_left loaded patch which objects k below = at_left loaded patch which objects k (slice_get objects k) refl below

pub none_left : (loaded : ℕ → Bool) (patch : ℕ) (which : Which) (objects : List PatchObject) (k : ℕ) → length objects ≤ k → left_from loaded patch which k objects ≡ []
none_left loaded patch which objects k past = ap (calls_of patch which) (from-end loaded objects k past)

-- the same for the catalog as it is in that turn
pub next_loaded : (catalog first : Catalog) (modules : ModuleTable) (patch : ℕ) (which : Which) (end k : ℕ) → objects_at catalog patch ≡ objects_at first patch → k < end → end ≤ length (objects_at first patch)
    → left_from (is_loaded_in modules) patch which k (take end (objects_at first patch))
    ≡ loaded_call catalog modules patch which k ++ left_from (is_loaded_in modules) patch which (k + 1) (take end (objects_at first patch))
next_loaded catalog first modules patch which end k same below fits =
    let objects = objects_at first patch in
    let loaded = is_loaded_in modules in
    next_left loaded patch which (take end objects) k (omega (arith, below, length-take-le end objects fits))
    ∙ ap (λ found. call_for loaded patch which k found ++ left_from loaded patch which (k + 1) (take end objects))
    (object_in-take objects end k below fits ∙ ap (λ os. slice_get os k) (sym same))

pub refusing-status : (script : Option Script) → is_refusing script ≡ not (is_success (status_of script))
refusing-status None = refl
refusing-status (Some script) = refl

-- a status that is no refusal
not_refusing : (status : ℤ) → refusal_of status ≡ None → not (is_success status) ≡ false
not_refusing status none = elim (is_success status) as (λ b. cond b None (Some status) ≡ None → not b ≡ false) [
  | true ↦ λ _. refl
  | false ↦ λ some. let no : ⊥ = cc in absurd no
] none

pub refusing-none : (script : Option Script) → refusal_of (status_of script) ≡ None → is_refusing script ≡ false
refusing-none script none = refusing-status script ∙ not_refusing (status_of script) none

-- a turn in which nothing refuses
pub record GoesOn (loaded : ℕ → Bool) (patch : ℕ) (objects : List PatchObject) (k : ℕ) (o : PatchObject) : Type 0 where
  pub calls : pre_calls patch (loaded_from loaded k (drop k objects)) ≡ call_for loaded patch Pre k (Some o) ++ pre_calls patch (loaded_from loaded (k + 1) (drop (k + 1) objects))
  pub refused : find refuses (loaded_from loaded k (drop k objects)) ≡ find refuses (loaded_from loaded (k + 1) (drop (k + 1) objects))

goes_on : (loaded : ℕ → Bool) (patch : ℕ) (objects : List PatchObject) (k : ℕ) (o : PatchObject) (is : Bool) → slice_get objects k ≡ Some o → loaded o.object ≡ is
    → is_success (cond is (status_of (script_for Pre o.callbacks)) (pos 0)) ≡ true → GoesOn loaded patch objects k o
goes_on loaded patch objects k o false at is success =
    let next = from-unloaded loaded objects k o at is in
    let none : call_for loaded patch Pre k (Some o) ≡ [] = ap (λ b. cond b (call_of patch k Pre (script_for Pre o.callbacks)) []) is in
    record {
      calls = ap (pre_calls patch) next ∙ ap (λ calls. calls ++ pre_calls patch (loaded_from loaded (k + 1) (drop (k + 1) objects))) (sym none);
      refused = ap (find refuses) next;
    }
goes_on loaded patch objects k o true at is success =
    let next = from-loaded loaded objects k o at is in
    let rest = loaded_from loaded (k + 1) (drop (k + 1) objects) in
    let own = call_of patch k Pre (script_for Pre o.callbacks) in
    let one : call_for loaded patch Pre k (Some o) ≡ own = ap (λ b. cond b own []) is in
    let passes : refuses (k, o) ≡ false = refusing-status (script_for Pre o.callbacks) ∙ ap not success in
    record {
      calls = ap (pre_calls patch) next ∙ ap (λ b. own ++ cond b [] (pre_calls patch rest)) passes ∙ ap (λ calls. calls ++ pre_calls patch rest) (sym one);
      refused = ap (find refuses) next ∙ ap (λ b. cond b (Some (k, o)) (find refuses rest)) passes;
    }

-- the turn in which an object refuses
pub record Stops (loaded : ℕ → Bool) (patch : ℕ) (objects : List PatchObject) (k : ℕ) (o : PatchObject) : Type 0 where
  pub calls : pre_calls patch (loaded_from loaded k (drop k objects)) ≡ call_for loaded patch Pre k (Some o)
  pub refused : find refuses (loaded_from loaded k (drop k objects)) ≡ Some (k, o)
  pub status : status_for loaded Pre (Some o) ≡ status_of (script_for Pre o.callbacks)

stops : (loaded : ℕ → Bool) (patch : ℕ) (objects : List PatchObject) (k : ℕ) (o : PatchObject) (is : Bool) → slice_get objects k ≡ Some o → loaded o.object ≡ is
    → is_success (cond is (status_of (script_for Pre o.callbacks)) (pos 0)) ≡ false → Stops loaded patch objects k o
stops loaded patch objects k o false at is refusal = let no : ⊥ = cc in absurd no
stops loaded patch objects k o true at is refusal =
    let next = from-loaded loaded objects k o at is in
    let rest = loaded_from loaded (k + 1) (drop (k + 1) objects) in
    let own = call_of patch k Pre (script_for Pre o.callbacks) in
    let one : call_for loaded patch Pre k (Some o) ≡ own = ap (λ b. cond b own []) is in
    let refusing : refuses (k, o) ≡ true = refusing-status (script_for Pre o.callbacks) ∙ ap not refusal in
    record {
      calls = ap (pre_calls patch) next ∙ ap (λ b. own ++ cond b [] (pre_calls patch rest)) refusing ∙ append-nil own ∙ sym one;
      refused = ap (find refuses) next ∙ ap (λ b. cond b (Some (k, o)) (find refuses rest)) refusing;
      status = ap (λ b. cond b (status_of (script_for Pre o.callbacks)) (pos 0)) is;
    }

-- which of the two a turn is, by the status that is answered
pub turn-goes_on : (loaded : ℕ → Bool) (patch : ℕ) (objects : List PatchObject) (k : ℕ) (o : PatchObject) → slice_get objects k ≡ Some o
    → is_success (status_for loaded Pre (Some o)) ≡ true → GoesOn loaded patch objects k o
turn-goes_on loaded patch objects k o at success = goes_on loaded patch objects k o (loaded o.object) at refl success

pub turn-stops : (loaded : ℕ → Bool) (patch : ℕ) (objects : List PatchObject) (k : ℕ) (o : PatchObject) → slice_get objects k ≡ Some o
    → is_success (status_for loaded Pre (Some o)) ≡ false → Stops loaded patch objects k o
turn-stops loaded patch objects k o at refusal = stops loaded patch objects k o (loaded o.object) at refl refusal

pub object_there : (objects : List PatchObject) (k : ℕ) → k < length objects → (o : PatchObject) × (slice_get objects k ≡ Some o)
object_there [] k below = absurd (omega (arith, below))
object_there (o ∷ objects) k below = (get_or (o ∷ objects) k o, slice_get-get_or (o ∷ objects) k o below)

-- what is known of a turn of the pre-patch callbacks
pub record IsTurn (catalog first : Catalog) (modules : ModuleTable) (patch k : ℕ) : Type 0 where
  pub object : PatchObject
  pub there : slice_get (objects_at first patch) k ≡ Some object
  pub call : loaded_call catalog modules patch Pre k ≡ call_for (is_loaded_in modules) patch Pre k (Some object)
  pub status : loaded_status catalog modules patch Pre k ≡ status_for (is_loaded_in modules) Pre (Some object)

pub turn : (catalog first : Catalog) (modules : ModuleTable) (patch k : ℕ) → objects_at catalog patch ≡ objects_at first patch → k < length (objects_at first patch) → IsTurn catalog first modules patch k
turn catalog first modules patch k same below =
    let objects = objects_at first patch in
    let loaded = is_loaded_in modules in
    let found = object_there objects k below in
    let now = ap (λ os. slice_get os k) same in
    record {
      object = found.0;
      there = found.1;
      call = ap (call_for loaded patch Pre k) (now ∙ found.1);
      status = ap (status_for loaded Pre) (now ∙ found.1);
    }

nonzero_by : (status : ℤ) (success : Bool) → is_success status ≡ success → (status ≡ pos 0 → ⊥) → is_success status ≡ false
nonzero_by (pos n) true is other = absurd (other (ap pos (eqb-true n 0 is)))
nonzero_by (pos n) false is other = is
nonzero_by (negsuc n) success is other = refl

-- a status that isn't 0 refuses
pub refuses-nonzero : (status : ℤ) → (status ≡ pos 0 → ⊥) → is_success status ≡ false
refuses-nonzero status other = nonzero_by status (is_success status) refl other
