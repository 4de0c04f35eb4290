-- Objects stand at rising places of a patch, so the callbacks of one are told from those of another.
use Rattle.std.proofs.Common.{◌≡◌, ℕ, zero, suc, ◌+◌, ◌≤◌, ◌<◌, Bool, true, false, cond, List, [], ◌∷◌, ◌++◌, map, Option, Some, None, is_some, refl, sym, ap, subst, ◌∙◌, arith}
use Rattle.std.specs.Prelude.{◌==◌, slice_get}
use Rattle.std.specs.List.{filter, find, enumerate_from, before_first}
use Rattle.std.proofs.lemmas.Bool.{eq-eqb}
use Rattle.std.proofs.lemmas.Bool.Decides.{nat_tests}
use Rattle.std.proofs.lemmas.List.Elements.{filter-append}
use Rattle.klp_types.specs.declared.callback.Which.{Which}
use Rattle.klp_types.specs.declared.callback.Which.TheVariants.{Pre, PostUn}
use Rattle.klp_types.specs.Setting.{Setting, PatchObject, objects_of}
use Rattle.klp_types.specs.Script.{Script}
use Rattle.klp_model.specs.State.{State, is_loaded}
use Rattle.klp_types.specs.Callbacks.{Call, call_of, calls_of, script_for, refuses, refused_calls, enable_calls}
use Rattle.klp_model.specs.Callbacks.{loaded_objects}
use Rattle.klp_model.specs.Rounds.{kinds_for, those_there}
use Rattle.klp_model.specs.Company.{taking_part}
use Rattle.klp_model.proofs.ObjectLemmas.{Objects, before_first-cons}
use Rattle.klp_model.proofs.Phases.{Ran}

map-append' : {A B : Type 0} (f : A → B) (xs ys : List A) → map f (xs ++ ys) ≡ map f xs ++ map f ys
map-append' f [] ys = refl
map-append' f (x ∷ xs) ys = ap (λ rest. f x ∷ rest) (map-append' f xs ys)

pub kinds_for-append : (place : ℕ) (first second : List Call) → kinds_for place (first ++ second) ≡ kinds_for place first ++ kinds_for place second
kinds_for-append place first second =
    ap (map (λ (c : Call). c.which)) (filter-append (λ (c : Call). c.place == place) first second)
    ∙ map-append' (λ (c : Call). c.which) (filter (λ (c : Call). c.place == place) first) (filter (λ (c : Call). c.place == place) second)

pub those_there-append : (object : ℕ × PatchObject) (first second : List Which) → those_there object (first ++ second) ≡ those_there object first ++ those_there object second
those_there-append object first second = filter-append (λ which. is_some (script_for which object.1.callbacks)) first second

-- of objects one after another
pub ran_both : (objects : Objects) (a b : List Call) (ks ls : List Which) → Ran objects a ks → Ran objects b ls → Ran objects (a ++ b) (ks ++ ls)
ran_both objects a b ks ls first second number object is =
    kinds_for-append object.0 a b ∙ ap (λ xs. xs ++ kinds_for object.0 b) (first number object is)
    ∙ ap (λ xs. those_there object ks ++ xs) (second number object is) ∙ sym (those_there-append object ks ls)

pub ran_none : (objects : Objects) → Ran objects [] []
ran_none objects number object is = refl

-- places rise, from one on
abbrev pub RiseFrom : ℕ → Objects → Type 0
RiseFrom n [] = Unit {0}
RiseFrom n (object ∷ objects) = (n ≤ object.0) × RiseFrom (suc object.0) objects

rise_lower : (m n : ℕ) (objects : Objects) → m ≤ n → RiseFrom n objects → RiseFrom m objects
rise_lower m n [] le rise = tt
rise_lower m n (object ∷ objects) le rise = (omega arith, rise.1)

rise_enumerated : (n : ℕ) (objects : List PatchObject) → RiseFrom n (enumerate_from n objects)
rise_enumerated n [] = tt
rise_enumerated n (object ∷ objects) = (omega arith, subst (λ m. RiseFrom m (enumerate_from (n + 1) objects)) (omega arith) (rise_enumerated (n + 1) objects))

rise_filter : (test : ℕ × PatchObject → Bool) (n : ℕ) (objects : Objects) → RiseFrom n objects → RiseFrom n (filter test objects)
rise_filter test n [] rise = tt
rise_filter test n (object ∷ objects) rise = by (test object) (rise_filter test (suc object.0) objects rise.1)
  where
    by : (t : Bool) → RiseFrom (suc object.0) (filter test objects) → RiseFrom n (cond t (object ∷ filter test objects) (filter test objects))
    by true rest = (rise.0, rest)
    by false rest = rise_lower n (suc object.0) (filter test objects) (omega (arith, rise.0)) rest

rise_before : (n : ℕ) (objects : Objects) → RiseFrom n objects → RiseFrom n (before_first refuses objects)
rise_before n [] rise = tt
rise_before n (object ∷ objects) rise = subst (RiseFrom n) (sym (before_first-cons refuses object objects)) (by (refuses object) (rise_before (suc object.0) objects rise.1))
  where
    by : (t : Bool) → RiseFrom (suc object.0) (before_first refuses objects) → RiseFrom n (cond t [] (object ∷ before_first refuses objects))
    by true rest = tt
    by false rest = (rise.0, rest)

pub rise_loaded : (setting : Setting) (state : State) (patch : ℕ) → RiseFrom 0 (loaded_objects setting state patch)
rise_loaded setting state patch =
    rise_filter (λ (o : ℕ × PatchObject). is_loaded state o.1.object) 0 (enumerate_from 0 (objects_of setting patch)) (rise_enumerated 0 (objects_of setting patch))

pub rise_taking : (setting : Setting) (state : State) (patch : ℕ) → RiseFrom 0 (taking_part setting state patch)
rise_taking setting state patch = rise_before 0 (loaded_objects setting state patch) (rise_loaded setting state patch)

apart_places : (a b : ℕ) → a < b → (b == a) ≡ false
apart_places a b lt = grind (arith, nat_tests)

pub apart_places' : (a b : ℕ) → a < b → (a == b) ≡ false
apart_places' a b lt = grind (arith, nat_tests)

member_above : (n : ℕ) (objects : Objects) (number : ℕ) (object : ℕ × PatchObject) → RiseFrom n objects → slice_get objects number ≡ Some object → n ≤ object.0
member_above n [] number object rise is = let no : ⊥ = cc in absurd no
member_above n (first ∷ objects) zero object rise is = let same : first ≡ object = cc in subst (λ (o : ℕ × PatchObject). n ≤ o.0) same rise.0
member_above n (first ∷ objects) (suc number) object rise is = omega (arith, member_above (suc first.0) objects number object rise.1 is, rise.0)

-- a call at another place isn't the object's
pub other_call : (patch at : ℕ) (which : Which) (script : Option Script) (place : ℕ) (calls : List Call) → (at == place) ≡ false
    → kinds_for place (call_of patch at which script ++ calls) ≡ kinds_for place calls
other_call patch at which None place calls e = refl
other_call patch at which (Some script) place calls e =
    ap (λ b. map (λ (c : Call). c.which) (cond b (record { patch = patch; place = at; which = which; script = script } ∷ filter (λ (c : Call). c.place == place) calls) (filter (λ (c : Call). c.place == place) calls))) e

pub own_call : (patch place : ℕ) (which : Which) (script : Option Script) (calls : List Call)
    → kinds_for place (call_of patch place which script ++ calls) ≡ cond (is_some script) (which ∷ kinds_for place calls) (kinds_for place calls)
own_call patch place which None calls = refl
own_call patch place which (Some script) calls =
    ap (λ b. map (λ (c : Call). c.which) (cond b (record { patch = patch; place = place; which = which; script = script } ∷ filter (λ (c : Call). c.place == place) calls) (filter (λ (c : Call). c.place == place) calls))) (eq-eqb place place refl)

none_at : (patch : ℕ) (which : Which) (n : ℕ) (objects : Objects) (place : ℕ) → RiseFrom n objects → place < n → kinds_for place (calls_of patch which objects) ≡ []
none_at patch which n [] place rise lt = refl
none_at patch which n (object ∷ objects) place rise lt =
    other_call patch object.0 which (script_for which object.1.callbacks) place (calls_of patch which objects) (apart_places place object.0 (omega (arith, rise.0)))
    ∙ none_at patch which (suc object.0) objects place rise.1 (omega (arith, rise.0))

-- of each object the callback of the kind ran, if it is there
pub ran_calls : (patch : ℕ) (which : Which) (n : ℕ) (objects : Objects) → RiseFrom n objects → Ran objects (calls_of patch which objects) (which ∷ [])
ran_calls patch which n [] rise number object is = let no : ⊥ = cc in absurd no
ran_calls patch which n (first ∷ objects) rise zero object is =
    let same : first ≡ object = cc in
    subst (λ (o : ℕ × PatchObject). kinds_for o.0 (calls_of patch which (first ∷ objects)) ≡ those_there o (which ∷ [])) same
    (own_call patch first.0 which (script_for which first.1.callbacks) (calls_of patch which objects)
    ∙ ap (λ ks. cond (is_some (script_for which first.1.callbacks)) (which ∷ ks) ks) (none_at patch which (suc first.0) objects first.0 rise.1 (omega arith)))
ran_calls patch which n (first ∷ objects) rise (suc number) object is =
    other_call patch first.0 which (script_for which first.1.callbacks) object.0 (calls_of patch which objects)
    (apart_places' first.0 object.0 (member_above (suc first.0) objects number object rise.1 is))
    ∙ ran_calls patch which (suc first.0) objects rise.1 number object is

pub found_above : (n : ℕ) (objects : Objects) (refusing : ℕ × PatchObject) → RiseFrom n objects → find refuses objects ≡ Some refusing → n ≤ refusing.0
found_above n [] refusing rise e = let no : ⊥ = cc in absurd no
found_above n (object ∷ objects) refusing rise e = by (refuses object) e (found_above (suc object.0) objects refusing rise.1)
  where
    by : (t : Bool) → cond t (Some object) (find refuses objects) ≡ Some refusing → (find refuses objects ≡ Some refusing → suc object.0 ≤ refusing.0) → n ≤ refusing.0
    by true e rest = let same : object ≡ refusing = cc in subst (λ (o : ℕ × PatchObject). n ≤ o.0) same rise.0
    by false e rest = omega (arith, rest e, rise.0)

-- the object that refuses stands behind those that take part
refusing_apart : (n : ℕ) (objects : Objects) (refusing : ℕ × PatchObject) (number : ℕ) (object : ℕ × PatchObject) → RiseFrom n objects → find refuses objects ≡ Some refusing
    → slice_get (before_first refuses objects) number ≡ Some object → (refusing.0 == object.0) ≡ false
refusing_apart n [] refusing number object rise e is = let no : ⊥ = cc in absurd no
refusing_apart n (first ∷ objects) refusing number object rise e is =
    by (refuses first) e (subst (λ os. slice_get os number ≡ Some object) (before_first-cons refuses first objects) is) (refusing_apart (suc first.0) objects refusing)
  where
    by : (t : Bool) → cond t (Some first) (find refuses objects) ≡ Some refusing → slice_get (cond t [] (first ∷ before_first refuses objects)) number ≡ Some object
        → ((number : ℕ) (object : ℕ × PatchObject) → RiseFrom (suc first.0) objects → find refuses objects ≡ Some refusing
        → slice_get (before_first refuses objects) number ≡ Some object → (refusing.0 == object.0) ≡ false)
        → (refusing.0 == object.0) ≡ false
    by true e is rest = let no : ⊥ = cc in absurd no
    by false e is rest = at number is
      where
        at : (number : ℕ) → slice_get (first ∷ before_first refuses objects) number ≡ Some object → (refusing.0 == object.0) ≡ false
        at zero is =
            let same : first ≡ object = cc in
            subst (λ (o : ℕ × PatchObject). (refusing.0 == o.0) ≡ false) same (apart_places first.0 refusing.0 (found_above (suc first.0) objects refusing rise.1 e))
        at (suc number) is = rest number object rise.1 e is

-- an enabling: pre-patch of each object that takes part; and where one refuses, post-unpatch
pub ran_enabled : (patch : ℕ) (objects : Objects) → RiseFrom 0 objects → find refuses objects ≡ None → Ran (before_first refuses objects) (enable_calls patch objects) (Pre ∷ [])
ran_enabled patch objects rise none number object is =
    ran_both (before_first refuses objects) (calls_of patch Pre (before_first refuses objects)) (refused_calls patch (before_first refuses objects) (find refuses objects)) (Pre ∷ []) []
    (ran_calls patch Pre 0 (before_first refuses objects) (rise_before 0 objects rise))
    (subst (λ found. Ran (before_first refuses objects) (refused_calls patch (before_first refuses objects) found) []) (sym none) (ran_none (before_first refuses objects)))
    number object is

pub ran_refused : (patch : ℕ) (objects : Objects) (refusing : ℕ × PatchObject) → RiseFrom 0 objects → find refuses objects ≡ Some refusing
    → Ran (before_first refuses objects) (enable_calls patch objects) (Pre ∷ PostUn ∷ [])
ran_refused patch objects refusing rise some number object is =
    ran_both (before_first refuses objects) (calls_of patch Pre (before_first refuses objects)) (refused_calls patch (before_first refuses objects) (find refuses objects)) (Pre ∷ []) (PostUn ∷ [])
    (ran_calls patch Pre 0 (before_first refuses objects) (rise_before 0 objects rise))
    (subst (λ found. Ran (before_first refuses objects) (refused_calls patch (before_first refuses objects) found) (PostUn ∷ [])) (sym some) behind)
    number object is
  where
    behind : Ran (before_first refuses objects) (refused_calls patch (before_first refuses objects) (Some refusing)) (PostUn ∷ [])
    behind number object is =
        other_call patch refusing.0 Pre (script_for Pre refusing.1.callbacks) object.0 (calls_of patch PostUn (before_first refuses objects))
        (refusing_apart 0 objects refusing number object rise some is)
        ∙ ran_calls patch PostUn 0 (before_first refuses objects) (rise_before 0 objects rise) number object is
