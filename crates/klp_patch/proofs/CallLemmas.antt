-- Callbacks object by object, as loops over a patch's objects run them.
use Rattle.std.proofs.Common.{sum_by, ◌≡◌, ℕ, suc, zero, ◌+◌, ◌≤◌, Bool, true, false, cond, List, [], ◌∷◌, ◌++◌, take, drop, length, Option, Some, None, refl, sym, ap, ◌∙◌, append_assoc, arith}
use Rattle.std.specs.Prelude.{slice_get, find, not, is_some, unwrap_or}
use Rattle.std.proofs.lemmas.List.{append-nil, take-append-drop}
use Rattle.std.specs.List.{before_first, position_or_len}
use Rattle.std.proofs.Math.Seq.{drop-cons}
use Rattle.std.proofs.lemmas.Option.{slice_get_within, get_or_from_slice_get}
use Rattle.std.proofs.lemmas.List.Sums.{sum_by-append}
use Rattle.klp_types.specs.declared.callback.Which.{Which}
use Rattle.klp_types.specs.declared.callback.Which.TheVariants.{Pre, PostUn}
use Rattle.klp_types.specs.Setting.{PatchObject}
use Rattle.klp_types.specs.World.{World}
use Rattle.klp_types.specs.Script.{alloc_count, effect}
use Rattle.klp_patch.specs.Loaded.{loaded_from}
use Rattle.klp_patch.specs.Refusing.{pre_calls}
use Rattle.klp_types.specs.Callbacks.{Call, script_for, call_of, calls_of, refuses, refused_calls, enable_calls, allocs_of, after_calls}

drop_at : {A : Type 0} (xs : List A) (k : ℕ) (x : A) → slice_get xs k ≡ Some x → drop k xs ≡ x ∷ drop (k + 1) xs
drop_at xs k x e =
    let next : suc k ≡ k + 1 = omega arith in
    drop-cons xs k x (slice_get_within xs k x e) ∙ ap (λ y. y ∷ drop (suc k) xs) (get_or_from_slice_get xs k x x e) ∙ ap (λ n. x ∷ drop n xs) next

pub from-loaded : (loaded : ℕ → Bool) (objects : List PatchObject) (k : ℕ) (o : PatchObject) → slice_get objects k ≡ Some o → loaded o.object ≡ true
    → loaded_from loaded k (drop k objects) ≡ (k, o) ∷ loaded_from loaded (k + 1) (drop (k + 1) objects)
from-loaded loaded objects k o e is_loaded =
    ap (loaded_from loaded k) (drop_at objects k o e)
    ∙ ap (λ b. cond b ((k, o) ∷ loaded_from loaded (k + 1) (drop (k + 1) objects)) (loaded_from loaded (k + 1) (drop (k + 1) objects))) is_loaded

pub from-unloaded : (loaded : ℕ → Bool) (objects : List PatchObject) (k : ℕ) (o : PatchObject) → slice_get objects k ≡ Some o → loaded o.object ≡ false
    → loaded_from loaded k (drop k objects) ≡ loaded_from loaded (k + 1) (drop (k + 1) objects)
from-unloaded loaded objects k o e unloaded =
    ap (loaded_from loaded k) (drop_at objects k o e)
    ∙ ap (λ b. cond b ((k, o) ∷ loaded_from loaded (k + 1) (drop (k + 1) objects)) (loaded_from loaded (k + 1) (drop (k + 1) objects))) unloaded

pub drop_past : {A : Type 0} (xs : List A) (k : ℕ) → length xs ≤ k → drop k xs ≡ []
drop_past [] zero past = refl
drop_past [] (suc k) past = refl
drop_past (x ∷ xs) zero past = absurd (omega (arith, past))
drop_past (x ∷ xs) (suc k) past = drop_past xs k (omega arith)

pub from-end : (loaded : ℕ → Bool) (objects : List PatchObject) (k : ℕ) → length objects ≤ k → loaded_from loaded k (drop k objects) ≡ []
from-end loaded objects k past = ap (loaded_from loaded k) (drop_past objects k past)

pub after_calls-append : (world : World) (xs ys : List Call) → after_calls world (xs ++ ys) ≡ after_calls (after_calls world xs) ys
after_calls-append world [] ys = refl
after_calls-append world (x ∷ xs) ys = after_calls-append (effect x.patch world x.script) xs ys

pub allocs-append : (xs ys : List Call) → allocs_of (xs ++ ys) ≡ allocs_of xs + allocs_of ys
allocs-append xs ys = sum_by-append (λ (c : Call). alloc_count c.script.edits) xs ys

pub calls_of-append : (patch : ℕ) (which : Which) (xs ys : List (ℕ × PatchObject)) → calls_of patch which (xs ++ ys) ≡ calls_of patch which xs ++ calls_of patch which ys
calls_of-append patch which [] ys = refl
calls_of-append patch which (x ∷ xs) ys =
    ap (λ rest. call_of patch x.0 which (script_for which x.1.callbacks) ++ rest) (calls_of-append patch which xs ys)
    ∙ sym (append_assoc (call_of patch x.0 which (script_for which x.1.callbacks)) (calls_of patch which xs) (calls_of patch which ys))

pub before_first-cons : {A : Type 0} (p : A → Bool) (x : A) (xs : List A) → before_first p (x ∷ xs) ≡ cond (p x) [] (x ∷ before_first p xs)
before_first-cons p x xs =
    elim (p x) as (λ b. take (cond (not b) (1 + position_or_len p xs) 0) (x ∷ xs) ≡ cond b [] (x ∷ before_first p xs)) [
      | true ↦ refl
      | false ↦ let next : 1 + position_or_len p xs ≡ suc (position_or_len p xs) = omega arith in ap (λ n. take n (x ∷ xs)) next
    ]

-- the callbacks that run where one of them refused
abbrev pub clean_calls : ℕ → List (ℕ × PatchObject) → Option (ℕ × PatchObject) → List Call
clean_calls patch patched None = []
clean_calls patch patched (Some object) = calls_of patch PostUn patched

abbrev refused_call : ℕ → Option (ℕ × PatchObject) → List Call
refused_call patch None = []
refused_call patch (Some object) = call_of patch object.0 Pre (script_for Pre object.1.callbacks)

refused-parts : (patch : ℕ) (patched : List (ℕ × PatchObject)) (found : Option (ℕ × PatchObject))
    → refused_calls patch patched found ≡ refused_call patch found ++ clean_calls patch patched found
refused-parts patch patched None = refl
refused-parts patch patched (Some object) = refl

pre-parts : (patch : ℕ) (objects : List (ℕ × PatchObject))
    → calls_of patch Pre (before_first refuses objects) ++ refused_call patch (find refuses objects) ≡ pre_calls patch objects
pre-parts patch [] = refl
pre-parts patch (object ∷ objects) =
    let own = call_of patch object.0 Pre (script_for Pre object.1.callbacks) in
    ap (λ before. calls_of patch Pre before ++ refused_call patch (find refuses (object ∷ objects))) (before_first-cons refuses object objects)
    ∙ elim (refuses object) as (λ b. calls_of patch Pre (cond b [] (object ∷ before_first refuses objects)) ++ refused_call patch (cond b (Some object) (find refuses objects))
    ≡ own ++ cond b [] (pre_calls patch objects)) [
      | true ↦ sym (append-nil own)
      | false ↦ append_assoc own (calls_of patch Pre (before_first refuses objects)) (refused_call patch (find refuses objects)) ∙ ap (λ rest. own ++ rest) (pre-parts patch objects)
    ]

-- first all that run before a patch is installed or not, then the clean-up
pub enable-parts : (patch : ℕ) (objects : List (ℕ × PatchObject))
    → enable_calls patch objects ≡ pre_calls patch objects ++ clean_calls patch (before_first refuses objects) (find refuses objects)
enable-parts patch objects =
    ap (λ calls. calls_of patch Pre (before_first refuses objects) ++ calls) (refused-parts patch (before_first refuses objects) (find refuses objects))
    ∙ sym (append_assoc (calls_of patch Pre (before_first refuses objects)) (refused_call patch (find refuses objects)) (clean_calls patch (before_first refuses objects) (find refuses objects)))
    ∙ ap (λ calls. calls ++ clean_calls patch (before_first refuses objects) (find refuses objects)) (pre-parts patch objects)

some-injective : {A : Type 0} (x y : A) → Some x ≡ Some y → x ≡ y
some-injective x y e = ap (λ o. unwrap_or o x) e

none-some : {A : Type 0} (x : A) → None ≡ Some x → ⊥
none-some x e = let differ : (◌≡◌ {A = ℕ} 0 1) = ap (λ o. cond (is_some o) 1 0) e in omega (arith, differ)

-- places count upwards
found_behind : (loaded : ℕ → Bool) (objects : List PatchObject) (n k : ℕ) (o : PatchObject) → find refuses (loaded_from loaded n objects) ≡ Some (k, o) → n ≤ k
found_behind loaded [] n k o e = absurd (none-some (k, o) e)
found_behind loaded (x ∷ xs) n k o e =
    elim (loaded x.object) as (λ l. find refuses (cond l ((n, x) ∷ loaded_from loaded (n + 1) xs) (loaded_from loaded (n + 1) xs)) ≡ Some (k, o) → n ≤ k) [
      | true ↦ elim (refuses (n, x)) as (λ r. cond r (Some (n, x)) (find refuses (loaded_from loaded (n + 1) xs)) ≡ Some (k, o) → n ≤ k) [
        | true ↦ λ e. let same = ap (λ (p : ℕ × PatchObject). p.0) (some-injective (n, x) (k, o) e) in omega (arith, same)
        | false ↦ λ e. let behind = found_behind loaded xs (n + 1) k o e in omega (arith, behind)
      ]
      | false ↦ λ e. let behind = found_behind loaded xs (n + 1) k o e in omega (arith, behind)
    ] e

-- the objects before the one that refuses are the loaded ones of those before its place
pub before-refusing : (loaded : ℕ → Bool) (objects : List PatchObject) (n d : ℕ) (o : PatchObject) → find refuses (loaded_from loaded n objects) ≡ Some (n + d, o)
    → before_first refuses (loaded_from loaded n objects) ≡ loaded_from loaded n (take d objects)
before-refusing loaded [] n d o e = absurd (none-some (n + d, o) e)
before-refusing loaded (x ∷ xs) n zero o e =
    elim (loaded x.object) as (λ l. find refuses (cond l ((n, x) ∷ loaded_from loaded (n + 1) xs) (loaded_from loaded (n + 1) xs)) ≡ Some (n + zero, o)
    → before_first refuses (cond l ((n, x) ∷ loaded_from loaded (n + 1) xs) (loaded_from loaded (n + 1) xs)) ≡ []) [
      | true ↦ λ e. before_first-cons refuses (n, x) (loaded_from loaded (n + 1) xs)
          ∙ elim (refuses (n, x)) as (λ r. cond r (Some (n, x)) (find refuses (loaded_from loaded (n + 1) xs)) ≡ Some (n + zero, o)
          → cond r [] ((n, x) ∷ before_first refuses (loaded_from loaded (n + 1) xs)) ≡ []) [
            | true ↦ λ found. refl
            | false ↦ λ found. let behind = found_behind loaded xs (n + 1) (n + zero) o found in absurd (omega (arith, behind))
          ] e
      | false ↦ λ e. let behind = found_behind loaded xs (n + 1) (n + zero) o e in absurd (omega (arith, behind))
    ] e
before-refusing loaded (x ∷ xs) n (suc d) o e =
    let next : n + suc d ≡ n + 1 + d = omega arith in
    elim (loaded x.object) as (λ l. find refuses (cond l ((n, x) ∷ loaded_from loaded (n + 1) xs) (loaded_from loaded (n + 1) xs)) ≡ Some (n + suc d, o)
    → before_first refuses (cond l ((n, x) ∷ loaded_from loaded (n + 1) xs) (loaded_from loaded (n + 1) xs))
    ≡ cond l ((n, x) ∷ loaded_from loaded (n + 1) (take d xs)) (loaded_from loaded (n + 1) (take d xs))) [
      | true ↦ λ e. before_first-cons refuses (n, x) (loaded_from loaded (n + 1) xs)
          ∙ elim (refuses (n, x)) as (λ r. cond r (Some (n, x)) (find refuses (loaded_from loaded (n + 1) xs)) ≡ Some (n + suc d, o)
          → cond r [] ((n, x) ∷ before_first refuses (loaded_from loaded (n + 1) xs)) ≡ (n, x) ∷ loaded_from loaded (n + 1) (take d xs)) [
            | true ↦ λ found. let same = ap (λ (p : ℕ × PatchObject). p.0) (some-injective (n, x) (n + suc d, o) found) in absurd (omega (arith, same))
            | false ↦ λ found. ap (λ rest. (n, x) ∷ rest) (before-refusing loaded xs (n + 1) d o (found ∙ ap (λ k. Some (k, o)) next))
          ] e
      | false ↦ λ e. before-refusing loaded xs (n + 1) d o (e ∙ ap (λ k. Some (k, o)) next)
    ] e

-- what the clean-up may add and note is no more than what it might for all objects
pub clean-few : (weight : Call → ℕ) (patch : ℕ) (objects : List (ℕ × PatchObject))
    → sum_by weight (calls_of patch PostUn (before_first refuses objects)) ≤ sum_by weight (calls_of patch PostUn objects)
clean-few weight patch objects =
    let n = position_or_len refuses objects in
    let whole = ap (λ xs. sum_by weight (calls_of patch PostUn xs)) (take-append-drop n objects) in
    let parts = ap (sum_by weight) (calls_of-append patch PostUn (take n objects) (drop n objects)) in
    let sums = sum_by-append weight (calls_of patch PostUn (take n objects)) (calls_of patch PostUn (drop n objects)) in
    omega (arith, whole, parts, sums)
