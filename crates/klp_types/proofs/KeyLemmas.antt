-- Shadow variables in the order of their keys.
use Rattle.std.proofs.Common.{◌≡◌, ℕ, suc, ◌≤◌, Bool, true, false, ◌&&◌, cond, List, [], ◌∷◌, length, None, refl, sym, ap, ◌∙◌, arith}
use Rattle.std.specs.Bool.{◌==◌}
use Rattle.std.specs.declared.cmp.Ordering.{Ordering}
use Rattle.std.specs.declared.cmp.Ordering.TheVariants.{Less, Equal, Greater}
use Rattle.std.specs.Ordering.{nat_cmp, ordering_then, is_eq, eq_by_cmp}
use Rattle.std.specs.Cmp.{IsTotalOrder, then_total, on_total, nat_cmp_total}
use Rattle.std.proofs.lemmas.Bool.{eqb-true, and_parts}
use Rattle.std.proofs.lemmas.Bool.Decides.{nat_tests}
use Rattle.std.specs.FinMap as finite
use Rattle.std.specs.FinMap.Entries.{where_key, is_sorted-where_key, find-where_key}
use Rattle.klp_types.specs.declared.shadow.ShadowKey.{ShadowKey}
use Rattle.klp_types.specs.World.{Shadow, ShadowValue, key_cmp}
use Rattle.klp_types.specs.Script.{is_key}

pub key_total : IsTotalOrder key_cmp
key_total = then_total (on_total (λ (k : ShadowKey). k.obj) nat_cmp_total) (on_total (λ (k : ShadowKey). k.id) nat_cmp_total)

both_equal : (a b : Ordering) → ordering_then a b ≡ Equal → (a ≡ Equal) × (b ≡ Equal)
both_equal Less b e = cc
both_equal Equal b e = (refl, e)
both_equal Greater b e = cc

pub key_antisymmetric : finite.IsAntisymmetric key_cmp
key_antisymmetric a b e =
    let parts = both_equal (nat_cmp a.obj b.obj) (nat_cmp a.id b.id) e in
    let objs = finite.nat_cmp-IsAntisymmetric a.obj b.obj parts.0 in
    let ids = finite.nat_cmp-IsAntisymmetric a.id b.id parts.1 in
    λ i. record { obj = objs i; id = ids i }

tied_if_both : (o p : Ordering) → is_eq (ordering_then o p) ≡ (is_eq o && is_eq p)
tied_if_both Less p = refl
tied_if_both Equal p = refl
tied_if_both Greater p = refl

tied_if_equal : (x y : ℕ) → is_eq (nat_cmp x y) ≡ (y == x)
tied_if_equal x y = grind (arith, nat_tests)

-- keys tie where they are the same
pub tied_if_same : (key own : ShadowKey) → eq_by_cmp key_cmp key own ≡ is_key own key
tied_if_same key own =
    tied_if_both (nat_cmp key.obj own.obj) (nat_cmp key.id own.id)
    ∙ ap (λ b. b && is_eq (nat_cmp key.id own.id)) (tied_if_equal key.obj own.obj) ∙ ap (λ b. (own.obj == key.obj) && b) (tied_if_equal key.id own.id)

pub same_key : (own key : ShadowKey) → is_key own key ≡ true → own ≡ key
same_key own key e =
    let parts = and_parts (own.obj == key.obj) (own.id == key.id) e in
    let objs = eqb-true own.obj key.obj parts.0 in
    let ids = eqb-true own.id key.id parts.1 in
    λ i. record { obj = objs i; id = ids i }

-- a test of keys tells keys that tie alike
pub alike : (keep : ShadowKey → Bool) (q x : ShadowKey) → key_cmp q x ≡ Equal → keep x ≡ keep q
alike keep q x e = ap keep (sym (key_antisymmetric q x e))

few_where : (keep : ShadowKey → Bool) (variables : List (ShadowKey × ShadowValue)) → length (where_key key_cmp keep variables) ≤ length variables
few_where keep [] = omega arith
few_where keep (first ∷ others) = by (keep first.0) (few_where keep others)
  where
    by : (b : Bool) → length (where_key key_cmp keep others) ≤ length others
        → length (cond b (first ∷ where_key key_cmp keep others) (where_key key_cmp keep others)) ≤ suc (length others)
    by true few = omega (arith, few)
    by false few = omega (arith, few)

-- no more are left than there were
pub few_kept : (m : Shadow) (keep : ShadowKey → Bool) → finite.len (finite.retain_keys m keep) ≤ finite.len m
few_kept m keep =
    let all = finite.entries m in
    let kept = where_key key_cmp keep all in
    let sorted = is_sorted-where_key key_cmp keep all (finite.entries_sorted m) in
    let same : finite.from_sorted kept ≡ finite.retain_keys m keep = finite.same_map key_total key_antisymmetric _ _ (λ q.
    finite.get-from_sorted key_cmp kept q sorted ∙ find-where_key key_cmp keep q (alike keep q) all
    ∙ sym (finite.get-retain_keys m keep q (alike keep q) ∙ ap (λ o. cond (keep q) o None) (finite.get-entries m q))) in
    let counted : finite.len (finite.from_sorted kept) ≡ length kept = finite.len-entries (finite.from_sorted kept) ∙ ap length (finite.entries-from_sorted key_cmp kept sorted) in
    omega (arith, sym (ap (λ (s : Shadow). finite.len s) same) ∙ counted, few_where keep all, finite.len-entries m)
