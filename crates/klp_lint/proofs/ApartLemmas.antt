-- Edits and objects that touch no common variable.
use Rattle.std.proofs.lemmas.Grind.{common_steps}
use Rattle.std.proofs.Common.{◌≡◌, ℕ, ◌≤◌, ◌-◌, take, Bool, true, false, ◌||◌, List, [], ◌∷◌, ◌++◌, length, drop, get_or, Option, Some, None, refl, sym, ap, ◌∙◌, inl, inr, subst, arith}
use Rattle.std.specs.Prelude.{MatchOption}
use Rattle.klp_types.specs.declared.shadow.ShadowKey.{ShadowKey}
use Rattle.klp_types.specs.declared.edit.Edit.{Edit}
use Rattle.klp_types.specs.Script.{edit_touches}
use Rattle.klp_types.specs.declared.callback.Which.TheVariants.{Pre, Post, PreUn, PostUn}
use Rattle.klp_types.specs.Setting.{PatchObject}
use Rattle.klp_model.specs.Company.{object_touches, one_touches}
use Rattle.klp_lint.specs.Scripts.{edits_for, all_edits, one_edit_touches}
use Rattle.klp_lint.specs.Premises.{AreApartFrom, OneOf}
use Rattle.klp_lint.specs.Apart.{AreEditsApart, BothTouch}

or_case : (a b : Bool) {P : Type 0} → (a ≡ true → P) → (b ≡ true → P) → (a || b) ≡ true → P
or_case true b left right e = left refl
or_case false b left right e = right e

or_right : (a b : Bool) → b ≡ true → (a || b) ≡ true
or_right true b e = refl
or_right false b e = e

or_left : (a b : Bool) → a ≡ true → (a || b) ≡ true
or_left true b e = refl
or_left false b e = cc

cons_apart : (edit : Edit) (rest others : List Edit) → AreEditsApart (edit ∷ []) others → AreEditsApart rest others → AreEditsApart (edit ∷ rest) others
cons_apart edit rest others one more key e =
    or_case (edit_touches key edit) (one_edit_touches rest key) (λ t. one key (or_left (edit_touches key edit) false t)) (more key) e

later : (edit : Edit) (rest others : List Edit) (found : Option ShadowKey) → AreEditsApart (edit ∷ []) others
    → MatchOption found (AreEditsApart rest others) (λ key. BothTouch rest others key)
    → MatchOption found (AreEditsApart (edit ∷ rest) others) (λ key. BothTouch (edit ∷ rest) others key)
later edit rest others None one more = cons_apart edit rest others one more
later edit rest others (Some key) one more = record { first = or_right (edit_touches key edit) (one_edit_touches rest key) more.first; second = more.second }

tail_is : (x : Edit) (xs : List Edit) → take (length (x ∷ xs) - 1) (drop 1 (x ∷ xs)) ≡ xs
tail_is x xs = grind (arith, common_steps)

pub found_later : (edits others : List Edit) (edit : Edit) (found : Option ShadowKey) → 1 ≤ length edits → edit ≡ get_or edits 0 edit
    → AreEditsApart (edit ∷ []) others → MatchOption found (AreEditsApart (take (length edits - 1) (drop 1 edits)) others) (λ key. BothTouch (take (length edits - 1) (drop 1 edits)) others key)
    → MatchOption found (AreEditsApart edits others) (λ key. BothTouch edits others key)
found_later [] others edit found some is one more = absurd (omega arith)
found_later (first ∷ rest) others edit found some is one more =
    later first rest others found (subst (λ e. AreEditsApart (e ∷ []) others) is one)
    (subst (λ l. MatchOption found (AreEditsApart l others) (λ key. BothTouch l others key)) (tail_is first rest) more)

any-append : (key : ShadowKey) (a b : List Edit) → one_edit_touches (a ++ b) key ≡ (one_edit_touches a key || one_edit_touches b key)
any-append key [] b = refl
any-append key (edit ∷ a) b = ap (λ t. edit_touches key edit || t) (any-append key a b) ∙ or_assoc (edit_touches key edit) (one_edit_touches a key) (one_edit_touches b key)
  where
    or_assoc : (x y z : Bool) → (x || (y || z)) ≡ ((x || y) || z)
    or_assoc true y z = refl
    or_assoc false y z = refl

four : (w x y z : Bool) → (((w || x) || y) || z) ≡ (w || (x || (y || (z || false))))
four true x y z = refl
four false true y z = refl
four false false true z = refl
four false false false true = refl
four false false false false = refl

-- an object's callbacks touch what all their edits touch
pub all_touch : (key : ShadowKey) (object : ℕ × PatchObject) → one_edit_touches (all_edits object.1.callbacks) key ≡ object_touches key object
all_touch key object =
    let a = edits_for Pre object.1.callbacks in
    let b = edits_for Post object.1.callbacks in
    let c = edits_for PreUn object.1.callbacks in
    let d = edits_for PostUn object.1.callbacks in
    any-append key ((a ++ b) ++ c) d
    ∙ ap (λ t. t || one_edit_touches d key) (any-append key (a ++ b) c ∙ ap (λ t. t || one_edit_touches c key) (any-append key a b))
    ∙ four (one_edit_touches a key) (one_edit_touches b key) (one_edit_touches c key) (one_edit_touches d key)

or_false : (a b : Bool) → a ≡ false → b ≡ false → (a || b) ≡ false
or_false a b e f = ap (λ t. t || b) e ∙ f

-- what is found among these objects for a variable that the edits touch
abbrev Touched : List Edit → List (ℕ × PatchObject) → ℕ × ShadowKey → Type 0
Touched edits objects found =
    (one_edit_touches edits found.1 ≡ true) × OneOf (λ (o : ℕ × PatchObject). (o.0 ≡ found.0) × (object_touches found.1 o ≡ true)) objects

behind : (edits own : List Edit) (object : ℕ × PatchObject) (rest : List (ℕ × PatchObject)) (found : Option (ℕ × ShadowKey)) → own ≡ all_edits object.1.callbacks
    → AreEditsApart edits own → MatchOption found (AreApartFrom edits rest) (Touched edits rest)
    → MatchOption found (AreApartFrom edits (object ∷ rest)) (Touched edits (object ∷ rest))
behind edits own object rest None all apart more = λ key e.
    or_false (object_touches key object) (one_touches rest key) (sym (all_touch key object) ∙ ap (λ l. one_edit_touches l key) (sym all) ∙ apart key e) (more key e)
behind edits own object rest (Some found) all apart more = (more.0, inr more.1)

pub touched_behind : (edits own : List Edit) (object : ℕ × PatchObject) (rest objects : List (ℕ × PatchObject)) (found : Option (ℕ × ShadowKey)) → objects ≡ object ∷ rest
    → own ≡ all_edits object.1.callbacks → AreEditsApart edits own
    → MatchOption found (AreApartFrom edits rest) (λ it. (one_edit_touches edits it.1 ≡ true) × OneOf (λ (o : ℕ × PatchObject). (o.0 ≡ it.0) × (object_touches it.1 o ≡ true)) rest)
    → MatchOption found (AreApartFrom edits objects) (λ it. (one_edit_touches edits it.1 ≡ true) × OneOf (λ (o : ℕ × PatchObject). (o.0 ≡ it.0) × (object_touches it.1 o ≡ true)) objects)
touched_behind edits own object rest objects found are all apart more =
    subst (λ l. MatchOption found (AreApartFrom edits l) (Touched edits l)) (sym are) (behind edits own object rest found all apart more)

pub touched_here : (edits own : List Edit) (object : ℕ × PatchObject) (rest objects : List (ℕ × PatchObject)) (key : ShadowKey) → objects ≡ object ∷ rest
    → own ≡ all_edits object.1.callbacks → BothTouch edits own key
    → (one_edit_touches edits key ≡ true) × OneOf (λ (o : ℕ × PatchObject). (o.0 ≡ object.0) × (object_touches key o ≡ true)) objects
touched_here edits own object rest objects key are all both = (
  both.first,
  subst (OneOf (λ (o : ℕ × PatchObject). (o.0 ≡ object.0) × (object_touches key o ≡ true))) (sym are)
      (inl (refl, sym (all_touch key object) ∙ ap (λ l. one_edit_touches l key) (sym all) ∙ both.second)),
)
