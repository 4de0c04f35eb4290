-- Callbacks that leave nothing of what they name restore every variable.
use Rattle.std.proofs.Common.{◌≡◌, ◌⊎◌, ℕ, true, false, cond, ◌==◌, List, [], ◌∷◌, ◌++◌, Option, Some, None, ◌+◌, ◌-◌, ◌^◌, ◌<◌, ◌≤◌, ltb, refl, sym, ap, ◌∙◌, inl, inr, subst, arith}
use Rattle.std.specs.Prelude.{unwrap_or}
use Rattle.std.proofs.lemmas.Bool.{eqb-true, ltb-true, ltb-false}
use Rattle.klp_types.specs.declared.shadow.ShadowKey.{ShadowKey}
use Rattle.klp_types.specs.declared.callback.Which.TheVariants.{Pre, Post, PreUn, PostUn}
use Rattle.klp_types.specs.declared.edit.Edit.{Edit}
use Rattle.klp_types.specs.declared.edit.Edit.TheVariants.{Alloc, Free, FreeAll, SetData, TakePrev}
use Rattle.klp_types.specs.Setting.{Callback}
use Rattle.klp_types.specs.World.{ShadowValue}
use Rattle.klp_types.specs.Script.{is_key, edited_at, made_of}
use Rattle.klp_lint.specs.Scripts.{edits_for, all_edits}
use Rattle.klp_lint.specs.Undone.{Values, IsNextOf, AreRestored, IsHarmless, AreHarmless}

-- no edit changes the variable
abbrev NoneChanges : ShadowKey → Option ShadowValue → List Edit → Type 0
NoneChanges key was [] = Unit {0}
NoneChanges key was (edit ∷ edits) = (edited_at key was edit ≡ was) × NoneChanges key was edits

abbrev Same : Type 0
Same = (own key : ShadowKey) → is_key own key ≡ true → own ≡ key

named : (same : Same) (values : Values) (callbacks : List Callback) (key own : ShadowKey) (becomes : Option ShadowValue) → AreRestored callbacks own (values own)
    → AreRestored callbacks key (values key) ⊎ (cond (is_key own key) becomes (values key) ≡ values key)
named same values callbacks key own becomes restored =
    elim (is_key own key) as (λ b. is_key own key ≡ b → AreRestored callbacks key (values key) ⊎ (cond b becomes (values key) ≡ values key)) [
      | true ↦ λ e. inl (subst (λ k. AreRestored callbacks k (values k)) (same own key e) restored)
      | false ↦ λ e. inr refl
    ] refl

present : (was : Option ShadowValue) (v : ShadowValue) → was ≡ Some v → was ≡ None → ⊥
present was v is none = cc

freed : (values : Values) (callbacks : List Callback) (key : ShadowKey) (id : ℕ) → IsHarmless values callbacks (FreeAll id)
    → AreRestored callbacks key (values key) ⊎ (cond (id == key.id) None (values key) ≡ values key)
freed values callbacks key id restored =
    elim (id == key.id) as (λ b. (id == key.id) ≡ b → AreRestored callbacks key (values key) ⊎ (cond b None (values key) ≡ values key)) [
      | true ↦ λ e. elim (values key) as (λ was. values key ≡ was → AreRestored callbacks key (values key) ⊎ (None ≡ was)) [
        | None ↦ λ none. inr refl
        | Some v ↦ λ there. inl (restored key (eqb-true id key.id e) (present (values key) v there))
      ] refl
      | false ↦ λ e. inr refl
    ] refl

one : (same : Same) (values : Values) (callbacks : List Callback) (key : ShadowKey) (edit : Edit) → IsHarmless values callbacks edit
    → AreRestored callbacks key (values key) ⊎ (edited_at key (values key) edit ≡ values key)
one same values callbacks key (Alloc own value) h = named same values callbacks key own (Some (unwrap_or (values key) value)) h
one same values callbacks key (Free own) h = named same values callbacks key own None h
one same values callbacks key (FreeAll id) h = freed values callbacks key id h
one same values callbacks key (SetData id value) h = inr refl
one same values callbacks key (TakePrev id) h = inr refl

both : {A B C : Type 0} → A ⊎ B → A ⊎ C → A ⊎ (B × C)
both (inl a) other = inl a
both (inr b) (inl a) = inl a
both (inr b) (inr c) = inr (b, c)

each : (same : Same) (values : Values) (callbacks : List Callback) (key : ShadowKey) (edits : List Edit) → AreHarmless values callbacks edits
    → AreRestored callbacks key (values key) ⊎ NoneChanges key (values key) edits
each same values callbacks key [] h = inr tt
each same values callbacks key (edit ∷ edits) h =
    both (one same values callbacks key edit h.0) (each same values callbacks key edits h.1)

front : (key : ShadowKey) (was : Option ShadowValue) (a b : List Edit) → NoneChanges key was (a ++ b) → NoneChanges key was a
front key was [] b h = tt
front key was (edit ∷ a) b h = (h.0, front key was a b h.1)

behind : (key : ShadowKey) (was : Option ShadowValue) (a b : List Edit) → NoneChanges key was (a ++ b) → NoneChanges key was b
behind key was [] b h = h
behind key was (edit ∷ a) b h = behind key was a b h.1

kept : (key : ShadowKey) (was : Option ShadowValue) (edits : List Edit) → NoneChanges key was edits → made_of key was edits ≡ was
kept key was [] h = refl
kept key was (edit ∷ edits) h = ap (λ v. made_of key v edits) h.0 ∙ kept key was edits h.1

unchanged : (callbacks : List Callback) (key : ShadowKey) (was : Option ShadowValue) → NoneChanges key was (all_edits callbacks) → AreRestored callbacks key was
unchanged callbacks key was h =
    let a = edits_for Pre callbacks in
    let b = edits_for Post callbacks in
    let c = edits_for PreUn callbacks in
    let d = edits_for PostUn callbacks in
    let abc = front key was ((a ++ b) ++ c) d h in
    let ab = front key was (a ++ b) c abc in
    let pre = kept key was a (front key was a b ab) in
    let post = kept key was b (behind key was a b ab) in
    let pre_un = kept key was c (behind key was (a ++ b) c abc) in
    let post_un = kept key was d (behind key was ((a ++ b) ++ c) d h) in
    record {
      pre = ap (λ v. made_of key v d) pre ∙ post_un;
      post = ap (λ v. made_of key (made_of key v b) c) pre ∙ ap (λ v. made_of key v c) post ∙ pre_un ∙ sym pre;
    }

pub harmless_restores : (same : Same) (values : Values) (callbacks : List Callback) (edits : List Edit) → edits ≡ all_edits callbacks → AreHarmless values callbacks edits
    → (key : ShadowKey) → AreRestored callbacks key (values key)
harmless_restores same values callbacks edits all h key =
    elim (each same values callbacks key edits h) as (λ _. AreRestored callbacks key (values key)) [
      | inl restored ↦ restored
      | inr none ↦ unchanged callbacks key (values key) (subst (NoneChanges key (values key)) all none)
    ]

-- how many addresses there are at or above the next one
abbrev pub left_over : Option ℕ → ℕ
left_over None = 0
left_over (Some next) = 2 ^ 64 - next

-- A walk over the variables of an id: those whose parent objects are below the next one are restored.
module _ (values : Values) (callbacks : List Callback) (id : ℕ) where
  abbrev pub ArePassed : Option ℕ → Type 0
  ArePassed None = IsHarmless values callbacks (FreeAll id)
  ArePassed (Some next) = (key : ShadowKey) → id ≡ key.id → key.obj < next → (values key ≡ None → ⊥) → AreRestored callbacks key (values key)

  own_key : (key : ShadowKey) → id ≡ key.id → values (record { obj = key.obj; id = id }) ≡ None → values key ≡ None
  own_key key own none = sym (ap (λ n. values (record { obj = key.obj; id = n })) own) ∙ none

  pub passed_first : (next : Option ℕ) → IsNextOf values id 0 next → ArePassed next
  passed_first None none = λ key own there. absurd (there (own_key key own (none key.obj (omega arith))))
  passed_first (Some p) next = λ key own below there. absurd (there (own_key key own (next.1 key.obj (omega arith) below)))

  -- one at the parent object, or one that was passed
  up_to : (p : ℕ) → ArePassed (Some p) → AreRestored callbacks (record { obj = p; id = id }) (values (record { obj = p; id = id }))
      → (key : ShadowKey) → id ≡ key.id → key.obj < p + 1 → (values key ≡ None → ⊥) → AreRestored callbacks key (values key)
  up_to p passed here key own below there =
      elim (ltb key.obj p) as (λ b. ltb key.obj p ≡ b → AreRestored callbacks key (values key)) [
        | true ↦ λ e. passed key own (ltb-true key.obj p e) there
        | false ↦ λ e.
            let above = ltb-false key.obj p e in
            let at : p ≡ key.obj = omega (arith, above, below) in
            subst (λ k. AreRestored callbacks k (values k)) (ap (λ n. record { obj = n; id = id }) at ∙ ap (λ n. record { obj = key.obj; id = n }) own) here
      ] refl

  pub passed_next : (p : ℕ) → ArePassed (Some p) → AreRestored callbacks (record { obj = p; id = id }) (values (record { obj = p; id = id }))
      → (next : Option ℕ) → IsNextOf values id (p + 1) next → ArePassed next
  passed_next p passed here None none = λ key own there.
      elim (ltb key.obj (p + 1)) as (λ b. ltb key.obj (p + 1) ≡ b → AreRestored callbacks key (values key)) [
        | true ↦ λ e. up_to p passed here key own (ltb-true key.obj (p + 1) e) there
        | false ↦ λ e. absurd (there (own_key key own (none key.obj (ltb-false key.obj (p + 1) e))))
      ] refl
  passed_next p passed here (Some q) next = λ key own below there.
      elim (ltb key.obj (p + 1)) as (λ b. ltb key.obj (p + 1) ≡ b → AreRestored callbacks key (values key)) [
        | true ↦ λ e. up_to p passed here key own (ltb-true key.obj (p + 1) e) there
        | false ↦ λ e. absurd (there (own_key key own (next.1 key.obj (ltb-false key.obj (p + 1) e) below)))
      ] refl
