-- Edits made one after another, and scripts that are the same.
use Rattle.std.proofs.Common.{◌≡◌, ℕ, ◌+◌, ◌≤◌, Bool, true, false, cond, ◌&&◌, List, [], ◌∷◌, ◌++◌, length, length-append, append_assoc, add-one, drop-cons, drop, take, get_or, ◌<◌, refl, sym, ap, ◌∙◌, arith}
use Rattle.std.specs.FinMap as finite
use Rattle.klp_types.specs.declared.edit.Edit.{Edit}
use Rattle.klp_types.specs.declared.edit.Edit.TheVariants.{Alloc, Free, FreeAll, SetData, TakePrev}
use Rattle.klp_types.specs.contracts.edit.EditPartialEq.TheImpl.{eq-value}
use Rattle.std.specs.Cmp.Lexicographic.{pointwise}
use Rattle.klp_types.specs.declared.shadow.ShadowKey.{ShadowKey}
use Rattle.std.specs.Bool.{◌==◌}
use mir.Val.{SFits, of_z, to_z}
use mir.Syntax.{w32}
use Rattle.std.proofs.lemmas.Int.{to_z-of_z}
use lib.IntN.{ℤ}
use Rattle.std.proofs.lemmas.Bool.{eqb-true, eq-eqb}
use Rattle.std.proofs.lemmas.Bool.Decides.{Decides-eqb}
use Rattle.std.proofs.lemmas.Slice.Eq.{slice_eq-Decides}
use Rattle.klp_types.specs.Records.{RecordList}
use Rattle.klp_types.specs.World.{World, ShadowValue}
use Rattle.klp_types.specs.Padded.{padded}
use Rattle.klp_types.specs.declared.limits.TheConstants.{MAX_VALUE_BYTES}
use Rattle.klp_types.proofs.PaddedLemmas.{take_front}
use Rattle.klp_types.specs.Script.{Script, is_alloc, alloc_count, edited, edited_by}
use Rattle.klp_world.specs.StoredEvent.{noting, rows_of_edit, rows_of_edits}
use Rattle.klp_world.specs.Changes.{HasRoom}
use Rattle.std.proofs.lemmas.List.Recursion.{is_count_by}
use Rattle.std.specs.List.{count_by}

first_alloc : (edit : Edit) (rest : List Edit) → alloc_count (edit ∷ []) ≤ alloc_count (edit ∷ rest)
first_alloc edit rest = elim (is_alloc edit) as (λ b. cond b (1 + 0) 0 ≤ cond b (1 + alloc_count rest) (alloc_count rest)) [ true ↦ omega arith | false ↦ omega arith ]

pub next_edit : (edits : List Edit) (i : ℕ) (edit : Edit) → edit ≡ get_or edits i edit → i < length edits → drop i edits ≡ edit ∷ drop (i + 1) edits
next_edit edits i edit is lt = rw add-one (drop-cons edits i edit lt) ∙ ap (λ e. e ∷ drop (i + 1) edits) (sym is)

-- the loop over the edits: one edit is made, and these are left
module _ (patch : ℕ) (left : List Edit) (edit : Edit) (rest : List Edit) (world new : World) (log new_log : RecordList)
    (split : left ≡ edit ∷ rest) (made : new ≡ edited patch world edit) (logged : new_log ≡ noting log (rows_of_edit patch world edit)) where
  rows_left : rows_of_edits patch world left ≡ rows_of_edit patch world edit ++ rows_of_edits patch new rest
  rows_left = ap (rows_of_edits patch world) split ∙ ap (λ w. rows_of_edit patch world edit ++ rows_of_edits patch w rest) (sym made)

  pub world_step : edited_by patch new rest ≡ edited_by patch world left
  world_step = ap (λ w. edited_by patch w rest) made ∙ sym (ap (edited_by patch world) split)

  pub logged_step : new_log.logged ++ rows_of_edits patch new rest ≡ log.logged ++ rows_of_edits patch world left
  logged_step =
      ap (λ (l : RecordList). l.logged ++ rows_of_edits patch new rest) logged
      ∙ append_assoc log.logged (rows_of_edit patch world edit) (rows_of_edits patch new rest) ∙ ap (log.logged ++◌) (sym rows_left)

  pub room_step : new_log.room ≡ log.room
  room_step = ap (λ (l : RecordList). l.room) logged

  pub room_left : ((patch : ℕ) (world : World) (edit : Edit) (edits : List Edit) → finite.len (edited patch world edit).shadow + alloc_count edits ≤ finite.len world.shadow + alloc_count (edit ∷ edits))
      → HasRoom world log (alloc_count left) (rows_of_edits patch world left) → HasRoom new new_log (alloc_count rest) (rows_of_edits patch new rest)
  room_left keeps few =
      let fits = keeps patch world edit rest in
      let variables = ap (λ (w : World). finite.len w.shadow) made in
      let allocs = ap alloc_count split in
      let rows = ap length rows_left ∙ length-append (rows_of_edit patch world edit) (rows_of_edits patch new rest) in
      let longer = ap (λ (l : RecordList). length l.logged) logged ∙ length-append log.logged (rows_of_edit patch world edit) in
      let same = room_step in
      record { variables = omega (arith, few.variables); records = omega (arith, few.records) }

-- there is room for the next edit
pub room_now : (patch : ℕ) (edits : List Edit) (i : ℕ) (edit : Edit) (world : World) (log : RecordList) → edit ≡ get_or edits i edit → i < length edits
    → HasRoom world log (alloc_count (drop i edits)) (rows_of_edits patch world (drop i edits)) → HasRoom world log (alloc_count (edit ∷ [])) (rows_of_edit patch world edit)
room_now patch edits i edit world log is lt few =
    let rest = drop (i + 1) edits in
    let split = next_edit edits i edit is lt in
    let allocs = ap alloc_count split in
    let one = first_alloc edit rest in
    let rows = ap (λ l. length (rows_of_edits patch world l)) split ∙ length-append (rows_of_edit patch world edit) (rows_of_edits patch (edited patch world edit) rest) in
    record { variables = omega (arith, few.variables); records = omega (arith, few.records) }

pub alloc_count_is : (edits : List Edit) → alloc_count edits ≡ count_by is_alloc edits
alloc_count_is = is_count_by alloc_count is_alloc refl (λ edit edits. refl)

two_true : (a b : Bool) → (a && b) ≡ true → (a ≡ true) × (b ≡ true)
two_true true b e = (refl, e)
two_true false b e = cc

same_key : (k l : ShadowKey) → (k.obj == l.obj && k.id == l.id) ≡ true → k ≡ l
same_key k l e =
    let parts = two_true (k.obj == l.obj) (k.id == l.id) e in
    let objs = eqb-true k.obj l.obj parts.0 in
    let ids = eqb-true k.id l.id parts.1 in
    λ i. record { obj = objs i; id = ids i }

-- the bytes of two values with the fillers behind them, and how many they are: what two values are compared by
abbrev value_test : ShadowValue → ShadowValue → Bool
value_test v w = pointwise (λ (x y : ℕ). x == y) (padded MAX_VALUE_BYTES 0 v) (padded MAX_VALUE_BYTES 0 w) && length v == length w

same_value : (v w : ShadowValue) → value_test v w ≡ true → v ≡ w
same_value v w e =
    let parts = two_true _ (length v == length w) e in
    let kept = (slice_eq-Decides Decides-eqb (padded MAX_VALUE_BYTES 0 v) (padded MAX_VALUE_BYTES 0 w) _ refl).0 parts.0 in
    sym (take_front v _) ∙ (λ i. take (eqb-true (length v) (length w) parts.1 i) (kept i)) ∙ take_front w _

value_itself : (v : ShadowValue) → value_test v v ≡ true
value_itself v =
    ap (λ b. b && length v == length v) ((slice_eq-Decides Decides-eqb (padded MAX_VALUE_BYTES 0 v) (padded MAX_VALUE_BYTES 0 v) _ refl).1 refl)
    ∙ eq-eqb (length v) (length v) refl

same_edit : (a b : Edit) → eq-value.it a b ≡ true → a ≡ b
same_edit (Alloc k v) (Alloc l w) e = let parts = two_true _ (value_test v w) e in λ i. Alloc (same_key k l parts.0 i) (same_value v w parts.1 i)
same_edit (Free k) (Free l) e = ap Free (same_key k l e)
same_edit (FreeAll i) (FreeAll j) e = ap FreeAll (eqb-true i j e)
same_edit (SetData i v) (SetData j w) e = let parts = two_true (i == j) (v == w) e in λ t. SetData (eqb-true i j parts.0 t) (eqb-true v w parts.1 t)
same_edit (TakePrev i) (TakePrev j) e = ap TakePrev (eqb-true i j e)
same_edit a b e = cc

pub same_edits : (xs ys : List Edit) → pointwise eq-value.it xs ys ≡ true → xs ≡ ys
same_edits [] [] e = refl
same_edits [] (y ∷ ys) e = cc
same_edits (x ∷ xs) [] e = cc
same_edits (x ∷ xs) (y ∷ ys) e =
    let parts = two_true (eq-value.it x y) (pointwise eq-value.it xs ys) e in
    let first = same_edit x y parts.0 in
    let others = same_edits xs ys parts.1 in
    λ i. first i ∷ others i

pub counted_is : (edits seen : List Edit) (n : ℕ) → n ≡ count_by is_alloc seen → seen ≡ edits → n ≡ alloc_count edits
counted_is edits seen n e same = e ∙ ap (count_by is_alloc) same ∙ sym (alloc_count_is edits)

-- two scripts whose parts are the same
pub same_script : (a b : Script) (xs ys seen_xs seen_ys : List Edit) (s t : ℤ) (test : Bool) → ◌≡◌ {A = Script} (record { edits = xs; status = s }) a → ◌≡◌ {A = Script} (record { edits = ys; status = t }) b
    → SFits w32 s → SFits w32 t → of_z w32 s ≡ of_z w32 t → seen_xs ≡ xs → seen_ys ≡ ys → test ≡ pointwise eq-value.it seen_xs seen_ys → test ≡ true → a ≡ b
same_script a b xs ys seen_xs seen_ys s t test view_a view_b fits_s fits_t status same_xs same_ys tested is =
    let edits = sym same_xs ∙ same_edits seen_xs seen_ys (sym tested ∙ is) ∙ same_ys in
    let statuses = sym (to_z-of_z w32 s fits_s) ∙ ap (to_z w32) status ∙ to_z-of_z w32 t fits_t in
    sym view_a ∙ (λ i. record { edits = edits i; status = statuses i }) ∙ view_b

key_itself : (k : ShadowKey) → (k.obj == k.obj && k.id == k.id) ≡ true
key_itself k = ap (λ b. b && k.id == k.id) (eq-eqb k.obj k.obj refl) ∙ eq-eqb k.id k.id refl

edit_itself : (a : Edit) → eq-value.it a a ≡ true
edit_itself (Alloc k v) = ap (λ b. b && value_test v v) (key_itself k) ∙ value_itself v
edit_itself (Free k) = key_itself k
edit_itself (FreeAll i) = eq-eqb i i refl
edit_itself (SetData i v) = ap (λ b. b && v == v) (eq-eqb i i refl) ∙ eq-eqb v v refl
edit_itself (TakePrev i) = eq-eqb i i refl

edits_themselves : (xs : List Edit) → pointwise eq-value.it xs xs ≡ true
edits_themselves [] = refl
edits_themselves (x ∷ xs) = ap (λ b. b && pointwise eq-value.it xs xs) (edit_itself x) ∙ edits_themselves xs

-- the edits of one script are seen to be the same
pub same_seen : (a b : Script) (xs ys seen_xs seen_ys : List Edit) (s t : ℤ) (test : Bool) → ◌≡◌ {A = Script} (record { edits = xs; status = s }) a → ◌≡◌ {A = Script} (record { edits = ys; status = t }) b
    → seen_xs ≡ xs → seen_ys ≡ ys → test ≡ pointwise eq-value.it seen_xs seen_ys → a ≡ b → test ≡ true
same_seen a b xs ys seen_xs seen_ys s t test view_a view_b same_xs same_ys tested is =
    let edits = same_xs ∙ ap (λ (k : Script). k.edits) (view_a ∙ is ∙ sym view_b) ∙ sym same_ys in
    tested ∙ ap (λ l. pointwise eq-value.it l seen_ys) edits ∙ edits_themselves seen_ys

pub same_status : (a b : Script) (xs ys : List Edit) (s t : ℤ) → ◌≡◌ {A = Script} (record { edits = xs; status = s }) a → ◌≡◌ {A = Script} (record { edits = ys; status = t }) b
    → a ≡ b → of_z w32 s ≡ of_z w32 t
same_status a b xs ys s t view_a view_b is = ap (λ (k : Script). of_z w32 k.status) (view_a ∙ is ∙ sym view_b)
