-- The states of a patch: what a look-up and an edit at the first place of an id do.
use Rattle.std.proofs.Common.{◌≡◌, ℕ, zero, suc, Bool, cond, List, [], ◌∷◌, ◌++◌, length, length-set, get_or, set, take, drop, refl, sym, ap, subst, ◌∙◌, Some, None}
use Rattle.std.specs.Bool.{◌==◌}
use Rattle.std.specs.List.{remove, position, refill}
use Rattle.std.proofs.lemmas.Bool.{eqb-true}
use Rattle.klp_types.specs.World.{value_among, set_among}
use Rattle.klp_world.specs.Undo.{state_taken}
use Rattle.klp_types.specs.World.{Installed}
use Rattle.klp_world.proofs.First.{FirstAt, Nowhere, first_place}

abbrev pub States : Type 0
States = List (ℕ × ℕ)

abbrev pub has_id : ℕ → ℕ × ℕ → Bool
has_id id state = state.0 == id

pub value_at : (id : ℕ) (states : States) (i : ℕ) (d : ℕ × ℕ) → FirstAt (has_id id) states i → value_among id states ≡ Some (get_or states i d).1
value_at id [] i d h = absurd h
value_at id (state ∷ states) zero d h = ap (λ b. cond b (Some state.1) (value_among id states)) h
value_at id (state ∷ states) (suc i) d h = ap (λ b. cond b (Some state.1) (value_among id states)) h.0 ∙ value_at id states i d h.1

pub value_nowhere : (id : ℕ) (states : States) → Nowhere (has_id id) states → value_among id states ≡ None
value_nowhere id [] h = refl
value_nowhere id (state ∷ states) h = ap (λ b. cond b (Some state.1) (value_among id states)) h.0 ∙ value_nowhere id states h.1

-- the state that is first of its id gets the value
pub set_at : (id value : ℕ) (states : States) (i : ℕ) (d : ℕ × ℕ) → FirstAt (has_id id) states i → set states i ((get_or states i d).0, value) ≡ set_among id value states
set_at id value [] i d h = absurd h
set_at id value (state ∷ states) zero d h =
    ap (λ k. (k, value) ∷ states) (eqb-true state.0 id h) ∙ sym (ap (λ b. cond b ((id, value) ∷ states) (state ∷ set_among id value states)) h)
set_at id value (state ∷ states) (suc i) d h =
    ap (state ∷◌) (set_at id value states i d h.1) ∙ sym (ap (λ b. cond b ((id, value) ∷ states) (state ∷ set_among id value states)) h.0)

pub set_nowhere : (id value : ℕ) (states : States) → Nowhere (has_id id) states → set_among id value states ≡ states
set_nowhere id value [] h = refl
set_nowhere id value (state ∷ states) h =
    ap (λ b. cond b ((id, value) ∷ states) (state ∷ set_among id value states)) h.0 ∙ ap (state ∷◌) (set_nowhere id value states h.1)

pub taken_at : (id : ℕ) (states : States) (i : ℕ) → FirstAt (has_id id) states i → remove states i ≡ state_taken id states
taken_at id [] i h = absurd h
taken_at id (state ∷ states) zero h = sym (ap (λ b. cond b states (state ∷ state_taken id states)) h)
taken_at id (state ∷ states) (suc i) h = ap (state ∷◌) (taken_at id states i h.1) ∙ sym (ap (λ b. cond b states (state ∷ state_taken id states)) h.0)

pub taken_nowhere : (id : ℕ) (states : States) → Nowhere (has_id id) states → state_taken id states ≡ states
taken_nowhere id [] h = refl
taken_nowhere id (state ∷ states) h = ap (λ b. cond b states (state ∷ state_taken id states)) h.0 ∙ ap (state ∷◌) (taken_nowhere id states h.1)

taken_front : {A : Type 0} (ws rest : List A) → take (length ws) (ws ++ rest) ≡ ws
taken_front [] rest = refl
taken_front (w ∷ ws) rest = ap (w ∷◌) (taken_front ws rest)

-- a slice that was written through, of the list's own length, is the list
pub refilled : {A : Type 0} (xs ws : List A) → length ws ≡ length xs → refill (length xs) xs ws ≡ ws
refilled xs ws e = subst (λ n. take n (ws ++ drop (length ws) xs) ≡ ws) e (taken_front ws (drop (length ws) xs))

-- The methods of an installed patch. What was seen of its states are its states.
module _ (id : ℕ) (seen items : States) (now : Installed) (patch : ℕ) (same : seen ≡ items) (view : ◌≡◌ {A = Installed} (record { patch = patch; values = items }) now) where
  found_in : (i : ℕ) → Some i ≡ position (has_id id) seen → FirstAt (has_id id) items i
  found_in i e = first_place (has_id id) items (Some i) (e ∙ ap (position (has_id id)) same)

  missing_in : None ≡ position (has_id id) seen → Nowhere (has_id id) items
  missing_in e = first_place (has_id id) items None (e ∙ ap (position (has_id id)) same)

  pub value_found : (i : ℕ) (again : States) (read d : ℕ × ℕ) → Some i ≡ position (has_id id) seen → again ≡ items → read ≡ get_or again i d → Some read.1 ≡ value_among id now.values
  value_found i again read d e twice is =
      ap (λ (s : ℕ × ℕ). Some s.1) (is ∙ ap (λ s. get_or s i d) twice) ∙ sym (value_at id items i d (found_in i e)) ∙ ap (λ (n : Installed). value_among id n.values) view

  pub value_missing : None ≡ position (has_id id) seen → None ≡ value_among id now.values
  value_missing e = sym (value_nowhere id items (missing_in e)) ∙ ap (λ (n : Installed). value_among id n.values) view

  with_values : (values : States) → ◌≡◌ {A = Installed} (record { patch = patch; values = values }) (record now { values = values })
  with_values values = ap (λ (n : Installed). record n { values = values }) view

  pub set_found : (value i : ℕ) (again : States) (read d : ℕ × ℕ) → Some i ≡ position (has_id id) seen → again ≡ items → read ≡ get_or again i d
      → ◌≡◌ {A = Installed} (record { patch = patch; values = refill (length items) items (set again i (read.0, value)) }) (record now { values = set_among id value now.values })
  set_found value i again read d e twice is =
      let written : set again i (read.0, value) ≡ set_among id value items =
      ap (λ (s : ℕ × ℕ). set again i (s.0, value)) is ∙ ap (λ s. set s i ((get_or s i d).0, value)) twice ∙ set_at id value items i d (found_in i e) in
      let whole : refill (length items) items (set again i (read.0, value)) ≡ set_among id value items =
      refilled items _ (length-set again i (read.0, value) ∙ ap length twice) ∙ written in
      ap (λ values. record { patch = patch; values = values }) whole ∙ with_values _ ∙ ap (λ (n : Installed). record now { values = set_among id value n.values }) view

  pub set_missing : (value : ℕ) → None ≡ position (has_id id) seen → now ≡ record now { values = set_among id value now.values }
  set_missing value e =
      sym view ∙ ap (λ values. record { patch = patch; values = values }) (sym (set_nowhere id value items (missing_in e))) ∙ with_values _
      ∙ ap (λ (n : Installed). record now { values = set_among id value n.values }) view

  pub taken_found : (i : ℕ) (new : States) → Some i ≡ position (has_id id) seen → new ≡ remove items i
      → ◌≡◌ {A = Installed} (record { patch = patch; values = new }) (record now { values = state_taken id now.values })
  taken_found i new e is =
      ap (λ values. record { patch = patch; values = values }) (is ∙ taken_at id items i (found_in i e)) ∙ with_values _
      ∙ ap (λ (n : Installed). record now { values = state_taken id n.values }) view

  pub taken_missing : None ≡ position (has_id id) seen → now ≡ record now { values = state_taken id now.values }
  taken_missing e =
      sym view ∙ ap (λ values. record { patch = patch; values = values }) (sym (taken_nowhere id items (missing_in e))) ∙ with_values _
      ∙ ap (λ (n : Installed). record now { values = state_taken id n.values }) view
