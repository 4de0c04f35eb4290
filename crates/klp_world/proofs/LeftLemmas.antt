-- The states that are left once states are taken out by their ids, the last first.
use Rattle.std.proofs.Common.{◌≡◌, ℕ, suc, ◌+◌, ◌<◌, ◌≤◌, Bool, true, false, cond, List, [], ◌∷◌, length, map, refl, subst, ap, arith}
use Rattle.std.specs.Bool.{◌==◌}
use Rattle.std.proofs.lemmas.Bool.{eqb-true, eq-eqb}
use Rattle.std.proofs.lemmas.List.{length-map, nil_from_length}
use Rattle.klp_world.specs.Undo.{state_taken}

-- the states that are left once those of these ids are taken out, the last first
abbrev pub left_of : List ℕ → List (ℕ × ℕ) → List (ℕ × ℕ)
left_of [] values = values
left_of (id ∷ ids) values = state_taken id (left_of ids values)

-- how many states have this id, and how many ids are this one
abbrev pub having : ℕ → List (ℕ × ℕ) → ℕ
having id [] = 0
having id (state ∷ states) = cond (state.0 == id) (suc (having id states)) (having id states)

abbrev pub among : ℕ → List ℕ → ℕ
among id [] = 0
among id (first ∷ ids) = cond (first == id) (suc (among id ids)) (among id ids)

having_new : (id : ℕ) (ids : List ℕ) → having id (map (λ n. (n, 0)) ids) ≡ among id ids
having_new id [] = refl
having_new id (first ∷ ids) = ap (λ n. cond (first == id) (suc n) n) (having_new id ids)

one_fewer : (q id : ℕ) (states : List (ℕ × ℕ)) → having q states ≤ cond (id == q) (suc (having q (state_taken id states))) (having q (state_taken id states))
one_fewer q id [] = elim (id == q) as (λ b. 0 ≤ cond b 1 0) [ true ↦ omega arith | false ↦ omega arith ]
one_fewer q id (state ∷ states) =
    elim (state.0 == id) as (λ b. (state.0 == id) ≡ b → having q (state ∷ states) ≤ cond (id == q) (suc (having q (cond b states (state ∷ state_taken id states)))) (having q (cond b states (state ∷ state_taken id states)))) [
      | true ↦ λ t. subst (λ n. having q (state ∷ states) ≤ cond (n == q) (suc (having q states)) (having q states)) (eqb-true state.0 id t) (omega arith)
      | false ↦ λ t. let rest = one_fewer q id states in
          elim (state.0 == q) as (λ b. cond b (suc (having q states)) (having q states)
          ≤ cond (id == q) (suc (cond b (suc (having q (state_taken id states))) (having q (state_taken id states)))) (cond b (suc (having q (state_taken id states))) (having q (state_taken id states)))) [
            | true ↦ more (id == q) (having q states) (having q (state_taken id states)) rest
            | false ↦ rest
          ]
    ] refl
  where
    more : (b : Bool) (m n : ℕ) → m ≤ cond b (suc n) n → suc m ≤ cond b (suc (suc n)) (suc n)
    more true m n le = omega arith
    more false m n le = omega arith

one_taken : (id : ℕ) (states : List (ℕ × ℕ)) → 0 < having id states → suc (length (state_taken id states)) ≡ length states
one_taken id [] some = absurd (omega arith)
one_taken id (state ∷ states) some =
    elim (state.0 == id) as (λ b. 0 < cond b (suc (having id states)) (having id states) → suc (length (cond b states (state ∷ state_taken id states))) ≡ suc (length states)) [
      | true ↦ λ some. refl
      | false ↦ λ some. ap suc (one_taken id states some)
    ] some

-- as many of an id are left as there are beside those that are taken out
left_having : (q : ℕ) (ids : List ℕ) (values : List (ℕ × ℕ)) → having q values ≤ among q ids + having q (left_of ids values)
left_having q [] values = omega arith
left_having q (id ∷ ids) values =
    let rest = left_having q ids values in
    let one = one_fewer q id (left_of ids values) in
    step (id == q) (having q values) (among q ids) (having q (left_of ids values)) (having q (state_taken id (left_of ids values))) rest one
  where
    step : (b : Bool) (whole effective left now : ℕ) → whole ≤ effective + left → left ≤ cond b (suc now) now → whole ≤ cond b (suc effective) effective + now
    step true whole effective left now rest one = omega arith
    step false whole effective left now rest one = omega arith

-- the ids of states that there are: each as often as states have it
abbrev pub AreThere : List ℕ → List (ℕ × ℕ) → Type 0
AreThere ids values = (q : ℕ) → among q ids ≤ having q values

pub others_there : (id : ℕ) (ids : List ℕ) (values : List (ℕ × ℕ)) → AreThere (id ∷ ids) values → AreThere ids values
others_there id ids values all q = fewer (id == q) (among q ids) (having q values) (all q)
  where
    fewer : (b : Bool) (m n : ℕ) → cond b (suc m) m ≤ n → m ≤ n
    fewer true m n le = omega arith
    fewer false m n le = le

-- the next one is still there, so one fewer is left
pub next_taken : (id : ℕ) (ids : List ℕ) (values : List (ℕ × ℕ)) → AreThere (id ∷ ids) values → suc (length (left_of (id ∷ ids) values)) ≡ length (left_of ids values)
next_taken id ids values all =
    let own : among id (id ∷ ids) ≡ suc (among id ids) = ap (λ b. cond b (suc (among id ids)) (among id ids)) (eq-eqb id id refl) in
    let left = left_having id ids values in
    let whole = all id in
    one_taken id (left_of ids values) (omega arith)

so_many_left : (ids : List ℕ) (values : List (ℕ × ℕ)) → AreThere ids values → length ids + length (left_of ids values) ≡ length values
so_many_left [] values all = omega arith
so_many_left (id ∷ ids) values all =
    let rest = so_many_left ids values (others_there id ids values all) in
    let one = next_taken id ids values all in
    omega arith

abbrev pub new_states : List ℕ → List (ℕ × ℕ)
new_states ids = map (λ id. (id, 0)) ids

pub new_are_there : (ids : List ℕ) → AreThere ids (new_states ids)
new_are_there ids q = let is = having_new q ids in omega arith

-- of new states none is left
pub none_left : (ids : List ℕ) → left_of ids (new_states ids) ≡ []
none_left ids =
    let all = so_many_left ids (new_states ids) (new_are_there ids) in
    let as_many : length (new_states ids) ≡ length ids = length-map ids (λ id. (id, 0)) in
    nil_from_length (left_of ids (new_states ids)) (omega arith)
