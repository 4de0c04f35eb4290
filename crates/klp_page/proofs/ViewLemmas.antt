-- Rows that are filled one by one.
use Rattle.std.proofs.Common.{◌≡◌, ℕ, ◌+◌, ◌<◌, Bool, true, false, List, length, map, get_or, refl, sym, ap, ◌∙◌, arith}
use Rattle.std.specs.Prelude.{◌==◌, slice_set, ◌∷◌, Option, Some, None, if◌then◌else◌}
use Rattle.klp_types.specs.declared.version.Version.{Version}
use Rattle.klp_page.specs.Views.{else_of, innermost_outside}
use Rattle.std.proofs.lemmas.Bool.{eqb-true, eq-eqb, both_ways}
use Rattle.std.proofs.lemmas.List.{length-map, length-set, get_or-map, get_or-set_same, get_or-set_other}
use Rattle.std.proofs.lemmas.List.FromFn.{fill_by_all}

-- rows of which each is by the source's row of its number are by all of the source
pub all_filled : {A B : Type 0} (f : A → B) (source : List A) (none : A) (values : List B) (empty : B) (n : ℕ) → length values ≡ n → length source ≡ n
    → ((k : ℕ) → k < n → get_or values k empty ≡ f (get_or source k none)) → values ≡ map f source
all_filled f source none values empty n many rows each =
    fill_by_all (λ k. f (get_or source k none)) values n empty many each
    ∙ sym (fill_by_all (λ k. f (get_or source k none)) (map f source) n empty (length-map source f ∙ rows)
    (λ k below. get_or-map f source k none empty (omega (arith, below, rows))))

-- one row more is filled
pub one_filled : {B : Type 0} (value : ℕ → B) (values : List B) (empty next : B) (number limit : ℕ) → length values ≡ limit → number < limit
    → ((k : ℕ) → k < number → get_or values k empty ≡ value k) → next ≡ value number
    → (length (slice_set values number next) ≡ limit) × ((k : ℕ) → k < number + 1 → get_or (slice_set values number next) k empty ≡ value k)
one_filled value values empty next number limit many below each is = (
  length-set values number next ∙ many,
  λ k within. by k within (k == number) refl,
)
  where
    by : (k : ℕ) → k < number + 1 → (same : Bool) → (k == number) ≡ same → get_or (slice_set values number next) k empty ≡ value k
    by k within true same =
        let at : k ≡ number = eqb-true k number same in
        ap (λ j. get_or (slice_set values number next) j empty) at
        ∙ get_or-set_same values number next empty (omega (arith, below, many)) ∙ is ∙ ap value (sym at)
    by k within false same =
        let other : k ≡ number → ⊥ = λ at. both_ways (k == number) same (eq-eqb k number at) in
        get_or-set_other values number k next empty other ∙ each k (omega (arith, within, other))

-- what is found behind a version comes before it, and before what was found so far
pub one_looked_at : (runs : Version → Bool) (version : Version) (inner : List Version) (found : Option Version)
    → else_of (innermost_outside runs (version ∷ inner)) found ≡ else_of (innermost_outside runs inner) (if runs version then found else Some version)
one_looked_at runs version inner found = by (innermost_outside runs inner) (runs version)
  where
    by : (later : Option Version) (is_run : Bool)
        → else_of (else_of later (if is_run then None else Some version)) found ≡ else_of later (if is_run then found else Some version)
    by None true = refl
    by None false = refl
    by (Some other) true = refl
    by (Some other) false = refl
