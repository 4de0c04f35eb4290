-- Lists of tasks that are cut short.
use Rattle.std.proofs.Common.{◌≡◌, ℕ, ◌+◌, ◌-◌, ◌<◌, ◌≤◌, Bool, true, false, cond, List, [], ◌++◌, length, take, refl, ap, ◌∙◌, append-nil, arith}
use Rattle.std.specs.Prelude.{nat_lt, codes}
use Rattle.std.specs.Fmt.{decimal}
use Rattle.std.proofs.lemmas.Bool.{ltb-true, ltb-false, ne_eqb}
use Rattle.std.proofs.Math.Seq.{take-length}
use Rattle.klp_names.specs.Names.{Names}
use Rattle.klp_markup.specs.declared.tasks.TheConstants.{MAX_NAMED}
use Rattle.klp_markup.specs.Tasks.{plural, named, names_text, more_text, each_text, tasks_text}

few_are_named : (count : ℕ) → count ≤ MAX_NAMED + 1 → named count ≡ count
few_are_named count few = by (nat_lt (MAX_NAMED + 1) count) refl
  where
    by : (b : Bool) → nat_lt (MAX_NAMED + 1) count ≡ b → cond b MAX_NAMED count ≡ count
    by true is = absurd (many (ltb-true (MAX_NAMED + 1) count is))
      where
        many : MAX_NAMED + 1 < count → ⊥
        many lt = omega (arith, few)
    by false is = refl

many_are_cut : (count : ℕ) → MAX_NAMED + 1 < count → named count ≡ MAX_NAMED
many_are_cut count many = by (nat_lt (MAX_NAMED + 1) count) refl
  where
    by : (b : Bool) → nat_lt (MAX_NAMED + 1) count ≡ b → cond b MAX_NAMED count ≡ MAX_NAMED
    by true is = refl
    by false is = absurd (few (ltb-false (MAX_NAMED + 1) count is))
      where
        few : count ≤ MAX_NAMED + 1 → ⊥
        few le = omega (arith, many)

-- what a list says that names the first so many
abbrev text_of : Names → ℕ → List ℕ → List ℕ
text_of names n tasks = let count = length tasks in plural count (codes "task ") (codes "tasks ") ++ names_text names count 0 (take n tasks) ++ more_text (count - n)

pub few_are_all_named : (names : Names) (tasks : List ℕ) → length tasks ≤ MAX_NAMED + 1 → tasks_text names tasks ≡ each_text names tasks
unfolding tasks_text each_text
few_are_all_named names tasks few = let count = length tasks in let words = plural count (codes "task ") (codes "tasks ") in
    ap (λ n. text_of names n tasks) (few_are_named count few)
    ∙ ap (λ some. words ++ names_text names count 0 some ++ more_text (count - count)) (take-length tasks)
    ∙ ap (λ n. words ++ names_text names count 0 tasks ++ more_text n) nobody
    ∙ append-nil (words ++ names_text names count 0 tasks)
  where
    nobody : length tasks - length tasks ≡ 0
    nobody = omega arith

pub many_are_counted : (names : Names) (tasks : List ℕ) → MAX_NAMED + 1 < length tasks → tasks_text names tasks
    ≡ codes "tasks " ++ names_text names (length tasks) 0 (take MAX_NAMED tasks) ++ (codes " and " ++ decimal (length tasks - MAX_NAMED) ++ codes " more")
unfolding tasks_text
many_are_counted names tasks many = ap (λ n. text_of names n tasks) (many_are_cut (length tasks) many)
    ∙ ap (λ b. cond b (codes "task ") (codes "tasks ") ++ names_text names (length tasks) 0 (take MAX_NAMED tasks) ++ more_text (length tasks - MAX_NAMED)) (ne_eqb (length tasks) 1 several)
    ∙ ap (λ b. codes "tasks " ++ names_text names (length tasks) 0 (take MAX_NAMED tasks) ++ cond b [] (codes " and " ++ decimal (length tasks - MAX_NAMED) ++ codes " more")) (ne_eqb (length tasks - MAX_NAMED) 0 others)
  where
    several : length tasks ≡ 1 → ⊥
    several e = omega (arith, many)

    others : length tasks - MAX_NAMED ≡ 0 → ⊥
    others e = omega (arith, many)
