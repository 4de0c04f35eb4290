-- The steps of two tasks, read line by line.
use Rattle.std.proofs.Common.{◌≡◌, ◌≢◌, ◌≤◌, ℕ, ◌+◌, List, [], ◌∷◌, ◌++◌, length, filter_map, Option, Some, None, is_some, refl, sym, ap, subst, ◌∙◌, inl, inr, append-nil, append_assoc, arith}
use Rattle.std.specs.List.{All}
use Rattle.std.proofs.lemmas.List.Elements.{All-nil, All-cons, All-append, filter_map-append}
use Rattle.std.proofs.lemmas.List.{length-append}
use Rattle.klp_core.specs.Journaled.{Journaled}
use Rattle.klp_live_bodies.specs.declared.step.Step.{Step}
use Rattle.klp_live_run.specs.declared.step_lines.TheConstants.{MAX_STEPS}
use Rattle.klp_live_run.specs.declared.step_lines.Half.{Half}
use Rattle.klp_live_run.specs.declared.step_lines.Half.TheVariants.{First, Second}
use Rattle.klp_live_run.specs.declared.fault.ReadFault.{ReadFault}
use Rattle.klp_live_run.specs.declared.fault.ReadFault.TheVariants.{NoMemory, Steps}
use Rattle.klp_live_run.specs.declared.fault.StepsFaultKind.TheVariants.{BadStep}
use Rattle.klp_live_run.specs.Steps.{unindented, step_of, half_of, number_in, rest_of, task_step, of_half, count_of, IsGood, AreSteps, IsKind, IsFirstFault, IsReadFault}
use Rattle.klp_live_run.specs.Reading.{IsFull, IsAdded}

-- of these lines those are left, and the ones before them are these steps
pub record IsReadTo (manager : Journaled) (lines left : List (List ℕ)) (number : ℕ) (first second : List Step) : Type 0 where
  pub earlier : List (List ℕ)
  pub parted : lines ≡ earlier ++ left
  pub number_is : number ≡ length earlier
  pub read : AreSteps manager earlier first second

pub nothing_read : (manager : Journaled) (lines : List (List ℕ)) → IsReadTo manager lines lines 0 [] []
nothing_read manager lines = record {
  earlier = [];
  parted = refl;
  number_is = refl;
  read = record { good = All-nil (IsGood manager); first_is = refl; second_is = refl; first_fits = omega arith; second_fits = omega arith };
}

pub step_made : (manager : Journaled) (line : List ℕ) (half : Half) (step : Step) → half_of (number_in line) ≡ Some half → step_of manager (rest_of line) ≡ Some step
    → Some (half, step) ≡ task_step manager line
step_made manager line half step is_half is_step = rw (is_half, is_step) refl

-- a line without words is no step
no_step : (manager : Journaled) (half : Half) (line : List ℕ) → unindented line ≡ [] → of_half half (task_step manager line) ≡ None
no_step manager half line is = let none : task_step manager line ≡ None = rw is refl in nobody half (task_step manager line) none
  where
    nobody : (half : Half) (asked : Option (Half × Step)) → asked ≡ None → of_half half asked ≡ None
    nobody First asked e = rw e refl
    nobody Second asked e = rw e refl

-- what one item more gives
passed : {X Y : Type 0} (f : X → Option Y) (xs : List X) (x : X) (y : Y) → f x ≡ Some y → filter_map f (xs ++ x ∷ []) ≡ filter_map f xs ++ y ∷ []
passed f xs x y is = rw (filter_map-append f xs (x ∷ []), is) refl

passed_over : {X Y : Type 0} (f : X → Option Y) (xs : List X) (x : X) → f x ≡ None → filter_map f (xs ++ x ∷ []) ≡ filter_map f xs
passed_over f xs x is = rw (filter_map-append f xs (x ∷ []), is) (append-nil (filter_map f xs))

-- what the lines come to with one more: a line without words, and a step
more_blank : (manager : Journaled) (lines : List (List ℕ)) (line : List ℕ) (first second : List Step)
    → AreSteps manager lines first second → unindented line ≡ [] → AreSteps manager (lines ++ line ∷ []) first second
more_blank manager lines line first second read is = record {
  good = All-append (IsGood manager) lines (line ∷ []) read.good (All-cons (IsGood manager) line [] (inl is) (All-nil (IsGood manager)));
  first_is = read.first_is ∙ sym (passed_over (λ l. of_half First (task_step manager l)) lines line (no_step manager First line is));
  second_is = read.second_is ∙ sym (passed_over (λ l. of_half Second (task_step manager l)) lines line (no_step manager Second line is));
  first_fits = read.first_fits;
  second_fits = read.second_fits;
}

more : (manager : Journaled) (lines : List (List ℕ)) (line : List ℕ) (half : Half) (step : Step) (first second first' second' : List Step)
    → AreSteps manager lines first second → task_step manager line ≡ Some (half, step) → IsAdded half step first second first' second'
    → AreSteps manager (lines ++ line ∷ []) first' second'
more manager lines line First step first second first' second' read is added = record {
  good = All-append (IsGood manager) lines (line ∷ []) read.good (All-cons (IsGood manager) line [] (inr (ap is_some is)) (All-nil (IsGood manager)));
  first_is = added.0 ∙ ap (λ (xs : List Step). xs ++ step ∷ []) read.first_is
      ∙ sym (passed (λ l. of_half First (task_step manager l)) lines line step (ap (of_half First) is));
  second_is = added.1 ∙ read.second_is ∙ sym (passed_over (λ l. of_half Second (task_step manager l)) lines line (ap (of_half Second) is));
  first_fits = rw (added.0, length-append first (step ∷ [])) (omega (arith, added.2));
  second_fits = rw added.1 read.second_fits;
}
more manager lines line Second step first second first' second' read is added = record {
  good = All-append (IsGood manager) lines (line ∷ []) read.good (All-cons (IsGood manager) line [] (inr (ap is_some is)) (All-nil (IsGood manager)));
  first_is = added.0 ∙ read.first_is ∙ sym (passed_over (λ l. of_half First (task_step manager l)) lines line (ap (of_half First) is));
  second_is = added.1 ∙ ap (λ (xs : List Step). xs ++ step ∷ []) read.second_is
      ∙ sym (passed (λ l. of_half Second (task_step manager l)) lines line step (ap (of_half Second) is));
  first_fits = rw added.0 read.first_fits;
  second_fits = rw (added.1, length-append second (step ∷ [])) (omega (arith, added.2));
}

go_on : (manager : Journaled) (lines left : List (List ℕ)) (number : ℕ) (line : List ℕ) (first second first' second' : List Step)
    → (so_far : IsReadTo manager lines (line ∷ left) number first second) → AreSteps manager (so_far.earlier ++ line ∷ []) first' second'
    → IsReadTo manager lines left (number + 1) first' second'
go_on manager lines left number line first second first' second' so_far read = record {
  earlier = so_far.earlier ++ line ∷ [];
  parted = so_far.parted ∙ sym (append_assoc so_far.earlier (line ∷ []) left);
  number_is = ap (λ n. n + 1) so_far.number_is ∙ sym (length-append so_far.earlier (line ∷ []));
  read = read;
}

pub blank_read : (manager : Journaled) (lines left : List (List ℕ)) (number : ℕ) (line : List ℕ) (first second : List Step)
    → IsReadTo manager lines (line ∷ left) number first second → unindented line ≡ [] → IsReadTo manager lines left (number + 1) first second
blank_read manager lines left number line first second so_far is =
    go_on manager lines left number line first second first second so_far (more_blank manager so_far.earlier line first second so_far.read is)

pub one_read : (manager : Journaled) (lines left : List (List ℕ)) (number : ℕ) (line : List ℕ) (half : Half) (step : Step) (first second first' second' : List Step)
    → IsReadTo manager lines (line ∷ left) number first second → task_step manager line ≡ Some (half, step) → IsAdded half step first second first' second'
    → IsReadTo manager lines left (number + 1) first' second'
one_read manager lines left number line half step first second first' second' so_far is added =
    go_on manager lines left number line first second first' second' so_far
    (more manager so_far.earlier line half step first second first' second' so_far.read is added)

pub all_read : (manager : Journaled) (lines : List (List ℕ)) (number : ℕ) (first second : List Step)
    → IsReadTo manager lines [] number first second → AreSteps manager lines first second
all_read manager lines number first second so_far = subst (λ (ls : List (List ℕ)). AreSteps manager ls first second) (sym (so_far.parted ∙ append-nil so_far.earlier)) so_far.read

-- why the line behind those is at fault
pub not_a_step : (manager : Journaled) (lines left : List (List ℕ)) (number : ℕ) (line : List ℕ) (first second : List Step)
    → IsReadTo manager lines (line ∷ left) number first second → unindented line ≢ [] → task_step manager line ≡ None
    → IsFirstFault manager lines (number + 1) BadStep
not_a_step manager lines left number line first second so_far words none = record {
  earlier = so_far.earlier;
  line = line;
  later = left;
  first = first;
  second = second;
  parted = so_far.parted;
  number_is = ap (λ n. n + 1) so_far.number_is;
  read = so_far.read;
  kind_is = (words, none);
}

pub not_added : (manager : Journaled) (lines left : List (List ℕ)) (number : ℕ) (line : List ℕ) (half : Half) (step : Step) (first second : List Step) (fault : ReadFault)
    → IsReadTo manager lines (line ∷ left) number first second → task_step manager line ≡ Some (half, step)
    → IsFull (count_of half first second) (number + 1) fault → IsReadFault manager lines fault
not_added manager lines left number line half step first second NoMemory so_far is full = tt
not_added manager lines left number line half step first second (Steps fault) so_far is full = record {
  earlier = so_far.earlier;
  line = line;
  later = left;
  first = first;
  second = second;
  parted = so_far.parted;
  number_is = full.0 ∙ ap (λ n. n + 1) so_far.number_is;
  read = so_far.read;
  kind_is = subst (IsKind manager line first second) (sym full.1) (half, step, is, full.2);
}

-- lines are counted in 64 bits: there are no more of them than bytes
pub few_lines : (manager : Journaled) (lines left : List (List ℕ)) (number : ℕ) (line : List ℕ) (first second : List Step)
    → IsReadTo manager lines (line ∷ left) number first second → number + 1 ≤ length lines
few_lines manager lines left number line first second so_far =
    let all = ap length so_far.parted ∙ length-append so_far.earlier (line ∷ left) in
    omega (arith, all, so_far.number_is)
