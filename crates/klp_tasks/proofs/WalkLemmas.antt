-- Walks over the numbers that a task has: no row that they pass over has one.
use Rattle.std.proofs.Common.{◌≡◌, ℕ, zero, suc, ◌+◌, ◌<◌, ◌≤◌, Bool, false, get_or, drop, drop-cons, zero-add, add-one, [], ◌∷◌, ◌++◌, length, inl, inr, refl, sym, ap, ◌∙◌, cond, arith, Option, Some, None}
use Rattle.std.proofs.lemmas.Bool.{cases_eq, cases_lt}
use Rattle.std.proofs.lemmas.Nat.Bits.{bit_at-zero}
use Rattle.std.specs.Option.{is_some, option_map, option_to_list}
use Rattle.std.specs.Prelude.{map}
use Rattle.std.proofs.lemmas.List.{get_or_read_under}
use Rattle.std.proofs.Math.Seq.{drop-length}
use Rattle.std.specs.List.{count_by}
use Rattle.std.proofs.lemmas.List.Sums.{sum_by-cons, count_by-le-length}
use Rattle.std.specs.Int.{bit_at}
use Rattle.klp_types.specs.declared.limits.TheConstants.{MAX_TASKS}
use Rattle.klp_types.specs.declared.record.Record.{Record}
use Rattle.klp_types.specs.declared.task.Task.{Task}
use Rattle.klp_types.specs.Records.{RecordList}
use Rattle.klp_model.specs.Task.{Tasks, task_at}
use Rattle.klp_tasks.specs.Changes.{undone, changed, record_if_switched}
use Rattle.klp_tasks.specs.Numbers.{AreTaken, IsLowest}
use Rattle.klp_tasks.proofs.TaskLemmas.{partly, ChangedSoFar, started, one_changed, all_changed}

-- no row from one number up to another has a task
abbrev pub NoneBetween : Tasks → ℕ → ℕ → Type 0
NoneBetween tasks from to = (number : ℕ) → from ≤ number → number < to → task_at tasks number ≡ None

-- what is left has the numbers of all tasks from a number on, and none below it
pub record AreLeft (tasks : Tasks) (left from : ℕ) : Type 0 where
  pub within : from ≤ MAX_TASKS
  pub behind : (number : ℕ) → number < from → bit_at left number ≡ 0
  pub ahead : (number : ℕ) → from ≤ number → bit_at left number ≡ 0 → task_at tasks number ≡ None

no_task : (bit : ℕ) (row : Option Task) → bit ≡ cond (is_some row) 1 0 → bit ≡ 0 → row ≡ None
no_task bit None is none = refl
no_task bit (Some task) is none = absurd (omega arith)

pub all_left : (tasks : Tasks) (bits : ℕ) → AreTaken bits tasks → AreLeft tasks bits 0
all_left tasks bits taken =
    record {
      within = omega arith;
      behind = λ number below. absurd (omega arith);
      ahead = λ number from none. no_task (bit_at bits number) (task_at tasks number) (taken.each number) none;
    }

pub none_passed : (tasks : Tasks) (left from number rest : ℕ) → AreLeft tasks left from → IsLowest number left rest → (from ≤ number) × NoneBetween tasks from number
none_passed tasks left from number rest are is = (
  elim (cases_lt number from) [
    | inl below ↦ absurd (let none = are.behind number below in omega (arith, is.there))
    | inr behind ↦ behind
  ],
  λ other since below. are.ahead other since (is.lowest other below),
)

pub next_left : (tasks : Tasks) (left from number rest : ℕ) → AreLeft tasks left from → IsLowest number left rest → AreLeft tasks rest (number + 1)
next_left tasks left from number rest are is =
    let passed = none_passed tasks left from number rest are is in
    record {
      within = omega (arith, is.within);
      behind = λ other below. elim (cases_eq other number) [
        | inl same ↦ ap (bit_at rest) same ∙ is.gone
        | inr apart ↦ is.others other apart ∙ is.lowest other (omega arith)
      ];
      ahead = λ other since none. are.ahead other (omega (arith, passed.0)) (sym (is.others other (omega arith)) ∙ none);
    }

pub none_left : (tasks : Tasks) (from : ℕ) → AreLeft tasks 0 from → NoneBetween tasks from MAX_TASKS
none_left tasks from are = λ number since below. are.ahead number since (bit_at-zero number)

-- what has no task isn't changed
partly_past : (f : Task → Task) (from to : ℕ) (tasks : Tasks) → from ≤ to → NoneBetween tasks from to → partly f from tasks ≡ partly f to tasks
partly_past f zero zero tasks le none = refl
partly_past f zero (suc to) [] le none = refl
partly_past f zero (suc to) (first ∷ tasks) le none =
    let is : first ≡ None = none 0 (omega arith) (omega arith) in
    let behind = partly_past f zero to tasks (omega arith) (λ number since below. none (suc number) (omega arith) (omega arith)) in
    rw is (ap (λ rest. None ∷ rest) behind)
partly_past f (suc from) zero tasks le none = absurd (omega arith)
partly_past f (suc from) (suc to) [] le none = refl
partly_past f (suc from) (suc to) (first ∷ tasks) le none =
    ap (λ rest. option_map f first ∷ rest) (partly_past f from to tasks (omega arith) (λ number since below. none (suc number) (omega arith) (omega arith)))

changed_past : (f : Task → Task) (from to : ℕ) (before after : Tasks) (log_before log_after : RecordList) → ChangedSoFar f from before after log_before log_after
    → from ≤ to → NoneBetween before from to → ChangedSoFar f to before after log_before log_after
changed_past f from to before after log_before log_after so_far le none =
    record { tasks = so_far.tasks ∙ partly_past f from to before le none; records = so_far.records; undo = so_far.undo }

-- the tasks are changed but for those that are left, and the log has what they were
pub record WalkedSoFar (f : Task → Task) (left : ℕ) (before after : Tasks) (log_before log_after : RecordList) : Type 0 where
  pub from : ℕ
  pub are_left : AreLeft before left from
  pub changed : ChangedSoFar f from before after log_before log_after

pub walk_started : (f : Task → Task) (bits : ℕ) (tasks : Tasks) (log : RecordList) → AreTaken bits tasks → WalkedSoFar f bits tasks tasks log log
walk_started f bits tasks log taken = record { from = 0; are_left = all_left tasks bits taken; changed = started f tasks log }

-- the next task is changed after all that stand before it
pub walked_to : (f : Task → Task) (left number rest : ℕ) (before now : Tasks) (log_before log_now : RecordList) → WalkedSoFar f left before now log_before log_now
    → IsLowest number left rest → ChangedSoFar f number before now log_before log_now
walked_to f left number rest before now log_before log_now so_far is =
    let passed = none_passed before left so_far.from number rest so_far.are_left is in
    changed_past f so_far.from number before now log_before log_now so_far.changed passed.0 passed.1

pub walked_past : (f : Task → Task) (left number rest : ℕ) (before now after : Tasks) (log_before log_now log_after : RecordList) (row : Option Record)
    → WalkedSoFar f left before now log_before log_now → IsLowest number left rest
    → after ≡ changed now number f → row ≡ record_if_switched number (task_at now number) (task_at after number) → undone after (option_to_list row) ≡ now
    → log_after ≡ record log_now { logged = log_now.logged ++ option_to_list row }
    → WalkedSoFar f rest before after log_before log_after
walked_past f left number rest before now after log_before log_now log_after row so_far is_lowest is is_row back logged =
    let reached = walked_to f left number rest before now log_before log_now so_far is_lowest in
    record {
      from = number + 1;
      are_left = next_left before left so_far.from number rest so_far.are_left is_lowest;
      changed = one_changed f number before now after log_before log_now log_after row reached is is_row back logged;
    }

pub walked_all : (f : Task → Task) (left : ℕ) (before now : Tasks) (log_before log_now : RecordList) → WalkedSoFar f left before now log_before log_now
    → left ≡ 0 → length before ≡ MAX_TASKS → now ≡ map (option_map f) before
walked_all f left before now log_before log_now so_far done long =
    let none = none_left before so_far.from (rw done at so_far.are_left) in
    all_changed f MAX_TASKS before now log_before log_now (changed_past f so_far.from MAX_TASKS before now log_before log_now so_far.changed so_far.are_left.within none) (sym long)

-- what an index reads is the row of the number
pub row_read : (tasks : Tasks) (number index : ℕ) (row : Option Task) → row ≡ get_or tasks index row → index ≡ number → number < MAX_TASKS → length tasks ≡ MAX_TASKS
    → row ≡ task_at tasks number
row_read tasks number index row is same within long = rw (← same) (get_or_read_under tasks index MAX_TASKS row None is (omega (arith, same, within)) (sym long))

-- what pays no heed to rows without a task is the same past them
rest_past : {B : Type 0} (g : Tasks → B) → ((tasks : Tasks) → g (None ∷ tasks) ≡ g tasks) → (from to : ℕ) (tasks : Tasks) → from ≤ to → NoneBetween tasks from to
    → g (drop from tasks) ≡ g (drop to tasks)
rest_past g heedless zero zero tasks le none = refl
rest_past g heedless zero (suc to) [] le none = refl
rest_past g heedless zero (suc to) (first ∷ tasks) le none =
    let is : first ≡ None = none 0 (omega arith) (omega arith) in
    rw is (heedless tasks ∙ rest_past g heedless zero to tasks (omega arith) (λ number since below. none (suc number) (omega arith) (omega arith)))
rest_past g heedless (suc from) zero tasks le none = absurd (omega arith)
rest_past g heedless (suc from) (suc to) [] le none = refl
rest_past g heedless (suc from) (suc to) (first ∷ tasks) le none =
    rest_past g heedless from to tasks (omega arith) (λ number since below. none (suc number) (omega arith) (omega arith))

-- so many rows pass the test, and those that are left may
pub record CountedSoFar (test : Option Task → Bool) (left count : ℕ) (tasks : Tasks) : Type 0 where
  pub from : ℕ
  pub are_left : AreLeft tasks left from
  pub counted : count + count_by test (drop from tasks) ≡ count_by test tasks

module _ (test : Option Task → Bool) (fails : test None ≡ false) (left : ℕ) (tasks : Tasks) (long : length tasks ≡ MAX_TASKS) where
  count_heedless : (tasks : Tasks) → count_by test (None ∷ tasks) ≡ count_by test tasks
  count_heedless tasks = sum_by-cons (λ row. cond (test row) 1 0) None tasks ∙ rw (fails, zero-add) refl

  pub count_started : AreTaken left tasks → CountedSoFar test left 0 tasks
  count_started taken = record { from = 0; are_left = all_left tasks left taken; counted = rw zero-add refl }

  module _ (number rest : ℕ) (is : IsLowest number left rest) where
    pub counted_past : (count : ℕ) → CountedSoFar test left count tasks → (passes : Bool) → test (task_at tasks number) ≡ passes → CountedSoFar test rest (count + cond passes 1 0) tasks
    counted_past count so_far passes tested =
        let passed = none_passed tasks left so_far.from number rest so_far.are_left is in
        let next = rest_past (count_by test) count_heedless so_far.from number tasks passed.0 passed.1 in
        let split = drop-cons tasks number None (omega (arith, is.within, long)) in
        let own = sum_by-cons (λ row. cond (test row) 1 0) (task_at tasks number) (drop (suc number) tasks) in
        record {
          from = number + 1;
          are_left = next_left tasks left so_far.from number rest so_far.are_left is;
          counted = rw add-one (omega (arith, so_far.counted, next ∙ ap (count_by test) split, own ∙ ap (λ b. cond b 1 0 + count_by test (drop (suc number) tasks)) tested));
        }

  pub counted_all : (count : ℕ) → CountedSoFar test left count tasks → left ≡ 0 → count ≡ count_by test tasks
  counted_all count so_far done =
      let none = none_left tasks so_far.from (rw done at so_far.are_left) in
      let end = rest_past (count_by test) count_heedless so_far.from MAX_TASKS tasks so_far.are_left.within none in
      omega (arith, so_far.counted, end ∙ ap (count_by test) (ap (λ n. drop n tasks) (sym long) ∙ drop-length tasks))

pub few_counted : (test : Option Task → Bool) (left count : ℕ) (tasks : Tasks) → length tasks ≡ MAX_TASKS → CountedSoFar test left count tasks → count ≤ MAX_TASKS
few_counted test left count tasks long so_far = omega (arith, so_far.counted, count_by-le-length test tasks, long)
