-- How tasks lag, by tests that agree, and which of them a poll leaves behind.
use Rattle.std.proofs.Common.{◌≡◌, ℕ, ◌+◌, ◌<◌, Bool, true, false, cond, ◌||◌, List, [], ◌∷◌, length, map, get_or, Option, Some, None, is_some, refl, sym, ap, subst, ◌∙◌, arith}
use Rattle.std.specs.Prelude.{not, ◌&&◌, find, reverse, option_map, count_by, if◌then◌else◌}
use Rattle.std.specs.List.{list_any}
use Rattle.std.proofs.lemmas.List.{length-map, get_or-map}
use Rattle.std.proofs.lemmas.List.FromFn.{fill_by_all}
use Rattle.std.proofs.lemmas.List.Sorted.{IsPermutation-reverse, list_any-IsPermutation}
use Rattle.std.proofs.lemmas.List.Sums.{sum_by-cons}
use Rattle.klp_types.specs.declared.task.Mode.{Mode}
use Rattle.klp_types.specs.declared.task.Mode.TheVariants.{User, Kernel, Asleep}
use Rattle.klp_types.specs.declared.task.Task.{Task}
use Rattle.klp_types.specs.declared.version.Transition.{Transition}
use Rattle.klp_types.specs.declared.version.Version.{Version}
use Rattle.klp_types.specs.Setting.{Setting}
use Rattle.klp_model.specs.Blocked.{is_version, blocked, is_held, switched, lags, pending}
use Rattle.klp_model.specs.State.{State}
use Rattle.klp_model.specs.Task.{Tasks, is_mode, is_at, at_target, in_state}
use Rattle.klp_core.specs.declared.holders.Lag.{Lag}
use Rattle.klp_core.specs.Holders.{blocked_by, innermost_blocked_in, lag_by, lag_at, holders, is_left}

-- tests that agree tell the same lags

found_same : (one other : Version → Bool) → ((version : Version) → one version ≡ other version) → (versions : List Version) → find one versions ≡ find other versions
found_same one other same [] = refl
found_same one other same (version ∷ versions) = rw (same version, found_same one other same versions) refl

lag_same : (one other : Version → Bool) → ((version : Version) → one version ≡ other version) → (moving : Option Transition) (row : Option Task) → lag_at one moving row ≡ lag_at other moving row
lag_same one other same None row = refl
lag_same one other same (Some move) None = refl
lag_same one other same (Some move) (Some task) = rw (found_same one other same (reverse task.frames)) refl

pub lags_same : (one other : Version → Bool) → ((version : Version) → one version ≡ other version) → (moving : Option Transition) (tasks : Tasks)
    → map (lag_at one moving) tasks ≡ map (lag_at other moving) tasks
lags_same one other same moving [] = refl
lags_same one other same moving (row ∷ tasks) = rw (lag_same one other same moving row, lags_same one other same moving tasks) refl

-- a task is held by what is found

found_any : (test : Version → Bool) (versions : List Version) → is_some (find test versions) ≡ list_any test versions
found_any test [] = refl
found_any test (version ∷ versions) = elim (test version) as (λ b. is_some (cond b (Some version) (find test versions)) ≡ (b || list_any test versions)) [
  | true ↦ refl
  | false ↦ found_any test versions
]

held_any : (test : Version → Bool) (frames : List Version) → is_some (innermost_blocked_in test frames) ≡ list_any test frames
held_any test frames = found_any test (reverse frames) ∙ sym (list_any-IsPermutation test frames (reverse frames) (IsPermutation-reverse frames))

at_own : (target : Bool) → is_at target (at_target target) ≡ true
at_own true = refl
at_own false = refl

-- of a task that isn't at the target, by its mode and by what holds it
left_by : (target : Bool) (task : Task) (mode : Mode) (found : Option Version) (held : Bool) → is_at target task.state ≡ false → is_some found ≡ held
    → not (is_at target (if is_mode mode Asleep && not held then in_state (at_target target) task else task).state) ≡ is_left (Some (lag_by mode found))
left_by target task User found held behind is = ap not behind
left_by target task Kernel found held behind is = ap not behind
left_by target task Asleep None true behind is = let no : ⊥ = cc in absurd no
left_by target task Asleep None false behind is = ap not (at_own target)
left_by target task Asleep (Some version) true behind is = ap not behind
left_by target task Asleep (Some version) false behind is = let no : ⊥ = cc in absurd no

-- a task at the target stays there
stays_at : (target : Bool) (task : Task) (switches : Bool) → is_at target task.state ≡ true
    → not (is_at target (if switches then in_state (at_target target) task else task).state) ≡ false
stays_at target task true there = ap not (at_own target)
stays_at target task false there = ap not there

left_task : (versions : List Version) (target : Bool) (task : Task) (own : Bool) → is_at target task.state ≡ own
    → not (is_at target (switched versions target task).state)
    ≡ is_left (if own then None else Some (lag_by task.mode (innermost_blocked_in (λ version. list_any (is_version version) versions) task.frames)))
left_task versions target task true there = stays_at target task (is_mode task.mode Asleep && not (is_held versions task.frames)) there
left_task versions target task false behind =
    left_by target task task.mode (innermost_blocked_in (λ version. list_any (is_version version) versions) task.frames) (is_held versions task.frames) behind
    (held_any (λ version. list_any (is_version version) versions) task.frames)

left_row : (versions : List Version) (move : Transition) (row : Option Task)
    → lags move.target (option_map (switched versions move.target) row) ≡ is_left (lag_at (λ version. list_any (is_version version) versions) (Some move) row)
left_row versions move None = refl
left_row versions move (Some task) = left_task versions move.target task (is_at move.target task.state) refl

pub left_behind : (versions : List Version) (move : Transition) (tasks : Tasks)
    → count_by (lags move.target) (map (option_map (switched versions move.target)) tasks)
    ≡ count_by is_left (map (lag_at (λ version. list_any (is_version version) versions) (Some move)) tasks)
left_behind versions move [] = refl
left_behind versions move (row ∷ tasks) =
    let after = map (option_map (switched versions move.target)) tasks in
    let effective = map (lag_at (λ version. list_any (is_version version) versions) (Some move)) tasks in
    sum_by-cons (λ (r : Option Task). cond (lags move.target r) 1 0) (option_map (switched versions move.target) row) after
    ∙ ap (λ b. cond b 1 0 + count_by (lags move.target) after) (left_row versions move row)
    ∙ ap (λ n. cond (is_left (lag_at (λ version. list_any (is_version version) versions) (Some move) row)) 1 0 + n) (left_behind versions move tasks)
    ∙ sym (sum_by-cons (λ (l : Option Lag). cond (is_left l) 1 0) (lag_at (λ version. list_any (is_version version) versions) (Some move) row) effective)

pub left_by_poll : (setting : Setting) (state : State) (move : Transition) → state.moving ≡ Some move → pending setting state move ≡ count_by is_left (holders setting state)
left_by_poll setting state move moves =
    subst (λ m. pending setting state move ≡ count_by is_left (map (lag_at (λ version. list_any (is_version version) (blocked_by setting state m)) m) state.tasks))
    (sym moves) (left_behind (blocked setting state move) move state.tasks)

-- rows that have the lag of each number's task are the lags of all
pub all_effective : (lag : Option Task → Option Lag) (tasks : Tasks) (lags : List (Option Lag)) (n : ℕ) → length lags ≡ n → length tasks ≡ n
    → ((k : ℕ) → k < n → get_or lags k None ≡ lag (get_or tasks k None)) → lags ≡ map lag tasks
all_effective lag tasks lags n many rows each =
    fill_by_all (λ k. lag (get_or tasks k None)) lags n None many each
    ∙ sym (fill_by_all (λ k. lag (get_or tasks k None)) (map lag tasks) n None (length-map tasks lag ∙ rows)
    (λ k below. get_or-map lag tasks k None None (omega (arith, below, rows))))
