-- Who holds a transition up by an answer, and by the replay of the run.
use Rattle.std.specs.Prelude.{◌≡◌, ℕ, ◌-◌, List, [], ◌∷◌, ◌++◌, length, Option, Some, None, slice_get, if◌then◌else◌}
use Rattle.klp_capture_search.specs.declared.followed.Followed.{Followed}
use Rattle.klp_capture_run.specs.Holders.{holders_in}
use Rattle.klp_capture_run.specs.declared.explained.Explained.{Explained}
use Rattle.klp_capture_run.specs.declared.holders.Holder.{Holder}
use Rattle.klp_capture_report.specs.declared.report.HolderReport.{HolderReport}
use Rattle.klp_capture_report.specs.declared.report.TransitionReport.{TransitionReport}

abbrev pub still_at : HolderReport → List ℕ
still_at holder = if holder.holds_still then holder.task.thread ∷ [] else []

-- the threads that hold a transition up still, among those who hold or held it up
abbrev pub still_held : List HolderReport → List ℕ
still_held [] = []
still_held (holder ∷ holders) = still_at holder ++ still_held holders

abbrev pub thread_at : Option Followed → List ℕ
thread_at None = []
thread_at (Some task) = task.thread ∷ []

-- the threads of those who hold a transition up by the rules, as far as they have a thread: those that a log only counts have none
abbrev pub threads_of : List Followed → List Holder → List ℕ
threads_of tasks [] = []
threads_of tasks (holder ∷ holders) = thread_at (slice_get tasks holder.number) ++ threads_of tasks holders

-- By an answer those hold its last transition up, if that goes on, who do by the rules in the state behind the run's trace.
abbrev pub HasAllHolders : Explained → List TransitionReport → Type 0
HasAllHolders found transitions =
    (last : TransitionReport) → slice_get transitions (length transitions - 1) ≡ Some last → last.end ≡ None
    → still_held last.holders.items ≡ threads_of found.run.tasks.items (holders_in found.lags)
