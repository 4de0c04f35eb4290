-- When an answer may say that a log is explained, and that nobody lags.
use Rattle.std.specs.Prelude.{◌≡◌, ◌-◌, ◌<◌, Bool, true, false, List, [], length, Option, Some, None, is_some, slice_get, string_bytes}
use Rattle.std.specs.List.{list_any}
use Rattle.klp_capture.specs.declared.capture.Capture.{Capture}
use Rattle.klp_capture_lagging.specs.Lagging.{NobodyLags}
use Rattle.klp_capture_search.specs.declared.followed.Followed.{Followed}
use Rattle.klp_capture_run.specs.Explained.{is_honest}
use Rattle.klp_capture_run.specs.Holders.{holders_in}
use Rattle.klp_capture_run.specs.declared.explained.Explained.{Explained}
use Rattle.klp_capture_run.specs.declared.holders.Holder.{Holder}
use Rattle.klp_capture_report.specs.declared.report.Becomes.{Becomes}
use Rattle.klp_capture_report.specs.declared.report.Becomes.TheVariants.{Enabled, Disabled}
use Rattle.klp_capture_report.specs.declared.report.BrokenReport.{BrokenReport}
use Rattle.klp_capture_report.specs.declared.report.KernelLogReport.{KernelLogReport}
use Rattle.klp_capture_report.specs.declared.report.NotSeen.{NotSeen}
use Rattle.klp_capture_report.specs.declared.report.TransitionReport.{TransitionReport}
use Rattle.klp_capture_report.specs.declared.report.VerdictReport.{VerdictReport}
use Rattle.klp_capture_report.specs.declared.report.VerdictReport.TheVariants.{Explained as IsExplained}

-- a run of the rules shows each sample that counts: the replay finds its trace honest, it reaches each sample, the trace has
-- what each sample says, there is one, and the replay says who lags at the end
pub record IsShown (found : Explained) : Type 0 where
  pub honest : is_honest found.verdict ≡ true
  pub none_failed : found.failed ≡ None
  pub none_unjudged : found.unjudged ≡ None
  pub none_unshown : found.unshown ≡ None
  pub some_shown : 0 < found.run.shown
  pub lags_known : is_some found.lags ≡ true

-- what must be so of an explained log: all was read that a verdict needs, no sample contradicts the rules, nor another one
-- the kernel's own log
pub record MaySayExplained (found : Explained) (not_seen : List NotSeen) (broken : Option BrokenReport) (differs : Option KernelLogReport) : Type 0 where
  pub all_seen : not_seen ≡ []
  pub none_broken : broken ≡ None
  pub shown : IsShown found
  pub none_differs : differs ≡ None

-- the file `enabled` of a patch that becomes so
abbrev pub target_of : Becomes → Bool
target_of Enabled = true
target_of Disabled = false

-- whether a task lags in the last sample that the run reached
abbrev pub lags_in_run : Followed → Bool
lags_in_run task = is_some task.lag

-- By the run nobody lags in the last sample: nothing was forced; these, who hold the transition up, are none; no task lags;
-- and each task that the log names is in the run.
pub record IsQuiet (found : Explained) (holding : List Holder) : Type 0 where
  pub not_forced : found.forced ≡ None
  pub none_holds : holding ≡ []
  pub none_lags : list_any lags_in_run found.run.tasks.items ≡ false
  pub all_in_run : found.run.left_out ≡ 0

-- By run and log nobody lags in a transition: it goes on; by the log nobody lags in just this transition to just this
-- target; by the run nobody does, nor by the rules at its end; and the answer itself tells of no task that lags.
pub record IsCalm (capture : Capture) (found : Explained) (transition : TransitionReport) : Type 0 where
  pub goes_on : transition.end ≡ None
  pub by_the_log : NobodyLags capture (string_bytes transition.patch) (target_of transition.becomes)
  pub by_the_run : IsQuiet found (holders_in found.lags)
  pub none_listed : transition.lagging.items ≡ []

-- what is said of an explained log's last transition
pub record MaySayNobodyLags (capture : Capture) (found : Explained) (verdict : VerdictReport) (transitions : List TransitionReport) : Type 0 where
  pub explained : verdict ≡ IsExplained
  pub transition : TransitionReport
  pub last : slice_get transitions (length transitions - 1) ≡ Some transition
  pub calm : IsCalm capture found transition
