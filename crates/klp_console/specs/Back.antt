-- Taking lines back after a failed write: which lines can be taken back, and what that leaves.
use Rattle.std.specs.Prelude.{◌≡◌, ℕ, zero, suc, ◌+◌, ◌<◌, ◌≤◌, not, Bool, true, false, List, [], ◌∷◌, ◌++◌, length, ◌⊎◌, Option, Some, None, Result, Ok}
use Rattle.klp_manager_state.specs.Managed.{setting_of}
use Rattle.klp_core.specs.Events.{may_run_some}
use Rattle.klp_core.specs.Journaled.{Journaled}
use Rattle.klp_core.specs.Rewinding.{IsRewound}
use Rattle.klp_core.specs.Withdrawal.{GoesOn}
use Rattle.klp_console_commands.specs.declared.request.Request.{Request}
use Rattle.klp_console_commands.specs.declared.request.Request.TheVariants.{Take, Rewind, Seal}
use Rattle.klp_console_commands.specs.declared.fault.LineFault.{LineFault}
use Rattle.klp_console_io.specs.declared.marks.Mark.{Mark}
use Rattle.klp_console.specs.Answered.{Answer, IsAnswered}

-- whether the journal can take back all that the request changes: it runs no callback, and removes no event from the
-- journal
abbrev pub can_be_taken_back : Journaled → Option (Result Request LineFault) → Bool
can_be_taken_back manager (Some (Ok (Take event))) = not (may_run_some (setting_of manager.managed) manager.managed.state event)
can_be_taken_back manager (Some (Ok (Rewind mark))) = false
can_be_taken_back manager (Some (Ok Seal)) = false
can_be_taken_back manager other = true

-- The journal leads back to the earlier manager: it begins with that manager's groups, and no callback has run since.
pub record CanGoBack (earlier now : Journaled) : Type 0 where
  pub goes_on : GoesOn earlier now
  pub image : now.managed.image ≡ earlier.managed.image
  pub catalog : now.managed.catalog ≡ earlier.managed.catalog

-- The events after the first so many are taken back, if the write stopped in an answer before theirs. Without a number
-- none is.
abbrev pub IsTakenBack : Journaled → Journaled → Option ℕ → Type 0
IsTakenBack before after None = after ≡ before
IsTakenBack before after (Some events) =
    ((events ≤ length before.groups) × IsRewound before after events) ⊎ ((length before.groups < events) × (after ≡ before))

-- The mark of a gathered line: its answer ends at this place among all answers, of which `written` bytes are written,
-- and the journal leads back to the manager that the line left.
pub record IsMarked (left now : Journaled) (written place : ℕ) (mark : Mark) : Type 0 where
  pub end : written + mark.end ≡ place
  pub events : mark.events ≡ length left.groups
  pub back : CanGoBack left now

-- gathered lines in order, each with its mark; their answers begin at this place, and the lines lead to the manager
-- `end`
abbrev pub AreMarked : (end now : Journaled) (written place : ℕ) (before : Journaled) → List (List ℕ) → List Answer → List Mark → Type 0
AreMarked end now written place before [] [] [] = end ≡ before
AreMarked end now written place before (line ∷ lines) (answer ∷ answers) (mark ∷ marks) =
    (left : Journaled) × IsAnswered before left line answer × IsMarked left now written (place + length answer.text) mark
    × AreMarked end now written (place + length answer.text) left lines answers marks
AreMarked end now written place before lines answers marks = ⊥

-- the marks with one more; if no byte is held any more, the marks before it are dropped
abbrev pub marks_on : ℕ → List Mark → Mark → List Mark
marks_on zero marks mark = mark ∷ []
marks_on (suc held) marks mark = marks ++ mark ∷ []
