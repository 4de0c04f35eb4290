-- What klpwatch prints of a verdict, and its exit status.
use Rattle.std.specs.Prelude.{◌≡◌, ℕ, ◌==◌, List, ◌++◌, codes, if◌then◌else◌, Option, Result, Ok, Err}
use Rattle.std.specs.Fmt.{decimal}
use Rattle.std.specs.Io.KnownBytes.{Appends}
use Rattle.klp_watch.specs.declared.cause.Cause.{Cause}
use Rattle.klp_watch.specs.declared.cause.Cause.TheVariants.{NotOpening, Frames, FramesLeft, ModuleInUse, Forced, NoCall, NoReturn, Deep}
use Rattle.klp_watch.specs.declared.difference.Difference.{Difference}
use Rattle.klp_watch.specs.declared.difference.Difference.TheVariants.{Premise, Answer, State, Files, Version, Text}
use Rattle.klp_console.specs.declared.served.ServeFault.TheVariants.{Write}
use Rattle.klp_boot.specs.declared.fault.Fault.{Fault}
use Rattle.klp_boot.specs.declared.fault.Fault.TheVariants.{Serve}
use Rattle.klp_program.specs.declared.verdict.Counts.{Counts}
use Rattle.klp_program.specs.declared.verdict.Verdict.{Verdict}
use Rattle.klp_program.specs.declared.verdict.Verdict.TheVariants.{Honest, Dishonest, Differs}
use Rattle.klp_program.specs.Watches.{Watches}

abbrev pub cause_text : Cause → List ℕ
cause_text NotOpening = codes "NotOpening"
cause_text Frames = codes "Frames"
cause_text FramesLeft = codes "FramesLeft"
cause_text ModuleInUse = codes "ModuleInUse"
cause_text Forced = codes "Forced"
cause_text NoCall = codes "NoCall"
cause_text NoReturn = codes "NoReturn"
cause_text Deep = codes "Deep"

abbrev pub difference_text : Difference → List ℕ
difference_text (Premise cause) = cause_text cause
difference_text Answer = codes "Answer"
difference_text State = codes "State"
difference_text Files = codes "Files"
difference_text Version = codes "Version"
difference_text Text = codes "Text"

-- how many items of each kind there are
abbrev pub counts_text : Counts → List ℕ
counts_text counts = codes "honest " ++ decimal counts.events ++ codes " " ++ decimal counts.calls ++ codes " " ++ decimal counts.returns

-- the line of a verdict: how many items of each kind there are, and how many were compared, if any were; or which line is the first that isn't
-- as the rules say, and why
abbrev pub verdict_text : Verdict → List ℕ
verdict_text (Honest counts) =
    if counts.compared == 0 then counts_text counts ++ codes "\n" else counts_text counts ++ codes " " ++ decimal counts.compared ++ codes "\n"
verdict_text (Dishonest fault) = codes "line " ++ decimal fault.item ++ codes ": " ++ cause_text fault.cause ++ codes "\n"
verdict_text (Differs differs) = codes "line " ++ decimal differs.item ++ codes ": " ++ difference_text differs.cause ++ codes "\n"

abbrev pub verdict_status : Verdict → ℕ
verdict_status (Honest counts) = 0
verdict_status (Dishonest fault) = 3
verdict_status (Differs differs) = 3

-- a trace was watched over a catalog's text, and the line of its verdict was written behind what the output had; or that line could not be
-- written; or there is no verdict for this fault, and nothing was written
abbrev pub Prints : List ℕ → List ℕ → Option (List ℕ) → Option (List ℕ) → Result Verdict Fault → Type 0
Prints catalog trace before after (Ok verdict) = Watches catalog trace (Ok verdict) × Appends before after (verdict_text verdict)
Prints catalog trace before after (Err (Serve fault)) = (fault ≡ Write) × ((verdict : Verdict) × Watches catalog trace (Ok verdict))
Prints catalog trace before after (Err fault) = Watches catalog trace (Err fault) × (after ≡ before)
