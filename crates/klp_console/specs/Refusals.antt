-- The answers to console lines that weren't done: `error`, the number of a Linux error with a similar meaning (2 is
-- ENOENT, 12 ENOMEM, 16 EBUSY, 22 EINVAL), and the name of the cause. Which number a cause has is this project's own
-- choice.
use Rattle.std.specs.Prelude.{ℕ, List, [], ◌∷◌, codes}
use Rattle.klp_model.specs.declared.event.Refusal.{Refusal}
use Rattle.klp_model.specs.declared.event.Refusal.TheVariants.{NoPatch, Busy, AlreadyThere, Pinned, Incompatible, NoSymbol, NoModule, InUse, NoTask, TaskThere, WrongMode, BadFrame, Full, JournalFull, NotMoving, Exists, NotFound, SameValue}
use Rattle.klp_console_commands.specs.declared.fault.LineFault.{LineFault}
use Rattle.klp_console_commands.specs.declared.fault.LineFault.TheVariants.{BadLine, BadValue, Refused}

-- all refusals
abbrev pub refusals : List Refusal
refusals =
    NoPatch ∷ Busy ∷ AlreadyThere ∷ Pinned ∷ Incompatible ∷ NoSymbol ∷ NoModule ∷ InUse ∷ NoTask ∷ TaskThere ∷ WrongMode ∷ BadFrame
    ∷ Full ∷ JournalFull ∷ NotMoving ∷ Exists ∷ NotFound ∷ SameValue ∷ []

-- the whole line of each refusal
abbrev pub refusal_text : Refusal → List ℕ
refusal_text NoPatch = codes "error 2 NoPatch\n"
refusal_text NoModule = codes "error 2 NoModule\n"
refusal_text NoTask = codes "error 2 NoTask\n"
refusal_text NotFound = codes "error 2 NotFound\n"
refusal_text Full = codes "error 12 Full\n"
refusal_text JournalFull = codes "error 12 JournalFull\n"
refusal_text Busy = codes "error 16 Busy\n"
refusal_text InUse = codes "error 16 InUse\n"
refusal_text AlreadyThere = codes "error 22 AlreadyThere\n"
refusal_text Pinned = codes "error 22 Pinned\n"
refusal_text Incompatible = codes "error 22 Incompatible\n"
refusal_text NoSymbol = codes "error 22 NoSymbol\n"
refusal_text TaskThere = codes "error 22 TaskThere\n"
refusal_text WrongMode = codes "error 22 WrongMode\n"
refusal_text BadFrame = codes "error 22 BadFrame\n"
refusal_text NotMoving = codes "error 22 NotMoving\n"
refusal_text Exists = codes "error 22 Exists\n"
refusal_text SameValue = codes "error 22 SameValue\n"

-- the answer to a line at fault
abbrev pub fault_text : LineFault → List ℕ
fault_text BadLine = codes "error 22 BadLine\n"
fault_text BadValue = codes "error 22 BadValue\n"
fault_text (Refused refusal) = refusal_text refusal

-- the answer to a `rewind` to more events than the journal has
abbrev pub bad_mark_text : List ℕ
bad_mark_text = codes "error 22 BadMark\n"
