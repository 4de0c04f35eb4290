-- The row that a receipt keeps.
use Rattle.klp_model.specs.declared.event.Event.{Event}
use Rattle.klp_model.specs.declared.event.Event.TheVariants.{NewTask, Fork as Forked, EndTask, EnterKernel as Entered, ExitToUser as Exited}
use Rattle.klp_model.specs.declared.event.Reply.{Reply}
use Rattle.klp_model.specs.declared.event.Reply.TheVariants.{Done}
use Rattle.klp_live.specs.declared.kept.TaskEvent.{TaskEvent}
use Rattle.klp_live.specs.declared.kept.TaskEvent.TheVariants.{New, Fork, End, EnterKernel, ExitToUser}
use Rattle.klp_live.specs.declared.kept.Kept.{Kept}
use Rattle.klp_live.specs.declared.kept.Kept.TheVariants.{OfTask, Whole}

-- the event that a kept task event means
abbrev pub event_of : TaskEvent → Event
event_of (New task) = NewTask task
event_of (Fork parent child) = Forked parent child
event_of (End task) = EndTask task
event_of (EnterKernel task) = Entered task
event_of (ExitToUser task) = Exited task

-- the event of the row that a receipt keeps
abbrev pub event_kept : Kept → Event
event_kept (OfTask event) = event_of event
event_kept (Whole row) = row.value.0

-- the reply of the row that a receipt keeps
abbrev pub reply_kept : Kept → Reply
reply_kept (OfTask event) = Done
reply_kept (Whole row) = row.value.1
