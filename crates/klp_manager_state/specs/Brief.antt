-- Replies without frames and values, in a smaller form.
use Rattle.klp_model.specs.declared.event.Reply.{Reply}
use Rattle.klp_model.specs.declared.event.Reply.TheVariants as full
use Rattle.klp_manager_state.specs.declared.brief.Brief.{Brief}
use Rattle.klp_manager_state.specs.declared.brief.Brief.TheVariants.{Done, Started, Reversed, Pending, Completed, PreFailed, Freed}

-- the reply that a brief reply means
abbrev pub reply_of : Brief → Reply
reply_of Done = full.Done
reply_of Started = full.Started
reply_of Reversed = full.Reversed
reply_of (Pending tasks) = full.Pending tasks
reply_of (Completed target) = full.Completed target
reply_of (PreFailed patch object status) = full.PreFailed patch object status
reply_of (Freed count) = full.Freed count
