-- How events are stored. Only contracts know which events they are.
use Rattle.klp_journal.specs.declared.journal.StoredEvent.{StoredEvent}
use Rattle.klp_journal.specs.Journal.{Accepted}

-- the event that is stored so
abbrev pub accepted_of : StoredEvent → Accepted
accepted_of logged = record { event = logged.event.value; reply = logged.reply.value; count = logged.count }
