use Rattle.std.proofs.Common.{take}
use Rattle.klp_console_io.specs.Says.{Says}
use Rattle.klp_console.specs.Queries.{lines_of, entry_text}
use Rattle.klp_console.proofs.text.say_entries.Given as goal

abbrev pub invariant-loop-entry : goal.invariant-loop-entry
invariant-loop-entry g l = Says (l.initial.answers, g.W.Sink.written l.initial.writer) (l.answers, g.W.Sink.written l.writer) (lines_of (entry_text l.catalog) (take l.entry-index l.entries))
