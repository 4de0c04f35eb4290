use Rattle.std.proofs.Common.{take}
use Rattle.klp_console_io.specs.Says.{Says}
use Rattle.klp_catalog.specs.Runs.{callback_runs}
use Rattle.klp_console.specs.Queries.{lines_of, count_text}
use Rattle.klp_console.proofs.runs.say_counts.Given as goal

abbrev pub invariant-loop-which : goal.invariant-loop-which
invariant-loop-which g l = Says (l.initial.answers, g.W.Sink.written l.initial.writer) (l.answers, g.W.Sink.written l.writer) (lines_of (λ which. count_text (callback_runs l.catalog l.patch l.object which)) (take l.which-index l.kinds))
