use Rattle.std.proofs.Common.{take}
use Rattle.klp_console_io.specs.Says.{Says}
use Rattle.klp_catalog.specs.Runs.{objects_at}
use Rattle.klp_console.specs.Queries.{lines_of, object_line}
use Rattle.klp_console.proofs.files.say_object_lines.Given as goal

abbrev pub invariant-loop-place : goal.invariant-loop-place
invariant-loop-place g l = Says (l.initial.answers, g.W.Sink.written l.initial.writer) (l.answers, g.W.Sink.written l.writer) (lines_of (object_line l.manager.managed.catalog) (take l.place (objects_at l.manager.managed.catalog l.patch)))
