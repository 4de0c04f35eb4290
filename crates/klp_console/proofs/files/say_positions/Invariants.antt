use Rattle.std.proofs.Common.{take}
use Rattle.klp_console_io.specs.Says.{Says}
use Rattle.std.specs.Prelude.{◌==◌, filter}
use Rattle.klp_catalog.specs.Catalog.{CatalogFunction as FunctionValue}
use Rattle.klp_console.specs.Queries.{lines_of, position_text}
use Rattle.klp_console.proofs.files.say_positions.Given as goal

abbrev pub invariant-loop-function : goal.invariant-loop-function
invariant-loop-function g l = Says (l.initial.answers, g.W.Sink.written l.initial.writer) (l.answers, g.W.Sink.written l.writer) (lines_of position_text (filter (λ (f : FunctionValue). f.object == l.object) (take l.function-index l.functions)))
