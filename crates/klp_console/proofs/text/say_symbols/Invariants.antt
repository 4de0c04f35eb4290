use Rattle.std.proofs.Common.{take}
use Rattle.klp_console_io.specs.Says.{Says}
use Rattle.klp_console.specs.Queries.{lines_of, symbol_text}
use Rattle.klp_console.proofs.text.say_symbols.Given as goal

abbrev pub invariant-loop-number : goal.invariant-loop-number
invariant-loop-number g l = Says (l.initial.answers, g.W.Sink.written l.initial.writer) (l.answers, g.W.Sink.written l.writer) (lines_of symbol_text (take l.number l.text))
