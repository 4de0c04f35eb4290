use Rattle.std.proofs.Common.{take}
use Rattle.klp_console_io.specs.Says.{Says}
use Rattle.klp_console.specs.Queries.{lines_of, patch_line}
use Rattle.klp_console.proofs.files.say_patch_lines.Given as goal

abbrev pub invariant-loop-patch : goal.invariant-loop-patch
invariant-loop-patch g l = Says (l.initial.answers, g.W.Sink.written l.initial.writer) (l.answers, g.W.Sink.written l.writer) (lines_of (patch_line l.catalog) (take l.patch-index l.patches))
