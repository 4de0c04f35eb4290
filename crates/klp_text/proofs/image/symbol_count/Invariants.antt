-- What is counted and what is left are all symbols.
use Rattle.std.proofs.Common.{◌≡◌, ◌+◌, length, drop}
use Rattle.klp_types.specs.Image.{symbols_of}
use Rattle.klp_text.proofs.image.symbol_count.Given as goal

abbrev pub invariant-loop-object : goal.invariant-loop-object
invariant-loop-object l = l.count + length (symbols_of (drop l.object-index l.objects)) ≡ length (symbols_of l.objects)
