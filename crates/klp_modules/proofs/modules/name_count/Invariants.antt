-- The objects so far.
use Rattle.std.proofs.Common.{◌≡◌, ◌+◌, length, take}
use Rattle.klp_types.specs.Image.{symbols_of}
use Rattle.klp_modules.proofs.modules.name_count.Given as goal

abbrev pub invariant-loop-number : goal.invariant-loop-number
invariant-loop-number l =
    l.count ≡ length l.image.image.objects + length (symbols_of (take l.number l.image.image.objects))
