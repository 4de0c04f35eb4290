-- The objects so far.
use Rattle.std.proofs.Common.{take}
use Rattle.klp_modules.specs.Kept.{texts_of, AreNumbered}
use Rattle.klp_modules.proofs.modules.numbered_objects.Given as goal

abbrev pub invariant-loop-number : goal.invariant-loop-number
invariant-loop-number l = AreNumbered (texts_of l.names.keys) l.objects.items (take l.number l.image.image.objects)
