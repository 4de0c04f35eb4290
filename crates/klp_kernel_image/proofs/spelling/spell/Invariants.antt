use Rattle.std.proofs.Common.{◌≡◌, ◌++◌, take}
use Rattle.klp_kernel_image.specs.Names.{spelled}
use Rattle.klp_kernel_image.proofs.spelling.spell.Given as goal

abbrev pub invariant-loop-code : goal.invariant-loop-code
invariant-loop-code l = l.text.items ≡ l.initial.text.items ++ spelled l.tokens (take l.code-index l.codes)
