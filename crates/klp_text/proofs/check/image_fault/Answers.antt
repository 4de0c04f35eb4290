use Rattle.std.proofs.Common.{rules}
use Rattle.klp_text.proofs.check.image_fault.Goals as goal

pub returns-then-not-begins_with_kernel : goal.returns-then-not-begins_with_kernel
returns-then-not-begins_with_kernel c = search rules
