use Rattle.std.proofs.Common.{◌≡◌, ◌+◌, ◌∙◌, ap, arith}
use Rattle.klp_types.specs.Image.{symbols_of}
use Rattle.klp_model.specs.Entries.{entries_of}
use Rattle.klp_patch.proofs.BlockLemmas.{same_blocked}
use Rattle.klp_patch.proofs.laws.the_stacks_tell_what_is_blocked.Goals as goal

pub returns : goal.returns
returns c setting state move stacks count same =
    same_blocked setting state move 0 stacks (symbols_of setting.image.objects) count (λ later. same later ∙ (let here : later ≡ 0 + later = omega arith in ap (entries_of setting state) here))
