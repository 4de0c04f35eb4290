use Rattle.std.proofs.Common.{◌≡◌, ◌++◌, false, drop}
use Rattle.klp_story.specs.End.{also_text}
use Rattle.klp_story.proofs.transition.add_also.Given as goal

-- what is written, and what is left to be
abbrev pub invariant-loop-patch : goal.invariant-loop-patch
invariant-loop-patch g l = l.sheet.is_short ≡ false
    → (l.initial.sheet.is_short ≡ false)
    × (l.sheet.text ++ also_text l.catalog (drop l.patch-index l.patches) ≡ l.initial.sheet.text ++ also_text l.catalog l.patches)
