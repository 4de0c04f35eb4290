use Rattle.std.proofs.Common.{◌≡◌, ◌++◌, false, drop}
use Rattle.klp_story.specs.Sentences.{anchors_text}
use Rattle.klp_story.proofs.sleepers.add_anchors.Given as goal

-- what is written, and what is left to be
abbrev pub invariant-loop-task : goal.invariant-loop-task
invariant-loop-task l = l.sheet.is_short ≡ false
    → (l.initial.sheet.is_short ≡ false)
    × (l.sheet.text ++ anchors_text l.line (drop l.task-index l.tasks) ≡ l.initial.sheet.text ++ anchors_text l.line l.tasks)
