use Rattle.std.proofs.Common.{◌≡◌, ◌++◌, false, drop}
use Rattle.klp_timeline.specs.Shown.{shown_of, shown}
use Rattle.klp_story.specs.Sentences.{sentences_text}
use Rattle.klp_story.proofs.story.add_shown.Given as goal

-- what is written, and what is left to be
abbrev pub invariant-loop-sentence : goal.invariant-loop-sentence
invariant-loop-sentence g l = l.sheet.is_short ≡ false
    → (l.initial.sheet.is_short ≡ false)
    × (l.sheet.text ++ sentences_text l.names l.catalog (shown_of l.excess (drop l.sentence-index l.sentences))
    ≡ l.initial.sheet.text ++ sentences_text l.names l.catalog (shown l.sentences))
