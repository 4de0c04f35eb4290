use Rattle.std.proofs.Common.{◌≡◌, ◌++◌, false, drop}
use Rattle.klp_story.specs.declared.end.TheConstants.{MAX_HOLDERS}
use Rattle.klp_story.specs.End.{first_lasting, sleepers_text}
use Rattle.klp_story.proofs.end.add_lasting.Given as goal

-- what is written, and what is left to be
abbrev pub invariant-loop-sentence : goal.invariant-loop-sentence
invariant-loop-sentence g l = l.sheet.is_short ≡ false
    → (l.initial.sheet.is_short ≡ false)
    × (l.sheet.text ++ sleepers_text l.names l.catalog (first_lasting l.room (drop l.sentence-index l.sentences))
    ≡ l.initial.sheet.text ++ sleepers_text l.names l.catalog (first_lasting MAX_HOLDERS l.sentences))
