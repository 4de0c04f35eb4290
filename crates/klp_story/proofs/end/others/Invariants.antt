use Rattle.std.proofs.Common.{◌≡◌, ◌-◌, drop}
use Rattle.std.specs.Prelude.{sum_by}
use Rattle.klp_story.specs.declared.end.TheConstants.{MAX_HOLDERS}
use Rattle.klp_story.specs.End.{first_lasting, tasks_of}
use Rattle.klp_story.proofs.end.others.Given as goal

-- those that are left, without those of the sentences to come
abbrev pub invariant-loop-sentence : goal.invariant-loop-sentence
invariant-loop-sentence l = l.left - sum_by tasks_of (first_lasting l.room (drop l.sentence-index l.fn.sentences))
    ≡ l.fn.sleepers - sum_by tasks_of (first_lasting MAX_HOLDERS l.fn.sentences)
