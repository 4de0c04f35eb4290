use Rattle.std.proofs.Common.{◌≡◌, ◌++◌, suc, drop}
use Rattle.klp_timeline.specs.Sentences.{sentences_from, sentences_of}
use Rattle.klp_timeline.proofs.telling.sentences.Given as goal

-- what is said of the lines so far, and of those that are left
abbrev pub invariant-loop-index : goal.invariant-loop-index
invariant-loop-index l = l.list.items ++ sentences_from l.before (suc l.index) (drop l.index l.fn.run) ≡ sentences_of l.fn.opening l.fn.run
