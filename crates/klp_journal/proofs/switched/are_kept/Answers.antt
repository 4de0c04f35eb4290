use Rattle.std.proofs.Common.{map, ap, ◌∙◌}
use Rattle.klp_journal.specs.Decoded.{frame_of}
use Rattle.klp_journal.proofs.WordLemmas.{frames_back}
use Rattle.klp_journal.proofs.switched.are_kept.Goals as goal

pub returns-then-words-own : goal.returns-then-words-own
returns-then-words-own c = λ yes.
    ap (map frame_of) (c.are_same.ensures yes ∙ c.as_words-own.ensures.words) ∙ frames_back c.args.own.now c.as_words-own.ensures.range
