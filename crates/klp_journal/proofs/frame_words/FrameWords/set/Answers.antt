use Rattle.std.proofs.Common.{◌≡◌, length, map, take, ap, subst, ◌∙◌, arith}
use Rattle.std.specs.List.{All}
use Rattle.klp_journal.specs.Words.{frame_word, IsFrame, AreFramesOf}
use Rattle.klp_journal.specs.Decoded.{frame_of}
use Rattle.klp_journal.proofs.FrameLemmas.{are_kept}
use Rattle.klp_journal.proofs.frame_words.FrameWords.set.Goals as goal

-- the words that count are those of the frames
kept : (c : goal.After-write_frames) → (map frame_of (take c.count-self-inside.result c.write_frames.new.words) ≡ c.args.frames.now)
    × AreFramesOf (take c.count-self-inside.result c.write_frames.new.words) (map frame_of (take c.count-self-inside.result c.write_frames.new.words))
kept c =
    let all : c.count-self-inside.result ≡ c.write_frames.result = omega (arith, ap length c.as_slice.ensures) in
    are_kept _ c.args.frames.now
    (ap (λ n. take n c.write_frames.new.words) all ∙ c.write_frames.ensures.written ∙ ap (map frame_word) c.as_slice.ensures)
    (omega arith) (subst (All IsFrame) c.as_slice.ensures c.write_frames.ensures.range)

pub invariant_of-self : goal.invariant_of-self
invariant_of-self c = (omega arith, (kept c).1)

pub returns : goal.returns
returns c = (kept c).0
