use Rattle.std.proofs.Common.{◌≡◌, ◌+◌, ◌++◌, [], ◌∷◌, length, map, take, sym, ap, ◌∙◌, arith}
use Rattle.std.proofs.lemmas.List.{take_all, take_more, map-append}
use Rattle.std.proofs.lemmas.Grind.{common_steps}
use Rattle.klp_journal.specs.Words.{frame_word}
use Rattle.klp_journal.proofs.PlaceLemmas.{one_more}
use Rattle.klp_journal.proofs.write_words.write_frames.Goals as goal

pub loop-k-preserved : goal.loop-k-preserved
loop-k-preserved c =
    let frames = c.args.frames.now in
    let before = take c.args.at c.args.words.now in
    let frame = c.index-frames-k.result in
    record {
      written = one_more c.loop-k.words before (map frame_word (take c.loop-k.k frames)) c.args.at c.loop-k.k _ (omega arith) c.loop-k.invariant.written
          ∙ ap (λ w. before ++ (map frame_word (take c.loop-k.k frames) ++ w ∷ [])) c.frame_word.ensures.value
          ∙ ap (λ xs. before ++ xs) (sym (map-append frame_word (take c.loop-k.k frames) (frame ∷ [])))
          ∙ ap (λ xs. before ++ map frame_word xs) (ap (λ f. take c.loop-k.k frames ++ f ∷ []) c.index-frames-k.is ∙ sym (take_more frames c.loop-k.k frame c.loop-k-test.true));
      range = λ k d l. grind (arith, common_steps, c.loop-k.invariant.range k d, c.frame_word.ensures.range);
    }

pub returns-clause-written : goal.returns-clause-written
returns-clause-written c =
    let all : c.loop-k.k ≡ length c.args.frames.now = omega arith in
    ap (λ n. take (c.args.at + n) c.loop-k.words) (sym all) ∙ c.loop-k.invariant.written
    ∙ ap (λ xs. take c.args.at c.args.words.now ++ map frame_word xs) (take_all c.loop-k.k c.args.frames.now (omega arith))

pub returns-clause-range : goal.returns-clause-range
returns-clause-range c = λ k d l. c.loop-k.invariant.range k d (omega arith)
