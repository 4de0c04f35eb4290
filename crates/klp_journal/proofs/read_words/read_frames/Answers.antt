use Rattle.std.proofs.Common.{◌≡◌, ℕ, ◌+◌, ◌<◌, List, ◌++◌, [], ◌∷◌, length, map, take, get_or, sym, ap, subst, ◌∙◌, arith, length-append}
use Rattle.std.proofs.lemmas.Bool.{ltb-true}
use Rattle.std.proofs.lemmas.List.{map_push, take_more, take_all}
use Rattle.std.specs.List.{All}
use Rattle.klp_types.specs.declared.version.Version.{Version}
use Rattle.klp_journal.specs.Words.{frame_word, IsFrame}
use Rattle.klp_journal.proofs.WordLemmas.{all_append, all_cons, all_nil}
use Rattle.klp_journal.proofs.PartLemmas.{frames_found, no_frames_at}
use Rattle.klp_journal.proofs.read_words.read_frames.Goals as goal

pub returns-in_default : goal.returns-in_default
returns-in_default c = no_frames_at c.args.words.now c.loop-word.word-index (omega arith) c.in_default.ensures

read_more : (words : List ℕ) (k : ℕ) (frames longer : List Version) (frame : Version) → k < length words → map frame_word frames ≡ take k words → frame_word frame ≡ get_or words k 0 → longer ≡ frames ++ frame ∷ [] → map frame_word longer ≡ take (k + 1) words
read_more words k frames longer frame l e f g =
    ap (map frame_word) g ∙ map_push frame_word frames frame ∙ ap (λ xs. xs ++ frame_word frame ∷ []) e
    ∙ ap (λ w. take k words ++ w ∷ []) f
    ∙ sym (take_more words k 0 l)

pub loop-word-preserved : goal.loop-word-preserved
loop-word-preserved c =
    let pushed = c.push.ensures.pushed c.if-not-push.false in
    let room : length c.loop-word.frames < 32 = ltb-true _ _ (sym c.push.ensures.full ∙ c.if-not-push.false) in
    record {
      read = read_more c.args.words.now c.loop-word.word-index c.loop-word.frames c.push.new.self c.in-Some.frame (omega arith) c.loop-word.invariant.read c.in-Some.ensures.has.0 pushed;
      few = omega (arith, room, ap length pushed ∙ length-append c.loop-word.frames (c.in-Some.frame ∷ []));
      range = subst (All IsFrame) (sym pushed) (all_append IsFrame c.loop-word.frames (c.in-Some.frame ∷ []) c.loop-word.invariant.range (all_cons IsFrame c.in-Some.frame [] c.in-Some.ensures.has.1 (all_nil IsFrame)));
    }

pub returns : goal.returns
returns c =
    frames_found c.args.words.now c.loop-word.frames (
      c.loop-word.invariant.read ∙ take_all c.loop-word.word-index c.args.words.now (omega arith),
      c.loop-word.invariant.few,
      c.loop-word.invariant.range,
    )
