use Rattle.std.proofs.Common.{sym, ap, ◌∙◌}
use Rattle.std.specs.Prelude.{not}
use Rattle.klp_watch.proofs.FramesLemmas.{equal_frames, same_frames}
use Rattle.klp_watch.proofs.comparing_answer.is_same_frames.Goals as goal

pub returns : goal.returns
returns c = (
  (λ yes. equal_frames c.args.own.now c.args.other.now (ap not (sym yes ∙ c.eq.ensures))),
  (λ same. c.eq.ensures ∙ same_frames c.args.own.now c.args.other.now same),
)
