use Rattle.std.proofs.Common.{refl}
use Rattle.klp_capture_answer.proofs.TransitionLemmas.{last_has_all}
use Rattle.klp_capture_answer.proofs.transitions.transitions_of.Goals as goal

pub returns : goal.returns
returns c =
    last_has_all c.args.found.now c.args.holding.now c.in_ok-transitions.transitions.items c.push.new.self.items c.in_ok-last.last
    c.in_ok-push.ensures.items (c.in_ok-last.ensures refl)
