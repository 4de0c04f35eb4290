use Rattle.klp_lint.proofs.UndoneLemmas.{harmless_restores}
use Rattle.klp_lint.proofs.undone.left_by.Goals as goal

pub returns-in-None : goal.returns-in-None
returns-in-None g c =
    harmless_restores c.keys_are_in_order.ensures.one (g.V.Variables.values c.args.variables.now) c.args.callbacks.now c.deref.result.now (cc) c.in-None.ensures
