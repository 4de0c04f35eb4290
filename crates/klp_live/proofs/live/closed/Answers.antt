-- The shares of all seats are the publisher's total, which is the length of its list.
use Rattle.std.proofs.Common.{length, ap, sym, subst, ◌∙◌}
use Rattle.std.specs.List.{All}
use mathlib.Core.List.{IsPrefix}
use Rattle.klp_model.specs.Legal.{History}
use Rattle.klp_live.specs.Admitting.{IsManagerOf}
use Rattle.klp_live.specs.Seats.{Knows}
use Rattle.klp_live.proofs.live.closed.Goals as goal

pub returns : goal.returns
returns g c = record {
  list = c.audit.new.self;
  legal = c.rows-rows.ensures.legal;
  manager_is = subst (λ m. IsManagerOf g.S.Start.setting g.S.Start.base m c.audit.new.self) (sym c.end.ensures.machine) c.end.ensures.kept;
  known = subst (λ (list : History). All (λ (k : Knows). IsPrefix k.list list) c.args.seats.items) (c.front.ensures.front ∙ sym c.audit.ensures.history) c.shares_of-all.ensures.known;
  counted = sym c.shares_of-all.ensures.amount ∙ sym c.audit.ensures.same ∙ c.audit.ensures.whole ∙ ap length (sym c.audit.ensures.history);
}
