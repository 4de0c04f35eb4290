use Rattle.klp_capture_holders.proofs.HoldingLemmas.{one_past}
use Rattle.klp_capture_holders.proofs.holders.add_past.Goals as goal

pub returns : goal.returns
returns c =
    one_past c.args.list.now.items c.push.new.self.items c.in_ok-entry.entry c.in_ok-push.ensures.items c.in_ok-entry.ensures.still
