use Rattle.klp_live_bodies.proofs.ReceiptValue.{is_within, is_in_order, is_reported, is_above}
use Rattle.klp_live_bodies.proofs.laws.outcomes_are_reported_in_order.Goals as goal

pub returns : goal.returns
returns c = record { within = is_within; order = is_in_order; receipts = is_reported; rising = is_above }
