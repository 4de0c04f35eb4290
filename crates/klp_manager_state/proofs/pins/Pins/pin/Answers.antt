use Rattle.std.proofs.Common.{rules}
use Rattle.klp_manager_state.proofs.RowLemmas.{pinned_now}
use Rattle.klp_manager_state.proofs.pins.Pins.pin.Goals as goal

pub returns-then-not-index-clause-logged : goal.returns-then-not-index-clause-logged
returns-then-not-index-clause-logged c = pinned_now c.args.self.now _ c.args.patch c.args.log.now c.note.new.self (search rules) (search rules) c.note.ensures (search rules)
