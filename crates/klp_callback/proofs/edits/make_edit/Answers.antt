use Rattle.std.proofs.Common.{rules, sym, subst}
use Rattle.klp_types.specs.declared.edit.Edit.{Edit}
use Rattle.klp_types.specs.Script.{edited}
use Rattle.klp_world.specs.StoredEvent.{rows_of_edit}
use Rattle.klp_world.specs.Changes.{Changes}
use Rattle.klp_callback.proofs.edits.make_edit.Goals as goal

pub set_value-requires : goal.set_value-requires
set_value-requires c = search rules

pub returns-in-SetData : goal.returns-in-SetData
returns-in-SetData c = record {
  changes = subst (λ (e : Edit). Changes c.args.world.now c.set_value.new.self c.args.log.now c.set_value.new.log (edited c.args.patch c.args.world.now e) (rows_of_edit c.args.patch c.args.world.now e))
      (sym c.in-SetData.is) c.set_value.ensures.changes;
}
