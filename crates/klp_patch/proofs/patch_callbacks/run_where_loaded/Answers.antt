use Rattle.std.proofs.Common.{List, subst, sym, ◌∙◌}
use Rattle.klp_types.specs.Callbacks.{Call}
use Rattle.klp_patch.specs.Calls.{HaveRun, HasRoomFor}
use Rattle.klp_patch.proofs.RunLemmas.{call_there}
use Rattle.klp_patch.proofs.patch_callbacks.run_where_loaded.Goals as goal

pub run_at-requires : goal.run_at-requires
run_at-requires g c =
    subst (λ (calls : List Call). HasRoomFor c.args.world.now c.args.log.now calls)
    (call_there c.args.catalog.now c.args.modules.now c.args.patch c.args.place c.in-Some.object c.args.which c.in-Some.ensures (sym c.is_loaded.ensures ∙ c.if-is_loaded.true))
    c.requires

pub returns-in-Some-clause-ran : goal.returns-in-Some-clause-ran
returns-in-Some-clause-ran g c =
    subst (λ (calls : List Call). HaveRun c.args.catalog.now c.run_at.new.catalog c.args.world.now c.run_at.new.world c.args.log.now c.run_at.new.log calls)
    (sym (call_there c.args.catalog.now c.args.modules.now c.args.patch c.args.place c.in-Some.object c.args.which c.in-Some.ensures (sym c.is_loaded.ensures ∙ c.if-is_loaded.true)))
    c.run_at.ensures.ran
