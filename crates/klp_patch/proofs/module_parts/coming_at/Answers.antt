use Rattle.std.proofs.Common.{◌≡◌, Bool, false, None, cond, List, [], ◌++◌, ap, sym, subst, ◌∙◌}
use Rattle.klp_types.specs.declared.callback.Which.TheVariants.{Pre, Post}
use Rattle.klp_types.specs.Callbacks.{Call, is_refusing}
use Rattle.klp_catalog.specs.Catalog.{Catalog}
use Rattle.klp_catalog.specs.Runs.{script_at}
use Rattle.klp_patch.specs.Calls.{HaveRun}
use Rattle.klp_patch.specs.Places.{call_at, call_unless_moving}
use Rattle.klp_model.specs.Callbacks.{status_of}
use Rattle.klp_patch.specs.Refusing.{refusal_of}
use Rattle.klp_patch.proofs.LoopLemmas.{refusing-none}
use Rattle.klp_patch.proofs.RanLemmas.{then_ran}
use Rattle.klp_patch.proofs.module_parts.coming_at.Goals as goal

-- pre-patch didn't refuse, so post-patch runs if the patch doesn't move
pub returns-in-None-clause-ran : goal.returns-in-None-clause-ran
returns-in-None-clause-ran g c =
    let first = c.args.catalog.now in
    let next = c.run_pre_at.new.catalog in
    let script = script_at first c.args.patch c.args.place Pre in
    let before = call_at first c.args.patch c.args.place Pre in
    let post = call_unless_moving c.args.moving.now next c.args.patch c.args.place Post in
    let same = ap (λ (k : Catalog). call_unless_moving c.args.moving.now k c.args.patch c.args.place Post) c.run_pre_at.ensures.ran.catalog in
    let none : refusal_of (status_of script) ≡ None = sym c.run_pre_at.ensures.refused ∙ c.in-None.is in
    let goes_on : is_refusing script ≡ false = refusing-none script none in
    let both : HaveRun first c.run_unless_moving.new.catalog c.args.world.now c.run_unless_moving.new.world c.args.log.now c.run_unless_moving.new.log
    (before ++ call_unless_moving c.args.moving.now first c.args.patch c.args.place Post) =
    subst (λ (calls : List Call). HaveRun first c.run_unless_moving.new.catalog c.args.world.now c.run_unless_moving.new.world c.args.log.now c.run_unless_moving.new.log (before ++ calls)) same
    (then_ran c.runs_add_up.ensures first next c.run_unless_moving.new.catalog c.args.world.now c.run_pre_at.new.world c.run_unless_moving.new.world
    c.args.log.now c.run_pre_at.new.log c.run_unless_moving.new.log before post c.run_pre_at.ensures.ran c.run_unless_moving.ensures) in
    subst (λ (b : Bool). HaveRun first c.run_unless_moving.new.catalog c.args.world.now c.run_unless_moving.new.world c.args.log.now c.run_unless_moving.new.log
    (before ++ cond b [] (call_unless_moving c.args.moving.now first c.args.patch c.args.place Post))) (sym goes_on) both
