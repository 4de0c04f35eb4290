use Rattle.std.proofs.Common.{ap, sym, ◌∙◌, Some, length, arith}
use Rattle.std.proofs.lemmas.List.{length-append}
use Rattle.klp_types.specs.Records.{RecordList}
use Rattle.klp_types.specs.World.{World}
use Rattle.klp_model.specs.Completing.{from_patch}
use borrow.Author.Tests.{eqb-true}
use Rattle.klp_world.specs.StoredEvent.{rows_of_drop}
use Rattle.klp_manager_state.proofs.RowLemmas.{world_back}
use Rattle.klp_patch_events.proofs.CompleteListLemmas.{own_first, older_dropped, one_fewer, all_dropped}
use Rattle.klp_patch_events.proofs.replaced.drop_older.Goals as goal

pub returns-then-eq-clause-world : goal.returns-then-eq-clause-world
returns-then-eq-clause-world c =
    let first = sym c.oldest.ensures ∙ c.in-Some.is in
    all_dropped c.loop-dropped.world c.args.world.now c.args.patch c.loop-dropped.invariant.left c.loop-dropped.invariant.shadow
    (own_first c.args.patch c.loop-dropped.world.installed (first ∙ ap Some (eqb-true c.in-Some.oldest c.args.patch (sym c.eq.ensures ∙ c.if-eq.true))))

pub loop-dropped-preserved : goal.loop-dropped-preserved
loop-dropped-preserved c =
    let first = sym c.oldest.ensures ∙ c.in-Some.is in
    let world = c.drop_states.ensures.changes.world in
    let rows = rows_of_drop c.loop-dropped.world c.in-Some.oldest in
    let logged = ap (λ (l : RecordList). length l.logged) c.drop_states.ensures.changes.records in
    let both = length-append c.loop-dropped.log.logged rows in
    let few = c.drop_records.ensures.limit in
    let value = c.drop_records.ensures.value in
    let so_far = c.loop-dropped.invariant.records in
    let fewer = one_fewer c.in-Some.oldest c.loop-dropped.world.installed first in
    let installed = ap (λ (w : World). length w.installed) world in
    let sum = c.loop-dropped.invariant.fewer in
    record {
      left = ap (λ (w : World). from_patch c.args.patch w.installed) world
          ∙ older_dropped c.args.patch c.in-Some.oldest c.loop-dropped.world.installed first (sym c.eq.ensures ∙ c.if-eq.false)
          ∙ c.loop-dropped.invariant.left;
      shadow = ap (λ (w : World). w.shadow) world ∙ c.loop-dropped.invariant.shadow;
      fewer = omega (arith, fewer, installed, sum);
      few = c.loop-dropped.invariant.few;
      records = omega (arith, logged, both, few, value, so_far);
      back = λ rows.
          world_back c.loop-dropped.world c.drop_states.new.self c.loop-dropped.log c.drop_states.new.log _
          (c.what_is_logged_is_of_the_world.ensures.drop c.loop-dropped.world c.in-Some.oldest) c.drop_states.ensures.changes.records c.drop_states.ensures.changes.undo c.drop_states.ensures.changes.effective rows
          ∙ c.loop-dropped.invariant.back rows;
      room = ap (λ (l : RecordList). l.room) c.drop_states.ensures.changes.records ∙ c.loop-dropped.invariant.room;
    }

pub returns-then-eq-clause-logged : goal.returns-then-eq-clause-logged
returns-then-eq-clause-logged c = c.loop-dropped.invariant.back

pub returns-clause-logged : goal.returns-clause-logged
returns-clause-logged c = c.loop-dropped.invariant.back
