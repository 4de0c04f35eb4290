use Rattle.std.proofs.Common.{◌≡◌, ◌∙◌, ap, sym, true, false, add-zero, refl, arith, length}
use Rattle.klp_types.specs.declared.limits.TheConstants.{MAX_TASKS}
use Rattle.klp_model.specs.Task.{task_at}
use Rattle.klp_model.specs.Blocked.{lags}
use Rattle.klp_tasks.proofs.WalkLemmas.{row_read, count_started, counted_past, counted_all, few_counted}
use Rattle.klp_tasks.proofs.tasks.Tasks.lagging.Goals as goal

pub loop-number-init : goal.loop-number-init
loop-number-init c =
    let long : length c.args.self.now ≡ MAX_TASKS = rw (← c.self.view_is) (omega arith) in
    count_started (lags c.args.target) refl c.self.inside.numbers.bits c.args.self.now long (rw (← c.self.view_is) c.self.invariant.3)

pub overflow_add-count : goal.overflow_add-count
overflow_add-count c =
    let long : length c.args.self.now ≡ MAX_TASKS = rw (← c.self.view_is) (omega arith) in
    omega (arith, few_counted (lags c.args.target) c.loop-number.left.bits c.loop-number.count c.args.self.now long c.loop-number.invariant)

pub loop-number-preserved-then-lags : goal.loop-number-preserved-then-lags
loop-number-preserved-then-lags c =
    let is = c.in-Some.ensures.some in
    let long : length c.args.self.now ≡ MAX_TASKS = rw (← c.self.view_is) (omega arith) in
    let row : c.index.result.now ≡ task_at c.args.self.now c.in-Some.number =
    rw (← c.self.view_is) (row_read c.self.inside.rows.items c.in-Some.number c.from.result c.index.result.now c.index.ensures c.from.ensures is.within (omega arith)) in
    counted_past (lags c.args.target) refl c.loop-number.left.bits c.args.self.now long c.in-Some.number c.take_lowest.new.self.bits is c.loop-number.count c.loop-number.invariant true
    (ap (lags c.args.target) (sym row) ∙ sym c.if-lags.ensures)

pub loop-number-preserved : goal.loop-number-preserved
loop-number-preserved c =
    let is = c.in-Some.ensures.some in
    let long : length c.args.self.now ≡ MAX_TASKS = rw (← c.self.view_is) (omega arith) in
    let row : c.index.result.now ≡ task_at c.args.self.now c.in-Some.number =
    rw (← c.self.view_is) (row_read c.self.inside.rows.items c.in-Some.number c.from.result c.index.result.now c.index.ensures c.from.ensures is.within (omega arith)) in
    rw add-zero at
    (
    counted_past (lags c.args.target) refl c.loop-number.left.bits c.args.self.now long c.in-Some.number c.take_lowest.new.self.bits is c.loop-number.count c.loop-number.invariant false
    (ap (lags c.args.target) (sym row) ∙ sym c.if-lags.ensures)
    )

pub returns : goal.returns
returns c =
    let long : length c.args.self.now ≡ MAX_TASKS = rw (← c.self.view_is) (omega arith) in
    counted_all (lags c.args.target) refl c.loop-number.left.bits c.args.self.now long c.loop-number.count c.loop-number.invariant c.in_default.ensures.none
