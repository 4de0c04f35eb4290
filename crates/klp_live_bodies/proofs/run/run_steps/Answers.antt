use Rattle.std.proofs.Common.{◌≡◌, ◌+◌, ◌<◌, [], ◌∷◌, ◌++◌, length, Some, slice_get, option_map, true, refl, ap, sym, subst, ◌∙◌, arith, rules, inl, inr, length-append}
use Rattle.std.specs.Prelude.{Result, Ok, Err, OnErr}
use Rattle.std.specs.Result.{is_err}
use Rattle.std.proofs.lemmas.Option.{slice_get_read}
use Rattle.klp_live_bodies.specs.declared.fault.BodyCause.TheVariants.{NoMemory}
use Rattle.klp_live_bodies.specs.Steps.{submits}
use Rattle.klp_live_bodies.proofs.Runs.{starts_so_far, more_so_far, stops_so_far}
use Rattle.klp_live_bodies.proofs.run.run_steps.Goals as goal

-- what holds where a call is refused
refused : {A E : Type 0} (r : Result A E) (P : Type 0) → true ≡ is_err r → OnErr r P → P
refused (Ok x) P t h = absurd cc
refused (Err e) P t h = h

pub returns-then-is_err : goal.returns-then-is_err
returns-then-is_err g c =
    stops_so_far _ _ _ _ _ _ _ _ _ _ _ NoMemory
    (starts_so_far g.S.Start.setting g.S.Start.base (g.G.Gate.answers c.args.gate.now) c.args.pass.now c.args.pass.now [] c.args.steps.now c.args.out.now.items c.reserve.new.self.items
    refl refl c.reserve.ensures.items c.rows-legal.ensures.legal)
    refl (omega (arith, refused c.reserve.result _ (sym (c.if-is_err.true) ∙ c.is_err.ensures.value) c.reserve.ensures.full, c.args.out.now.ok)) (inl refl)

pub loop-number-init : goal.loop-number-init
loop-number-init g c = (
  [],
  (
    starts_so_far g.S.Start.setting g.S.Start.base (g.G.Gate.answers c.args.gate.now) c.args.pass.now c.args.pass.now c.new-frames.result c.args.steps.now c.args.out.now.items c.reserve.new.self.items
        refl c.new-frames.ensures c.reserve.ensures.items c.rows-legal.ensures.legal,
    refl,
    search rules,
  ),
)

pub returns-in_default : goal.returns-in_default
returns-in_default g c =
    let far = c.loop-number.invariant in
    let step : slice_get c.args.steps.now (length far.0) ≡ Some c.index-steps-number.result =
    subst (λ k. slice_get c.args.steps.now k ≡ Some c.index-steps-number.result) (sym far.1.1) (slice_get_read c.args.steps.now (length c.args.steps.now) c.loop-number.number c.index-steps-number.result refl c.loop-number-test.true c.index-steps-number.is) in
    let less : length far.0 < length c.args.steps.now = subst (λ k. k < length c.args.steps.now) (sym far.1.1) c.loop-number-test.true in
    stops_so_far _ _ _ _ _ _ _ _ _ _ _ NoMemory far.1.0 c.in_default.ensures.none less (inr (ap (option_map submits) step ∙ ap Some c.in_default.ensures.why))

pub loop-number-preserved : goal.loop-number-preserved
loop-number-preserved g c =
    let far = c.loop-number.invariant in
    let step : slice_get c.args.steps.now (length far.0) ≡ Some c.index-steps-number.result =
    subst (λ k. slice_get c.args.steps.now k ≡ Some c.index-steps-number.result) (sym far.1.1) (slice_get_read c.args.steps.now (length c.args.steps.now) c.loop-number.number c.index-steps-number.result refl c.loop-number-test.true c.index-steps-number.is) in
    let lets : g.G.Gate.answers c.args.gate.now c.args.pass.now.task (length far.0) true =
    subst (λ t. g.G.Gate.answers c.args.gate.now t (length far.0) true) c.task-task.ensures (subst (λ k. g.G.Gate.answers c.args.gate.now c.task-task.result k true) (sym far.1.1) c.if-not-waits_for_gate.ensures) in (
      far.0 ++ c.in-Some.outcome ∷ [],
      (
        rw c.push_reserved.ensures.items (more_so_far _ _ _ _ c.loop-number.pass _ _ _ _ _ _ _ c.index-steps-number.result c.in-Some.outcome far.1.0 step lets c.in-Some.ensures.done),
        length-append far.0 (c.in-Some.outcome ∷ []) ∙ ap (λ n. n + 1) far.1.1,
        omega (arith, c.push_reserved.ensures.len, c.push_reserved.ensures.capacity, far.1.2),
      ),
    )
