use Rattle.std.proofs.Common.{◌≡◌, ◌∙◌, sym, ap}
use Rattle.std.specs.Prelude.{◌==◌}
use Rattle.klp_catalog.specs.Catalog.{CatalogFunction as FunctionValue}
use Rattle.klp_console.specs.Queries.{position_text}
use Rattle.klp_console.proofs.LineLemmas.{said_passing, unsaid_failing}
use Rattle.klp_console.proofs.files.say_positions.Goals as goal
use Rattle.klp_console.proofs.files.say_positions.Goals.{then-eq, else-eq}

pub loop-function-preserved : goal.loop-function-preserved
loop-function-preserved g c =
    let functions = c.args.functions.now in
    let own = λ (f : FunctionValue). f.object == c.args.object in
    let is_own : own c.function-item.result ≡ c.eq.result = ap (λ object. object == c.args.object) (sym c.object.ensures) ∙ sym c.eq.ensures in
    elim c.if-eq.branch [
      | then-eq w ↦ rw (w.answers-is, w.writer-is) (
          said_passing position_text own functions c.loop-function.function-index c.function-item.result _ _ c.loop-function-test.true c.function-item.is
          (is_own ∙ w.if-eq.true)
          (c.what_is_said_adds_up.ensures.adds_up _ _ _ _ _ c.loop-function.invariant w.say_function.ensures))
      | else-eq w ↦ rw (w.answers-is, w.writer-is) (
          unsaid_failing position_text own functions c.loop-function.function-index c.function-item.result _ _ c.loop-function-test.true c.function-item.is
          (is_own ∙ w.if-eq.false)
          c.loop-function.invariant)
    ]
