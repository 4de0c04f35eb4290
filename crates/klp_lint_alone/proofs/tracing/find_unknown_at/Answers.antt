use Rattle.std.proofs.Common.{◌≡◌, true, sym, ◌∙◌}
use Rattle.klp_model.specs.State.{is_loaded}
use Rattle.klp_lint_findings.specs.Claims.{IsTrue}
use Rattle.klp_lint_findings.specs.Standing.{standing}
use Rattle.klp_lint_findings.proofs.SayLemmas.{adds_still}
use Rattle.klp_lint_findings.proofs.ClaimLemmas.{ok_adds_as}
use Rattle.klp_lint_alone.specs.Judged.{IsNotUnderstood}
use Rattle.klp_lint_alone.proofs.AloneLemmas.{not_understood_is_true}
use Rattle.klp_lint_alone.proofs.tracing.find_unknown_at.Goals as goal

pub returns-in_default : goal.returns-in_default
returns-in_default g c = adds_still c.args.found.now

pub returns-then-not-is_loaded : goal.returns-then-not-is_loaded
returns-then-not-is_loaded g c = adds_still c.args.found.now

pub returns : goal.returns
returns g c =
    let linted = c.args.found.now.linted in
    let here = standing c.args.manager.now in
    let target = c.in-Some.target.now in
    let loaded : is_loaded here.state target.object ≡ true = sym c.is_loaded.ensures ∙ c.if-not-is_loaded.false in
    ok_adds_as (IsNotUnderstood linted c.args.patch c.args.place) (IsTrue linted here) c.args.found.now c.find_unknown_for.new.found
    c.find_unknown_for.result (not_understood_is_true linted here c.args.patch c.args.place target (sym c.in-Some.ensures) loaded)
    c.find_unknown_for.ensures
