use Rattle.std.proofs.Common.{◌≡◌, ◌-◌, length, Some, rules}
use Rattle.std.specs.Prelude.{slice_get}
use Rattle.klp_capture_report.specs.declared.report.VerdictReport.TheVariants.{Explained as IsExplained}
use Rattle.klp_capture_calm.proofs.CalmLemmas.{may_say}
use Rattle.klp_capture_calm.proofs.calm.is_calm.Goals as goal

pub returns-in-Some : goal.returns-in-Some
returns-in-Some c =
    let transitions = c.args.transitions.now in
    let explained : c.args.verdict ≡ IsExplained = search rules in
    let last : slice_get transitions (length transitions - 1) ≡ Some c.in-Some.last.now = search rules in
    λ same. may_say c.args.capture.now c.args.found.now c.args.verdict transitions c.in-Some.last.now c.is_calm_in.result explained last
    (c.is_calm_in.ensures same)
