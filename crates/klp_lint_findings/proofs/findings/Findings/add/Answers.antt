-- The finding is behind all others.
use Rattle.std.proofs.Common.{refl}
use Rattle.klp_lint_findings.specs.declared.findings.Said.{Said}
use Rattle.klp_lint_findings.proofs.SayLemmas.{adds_pushed, says_pushed}
use Rattle.klp_lint_findings.proofs.findings.Findings.add.Goals as goal

pub returns-clause-says : goal.returns-clause-says
returns-clause-says c =
    let before = c.args.self.now in
    let new : Said = record { finding = c.args.finding; about = c.about_of-about.result; world = before.world } in
    says_pushed before (record { linted = before.linted; world = before.world; said = c.push.new.self }) new refl c.in_ok-push.ensures.items

pub returns-clause-adds : goal.returns-clause-adds
returns-clause-adds c =
    let before = c.args.self.now in
    let new : Said = record { finding = c.args.finding; about = c.about_of-about.result; world = before.world } in
    adds_pushed before (record { linted = before.linted; world = before.world; said = c.push.new.self }) new refl refl refl c.in_ok-push.ensures.items
