use Rattle.std.proofs.Common.{inl}
use Rattle.klp_lint_findings.proofs.SetLemmas.{inserted}
use Rattle.klp_lint_findings.proofs.lists.FunctionSet.insert_if.Goals as goal

pub returns-then-belongs : goal.returns-then-belongs
returns-then-belongs c = inserted c.args.self.now.flags c.insert.new.self.flags c.args.number c.args.belongs c.if-belongs.true c.insert.ensures
