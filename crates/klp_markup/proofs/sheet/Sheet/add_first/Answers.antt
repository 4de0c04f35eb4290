use Rattle.std.proofs.Common.{subst, arith}
use Rattle.klp_markup.specs.Adds.{Adds}
use Rattle.klp_markup.proofs.EscapedLemmas.{first_shown}
use Rattle.klp_markup.proofs.sheet.Sheet.add_first.Goals as goal

pub returns-clause-adds : goal.returns-clause-adds
returns-clause-adds c =
    subst (Adds c.args.self.now c.add_byte.new.self)
    (first_shown c.args.kept c.shown_bytes-shown.result c.args.byte c.args.text.now (omega arith) c.shown_bytes-shown.ensures c.if-shown-eq0.false)
    c.add_byte.ensures
