use Rattle.std.proofs.Common.{◌∙◌, sym, ap, take}
use Rattle.klp_elf.specs.Parts.{is_zero}
use Rattle.klp_elf.proofs.ZeroLemmas.{before_none, found_at}
use Rattle.klp_elf.proofs.table.before_zero.Goals as goal

pub returns-in-Some : goal.returns-in-Some
returns-in-Some c =
    ap (λ n. take n c.args.bytes.now) (found_at is_zero c.args.bytes.now c.in-Some.end (sym c.first_zero.ensures ∙ c.in-Some.is))

pub returns-in-None : goal.returns-in-None
returns-in-None c = sym (before_none is_zero c.args.bytes.now (sym c.first_zero.ensures ∙ c.in-None.is))
