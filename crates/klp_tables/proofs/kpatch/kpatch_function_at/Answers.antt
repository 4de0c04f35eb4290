use Rattle.std.proofs.Common.{◌≡◌, Ok, Err, MatchResult, subst}
use Rattle.klp_tables.specs.Kpatch.{kpatch_function_by, kpatch_meaning}
use Rattle.klp_tables.specs.Rows.{moved}
use Rattle.klp_tables.proofs.kpatch.kpatch_function_at.Goals as goal

pub returns : goal.returns
returns c =
    subst (λ p. MatchResult c.kpatch_function_by.result
    (λ row. kpatch_function_by c.args.elf.now (moved c.args.place 48) (moved c.args.place 40) c.args.place p ≡ Ok (kpatch_meaning row))
    (λ fault. kpatch_function_by c.args.elf.now (moved c.args.place 48) (moved c.args.place 40) c.args.place p ≡ Err fault)) c.moved-3.ensures
    (subst (λ p. MatchResult c.kpatch_function_by.result
    (λ row. kpatch_function_by c.args.elf.now (moved c.args.place 48) p c.args.place c.moved-3.result ≡ Ok (kpatch_meaning row))
    (λ fault. kpatch_function_by c.args.elf.now (moved c.args.place 48) p c.args.place c.moved-3.result ≡ Err fault)) c.moved-2.ensures
    (subst (λ p. MatchResult c.kpatch_function_by.result
    (λ row. kpatch_function_by c.args.elf.now p c.moved-2.result c.args.place c.moved-3.result ≡ Ok (kpatch_meaning row))
    (λ fault. kpatch_function_by c.args.elf.now p c.moved-2.result c.args.place c.moved-3.result ≡ Err fault)) c.moved.ensures
    c.kpatch_function_by.ensures))
