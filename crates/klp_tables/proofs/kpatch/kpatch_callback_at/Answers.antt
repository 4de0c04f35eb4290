use Rattle.std.proofs.Common.{◌≡◌, Ok, Err, MatchResult, subst}
use Rattle.klp_tables.specs.Kpatch.{kpatch_callback_by}
use Rattle.klp_tables.proofs.kpatch.kpatch_callback_at.Goals as goal

pub returns : goal.returns
returns c =
    subst (λ p. MatchResult c.kpatch_callback_by.result (λ name. kpatch_callback_by c.args.elf.now c.args.place p ≡ Ok name.now)
    (λ fault. kpatch_callback_by c.args.elf.now c.args.place p ≡ Err fault)) c.moved.ensures c.kpatch_callback_by.ensures
