use Rattle.std.proofs.Common.{eqb, length, get_or, sym, ap}
use Rattle.klp_types.specs.declared.record.Record.TheVariants.{StackEntry}
use Rattle.klp_journal.specs.Decoded.{record_of}
use Rattle.klp_journal.proofs.WordLemmas.{if_yes}
use Rattle.klp_journal.proofs.small.no_entry.Goals as goal

pub returns : goal.returns
unfolding record_of
returns c =
    let body = c.args.body.now in
    ap (StackEntry (get_or body 0 0) (get_or body 1 0)) (sym (if_yes (eqb (length body) 2) _ _ (ap (λ n. eqb n 2) c.requires.count)))
