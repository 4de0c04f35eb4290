use Rattle.std.proofs.Common.{eqb, length, get_or, Some, sym, ap, ◌∙◌}
use Rattle.klp_types.specs.declared.record.Record.TheVariants.{StackEntry}
use Rattle.klp_journal.specs.Decoded.{record_of}
use Rattle.klp_journal.proofs.WordLemmas.{if_no}
use Rattle.klp_journal.proofs.small.entry.Goals as goal

pub returns : goal.returns
unfolding record_of
returns c =
    let body = c.args.body.now in
    ap (λ f. StackEntry (get_or body 0 0) (get_or body 1 0) (Some (record { index = get_or body 2 0; func = f }))) c.func_of.ensures
    ∙ ap (StackEntry (get_or body 0 0) (get_or body 1 0)) (sym (if_no (eqb (length body) 2) _ _ (ap (λ n. eqb n 2) c.requires.count)))
