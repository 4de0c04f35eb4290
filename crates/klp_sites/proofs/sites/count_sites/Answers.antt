use Rattle.std.proofs.Common.{◌∙◌, add-one, ap, arith}
use Rattle.std.specs.Option.{unwrap_or}
use Rattle.klp_sites.proofs.TableLemmas.{count_more}
use Rattle.klp_sites.proofs.sites.count_sites.Goals as goal

pub loop-object-preserved : goal.loop-object-preserved
loop-object-preserved c =
    let own = c.from-sites.ensures ∙ c.unwrap_or.ensures ∙ ap (λ n. unwrap_or n 0) c.symbols.ensures in
    rw add-one
    (omega (arith, own, c.loop-object.invariant, count_more c.args.image.now.image.objects c.loop-object.object))
