use Rattle.std.proofs.Common.{◌∙◌, ap, arith}
use Rattle.std.specs.Option.{unwrap_or}
use Rattle.klp_core.proofs.SiteLemmas.{sites-within}
use Rattle.klp_core.proofs.row.symbols_of.Goals as goal

pub returns-clause-limit : goal.returns-clause-limit
returns-clause-limit c =
    let own = c.from.ensures ∙ c.unwrap_or.ensures ∙ ap (λ n. unwrap_or n 0) c.symbols.ensures in
    omega (arith, own, c.objects-objects.ensures.limits.few_sites, sites-within c.args.image.now.image.objects c.args.object)
