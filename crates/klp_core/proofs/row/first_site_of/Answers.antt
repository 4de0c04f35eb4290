use Rattle.std.proofs.Common.{add-one, arith, sym}
use Rattle.klp_core.proofs.SiteLemmas.{none_before, first_site-next, sites-within}
use Rattle.klp_core.proofs.row.first_site_of.Goals as goal

pub loop-before-init : goal.loop-before-init
loop-before-init c = sym (none_before c.args.image.now.image.objects)

pub overflow_add-site : goal.overflow_add-site
overflow_add-site c =
    omega (arith, c.loop-before.invariant, c.symbols_of-site.ensures.count, c.objects-objects.ensures.limits.few_sites, sites-within c.args.image.now.image.objects c.loop-before.before)

pub loop-before-preserved : goal.loop-before-preserved
loop-before-preserved c =
    rw add-one
    (omega (arith, c.loop-before.invariant, c.symbols_of-site.ensures.count, first_site-next c.args.image.now.image.objects c.loop-before.before))

pub returns-clause-limit : goal.returns-clause-limit
returns-clause-limit c =
    omega (arith, c.loop-before.invariant, c.objects-objects.ensures.limits.few_sites, sites-within c.args.image.now.image.objects c.loop-before.before)
