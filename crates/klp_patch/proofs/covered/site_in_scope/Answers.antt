use Rattle.std.proofs.Common.{sym, ap, subst, ◌∙◌, ◌<◌, ℕ, Option}
use Rattle.std.specs.Option.{IfSome}
use Rattle.klp_types.specs.Setting.{is_at}
use Rattle.klp_text.specs.TextImage.{site_count}
use Rattle.klp_patch.proofs.CoverLemmas.{meant_at, not_meant_at, all_below_count}
use Rattle.klp_patch.proofs.covered.site_in_scope.Goals as goal

pub returns-then-in_scope-clause-site : goal.returns-then-in_scope-clause-site
returns-then-in_scope-clause-site c site =
    let table = c.args.sites.now in
    let only = c.args.only.now in
    let function = c.args.function.now in
    ap (λ o. is_at o site) c.site.ensures
    ∙ meant_at table only function.object function.site c.requires.object site (sym c.requires.scope ∙ c.if-in_scope.true)

pub returns-else-in_scope-clause-site : goal.returns-else-in_scope-clause-site
returns-else-in_scope-clause-site c site =
    let function = c.args.function.now in
    not_meant_at c.args.sites.now c.args.only.now function.object function.site c.requires.object site (sym c.requires.scope ∙ c.if-in_scope.false)

pub returns-then-in_scope-clause-there : goal.returns-then-in_scope-clause-there
returns-then-in_scope-clause-there c =
    let table = c.args.sites.now in
    let function = c.args.function.now in
    let lies = all_below_count table.image.objects function.object function.site c.requires.object in
    subst (λ (n : ℕ). IfSome c.site.result (λ site. site < n)) (sym c.image-image.ensures.sites) (subst (λ (o : Option ℕ). IfSome o (λ site. site < site_count table.image)) (sym c.site.ensures) lies)
