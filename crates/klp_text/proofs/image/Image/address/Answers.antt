-- The table has each site of the image, at the address of its symbol.
use Rattle.std.proofs.Common.{◌≡◌, ◌<◌, ◌∙◌, length, ap, sym, arith, Some}
use Rattle.klp_text.proofs.KeptLaws.{site_count_is, site_is}
use Rattle.klp_text.proofs.image.Image.address.Goals as goal

pub index-requires : goal.index-requires
index-requires c =
    let count = site_count_is _ _ _ _ _ c.self.invariant in
    let asked = rw (← c.self.view_is) at c.requires in
    omega (arith, count, asked)

pub returns-clause-value : goal.returns-clause-value
returns-clause-value c =
    let count = site_count_is _ _ _ _ _ c.self.invariant in
    let asked = rw (← c.self.view_is) at c.requires in
    let place : c.from.result ≡ c.args.site = c.from.ensures ∙ c.site.view_is in
    let below : c.from.result < length c.self.inside.sites.items = omega (arith, count, asked) in
    let site = site_is _ _ _ _ _ c.from.result _ c.self.invariant below c.index.ensures in
    rw (← c.self.view_is, ← place, site.at) (ap Some (sym site.stored_is.address))

pub returns-clause-end : goal.returns-clause-end
returns-clause-end c =
    let count = site_count_is _ _ _ _ _ c.self.invariant in
    let asked = rw (← c.self.view_is) at c.requires in
    let below : c.from.result < length c.self.inside.sites.items = omega (arith, count, asked) in
    let site = site_is _ _ _ _ _ c.from.result _ c.self.invariant below c.index.ensures in
    omega (arith, site.stored_is.address, site.long, site.in_range)
