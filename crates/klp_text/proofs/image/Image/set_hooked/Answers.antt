-- The symbol of the site is written anew, and no other.
use Rattle.std.proofs.Common.{◌≡◌, ◌<◌, ◌∙◌, length, ap, arith}
use Rattle.klp_text.proofs.KeptLaws.{site_count_is, site_is, stored_long, kept-set_hooked, hooked_of-set}
use Rattle.klp_text.proofs.image.Image.set_hooked.Goals as goal

pub index_mut-requires : goal.index_mut-requires
index_mut-requires c =
    let count = site_count_is _ _ _ _ _ c.self.invariant in
    let asked = rw (← c.self.view_is) at c.requires in
    omega (arith, count, asked)

pub set_hooked-requires : goal.set_hooked-requires
set_hooked-requires c =
    let count = site_count_is _ _ _ _ _ c.self.invariant in
    let asked = rw (← c.self.view_is) at c.requires in
    let below : c.from.result < length c.self.inside.sites.items = omega (arith, count, asked) in
    let site = site_is _ _ _ _ _ c.from.result _ c.self.invariant below c.index_mut.ensures.value in
    stored_long _ _ _ site.long site.stored_is

pub invariant_of-self : goal.invariant_of-self
invariant_of-self c =
    let count = site_count_is _ _ _ _ _ c.self.invariant in
    let asked = rw (← c.self.view_is) at c.requires in
    let below : c.from.result < length c.self.inside.sites.items = omega (arith, count, asked) in
    kept-set_hooked _ c.args.hooked _ _ _ _ _ _ _ c.self.invariant below c.index_mut.ensures.value
    c.set_hooked.ensures.address c.set_hooked.ensures.offset c.set_hooked.ensures.call c.set_hooked.ensures.flag c.set_hooked.ensures.body

pub returns : goal.returns
returns c =
    let place : c.from.result ≡ c.args.site = c.from.ensures ∙ c.site.view_is in
    rw (← c.self.view_is, ← place)
    (ap (λ hooked. record { image = record { handler = c.self.inside.handler; objects = c.self.inside.objects.items }; loaded = c.self.inside.loaded.items; hooked = hooked })
    (hooked_of-set c.self.inside.sites.items c.from.result _ c.args.hooked c.set_hooked.ensures.flag))
