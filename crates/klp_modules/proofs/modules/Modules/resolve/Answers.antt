-- A name without a number is no symbol's, and a number stands for one name, whose symbols the table has.
use Rattle.std.proofs.Common.{◌≡◌, ◌∙◌, List, length, ap, sym, arith, refl, Some, None}
use Rattle.std.specs.Prelude.{position, bytes_eq}
use Rattle.klp_modules.specs.Kept.{texts_of}
use Rattle.std.proofs.lemmas.Option.{slice_get_read}
use Rattle.klp_modules.specs.Names.{picked}
use Rattle.klp_modules.specs.NamedSites.{sites_of}
use Rattle.klp_modules.specs.declared.named_sites.NamedSite.{NamedSite}
use Rattle.klp_modules.proofs.NameLaws.{position-texts, number_found, resolved_absent}
use Rattle.klp_modules.proofs.TableLaws.{resolved_tabled}
use Rattle.klp_modules.proofs.modules.Modules.resolve.Goals as goal

pub returns-in_default : goal.returns-in_default
returns-in_default c =
    let none : position (bytes_eq c.args.name.now) (texts_of c.self.inside.names.keys) ≡ None =
    sym (position-texts (bytes_eq c.args.name.now) c.self.inside.names.keys) ∙ sym c.in_default.ensures.index in
    rw (← c.self.view_is) (sym (resolved_absent _ c.self.inside.objects.items c.args.object c.args.position c.args.name.now c.self.invariant.kept.numbered none))

pub returns-in_default-get : goal.returns-in_default-get
returns-in_default-get c =
    let some : position (bytes_eq c.args.name.now) (texts_of c.self.inside.names.keys) ≡ Some c.in-Some.number =
    sym (position-texts (bytes_eq c.args.name.now) c.self.inside.names.keys) ∙ sym c.in-Some.ensures.index in
    let there = number_found c.args.name.now (texts_of c.self.inside.names.keys) c.in-Some.number some in
    absurd (omega (arith, c.in_default-get.ensures.lookup.3, ap length c.deref.ensures.value, c.self.invariant.tabled.each_name, there.0))

pub returns : goal.returns
returns c =
    let read = c.in-Some-get.ensures.lookup in
    let some : position (bytes_eq c.args.name.now) (texts_of c.self.inside.names.keys) ≡ Some c.in-Some.number =
    sym (position-texts (bytes_eq c.args.name.now) c.self.inside.names.keys) ∙ sym c.in-Some.ensures.index in
    let at = rw (c.deref.ensures.value) at (slice_get_read c.deref.result.now _ c.in-Some.number c.in-Some-get.sites.now refl read.3.0 read.1) in
    let is = resolved_tabled _ c.self.inside.objects.items _ c.args.object c.args.position _ c.args.name.now c.in-Some-get.sites.now.items c.self.invariant.kept.numbered
    c.self.invariant.kept.apart c.self.invariant.tabled.by_site some (c.self.invariant.tabled.by_name c.in-Some.number c.in-Some-get.sites.now at) in
    rw (← c.self.view_is) (c.pick.ensures ∙ (ap (λ (named : List NamedSite). picked (sites_of c.args.object named) c.args.position) c.deref-2.ensures ∙ sym is))
