-- An object has no more symbols than the image has sites.
use Rattle.std.proofs.Common.{◌≡◌, ◌∙◌, length, ap, arith, refl, Some}
use Rattle.std.specs.List.{slice_get}
use Rattle.std.proofs.lemmas.Option.{slice_get_read}
use Rattle.klp_types.specs.Image.{Object}
use Rattle.klp_text.proofs.KeptLaws.{few_symbols}
use Rattle.klp_text.proofs.image.Image.symbols.Goals as goal

found : (c : goal.After-len) → slice_get c.self.inside.objects.items c.args.object ≡ Some c.in_ok-object.object.now
found c =
    let read = c.in_ok-object.ensures.lookup in
    let place : c.from.result ≡ c.args.object = c.from.ensures ∙ c.object.view_is in
    rw (← place)
    (rw (c.deref.ensures.value) at (slice_get_read c.deref.result.now _ c.from.result c.in_ok-object.object.now refl read.3.0 read.1))

counted : (c : goal.After-len) → c.len.result ≡ length c.in_ok-object.object.now.symbols
counted c = c.len.ensures ∙ (c.object-2.inside.symbols.ok.0 ∙ ap (λ (object : Object). length object.symbols) c.object-2.view_is)

pub overflow_cast-result : goal.overflow_cast-result
overflow_cast-result c =
    let few = few_symbols c.self.inside.objects.items c.args.object _ c.self.invariant.limits.few_sites (found c) in
    omega (arith, few, counted c)

pub returns : goal.returns
returns c = rw (← c.self.view_is, found c) (ap Some (counted c))
