-- An object has no more symbols than there are.
use Rattle.std.proofs.Common.{◌≡◌, ◌∙◌, length, ap, sym, arith, refl, Some}
use Rattle.std.specs.List.{slice_get}
use Rattle.std.proofs.lemmas.List.{length-map}
use Rattle.std.proofs.lemmas.Option.{slice_get_read}
use Rattle.klp_modules.specs.Kept.{texts_of, text_at}
use Rattle.klp_modules.proofs.NameLaws.{first_site-count, slice_get-names}
use Rattle.klp_modules.proofs.modules.Modules.symbols.Goals as goal

found : (c : goal.After-len) → slice_get c.self.inside.objects.items c.args.object ≡ Some c.in_ok-object.object.now
found c =
    let read = c.in_ok-object.ensures.lookup in
    let place : c.from.result ≡ c.args.object = c.from.ensures ∙ c.object.view_is in
    rw (← place)
    (rw (c.deref.ensures.value) at (slice_get_read c.deref.result.now _ c.from.result c.in_ok-object.object.now refl read.3.0 read.1))

counted : (c : goal.After-len) → c.len.result ≡ length c.in_ok-object.object.now.symbols.items
counted c = c.len.ensures ∙ c.in_ok-object.object.now.symbols.ok.0

pub overflow_cast-result : goal.overflow_cast-result
overflow_cast-result c =
    let few = first_site-count c.self.inside.objects.items c.args.object c.in_ok-object.object.now (found c) in
    omega (arith, few, counted c, c.self.invariant.kept.few_symbols)

pub returns : goal.returns
returns c =
    let texts = texts_of c.self.inside.names.keys in
    rw (← c.self.view_is, slice_get-names texts c.self.inside.objects.items c.args.object, found c)
    (ap Some (counted c ∙ sym (length-map c.in_ok-object.object.now.symbols.items (text_at texts))))
