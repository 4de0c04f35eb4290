-- The object's name has a number, and that number the name as its text.
use Rattle.std.proofs.Common.{◌≡◌, ◌∙◌, ap, arith, refl, Some}
use Rattle.std.specs.Prelude.{string_bytes}
use Rattle.std.proofs.lemmas.List.{length-map}
use Rattle.std.proofs.lemmas.Option.{slice_get_read}
use Rattle.klp_modules.specs.Kept.{texts_of}
use Rattle.klp_modules.proofs.NameLaws.{slice_get-names, texts_there}
use Rattle.klp_modules.proofs.modules.Modules.object_name.Goals as goal

pub text-requires : goal.text-requires
text-requires c =
    let read = c.in_ok-object.ensures.lookup in
    let found = rw (c.deref.ensures.value) at (slice_get_read c.deref.result.now _ c.from.result c.in_ok-object.object.now refl read.3.0 read.1) in
    let there = texts_there _ _ _ _ c.self.invariant.kept.numbered found in
    omega (arith, there.name, length-map c.self.inside.names.keys string_bytes)

pub returns : goal.returns
returns c =
    let read = c.in_ok-object.ensures.lookup in
    let place : c.from.result ≡ c.args.object = c.from.ensures ∙ c.object.view_is in
    let texts = texts_of c.self.inside.names.keys in
    let found = rw (c.deref.ensures.value) at (slice_get_read c.deref.result.now _ c.from.result c.in_ok-object.object.now refl read.3.0 read.1) in
    rw (← c.self.view_is, ← place, slice_get-names texts c.self.inside.objects.items c.from.result, found) (ap Some c.text.ensures)
