-- The object of a name is that of its number.
use Rattle.std.proofs.Common.{◌≡◌, ◌∙◌, sym, Some, None}
use Rattle.std.specs.Prelude.{position, bytes_eq}
use Rattle.klp_modules.specs.Kept.{texts_of}
use Rattle.klp_modules.proofs.NameLaws.{position-texts, object_named-absent, object_named-number}
use Rattle.klp_modules.proofs.modules.Modules.object.Goals as goal

pub returns-in_default : goal.returns-in_default
returns-in_default c =
    let none : position (bytes_eq c.args.name.now) (texts_of c.self.inside.names.keys) ≡ None =
    sym (position-texts (bytes_eq c.args.name.now) c.self.inside.names.keys) ∙ sym c.in_default.ensures.index in
    rw (← c.self.view_is) (sym (object_named-absent _ c.self.inside.objects.items c.args.name.now c.self.invariant.kept.numbered none))

pub returns-in_err-place : goal.returns-in_err-place
returns-in_err-place c =
    let some : position (bytes_eq c.args.name.now) (texts_of c.self.inside.names.keys) ≡ Some c.in-Some.number =
    sym (position-texts (bytes_eq c.args.name.now) c.self.inside.names.keys) ∙ sym c.in-Some.ensures.index in
    let is = object_named-number _ c.self.inside.objects.items c.args.name.now c.in-Some.number c.self.invariant.kept.numbered c.self.invariant.kept.apart some in
    rw (← c.self.view_is) (c.from_residual.ensures ∙ (rw (c.deref.ensures.value) at c.in_err-place.ensures ∙ sym is))

pub returns : goal.returns
returns c =
    let some : position (bytes_eq c.args.name.now) (texts_of c.self.inside.names.keys) ≡ Some c.in-Some.number =
    sym (position-texts (bytes_eq c.args.name.now) c.self.inside.names.keys) ∙ sym c.in-Some.ensures.index in
    let is = object_named-number _ c.self.inside.objects.items c.args.name.now c.in-Some.number c.self.invariant.kept.numbered c.self.invariant.kept.apart some in
    rw (← c.self.view_is) (rw (c.deref.ensures.value) at c.in_ok-place.ensures ∙ sym is)
