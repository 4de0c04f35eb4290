use Rattle.std.proofs.Common.{◌≡◌, ◌≤◌, length, sym, ap, ◌∙◌, arith}
use Rattle.std.specs.Prelude.{unwrap_or}
use Rattle.klp_types.specs.Image.{object_of}
use Rattle.klp_text.specs.TextImage.{TextImage}
use Rattle.klp_patch.specs.Covered.{is_object_in_scope}
use Rattle.klp_patch.proofs.CoverLemmas.{symbol_count, in_object, behind_object, in_no_object, all_behind}
use Rattle.klp_patch.proofs.covered.covers.Goals as goal

pub loop-object-init : goal.loop-object-init
loop-object-init c = rw (c.site.view_is) (all_behind c.image-image.result.now.image.objects c.args.site)

pub returns-then-left-symbols : goal.returns-then-left-symbols
returns-then-left-symbols c =
    let image = c.image-image.result.now in
    let objects = image.image.objects in
    let i = c.loop-object.object in
    let count : c.unwrap_or-symbols.result ≡ symbol_count objects i = c.unwrap_or-symbols.ensures ∙ ap (λ o. unwrap_or o 0) c.symbols.ensures in
    let here = in_object objects c.args.site i c.loop-object.left c.loop-object.invariant (omega (arith, count, c.if-left-symbols.true)) in
    c.is_in_scope.ensures ∙ sym (ap (is_object_in_scope c.args.only.now image.loaded) here)
    ∙ ap (λ (im : TextImage). is_object_in_scope c.args.only.now im.loaded (object_of im.image.objects c.args.site)) c.image-image.ensures.value

pub loop-object-preserved : goal.loop-object-preserved
loop-object-preserved c =
    let objects = c.image-image.result.now.image.objects in
    let i = c.loop-object.object in
    let count : c.unwrap_or-symbols.result ≡ symbol_count objects i = c.unwrap_or-symbols.ensures ∙ ap (λ o. unwrap_or o 0) c.symbols.ensures in
    rw count (behind_object objects c.args.site i c.loop-object.left c.loop-object.invariant (omega (arith, count, c.if-left-symbols.false)))

pub returns : goal.returns
returns c =
    let image = c.image-image.result.now in
    let objects = image.image.objects in
    let i = c.loop-object.object in
    let past : length objects ≤ i = omega (arith, c.objects-object-end.ensures.count) in
    sym (ap (is_object_in_scope c.args.only.now image.loaded) (in_no_object objects c.args.site i c.loop-object.left c.loop-object.invariant past))
    ∙ ap (λ (im : TextImage). is_object_in_scope c.args.only.now im.loaded (object_of im.image.objects c.args.site)) c.image-image.ensures.value
