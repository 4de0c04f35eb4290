-- One object more: its site comes first, and its symbols come before those behind it.
use Rattle.std.proofs.Common.{◌≡◌, ◌+◌, ◌<◌, ◌∙◌, length, get_or, drop, ap, arith, append_assoc, length-append}
use Rattle.std.proofs.lemmas.List.{drop_more}
use Rattle.klp_types.specs.Image.{Object, symbols_of}
use Rattle.klp_types.proofs.SiteLemmas.{symbols_of-drop}
use Rattle.klp_text.specs.Kept.{first_sites_from}
use Rattle.klp_text.proofs.image.first_sites.Goals as goal

abbrev object_at : goal.After-len → Object
object_at c = get_or c.args.objects.now c.loop-object.object-index c.object-item.result

counted : (c : goal.After-len) → c.len.result ≡ length (object_at c).symbols
counted c = c.len.ensures ∙ (c.object.inside.symbols.ok.0 ∙ ap (λ (object : Object). length object.symbols) (c.object.view_is ∙ c.object-item.is))

whole : (c : goal.After-len) →
    c.loop-object.site + (c.len.result + length (symbols_of (drop (c.loop-object.object-index + 1) c.args.objects.now)))
    ≡ length (symbols_of c.args.objects.now)
whole c =
    let i = c.loop-object.object-index in
    let objects = c.args.objects.now in
    let below : c.loop-object.object-index < length c.args.objects.now = omega arith in
    let rest = ap length (symbols_of-drop objects i c.object-item.result below) in
    omega (arith, rest, length-append (object_at c).symbols (symbols_of (drop (i + 1) objects)), counted c, c.loop-object.invariant.count)

pub overflow_cast-site : goal.overflow_cast-site
overflow_cast-site c = omega (arith, whole c, c.requires)

pub overflow_add-site : goal.overflow_add-site
overflow_add-site c = omega (arith, whole c, c.requires)

pub loop-object-preserved : goal.loop-object-preserved
loop-object-preserved c =
    let i = c.loop-object.object-index in
    let objects = c.args.objects.now in
    let below : c.loop-object.object-index < length c.args.objects.now = omega arith in
    let rest = ap (first_sites_from c.loop-object.site) (drop_more objects i c.object-item.result below) in
    record {
      sites = rw (c.in_ok-push.ensures.items, append_assoc, counted c) (rw rest at c.loop-object.invariant.sites);
      count = omega (arith, whole c);
    }
