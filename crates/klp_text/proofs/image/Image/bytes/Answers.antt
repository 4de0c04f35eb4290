-- The object is loaded, and the symbol's site is that of its object and number.
use Rattle.std.proofs.Common.{◌≡◌, ℕ, ◌<◌, ◌≤◌, ◌+◌, ◌∙◌, length, get_or, ap, sym, refl, arith, Bool, true, false, List, Some}
use Rattle.std.proofs.lemmas.Option.{slice_get_read}
use Rattle.klp_types.specs.Image.{Object, first_site}
use Rattle.klp_types.proofs.SiteLemmas.{first_site-below}
use Rattle.klp_text.proofs.KeptLaws.{site_count_is, length-first_sites_from, first_site_is, bytes_at-past, bytes_at-stored}
use Rattle.klp_text.proofs.image.Image.bytes.Goals as goal

pub returns-then-from-len : goal.returns-then-from-len
returns-then-from-len c =
    let read = c.in_ok-get.ensures.lookup in
    let place : c.from-object.result ≡ c.args.object = c.from-object.ensures ∙ c.object.view_is in
    let o = c.from-object.result in
    let objects = c.self.inside.objects.items in
    let there : c.from-object.result < length c.self.inside.objects.items =
    omega (arith, read.3.0, ap length c.deref.ensures.value, c.self.invariant.each_loaded) in
    let loaded : get_or c.self.inside.loaded.items c.from-object.result false ≡ true =
    sym (ap (λ (xs : List Bool). get_or xs c.from-object.result false) c.deref.ensures.value) ∙ (sym (read.3.1 false) ∙ c.if-not-branch.false) in
    let found = slice_get_read objects _ o c.index.result.now refl there c.index.ensures in
    let count : c.len.result ≡ length c.index.result.now.symbols =
    c.len.ensures ∙ (c.behind-self.inside.symbols.ok.0 ∙ ap (λ (object : Object). length object.symbols) c.behind-self.view_is) in
    let past : length c.index.result.now.symbols ≤ c.args.number = omega (arith, count) in
    rw (← c.self.view_is, ← place) (sym (bytes_at-past _ o c.args.number c.index.result.now loaded found past))

pub index-requires-2 : goal.index-requires-2
index-requires-2 c =
    let read = c.in_ok-get.ensures.lookup in
    omega (
      arith,
      read.3.0,
      ap length c.deref.ensures.value,
      c.self.invariant.each_loaded,
      ap length c.self.invariant.first_sites_are,
      length-first_sites_from 0 c.self.inside.objects.items,
    )

pub index-requires-3 : goal.index-requires-3
index-requires-3 c =
    let read = c.in_ok-get.ensures.lookup in
    let o = c.from-object.result in
    let objects = c.self.inside.objects.items in
    let there : c.from-object.result < length c.self.inside.objects.items =
    omega (arith, read.3.0, ap length c.deref.ensures.value, c.self.invariant.each_loaded) in
    let found = slice_get_read objects _ o c.index.result.now refl there c.index.ensures in
    let count : c.len.result ≡ length c.index.result.now.symbols =
    c.len.ensures ∙ (c.behind-self.inside.symbols.ok.0 ∙ ap (λ (object : Object). length object.symbols) c.behind-self.view_is) in
    let first : c.index-2.result.now ≡ first_site c.self.inside.objects.items c.from-object.result =
    first_site_is _ objects _ _ _ o c.index-2.result.now c.self.invariant there c.index-2.ensures in
    omega (arith, count, first, first_site-below objects o c.index.result.now found, site_count_is _ _ _ _ _ c.self.invariant)

pub returns : goal.returns
returns c =
    let read = c.in_ok-get.ensures.lookup in
    let place : c.from-object.result ≡ c.args.object = c.from-object.ensures ∙ c.object.view_is in
    let o = c.from-object.result in
    let objects = c.self.inside.objects.items in
    let there : c.from-object.result < length c.self.inside.objects.items =
    omega (arith, read.3.0, ap length c.deref.ensures.value, c.self.invariant.each_loaded) in
    let loaded : get_or c.self.inside.loaded.items c.from-object.result false ≡ true =
    sym (ap (λ (xs : List Bool). get_or xs c.from-object.result false) c.deref.ensures.value) ∙ (sym (read.3.1 false) ∙ c.if-not-branch.false) in
    let found = slice_get_read objects _ o c.index.result.now refl there c.index.ensures in
    let count : c.len.result ≡ length c.index.result.now.symbols =
    c.len.ensures ∙ (c.behind-self.inside.symbols.ok.0 ∙ ap (λ (object : Object). length object.symbols) c.behind-self.view_is) in
    let below : c.args.number < length c.index.result.now.symbols = omega (arith, count) in
    let first : c.index-2.result.now ≡ first_site c.self.inside.objects.items c.from-object.result =
    first_site_is _ objects _ _ _ o c.index-2.result.now c.self.invariant there c.index-2.ensures in
    let site : c.from-2.result + c.from-3.result ≡ first_site c.self.inside.objects.items c.from-object.result + c.args.number = omega (arith, first) in
    let stored : c.index-3.result.now ≡ get_or c.self.inside.sites.items (first_site c.self.inside.objects.items c.from-object.result + c.args.number) c.index-3.result.now =
    c.index-3.ensures ∙ ap (λ (i : ℕ). get_or c.self.inside.sites.items i c.index-3.result.now) site in
    rw (← c.self.view_is, ← place)
    (ap Some c.as_slice.ensures ∙ sym (bytes_at-stored _ objects _ _ _ o c.args.number _ c.index-3.result.now c.self.invariant loaded found below stored))
