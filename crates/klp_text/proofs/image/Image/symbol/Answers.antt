-- The symbol is there, or the object has no such symbol.
use Rattle.std.proofs.Common.{◌≡◌, ◌≤◌, ◌∙◌, length, ap, arith, refl, Some}
use Rattle.std.proofs.lemmas.Option.{slice_get_read, slice_get_past}
use Rattle.klp_types.specs.Image.{Symbol, Object}
use Rattle.klp_text.proofs.image.Image.symbol.Goals as goal

pub returns-in_default-get : goal.returns-in_default-get
returns-in_default-get c =
    let read = c.in-Some.ensures.lookup in
    let place : c.from.result ≡ c.args.object = c.from.ensures ∙ c.object.view_is in
    let found = rw (c.deref.ensures.value, place) at (slice_get_read c.deref.result.now _ c.from.result c.in-Some.object.now refl read.3.0 read.1) in
    let symbols : c.deref-2.result.now ≡ c.in-Some.object.now.symbols = c.deref-2.ensures.value ∙ ap (λ (o : Object). o.symbols) c.object-2.view_is in
    let behind : length c.in-Some.object.now.symbols ≤ c.args.number = omega (arith, c.in_default-get.ensures.lookup.3, ap length symbols, c.from-2.ensures) in
    let past = slice_get_past c.in-Some.object.now.symbols c.args.number behind in
    record { name = rw (← c.self.view_is, found, past); address = rw (← c.self.view_is, found, past) }

pub returns : goal.returns
returns c =
    let read = c.in-Some.ensures.lookup in
    let place : c.from.result ≡ c.args.object = c.from.ensures ∙ c.object.view_is in
    let found = rw (c.deref.ensures.value, place) at (slice_get_read c.deref.result.now _ c.from.result c.in-Some.object.now refl read.3.0 read.1) in
    let symbols : c.deref-2.result.now ≡ c.in-Some.object.now.symbols = c.deref-2.ensures.value ∙ ap (λ (o : Object). o.symbols) c.object-2.view_is in
    let own = c.in-Some-get.ensures.lookup in
    let there = rw (symbols, c.from-2.ensures) at (slice_get_read c.deref-2.result.now _ c.from-2.result c.in-Some-get.symbol.now refl own.3.0 own.1) in
    record {
      name = rw (← c.self.view_is, found, there) (ap Some (c.as_str.ensures.value ∙ ap (λ (s : Symbol). s.name) c.symbol.view_is));
      address = rw (← c.self.view_is, found, there) (ap Some (ap (λ (s : Symbol). s.address) c.symbol.view_is));
    }
