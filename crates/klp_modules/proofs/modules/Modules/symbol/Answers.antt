-- The table has the symbol of each site.
use Rattle.std.proofs.Common.{◌≡◌, ◌≤◌, ◌∙◌, ap, arith, refl, Some, length}
use Rattle.std.specs.Prelude.{option_map, string_bytes}
use Rattle.std.proofs.lemmas.List.{length-map}
use Rattle.std.proofs.lemmas.Option.{slice_get_read}
use Rattle.klp_modules.specs.Names.{Named}
use Rattle.klp_modules.specs.Kept.{texts_of}
use Rattle.klp_modules.proofs.TableLaws.{symbol_found, symbol_past, name_there}
use Rattle.klp_modules.proofs.modules.Modules.symbol.Goals as goal

pub returns-in_err-symbol-clause-object : goal.returns-in_err-symbol-clause-object
returns-in_err-symbol-clause-object c =
    let place : c.from.result ≡ c.args.site = c.from.ensures ∙ c.site.view_is in
    let behind : length c.self.inside.tables.symbols.items ≤ c.args.site = omega (arith, c.in_err-symbol.ensures.lookup.3, ap length c.deref.ensures.value, place) in
    let past = symbol_past (texts_of c.self.inside.names.keys) c.self.inside.objects.items _ c.args.site c.self.invariant.tabled.by_site
    c.self.invariant.kept.numbered c.self.invariant.kept.apart behind in
    rw (c.from_residual.ensures, ← c.self.view_is) (ap (option_map (λ (s : Named). s.object)) past)

pub returns-in_err-symbol-clause-name : goal.returns-in_err-symbol-clause-name
returns-in_err-symbol-clause-name c =
    let place : c.from.result ≡ c.args.site = c.from.ensures ∙ c.site.view_is in
    let behind : length c.self.inside.tables.symbols.items ≤ c.args.site = omega (arith, c.in_err-symbol.ensures.lookup.3, ap length c.deref.ensures.value, place) in
    let past = symbol_past (texts_of c.self.inside.names.keys) c.self.inside.objects.items _ c.args.site c.self.invariant.tabled.by_site
    c.self.invariant.kept.numbered c.self.invariant.kept.apart behind in
    rw (c.from_residual.ensures, ← c.self.view_is) (ap (option_map (λ (s : Named). s.name)) past)

pub returns-in_err-symbol-clause-position : goal.returns-in_err-symbol-clause-position
returns-in_err-symbol-clause-position c =
    let place : c.from.result ≡ c.args.site = c.from.ensures ∙ c.site.view_is in
    let behind : length c.self.inside.tables.symbols.items ≤ c.args.site = omega (arith, c.in_err-symbol.ensures.lookup.3, ap length c.deref.ensures.value, place) in
    let past = symbol_past (texts_of c.self.inside.names.keys) c.self.inside.objects.items _ c.args.site c.self.invariant.tabled.by_site
    c.self.invariant.kept.numbered c.self.invariant.kept.apart behind in
    rw (c.from_residual.ensures, ← c.self.view_is) (ap (option_map (λ (s : Named). s.position)) past)

pub text-requires : goal.text-requires
text-requires c =
    let read = c.in_ok-symbol.ensures.lookup in
    let at = rw (c.deref.ensures.value) at (slice_get_read c.deref.result.now _ c.from.result c.in_ok-symbol.symbol.now refl read.3.0 read.1) in
    let there = name_there (texts_of c.self.inside.names.keys) c.self.inside.objects.items 0 c.from.result c.in_ok-symbol.symbol.now c.self.invariant.kept.numbered
    (rw (c.self.invariant.tabled.by_site) at at) in
    omega (arith, there, length-map c.self.inside.names.keys string_bytes)

pub returns-clause-object : goal.returns-clause-object
returns-clause-object c =
    let read = c.in_ok-symbol.ensures.lookup in
    let place : c.from.result ≡ c.args.site = c.from.ensures ∙ c.site.view_is in
    let at = rw (c.deref.ensures.value, place) at (slice_get_read c.deref.result.now _ c.from.result c.in_ok-symbol.symbol.now refl read.3.0 read.1) in
    let found = symbol_found (texts_of c.self.inside.names.keys) c.self.inside.objects.items _ c.args.site c.in_ok-symbol.symbol.now c.self.invariant.tabled.by_site
    c.self.invariant.kept.numbered c.self.invariant.kept.apart at in
    rw (← c.self.view_is) (ap (option_map (λ (s : Named). s.object)) found)

pub returns-clause-name : goal.returns-clause-name
returns-clause-name c =
    let read = c.in_ok-symbol.ensures.lookup in
    let place : c.from.result ≡ c.args.site = c.from.ensures ∙ c.site.view_is in
    let at = rw (c.deref.ensures.value, place) at (slice_get_read c.deref.result.now _ c.from.result c.in_ok-symbol.symbol.now refl read.3.0 read.1) in
    let found = symbol_found (texts_of c.self.inside.names.keys) c.self.inside.objects.items _ c.args.site c.in_ok-symbol.symbol.now c.self.invariant.tabled.by_site
    c.self.invariant.kept.numbered c.self.invariant.kept.apart at in
    rw (← c.self.view_is) (ap Some c.text.ensures ∙ ap (option_map (λ (s : Named). s.name)) found)

pub returns-clause-position : goal.returns-clause-position
returns-clause-position c =
    let read = c.in_ok-symbol.ensures.lookup in
    let place : c.from.result ≡ c.args.site = c.from.ensures ∙ c.site.view_is in
    let at = rw (c.deref.ensures.value, place) at (slice_get_read c.deref.result.now _ c.from.result c.in_ok-symbol.symbol.now refl read.3.0 read.1) in
    let found = symbol_found (texts_of c.self.inside.names.keys) c.self.inside.objects.items _ c.args.site c.in_ok-symbol.symbol.now c.self.invariant.tabled.by_site
    c.self.invariant.kept.numbered c.self.invariant.kept.apart at in
    rw (← c.self.view_is) (ap (option_map (λ (s : Named). s.position)) found)
