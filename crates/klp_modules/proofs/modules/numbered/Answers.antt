-- One symbol's name more; at the end these are the names of the object.
use Rattle.std.proofs.Common.{◌≡◌, ◌∙◌, ◌≤◌, map, ap, sym, Some, length, arith}
use Rattle.std.specs.Prelude.{slice_get, option_map}
use Rattle.std.proofs.lemmas.List.{length-map, take_all}
use Rattle.klp_types.specs.Image.{Symbol, Object}
use Rattle.klp_modules.specs.Names.{names_of_object}
use Rattle.klp_modules.proofs.NameLaws.{adds_symbol, adds_object, symbol_read, if_some}
use Rattle.klp_modules.proofs.modules.numbered.Goals as goal

pub loop-k-preserved : goal.loop-k-preserved
loop-k-preserved c = λ given found.
    let read = sym c.unwrap-in-loop-k.ensures in
    let at = symbol_read c.args.image.now.image.objects c.args.object c.loop-k.k given c.unwrap-in-loop-k.result.0.now found
    (ap (λ r. option_map (λ f. f.0.now) r) read ∙ c.symbol.ensures.name) in
    adds_symbol _ _ _ given c.loop-k.k _ _ _ _ _ (c.loop-k.invariant given found) c.in_ok-number_of.ensures at c.in_ok-push.ensures.items

pub returns : goal.returns
returns c = if_some (slice_get c.args.image.now.image.objects c.args.object) _ (λ given found.
    let some : Some c.unwrap-count.result ≡ Some (length given.symbols) =
    sym c.unwrap-count.ensures ∙ (c.symbols.ensures ∙ ap (option_map (λ (o : Object). length o.symbols)) found) in
    let count : c.unwrap-count.result ≡ length given.symbols = cc some in
    let past : length (map (λ (s : Symbol). s.name) given.symbols) ≤ c.loop-k.k =
    omega (arith, count, length-map given.symbols (λ (s : Symbol). s.name)) in
    let all = take_all c.loop-k.k (map (λ (s : Symbol). s.name) given.symbols) past in
    let end = rw all at (c.loop-k.invariant given found) in
    adds_object _ _ (names_of_object given) _ end)
