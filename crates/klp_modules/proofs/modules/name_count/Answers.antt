-- The symbols of one object more; all together there are few.
use Rattle.std.proofs.Common.{◌≡◌, ◌≤◌, ◌<◌, ◌+◌, ◌∙◌, ◌++◌, [], ℕ, List, length, take, drop, get_or, ap, sym, arith, length-append, Some}
use Rattle.std.specs.Prelude.{option_map}
use Rattle.std.proofs.lemmas.List.{take-append-drop}
use Rattle.std.proofs.lemmas.Option.{slice_get-get_or}
use Rattle.klp_types.specs.Image.{Object, symbols_of}
use Rattle.klp_types.proofs.SiteLemmas.{symbols_of-take, symbols_of-append}
use Rattle.klp_modules.proofs.modules.name_count.Goals as goal

no_object : Object
no_object = record { name = []; symbols = [] }

-- the symbols up to an object are no more than all
few : (objects : List Object) (k : ℕ) → length (symbols_of (take k objects)) ≤ length (symbols_of objects)
few objects k =
    let whole : symbols_of objects ≡ symbols_of (take k objects) ++ symbols_of (drop k objects) =
    ap symbols_of (sym (take-append-drop k objects)) ∙ symbols_of-append (take k objects) (drop k objects) in
    omega (arith, ap length whole, length-append (symbols_of (take k objects)) (symbols_of (drop k objects)))

more : (c : goal.After-from-count-in-loop-number) →
    c.loop-number.count + c.from-count-in-loop-number.result
    ≡ length c.args.image.now.image.objects + length (symbols_of (take (c.loop-number.number + 1) c.args.image.now.image.objects))
more c =
    let objects = c.args.image.now.image.objects in
    let i = c.loop-number.number in
    let below : c.loop-number.number < length c.args.image.now.image.objects = omega (arith, c.objects-number-end.ensures.count) in
    let some : Some c.unwrap.result ≡ Some (length (get_or c.args.image.now.image.objects c.loop-number.number no_object).symbols) =
    sym c.unwrap.ensures ∙ (c.symbols.ensures ∙ ap (option_map (λ (o : Object). length o.symbols)) (slice_get-get_or objects i no_object below)) in
    let own : c.unwrap.result ≡ length (get_or c.args.image.now.image.objects c.loop-number.number no_object).symbols = cc some in
    omega (
      arith,
      own,
      c.from-count-in-loop-number.ensures,
      c.loop-number.invariant,
      ap length (symbols_of-take objects i no_object below),
      length-append (symbols_of (take i objects)) (get_or objects i no_object).symbols,
    )

pub overflow_add-count : goal.overflow_add-count
overflow_add-count c =
    omega (arith, more c, few c.args.image.now.image.objects (c.loop-number.number + 1), c.objects.ensures.limits)

pub loop-number-preserved : goal.loop-number-preserved
loop-number-preserved c = more c
