-- One symbol more, and the symbols of one object more.
use Rattle.std.proofs.Common.{◌≡◌, ◌<◌, ◌≤◌, ◌∙◌, List, length, get_or, take, ap, sym, subst, arith}
use Rattle.std.specs.List.{All}
use Rattle.std.proofs.lemmas.List.{take_all}
use Rattle.klp_types.specs.Image.{Symbol, Object, symbols_of}
use Rattle.klp_types.proofs.SiteLemmas.{symbols_of-take}
use Rattle.klp_text.specs.Kept.{IsInRange, IsLong, IsNear, IsResting}
use Rattle.klp_text.proofs.KeptLaws.{All-symbols, AllZip-more}
use Rattle.klp_text.proofs.image.stored_symbols.Goals as goal

pub new-requires-clause-long : goal.new-requires-clause-long
new-requires-clause-long c =
    let i = c.loop-object.object-index in
    let objects = c.args.objects.now in
    let below : c.loop-object.object-index < length c.args.objects.now = omega arith in
    let symbols_are : c.deref-symbol-items.result.now ≡ (get_or c.args.objects.now c.loop-object.object-index c.object-item.result).symbols =
    c.deref-symbol-items.ensures.value ∙ (ap (λ (o : Object). o.symbols) c.object.view_is ∙ ap (λ (o : Object). o.symbols) c.object-item.is) in
    let all : All IsLong c.deref-symbol-items.result.now =
    subst (λ (symbols : List Symbol). All IsLong symbols) (sym symbols_are) (All-symbols IsLong objects i c.object-item.result below c.requires.long) in
    let inside : c.loop-symbol.symbol-index < length c.deref-symbol-items.result.now = omega arith in
    subst IsLong (sym c.symbol-item.is) (all c.loop-symbol.symbol-index c.symbol-item.result inside)

pub new-requires-clause-range : goal.new-requires-clause-range
new-requires-clause-range c =
    let i = c.loop-object.object-index in
    let objects = c.args.objects.now in
    let below : c.loop-object.object-index < length c.args.objects.now = omega arith in
    let symbols_are : c.deref-symbol-items.result.now ≡ (get_or c.args.objects.now c.loop-object.object-index c.object-item.result).symbols =
    c.deref-symbol-items.ensures.value ∙ (ap (λ (o : Object). o.symbols) c.object.view_is ∙ ap (λ (o : Object). o.symbols) c.object-item.is) in
    let all : All IsInRange c.deref-symbol-items.result.now =
    subst (λ (symbols : List Symbol). All IsInRange symbols) (sym symbols_are) (All-symbols IsInRange objects i c.object-item.result below c.requires.range) in
    let inside : c.loop-symbol.symbol-index < length c.deref-symbol-items.result.now = omega arith in
    subst IsInRange (sym c.symbol-item.is) (all c.loop-symbol.symbol-index c.symbol-item.result inside)

pub new-requires-clause-near : goal.new-requires-clause-near
new-requires-clause-near c =
    let i = c.loop-object.object-index in
    let objects = c.args.objects.now in
    let below : c.loop-object.object-index < length c.args.objects.now = omega arith in
    let symbols_are : c.deref-symbol-items.result.now ≡ (get_or c.args.objects.now c.loop-object.object-index c.object-item.result).symbols =
    c.deref-symbol-items.ensures.value ∙ (ap (λ (o : Object). o.symbols) c.object.view_is ∙ ap (λ (o : Object). o.symbols) c.object-item.is) in
    let all : All (IsNear c.args.handler) c.deref-symbol-items.result.now =
    subst (λ (symbols : List Symbol). All (IsNear c.args.handler) symbols) (sym symbols_are) (All-symbols (IsNear c.args.handler) objects i c.object-item.result below c.requires.near) in
    let inside : c.loop-symbol.symbol-index < length c.deref-symbol-items.result.now = omega arith in
    subst (IsNear c.args.handler) (sym c.symbol-item.is) (all c.loop-symbol.symbol-index c.symbol-item.result inside)

pub loop-symbol-preserved : goal.loop-symbol-preserved
loop-symbol-preserved c =
    let before = symbols_of (take c.loop-object.object-index c.args.objects.now) in
    let inside : c.loop-symbol.symbol-index < length c.deref-symbol-items.result.now = omega arith in
    let fresh = c.in_ok-new.ensures in
    AllZip-more (IsResting c.args.handler) _ _ before c.deref-symbol-items.result.now c.loop-symbol.symbol-index _ c.symbol-item.result
    c.loop-symbol.invariant inside c.symbol-item.is c.in_ok-push.ensures.items
    (record { address = fresh.address; offset = fresh.offset; call = fresh.call; flag = fresh.resting; body = fresh.body })

pub loop-object-preserved : goal.loop-object-preserved
loop-object-preserved c =
    let i = c.loop-object.object-index in
    let objects = c.args.objects.now in
    let below : c.loop-object.object-index < length c.args.objects.now = omega arith in
    let past : length c.deref-symbol-items.result.now ≤ c.loop-symbol.symbol-index = omega arith in
    let symbols_are : c.deref-symbol-items.result.now ≡ (get_or c.args.objects.now c.loop-object.object-index c.object-item.result).symbols =
    c.deref-symbol-items.ensures.value ∙ (ap (λ (o : Object). o.symbols) c.object.view_is ∙ ap (λ (o : Object). o.symbols) c.object-item.is) in
    let all : take c.loop-symbol.symbol-index c.deref-symbol-items.result.now ≡ (get_or c.args.objects.now c.loop-object.object-index c.object-item.result).symbols =
    take_all c.loop-symbol.symbol-index c.deref-symbol-items.result.now past ∙ symbols_are in
    rw (symbols_of-take objects i c.object-item.result below, ← all) c.loop-symbol.invariant
