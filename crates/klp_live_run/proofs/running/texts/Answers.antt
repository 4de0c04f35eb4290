use Rattle.std.proofs.Common.{◌≡◌, ℕ, false, ◌++◌, take, drop, ap, subst, ◌∙◌, arith}
use Rattle.std.specs.List.{slice_get, slice_index_or}
use Rattle.klp_types.specs.declared.limits.TheConstants.{MAX_OBJECTS}
use Rattle.klp_modules.specs.Names.{ModuleTable, names_of}
use Rattle.klp_live_run.specs.Shown.{asks_for_all, asks_for_texts, asks_if}
use Rattle.klp_live_run.proofs.ShownLemmas.{asked_more, asked_all}
use Rattle.klp_live_run.proofs.running.texts.Goals as goal

pub loop-number-preserved : goal.loop-number-preserved
loop-number-preserved g c =
    let number = c.loop-number.number in
    let lines = c.loop-number.lines.items in
    asked_more MAX_OBJECTS (names_of c.args.manager.now.managed.image.objects) c.args.manager.now.managed.state.loaded number lines
    c.add_ask.new.lines.items (asks_for_texts c.args.manager.now) c.loop-number-test.true c.loop-number.invariant
    (c.in_ok-add_ask.ensures
    ∙ ap (λ (m : ModuleTable). lines ++ asks_if (slice_get m.names number) (slice_index_or m.loaded number false)) c.modules-modules.ensures)

pub returns : goal.returns
returns g c =
    let names = names_of c.args.manager.now.managed.image.objects in
    let loaded = c.args.manager.now.managed.state.loaded in
    let lines = c.loop-number.lines.items in
    let all = asks_for_texts c.args.manager.now in
    let ended : c.loop-number.number ≡ MAX_OBJECTS = omega arith in
    asked_all MAX_OBJECTS names loaded lines all
    (subst (λ (n : ℕ). lines ++ asks_for_all (drop n (take MAX_OBJECTS names)) (drop n loaded) ≡ all) ended c.loop-number.invariant)
