-- The patch and its object are found; the kinds of the object's callbacks tell how far the one that is meant is behind the first.
use Rattle.std.proofs.Common.{◌≡◌, ◌+◌, ℕ, Some, None, Option, slice_get, option_map, refl, sym, ap, ◌∙◌, rules, tests}
use Rattle.std.specs.Prelude.{position}
use Rattle.std.proofs.lemmas.Iterator.{YieldsList-from_slice}
use Rattle.std.proofs.lemmas.Iterator.Search.{position_from_yields_List}
use Rattle.klp_types.specs.declared.callback.Which.{Which}
use Rattle.klp_types.specs.Callbacks.{is_kind}
use Rattle.klp_catalog.specs.Stored.{StoredPatch, number_in}
use Rattle.klp_catalog.proofs.RunLemmas.{seen_here}
use Rattle.klp_catalog.proofs.PatchLemmas.{number_there}
use Rattle.klp_catalog.proofs.patch.number_of.Goals as goal

pub returns-in_err-place : goal.returns-in_err-place
returns-in_err-place c =
    let kinds = c.target.inside.kinds.items in
    let none : ◌≡◌ {A = Option ℕ} None (position (λ (w : Which). is_kind w c.args.which) kinds) =
    position_from_yields_List (λ (w : Which). is_kind w c.args.which) _ _ _ c.in_err-place.ensures.ran (YieldsList-from_slice kinds cc) (λ x b q k. search (rules, tests)) in
    let patch = seen_here c.args.patches.now c.from.result c.args.patch c.in_ok-patch.patch.now (c.from.ensures ∙ c.patch.view_is) c.in_ok-patch.ensures.lookup.3.0 c.in_ok-patch.ensures.lookup.1 in
    let target =
    ap (λ (p : StoredPatch). slice_get p.targets c.args.place) (sym c.patch-2.view_is) ∙ ap (λ ts. slice_get ts c.args.place) (sym c.deref.ensures)
    ∙ seen_here c.deref.result.now c.args.place c.args.place c.in_ok-target.target.now refl c.in_ok-target.ensures.lookup.3.0 c.in_ok-target.ensures.lookup.1
    in
    c.from_residual-in_err-place.ensures
    ∙ sym (number_there c.args.patches.now c.args.patch c.args.place c.args.which c.in_ok-patch.patch.now c.in_ok-target.target.now patch target
    ∙ ap (number_in c.args.which) (sym c.target.view_is) ∙ ap (option_map (λ place. c.target.inside.first + place)) (sym none))

pub returns : goal.returns
returns c =
    let kinds = c.target.inside.kinds.items in
    let some : ◌≡◌ {A = Option ℕ} (Some c.in_ok-place.place) (position (λ (w : Which). is_kind w c.args.which) kinds) =
    position_from_yields_List (λ (w : Which). is_kind w c.args.which) _ _ _ c.in_ok-place.ensures.ran (YieldsList-from_slice kinds cc) (λ x b q k. search (rules, tests)) in
    let patch = seen_here c.args.patches.now c.from.result c.args.patch c.in_ok-patch.patch.now (c.from.ensures ∙ c.patch.view_is) c.in_ok-patch.ensures.lookup.3.0 c.in_ok-patch.ensures.lookup.1 in
    let target =
    ap (λ (p : StoredPatch). slice_get p.targets c.args.place) (sym c.patch-2.view_is) ∙ ap (λ ts. slice_get ts c.args.place) (sym c.deref.ensures)
    ∙ seen_here c.deref.result.now c.args.place c.args.place c.in_ok-target.target.now refl c.in_ok-target.ensures.lookup.3.0 c.in_ok-target.ensures.lookup.1
    in
    sym (number_there c.args.patches.now c.args.patch c.args.place c.args.which c.in_ok-patch.patch.now c.in_ok-target.target.now patch target
    ∙ ap (number_in c.args.which) (sym c.target.view_is) ∙ ap (option_map (λ place. c.target.inside.first + place)) (sym some))
