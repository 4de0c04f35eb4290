use Rattle.std.proofs.Common.{◌∙◌, ap, sym, length, arith}
use Rattle.klp_types.specs.Compatible.{SystemState}
use Rattle.klp_catalog_text.specs.PlanParts.{last_of, states_of, names_state}
use Rattle.klp_catalog_text.proofs.DraftLemmas.{kept-state}
use Rattle.klp_catalog_text.proofs.draft.Draft.place_state.Goals as goal

pub invariant_of-self-2 : goal.invariant_of-self-2
invariant_of-self-2 c =
    let plain = ap (λ patches. states_of (last_of patches)) c.deref.ensures.value in
    let states = c.open_states-states.ensures ∙ plain in
    kept-state c.self.invariant c.args.state c.push_state.new.patches.items
    (ap (names_state c.args.state.id) (sym states) ∙ ap (λ (s : SystemState). names_state s.id c.open_states-states.result.now) (sym c.state.view_is) ∙ sym c.if-names_state.ensures)
    (omega (arith, ap length states)) c.in_ok-push_state.ensures.ok
