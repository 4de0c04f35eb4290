use Rattle.std.proofs.Common.{arith, length, ◌∙◌, ap, sym}
use Rattle.klp_types.specs.Script.{Script}
use Rattle.klp_catalog_text.specs.PlanParts.{last_of, targets_of, callbacks_of, has_which}
use Rattle.klp_catalog_text.proofs.DraftLemmas.{kept-callback}
use Rattle.klp_catalog_text.proofs.draft.Draft.place_callback.Goals as goal

pub invariant_of-self-2 : goal.invariant_of-self-2
invariant_of-self-2 c =
    let plain = ap (λ patches. callbacks_of (last_of (targets_of (last_of patches)))) c.deref.ensures.value in
    let callbacks = c.last_callbacks.ensures ∙ ap (λ targets. callbacks_of (last_of targets)) c.open_targets-targets.ensures ∙ plain in
    kept-callback c.self.invariant (record { which = c.args.which; script = c.in-Some.script }) c.push_callback.new.patches.items
    (omega (arith, c.in-Some.ensures.0, ap (λ (s : Script). length s.edits) c.in-Some.ensures.1))
    (ap (has_which c.args.which) (sym callbacks) ∙ sym c.if-has_which.ensures) c.in_ok-push_callback.ensures.ok
