use Rattle.std.proofs.Common.{ap, sym, subst, ◌≤◌, ◌∙◌, rules}
use Rattle.std.specs.FinMap as finite
use Rattle.klp_types.specs.World.{World, Shadow, without_variable}
use Rattle.klp_world.specs.Undo.{undone, HaveEffects}
use Rattle.klp_world.specs.StoredEvent.{rows_of_free}
use Rattle.klp_types.specs.declared.limits.TheConstants.{MAX_VARIABLES}
use Rattle.klp_world.proofs.UndoLemmas.{undone_free}
use Rattle.klp_world.proofs.EffectLemmas.{effective_free}
use Rattle.klp_world.proofs.world.World.free.Goals as goal

pub returns-clause-changes : goal.returns-clause-changes
returns-clause-changes c =
    let made = ap (λ (s : Shadow). record { installed = c.self.inside.patches.items; shadow = s }) c.remove.ensures.map ∙ ap (λ (w : World). without_variable w c.args.key) c.self.view_is in
    record {
      world = made;
      records = search rules;
      undo = ap (λ (w : World). undone w (rows_of_free c.args.self.now c.args.key)) made
          ∙ undone_free c.args.self.now c.args.key (subst (λ (w : World). finite.len w.shadow ≤ MAX_VARIABLES) c.self.view_is c.remove.ensures.bound);
      effective = subst (λ (w : World). HaveEffects w (rows_of_free c.args.self.now c.args.key)) (sym made)
          (effective_free c.args.self.now c.args.key (subst (λ (w : World). finite.len w.shadow ≤ MAX_VARIABLES) c.self.view_is c.remove.ensures.bound));
    }

pub returns-in_default-clause-changes : goal.returns-in_default-clause-changes
returns-in_default-clause-changes c =
    let made = ap (λ (s : Shadow). record { installed = c.self.inside.patches.items; shadow = s }) c.remove.ensures.map ∙ ap (λ (w : World). without_variable w c.args.key) c.self.view_is in
    record {
      world = made;
      records = search rules;
      undo = ap (λ (w : World). undone w (rows_of_free c.args.self.now c.args.key)) made
          ∙ undone_free c.args.self.now c.args.key (subst (λ (w : World). finite.len w.shadow ≤ MAX_VARIABLES) c.self.view_is c.remove.ensures.bound);
      effective = subst (λ (w : World). HaveEffects w (rows_of_free c.args.self.now c.args.key)) (sym made)
          (effective_free c.args.self.now c.args.key (subst (λ (w : World). finite.len w.shadow ≤ MAX_VARIABLES) c.self.view_is c.remove.ensures.bound));
    }
