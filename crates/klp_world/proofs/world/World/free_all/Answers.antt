use Rattle.std.proofs.Common.{ap, sym, subst, ◌∙◌, ◌≤◌, length, arith, rules}
use Rattle.std.specs.FinMap as finite
use Rattle.klp_types.specs.World.{World, Shadow, without_id}
use Rattle.klp_world.specs.Undo.{undone, HaveEffects}
use Rattle.klp_world.specs.StoredEvent.{rows_of_free_all}
use Rattle.klp_types.specs.declared.limits.TheConstants.{MAX_VARIABLES}
use Rattle.klp_world.proofs.UndoLemmas.{count_parted, undone_free_all}
use Rattle.klp_world.proofs.EffectLemmas.{effective_free_all}
use Rattle.klp_world.proofs.world.World.free_all.Goals as goal

pub overflow_sub-result : goal.overflow_sub-result
overflow_sub-result c =
    let left = ap finite.len c.remove_id.ensures.map in
    let parted = count_parted c.self.inside.shadow c.args.id in
    omega (arith, c.len.ensures.value, c.len-before.ensures.value)

pub returns-clause-answer : goal.returns-clause-answer
returns-clause-answer c =
    let left = ap finite.len c.remove_id.ensures.map in
    let parted = count_parted c.self.inside.shadow c.args.id in
    let rows = ap (λ (w : World). length (rows_of_free_all w c.args.id)) c.self.view_is in
    omega (arith, c.len.ensures.value, c.len-before.ensures.value)

pub returns-clause-count : goal.returns-clause-count
returns-clause-count c =
    let left = ap finite.len c.remove_id.ensures.map in
    let parted = count_parted c.self.inside.shadow c.args.id in
    let before = ap (λ (w : World). finite.len w.shadow) c.self.view_is in
    omega (arith, c.len.ensures.value, c.len-before.ensures.value)

pub returns-clause-changes : goal.returns-clause-changes
returns-clause-changes c =
    let made = ap (λ (s : Shadow). record { installed = c.self.inside.patches.items; shadow = s }) c.remove_id.ensures.map ∙ ap (λ (w : World). without_id w c.args.id) c.self.view_is in
    let few = subst (λ (w : World). finite.len w.shadow ≤ MAX_VARIABLES) c.self.view_is c.remove_id.ensures.bound in
    record {
      world = search rules;
      records = search rules;
      undo = ap (λ (w : World). undone w (rows_of_free_all c.args.self.now c.args.id)) made ∙ undone_free_all c.args.self.now c.args.id few;
      effective = subst (λ (w : World). HaveEffects w (rows_of_free_all c.args.self.now c.args.id)) (sym made) (effective_free_all c.args.self.now c.args.id few);
    }
