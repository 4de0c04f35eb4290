use Rattle.std.proofs.Common.{◌≡◌, ap, sym, subst, ◌∙◌, ℕ, List, [], ◌∷◌, ◌++◌, map, arith}
use Rattle.std.proofs.lemmas.List.{take_all}
use Rattle.klp_types.specs.World.{Installed}
use Rattle.klp_types.specs.World.{World, with_patch}
use Rattle.std.proofs.lemmas.Grind.{common_steps}
use Rattle.klp_world.specs.Undo.{undone, HaveEffects}
use Rattle.klp_world.specs.StoredEvent.{rows_of_add}
use Rattle.klp_world.proofs.UndoLemmas.{undone_add}
use Rattle.klp_world.proofs.EffectLemmas.{effective_add}
use Rattle.klp_world.proofs.world.World.add_states.Goals as goal

pub returns : goal.returns
returns c =
    let now = c.args.self.now in
    let made : ◌≡◌ {A = World} c.put_last.new.self (with_patch now c.args.patch c.args.ids.now) =
    c.put_last.ensures ∙ ap (λ (i : Installed). record now { installed = now.installed ++ i ∷ [] })
    (c.loop-id.invariant.states ∙ ap (λ (ids : List ℕ). record { patch = c.args.patch; values = map (λ id. (id, 0)) ids }) (take_all c.loop-id.id-index c.args.ids.now (omega arith))) in
    record {
      changes = record {
        world = made;
        records = grind (arith, common_steps);
        undo = ap (λ (w : World). undone w (rows_of_add c.args.patch c.args.ids.now)) made ∙ undone_add now c.args.patch c.args.ids.now c.requires.fresh;
        effective = subst (λ (w : World). HaveEffects w (rows_of_add c.args.patch c.args.ids.now)) (sym made) (effective_add now c.args.patch c.args.ids.now c.requires.fresh);
      };
    }
