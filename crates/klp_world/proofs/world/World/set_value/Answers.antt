use Rattle.std.proofs.Common.{ap, sym, subst, ◌∙◌, arith}
use Rattle.std.proofs.lemmas.Grind.{common_steps}
use Rattle.klp_world.specs.Undo.{undone, HaveEffects}
use Rattle.klp_world.specs.StoredEvent.{rows_of_set}
use Rattle.klp_types.specs.World.{World}
use Rattle.klp_world.proofs.UndoLemmas.{undone_set}
use Rattle.klp_world.proofs.EffectLemmas.{effective_set}
use Rattle.klp_world.proofs.world.World.set_value.Goals as goal

pub returns-then-was-value : goal.returns-then-was-value
returns-then-was-value c = record {
  changes = record {
    world = c.replace_value.ensures.world;
    records = grind (arith, common_steps);
    undo = ap (λ (w : World). undone w (rows_of_set c.args.self.now c.args.patch c.args.id c.args.value)) c.replace_value.ensures.world
        ∙ undone_set c.args.self.now c.args.patch c.args.id c.args.value;
    effective = subst (λ (w : World). HaveEffects w (rows_of_set c.args.self.now c.args.patch c.args.id c.args.value)) (sym c.replace_value.ensures.world)
        (effective_set c.args.self.now c.args.patch c.args.id c.args.value);
  };
}

pub returns-else-was-value : goal.returns-else-was-value
returns-else-was-value c = record {
  changes = record {
    world = c.replace_value.ensures.world;
    records = grind (arith, common_steps);
    undo = ap (λ (w : World). undone w (rows_of_set c.args.self.now c.args.patch c.args.id c.args.value)) c.replace_value.ensures.world
        ∙ undone_set c.args.self.now c.args.patch c.args.id c.args.value;
    effective = subst (λ (w : World). HaveEffects w (rows_of_set c.args.self.now c.args.patch c.args.id c.args.value)) (sym c.replace_value.ensures.world)
        (effective_set c.args.self.now c.args.patch c.args.id c.args.value);
  };
}

pub returns-in_default : goal.returns-in_default
returns-in_default c = record {
  changes = record {
    world = c.replace_value.ensures.world;
    records = grind (arith, common_steps);
    undo = ap (λ (w : World). undone w (rows_of_set c.args.self.now c.args.patch c.args.id c.args.value)) c.replace_value.ensures.world
        ∙ undone_set c.args.self.now c.args.patch c.args.id c.args.value;
    effective = subst (λ (w : World). HaveEffects w (rows_of_set c.args.self.now c.args.patch c.args.id c.args.value)) (sym c.replace_value.ensures.world)
        (effective_set c.args.self.now c.args.patch c.args.id c.args.value);
  };
}
