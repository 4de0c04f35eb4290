use Rattle.std.proofs.Common.{[], ap, sym, None, ◌≡◌, ◌∙◌}
use Rattle.klp_types.specs.World.{World, Shadow, with_variable, variable}
use Rattle.klp_world.specs.StoredEvent.{noting, row_if_added}
use Rattle.klp_world.proofs.AddedLemmas.{not_there}
use Rattle.klp_world.proofs.UndoLemmas.{alloc_undone}
use Rattle.klp_world.proofs.EffectLemmas.{alloc_effective}
use Rattle.klp_world.proofs.world.World.alloc_alone.Goals as goal

pub returns-clause-changes : goal.returns-clause-changes
returns-clause-changes c =
    let none : variable c.args.self.now c.args.key ≡ None = ap (λ (w : World). variable w c.args.key) (sym c.self.view_is) ∙ not_there c.self.inside.shadow c.args.key c.in_default.ensures.against in
    let made = ap (λ (s : Shadow). record { installed = c.self.inside.patches.items; shadow = s }) c.in_default.ensures.added ∙ ap (λ (w : World). with_variable w c.args.key c.args.value.now) c.self.view_is in
    record {
      world = made;
      records = c.note.ensures ∙ ap (λ log. noting log (row_if_added c.args.key None)) c.clear.ensures ∙ sym (ap (λ found. noting (record c.args.log.now { logged = [] }) (row_if_added c.args.key found)) none);
      undo = alloc_undone c.args.self.now c.args.key c.args.value.now _ made none;
      effective = alloc_effective c.args.self.now c.args.key c.args.value.now _ made none;
    }
