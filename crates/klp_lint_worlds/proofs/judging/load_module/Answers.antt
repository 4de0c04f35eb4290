use Rattle.std.proofs.Common.{ap, ◌∙◌, ◌+◌}
use Rattle.klp_model.specs.declared.event.Event.TheVariants.{Coming}
use Rattle.klp_model.specs.Run.{next}
use Rattle.klp_manager_state.specs.Managed.{Managed, setting_of}
use Rattle.klp_lint_worlds.proofs.ModuleLemmas.{taken_next}
use Rattle.klp_lint_worlds.proofs.judging.load_module.Goals as goal

pub returns-clause-state : goal.returns-clause-state
returns-clause-state g c =
    taken_next c.make_room.new.self c.apply.new.self (Coming (c.args.last + 1)) c.apply.result c.apply.ensures.taken c.make_room.ensures.room
    ∙ ap (λ (m : Managed). next (setting_of m) m.state (Coming (c.args.last + 1))) c.make_room.ensures.same
