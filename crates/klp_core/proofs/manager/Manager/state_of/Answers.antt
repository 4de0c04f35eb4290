use Rattle.std.proofs.Common.{◌&&◌, ap, ◌∙◌}
use Rattle.std.specs.Prelude.{◌==◌, is_some}
use Rattle.std.specs.List.{list_any}
use Rattle.klp_types.specs.Setting.{state_ids}
use Rattle.klp_model.specs.State.{is_installed}
use Rattle.klp_manager_state.specs.Managed.{Managed, setting_of, managed_of}
use Rattle.klp_core.specs.Journaled.{Journaled}
use Rattle.klp_core.proofs.manager.Manager.state_of.Goals as goal

pub returns-clause-there : goal.returns-clause-there
returns-clause-there g c =
    let own = managed_of c.self.inside.state c.self.inside.catalog in
    ap is_some c.value.ensures
    ∙ c.installed_patches_have_their_states.ensures.look (setting_of own) own.state c.args.patch c.args.id c.self.invariant.holds.stated
    ∙ ap (λ (m : Managed). is_installed m.state c.args.patch && list_any (λ id. id == c.args.id) (state_ids (setting_of m) c.args.patch)) (ap (λ (j : Journaled). j.managed) c.self.view_is)
