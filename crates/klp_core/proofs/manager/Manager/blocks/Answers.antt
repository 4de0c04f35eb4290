use Rattle.std.proofs.Common.{ap, ◌∙◌}
use Rattle.klp_manager_state.specs.Managed.{Managed, setting_of}
use Rattle.klp_core.specs.Holders.{is_blocked}
use Rattle.klp_core.specs.Journaled.{Journaled}
use Rattle.klp_core.proofs.manager.Manager.blocks.Goals as goal

pub returns : goal.returns
returns g c =
    c.contains.ensures
    ∙ c.blocked_now.ensures c.args.version
    ∙ ap (λ (m : Managed). is_blocked (setting_of m) m.state c.args.version) (ap (λ (j : Journaled). j.managed) c.self.view_is)
