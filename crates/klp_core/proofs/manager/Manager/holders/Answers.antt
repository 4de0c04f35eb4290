use Rattle.std.proofs.Common.{ap, ◌∙◌}
use Rattle.klp_tasks.specs.Members.{has}
use Rattle.klp_manager_state.specs.Managed.{Managed, setting_of, managed_of}
use Rattle.klp_core.specs.Holders.{is_blocked, holders}
use Rattle.klp_core.specs.Journaled.{Journaled}
use Rattle.klp_core.proofs.HoldersLemmas.{lags_same}
use Rattle.klp_core.proofs.manager.Manager.holders.Goals as goal

pub returns : goal.returns
returns g c =
    let state = c.self.inside.state in
    let own = managed_of state c.self.inside.catalog in
    c.lags.ensures
    ∙ lags_same (has c.blocked_now-blocked.result) (is_blocked (setting_of own) own.state) c.blocked_now-blocked.ensures state.moving state.tasks
    ∙ ap (λ (m : Managed). holders (setting_of m) m.state) (ap (λ (j : Journaled). j.managed) c.self.view_is)
