use Rattle.std.proofs.Common.{◌≡◌, None, get_or, ap, ◌∙◌, arith}
use Rattle.std.proofs.lemmas.List.{get_or-map}
use Rattle.klp_model.specs.Task.{task_at}
use Rattle.klp_manager_state.specs.Managed.{setting_of}
use Rattle.klp_page.specs.Views.{lag_in, outdated_in, stay_by}
use Rattle.klp_page.proofs.view.stay_in.Goals as goal

pub returns : goal.returns
returns g c =
    let managed = c.args.manager.now.managed in
    let tasks = managed.state.tasks in
    let row = task_at tasks c.args.number in
    let own = lag_in (setting_of managed) managed.state in
    let outdated = outdated_in (setting_of managed) managed.state row in
    let lag = get_or c.args.lags.now c.args.number c.index-lags-number.result in
    let is : lag ≡ own row =
    ap (λ lags. get_or lags c.args.number c.index-lags-number.result) c.requires.lags
    ∙ get_or-map own tasks c.args.number None c.index-lags-number.result (omega (arith, c.requires.task, c.mode-rows.ensures.rows)) in
    c.stay_of.ensures ∙ ap (λ moving. stay_by moving lag outdated) c.requires.moving ∙ ap (λ l. stay_by managed.state.moving l outdated) is
