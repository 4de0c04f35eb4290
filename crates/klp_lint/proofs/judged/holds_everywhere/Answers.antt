use Rattle.klp_manager_state.specs.Managed.{setting_of}
use Rattle.klp_lint.proofs.JudgedLemmas.{judged_everywhere}
use Rattle.klp_lint.proofs.judged.holds_everywhere.Goals as goal

pub returns : goal.returns
returns g c =
    judged_everywhere c.edits_go_key_by_key.ensures.all (setting_of c.args.manager.now.managed) c.args.manager.now.managed.state c.args.patches.now c.args.patch
    c.modules.result.now c.targets_of.result.now c.judge.result
    (record { names = c.modules.ensures; own = c.targets_of.ensures }) c.judge.ensures.undone c.judge.ensures.apart c.judge.ensures.err
