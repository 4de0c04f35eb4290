use Rattle.std.proofs.Common.{ap, sym, ◌∙◌, map, option_map, List, refl}
use Rattle.klp_types.specs.declared.version.Version.{Version}
use Rattle.klp_patch.specs.Blocked.{blocked_at}
use Rattle.klp_model.specs.Blocked.{switched}
use Rattle.klp_types.specs.Records.{RecordList}
use Rattle.klp_manager_state.specs.Rows.{rows_in, before_logged}
use Rattle.klp_manager_state.proofs.RowLemmas.{switched_back}
use Rattle.klp_manager_state.specs.Managed.{setting_in, state_in}
use Rattle.klp_patch_events.proofs.CompleteTaskLemmas.{own_in, functions_in_stacks}
use Rattle.klp_patch_events.proofs.completing.switch_sleepers.Goals as goal

pub block-requires-clause-number : goal.block-requires-clause-number
block-requires-clause-number g c =
    functions_in_stacks c.entries_are_of_their_patches.ensures.functions c.args.state.now c.args.catalog.now c.patches.ensures.limits.each_within c.requires.entries

pub block-requires-clause-own : goal.block-requires-clause-own
block-requires-clause-own g c =
    own_in c.entries_are_of_their_patches.ensures.own c.args.state.now c.args.catalog.now c.requires.entries c.args.moving.now.patch

pub returns-clause-parts : goal.returns-clause-parts
returns-clause-parts g c =
    let before = c.args.state.now in
    let move = c.args.moving.now in
    let stacks = before.sites.stacks in
    let same = c.the_stacks_tell_what_is_blocked.ensures (setting_in before c.args.catalog.now) (state_in before c.args.catalog.now) move stacks
    (sym c.sites.ensures.value ∙ c.sites.ensures.image) c.requires.entries in
    let tasks = c.try_all.ensures.tasks (blocked_at 0 move stacks) c.block.ensures
    ∙ ap (λ (versions : List Version). map (option_map (switched versions move.target)) before.tasks) same in
    ap (λ tasks. record before { tasks = tasks; blocked = c.block.new.blocked; log = c.try_all.new.log }) tasks

pub returns-clause-logged : goal.returns-clause-logged
returns-clause-logged g c =
    let rows = rows_in c.args.state.now in
    switched_back c.args.state.now.tasks c.try_all.new.self c.try_all.new.self c.args.state.now.log c.try_all.new.log refl c.try_all.ensures.records c.try_all.ensures.undo rows
    ∙ ap (λ (l : RecordList). before_logged rows l) c.requires.log
