use Rattle.std.proofs.Common.{sym, subst, ◌∙◌}
use Rattle.klp_tasks.specs.Members.{IsSetOf}
use Rattle.klp_manager_state.specs.Managed.{setting_in, state_in}
use Rattle.klp_patch_events.proofs.CompleteTaskLemmas.{own_in, functions_in_stacks}
use Rattle.klp_core.proofs.holders.blocked.Goals as goal

pub block-requires-clause-number : goal.block-requires-clause-number
block-requires-clause-number g c =
    functions_in_stacks c.entries_are_of_their_patches.ensures.functions c.args.state.now c.args.catalog.now c.patches.ensures.limits.each_within c.requires.entries

pub block-requires-clause-own : goal.block-requires-clause-own
block-requires-clause-own g c =
    own_in c.entries_are_of_their_patches.ensures.own c.args.state.now c.args.catalog.now c.requires.entries c.args.moving.patch

pub returns : goal.returns
returns g c =
    let state = c.args.state.now in
    let catalog = c.args.catalog.now in
    subst (IsSetOf c.block.new.blocked)
    (c.the_stacks_tell_what_is_blocked.ensures (setting_in state catalog) (state_in state catalog) c.args.moving state.sites.stacks
    (sym c.sites.ensures.value ∙ c.sites.ensures.image) c.requires.entries)
    c.block.ensures
