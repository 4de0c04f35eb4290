use Rattle.std.proofs.Common.{List, ap, ◌∙◌}
use Rattle.klp_types.specs.declared.version.Entry.{Entry}
use Rattle.klp_stack.specs.Stack.{entries_at}
use Rattle.klp_model.specs.Rows.{word_of, moving_patch}
use Rattle.klp_model.specs.Entries.{entries_of}
use Rattle.klp_manager_state.specs.Managed.{Managed, setting_of}
use Rattle.klp_core.specs.Journaled.{Journaled}
use Rattle.klp_core.proofs.manager.Manager.word.Goals as goal

pub returns : goal.returns
returns g c =
    c.word.ensures
    ∙ ap (λ (s : List (List Entry)). word_of c.patch_of-moving.result (entries_at s c.args.site)) c.stacks.ensures
    ∙ ap (λ m. word_of m (entries_at c.self.inside.state.sites.stacks c.args.site)) c.patch_of-moving.ensures
    ∙ ap (word_of (moving_patch c.self.inside.state.moving)) (c.self.invariant.holds.entries c.args.site)
    ∙ ap (λ (m : Managed). word_of (moving_patch m.state.moving) (entries_of (setting_of m) m.state c.args.site)) (ap (λ (j : Journaled). j.managed) c.self.view_is)
