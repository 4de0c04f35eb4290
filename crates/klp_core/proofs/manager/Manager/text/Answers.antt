use Rattle.std.proofs.Common.{false, Some, refl, sym, ap, ◌∙◌}
use Rattle.std.specs.Prelude.{slice_index_or, not}
use Rattle.klp_types.specs.Entries.{is_empty}
use Rattle.klp_model.specs.Bytes.{text_of}
use Rattle.klp_modules.specs.Names.{ModuleTable}
use Rattle.klp_sites.specs.Table.{image_of}
use Rattle.klp_manager_state.specs.Managed.{Managed, setting_of, managed_of}
use Rattle.klp_core.proofs.ViewLemmas.{text_shown, hooked_at}
use Rattle.klp_core.specs.View.{symbols_at}
use Rattle.klp_core.specs.Journaled.{Journaled}
use Rattle.klp_core.proofs.manager.Manager.text.Goals as goal

pub returns-then-is_loaded : goal.returns-then-is_loaded
returns-then-is_loaded g c =
    let state = c.self.inside.state in
    let own = managed_of state c.self.inside.catalog in
    let loaded = sym (ap (λ (m : ModuleTable). slice_index_or m.loaded c.args.object false) c.self.invariant.holds.modules_are) ∙ sym c.is_loaded.ensures ∙ c.if-is_loaded.true in
    ap Some (c.new.ensures ∙ ap (λ t. symbols_at t c.args.object) c.image.ensures.value)
    ∙ text_shown (image_of state.sites) (setting_of own) own.state c.args.object refl
    (λ site. hooked_at state.sites.stacks site ∙ ap (λ es. not (is_empty es)) (c.self.invariant.holds.entries site))
    c.self.invariant.holds.allowed.objects loaded
    ∙ ap (λ (m : Managed). text_of (setting_of m) m.state c.args.object) (ap (λ (j : Journaled). j.managed) c.self.view_is)
