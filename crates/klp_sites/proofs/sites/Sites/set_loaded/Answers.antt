use Rattle.std.proofs.Common.{true, false, ap, ◌∙◌}
use Rattle.klp_text.specs.TextImage.{TextImage}
use Rattle.klp_sites.specs.Table.{SiteTable}
use Rattle.klp_sites.proofs.TableLemmas.{loaded_undone}
use Rattle.klp_sites.proofs.sites.Sites.set_loaded.Goals as goal
use Rattle.klp_sites.proofs.sites.Sites.set_loaded.Goals.{then-loaded, else-loaded}

pub returns-clause-undo : goal.returns-clause-undo
returns-clause-undo c =
    let of_image : TextImage → SiteTable = λ image. record { image = image.image; loaded = image.loaded; stacks = c.self.inside.stacks } in
    elim c.if-loaded.branch [
      | then-loaded w ↦
          loaded_undone c.args.self.now c.if-loaded.self c.args.object true c.is_loaded-was.result c.requires (rw (← c.self.view_is) (w.self-is ∙ ap of_image w.load.ensures)) c.is_loaded-was.ensures
      | else-loaded w ↦
          loaded_undone c.args.self.now c.if-loaded.self c.args.object false c.is_loaded-was.result c.requires (rw (← c.self.view_is) (w.self-is ∙ ap of_image w.unload.ensures))
          c.is_loaded-was.ensures
    ]
