-- The flag put back is what it was.
use Rattle.std.proofs.Common.{◌≡◌, ◌∙◌, ap, List, Bool}
use Rattle.klp_modules.specs.Kept.{texts_of, names_from}
use Rattle.klp_modules.proofs.TableLaws.{set_undone}
use Rattle.klp_modules.proofs.modules.Modules.set_loaded.Goals as goal

pub returns-clause-undo : goal.returns-clause-undo
returns-clause-undo c =
    let place : c.from.result ≡ c.args.object = c.from.ensures ∙ c.object.view_is in
    let was = rw place at (c.replace-was.ensures.value ∙ c.index_mut.ensures.value) in
    rw place
    (ap (λ (loaded : List Bool). record { names = names_from (texts_of c.self.inside.names.keys) c.self.inside.objects.items; loaded = loaded })
    (set_undone c.self.inside.loaded.items c.args.object c.replace-was.new.dest c.replace-was.result c.index_mut.result.now was) ∙ c.self.view_is)
