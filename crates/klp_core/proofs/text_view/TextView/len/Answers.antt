use Rattle.std.proofs.Common.{List, length, ap, ◌∙◌}
use Rattle.klp_types.specs.Image.{Symbol}
use Rattle.klp_core.proofs.ViewLemmas.{length-symbols_at}
use Rattle.klp_core.proofs.text_view.TextView.len.Goals as goal

pub returns-in-Some : goal.returns-in-Some
returns-in-Some c =
    length-symbols_at c.self.inside.image.now c.self.inside.object c.in-Some.count c.in-Some.ensures
    ∙ ap (λ (symbols : List Symbol). length symbols) c.self.view_is
