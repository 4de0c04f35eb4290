use Rattle.std.proofs.Common.{ℕ, Option, sym, subst}
use Rattle.klp_markup.specs.Adds.{Adds}
use Rattle.klp_story.specs.Sentences.{span_text}
use Rattle.klp_story.proofs.sleepers.add_span.Goals as goal

pub returns-in-None : goal.returns-in-None
returns-in-None c =
    let add = c.what_is_added_adds_up.ensures.adds_up in
    let said = λ (to : Option ℕ). Adds c.args.sheet.now c.markup.new.self (span_text c.args.names.now c.args.line to) in
    subst said (sym c.in-None.is)
    (add _ _ _ _ _
    (add _ _ _ _ _ c.add_linked.ensures c.add_line_time.ensures)
    c.markup.ensures)
