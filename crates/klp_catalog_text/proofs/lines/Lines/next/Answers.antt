use Rattle.std.proofs.Common.{ℕ, ◌-◌, ◌+◌, ◌∷◌, length, sym, ◌∙◌, ap, drop, arith, length-drop}
use Rattle.std.proofs.lemmas.List.{take_all}
use Rattle.std.specs.Str.Lines.{lines}
use Rattle.klp_catalog_text.proofs.LineLemmas.{line_at, last_line, within}
use Rattle.klp_words.proofs.SplitLemmas.{positive}
use Rattle.klp_catalog_text.proofs.lines.Lines.next.Goals as goal

pub returns-in_default : goal.returns-in_default
returns-in_default c =
    let some = positive _ c.if-is_empty.ensures in
    sym c.self.view_is ∙ last_line c.self.inside.rest.now (sym c.in_default.ensures) (omega arith)

pub returns : goal.returns
returns c =
    let text = c.self.inside.rest.now in
    let end = c.in-Some.end in
    let whole = take_all (length text - (end + 1)) (drop (end + 1) text) (omega (arith, length-drop {A = ℕ})) in
    sym c.self.view_is ∙ line_at text end (sym c.in-Some.ensures) (within _ text end (sym c.in-Some.ensures))
    ∙ ap (λ line. line ∷ lines (drop (end + 1) text)) (sym c.without_carriage_return.ensures)
    ∙ ap (λ rest. c.without_carriage_return.result.now ∷ lines rest) (sym whole)
