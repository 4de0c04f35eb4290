use Rattle.std.proofs.Common.{ℕ, ◌≡◌, ◌∷◌, List, take, length, ◌+◌, ◌∙◌, ap, sym, false, true, eq-eqb}
use Rattle.klp_console.specs.Lines.{lines_of}
use Rattle.klp_lint_worlds.proofs.LineLemmas.{line_cut, line_last, whole_rest}
use Rattle.klp_lint_worlds.proofs.script.cut_line.Goals as goal

pub returns-in-Some-clause-cut : goal.returns-in-Some-clause-cut
returns-in-Some-clause-cut c =
    line_cut c.args.text.now c.in-Some.place (sym c.in-Some.ensures)
    ∙ ap (λ (rest : List ℕ). take c.in-Some.place c.args.text.now ∷ lines_of rest) (whole_rest c.args.text.now (c.in-Some.place + 1))

pub returns-in-None-clause-cut : goal.returns-in-None-clause-cut
returns-in-None-clause-cut c =
    line_last c.args.text.now (sym c.in-None.ensures) (λ empty.
    let test = eq-eqb (length c.args.text.now) 0 empty in
    let wrong : false ≡ true = sym c.if-is_empty.false ∙ c.is_empty.ensures ∙ test in
    absurd (cc))
