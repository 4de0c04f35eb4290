use Rattle.std.proofs.Common.{◌≡◌, ℕ, ◌+◌, ◌-◌, List, ◌∷◌, length, take, drop, sym, subst, arith, length-drop}
use Rattle.std.proofs.lemmas.List.{take_all}
use Rattle.klp_console_io.specs.Lines.{lines_and_rest}
use Rattle.klp_console_io.proofs.LineLemmas.{front_at, rest_at, one_line}
use Rattle.klp_console_io.proofs.line_buffer.cut.Goals as goal

pub returns-in-Some-clause-front : goal.returns-in-Some-clause-front
returns-in-Some-clause-front c = front_at c.args.piece.now c.in-Some.end (sym c.in-Some.ensures)

pub returns-in-Some-clause-rest : goal.returns-in-Some-clause-rest
returns-in-Some-clause-rest c =
    let behind = drop (c.in-Some.end + 1) c.args.piece.now in
    let whole = take_all (length c.args.piece.now - (c.in-Some.end + 1)) behind (omega (arith, length-drop {A = ℕ})) in
    let P : List ℕ → Type 0 = λ rest. lines_and_rest c.args.piece.now ≡ take c.in-Some.end c.args.piece.now ∷ lines_and_rest rest in
    subst P (sym whole) (rest_at c.args.piece.now c.in-Some.end (sym c.in-Some.ensures))

pub returns-in-None-clause-front : goal.returns-in-None-clause-front
returns-in-None-clause-front c = one_line c.args.piece.now (sym c.in-None.ensures)
