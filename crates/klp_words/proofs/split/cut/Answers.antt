use Rattle.std.proofs.Common.{ℕ, ◌∙◌, ◌==◌, ◌-◌, length, ap, sym, arith, take, drop, ◌+◌, length-drop}
use Rattle.std.proofs.lemmas.List.{take_all}
use Rattle.klp_words.proofs.SplitLemmas.{found_at, before_none, after_none}
use Rattle.klp_words.proofs.split.cut.Goals as goal

pub returns-in-Some-clause-before : goal.returns-in-Some-clause-before
returns-in-Some-clause-before c =
    ap (λ n. take n c.args.text.now) (found_at (λ b. b == c.args.at) c.args.text.now c.in-Some.end (sym c.in-Some.ensures))

pub returns-in-Some-clause-after : goal.returns-in-Some-clause-after
returns-in-Some-clause-after c =
    let here = found_at (λ b. b == c.args.at) c.args.text.now c.in-Some.end (sym c.in-Some.ensures) in
    let whole = take_all (length c.args.text.now - (c.in-Some.end + 1)) (drop (c.in-Some.end + 1) c.args.text.now) (omega (arith, length-drop {A = ℕ})) in
    whole ∙ ap (λ n. drop (n + 1) c.args.text.now) here

pub returns-in-None-clause-before : goal.returns-in-None-clause-before
returns-in-None-clause-before c = sym (before_none (λ b. b == c.args.at) c.args.text.now (sym c.in-None.ensures))

pub returns-in-None-clause-after : goal.returns-in-None-clause-after
returns-in-None-clause-after c = sym (after_none (λ b. b == c.args.at) c.args.text.now (sym c.in-None.ensures))
