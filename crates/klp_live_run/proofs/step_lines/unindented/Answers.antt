use Rattle.std.proofs.Common.{ap, sym, ◌∙◌, ◌==◌, not, ◌-◌, length, drop, arith}
use Rattle.std.proofs.lemmas.List.{take_rest, drop_all}
use Rattle.klp_words.proofs.SplitLemmas.{found_at, missing_from}
use Rattle.klp_live_run.proofs.step_lines.unindented.Goals as goal

pub returns-in-Some : goal.returns-in-Some
returns-in-Some c = take_rest c.args.line.now c.in-Some.start ∙ ap (λ n. drop n c.args.line.now) (found_at (λ b. not (b == 32)) c.args.line.now c.in-Some.start (sym c.in-Some.ensures))

pub returns-in-None : goal.returns-in-None
returns-in-None c = sym (drop_all _ c.args.line.now (missing_from (λ b. not (b == 32)) c.args.line.now (sym c.in-None.ensures)))
