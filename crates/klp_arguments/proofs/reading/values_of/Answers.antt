use Rattle.std.proofs.Common.{ℕ, List, Bor, arith, map, ap, take_all, ◌∙◌}
use Rattle.clap.specs.Words.{found_of}
use Rattle.klp_arguments.proofs.CommandLemmas.{no_values, some_values}
use Rattle.klp_arguments.proofs.reading.values_of.Goals as goal

pub returns-in_default : goal.returns-in_default
returns-in_default c =
    ap (map (λ (value : Bor (List ℕ)). value.now)) c.new-list.ensures.items
    ∙ no_values (found_of c.args.matches.now) c.args.name.now c.get_strs.result c.get_strs.ensures c.in_default.is

pub returns : goal.returns
returns c =
    let all = c.in-Some.values.now in
    ap (map (λ (value : Bor (List ℕ)). value.now)) (c.loop-value.invariant ∙ take_all c.loop-value.value-index all (omega (arith, c.loop-value-test.false)))
    ∙ some_values (found_of c.args.matches.now) c.args.name.now c.get_strs.result c.in-Some.values c.get_strs.ensures c.in-Some.is
