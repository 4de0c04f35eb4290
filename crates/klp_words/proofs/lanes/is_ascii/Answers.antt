use Rattle.std.proofs.Common.{◌∙◌, ◌-◌, ℕ, ap, sym, arith, length, drop, length-drop}
use Rattle.std.proofs.lemmas.List.{take_all}
use Rattle.std.specs.Char.{is_ascii}
use Rattle.std.specs.List.{list_all}
use Rattle.klp_words.proofs.LaneLemmas.{all_behind_lanes}
use Rattle.klp_words.proofs.lanes.is_ascii.Goals as goal

pub loop-at-preserved : goal.loop-at-preserved
loop-at-preserved c = record {
  ascii_before = c.loop-at.invariant.ascii_before ∙ all_behind_lanes is_ascii c.args.bytes.now c.loop-at.at 16 (omega (arith, c.lanes_beyond_ascii.ensures));
  within = omega arith;
}

pub returns : goal.returns
returns c =
    let rest = take_all (length c.args.bytes.now - c.loop-at.at) (drop c.loop-at.at c.args.bytes.now) (omega (arith, length-drop {A = ℕ})) in
    c.are_each_ascii.ensures ∙ ap (list_all is_ascii) rest ∙ sym c.loop-at.invariant.ascii_before
