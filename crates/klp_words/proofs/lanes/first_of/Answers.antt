use Rattle.std.proofs.Common.{◌∙◌, ap, sym, arith}
use lib.Count.{count_trailing_zeros}
use Rattle.klp_words.specs.Split.{is_either}
use Rattle.klp_words.proofs.LaneLemmas.{behind_lanes, among_lanes}
use Rattle.klp_words.proofs.lanes.first_of.Goals as goal

pub returns-then-found-ne0 : goal.returns-then-found-ne0
returns-then-found-ne0 c =
    let found = c.lanes_with-found in
    let here = among_lanes (is_either c.args.one c.args.other) c.args.bytes.now c.loop-at.at 16 (omega arith) (omega arith) (omega (arith, found.ensures)) ∙ ap (count_trailing_zeros 64) (sym found.ensures) in
    omega (arith, here, c.loop-at.invariant.none_before)

pub loop-at-preserved : goal.loop-at-preserved
loop-at-preserved c =
    let behind = behind_lanes (is_either c.args.one c.args.other) c.args.bytes.now c.loop-at.at 16 (omega arith) (omega (arith, c.lanes_with-found.ensures)) in
    record { none_before = omega (arith, behind, c.loop-at.invariant.none_before); within = omega arith }
