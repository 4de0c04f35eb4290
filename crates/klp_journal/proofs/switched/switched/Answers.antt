use Rattle.std.proofs.Common.{◌≡◌, ◌+◌, ◌*◌, ◌/◌, length, get_or, ◌-◌, arith}
use Rattle.klp_types.specs.declared.record.Record.TheVariants.{TaskRow}
use Rattle.klp_journal.proofs.LastLemmas.{is_last}
use Rattle.klp_journal.proofs.switched.switched.Goals as goal

pub returns : goal.returns
returns c =
    let words = c.args.words.now in
    let was = c.in_ok-was.was' in
    let there = c.in_ok-was.ensures in
    let tag : get_or words (length words - 1) 0 ≡ 1 + 256 * (get_or words (length words - 1) 0 / 256) = omega arith in
    (there.0, (there.1.0, is_last words 1 _ c.requires.record (omega arith) tag (TaskRow was.task (record there.0 { state = was.state; mode = was.mode })) there.1.1))
