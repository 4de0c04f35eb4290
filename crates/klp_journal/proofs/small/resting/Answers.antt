use Rattle.std.proofs.Common.{[], map, ap, arith}
use Rattle.std.proofs.lemmas.List.{drop_all}
use Rattle.klp_journal.specs.Decoded.{frame_of}
use Rattle.klp_journal.proofs.WordLemmas.{task_read}
use Rattle.klp_journal.proofs.small.resting.Goals as goal

pub returns : goal.returns
returns c =
    let body = c.args.body.now in
    task_read body c.state_of.result c.mode_of.result [] (omega arith) c.state_of.ensures c.mode_of.ensures (ap (map frame_of) (drop_all 2 body (omega arith)))
