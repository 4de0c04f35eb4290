use Rattle.std.proofs.Common.{length, ap, arith}
use Rattle.std.proofs.lemmas.Grind.{common_steps}
use Rattle.klp_journal.proofs.GroupLemmas.{length-groups, records_in-groups}
use Rattle.klp_journal.proofs.journal.Journal.has_room.Goals as goal

pub returns-then-len-lt-MAX_GROUPS : goal.returns-then-len-lt-MAX_GROUPS
returns-then-len-lt-MAX_GROUPS c =
    let groups = length-groups c.args.self.now c.args.log.now.older in
    let events = ap length c.self.view_is in
    let rows = records_in-groups c.args.self.now c.args.log.now.older c.requires.all in
    grind (arith, common_steps)

pub returns-else-len-lt-MAX_GROUPS : goal.returns-else-len-lt-MAX_GROUPS
returns-else-len-lt-MAX_GROUPS c =
    let groups = length-groups c.args.self.now c.args.log.now.older in
    let events = ap length c.self.view_is in
    grind (arith, common_steps)
