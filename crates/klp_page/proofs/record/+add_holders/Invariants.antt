use Rattle.std.proofs.Common.{length}
use Rattle.klp_page.proofs.record.+add_holders.Given as goal

-- what is left to be looked at
abbrev pub decreases-add_holders : goal.decreases-add_holders
decreases-add_holders l = length l.stays.now
