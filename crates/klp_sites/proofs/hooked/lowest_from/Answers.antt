use Rattle.std.proofs.Common.{arith}
use Rattle.klp_sites.proofs.HookedLemmas as hooked
use Rattle.klp_sites.proofs.hooked.lowest_from.Goals as goal

pub returns-then-left-eq0-clause-none : goal.returns-then-left-eq0-clause-none
returns-then-left-eq0-clause-none c = hooked.none_from c.args.word c.args.from c.if-left-eq0.true

pub returns-clause-some : goal.returns-clause-some
returns-clause-some c = hooked.lowest_from c.args.word c.args.from c.ranges.word.fits (omega (arith, c.if-left-eq0.false))
