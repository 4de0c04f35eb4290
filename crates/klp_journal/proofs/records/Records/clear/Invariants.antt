use Rattle.std.proofs.Common.{◌≡◌, ◌+◌, [], length}
use Rattle.klp_journal.proofs.records.Records.clear.Given as goal

-- nothing else is let go, and as many are left as there are turns
abbrev pub invariant-loop-record : goal.invariant-loop-record
invariant-loop-record l = record {
  kept : record l.self { logged = [] } ≡ record l.fn.self { logged = [] };
  left : length l.self.logged + l._record ≡ length l.fn.self.logged;
}
