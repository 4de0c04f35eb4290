use Rattle.std.proofs.Common.{◌≡◌, ◌≤◌, take, count_by}
use Rattle.klp_program.specs.Watches.{is_event, is_call, is_return, is_compared}
use Rattle.klp_program.proofs.watch.counted.Given as goal

-- how many of each kind are among the items so far
abbrev pub invariant-loop-item : goal.invariant-loop-item
invariant-loop-item l = record {
  events : l.counts.events ≡ count_by is_event (take l.item-index l.items);
  calls : l.counts.calls ≡ count_by is_call (take l.item-index l.items);
  returns : l.counts.returns ≡ count_by is_return (take l.item-index l.items);
  compared : l.counts.compared ≡ count_by is_compared (take l.item-index l.items);
  refused : l.counts.refused ≡ l.fn.refused;
  few_events : l.counts.events ≤ l.item-index;
  few_calls : l.counts.calls ≤ l.item-index;
  few_returns : l.counts.returns ≤ l.item-index;
  few_compared : l.counts.compared ≤ l.item-index;
}
