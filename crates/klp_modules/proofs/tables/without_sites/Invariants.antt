-- The names so far.
use Rattle.std.proofs.Common.{◌≡◌, [], length}
use Rattle.klp_modules.specs.Tables.{HasSites}
use Rattle.klp_modules.proofs.tables.without_sites.Given as goal

abbrev pub invariant-loop : goal.invariant-loop
invariant-loop l = record {
  count : length l.sites.items ≡ l.counter;
  sites : HasSites [] l.sites.items;
}
