-- The symbols so far.
use Rattle.std.proofs.Common.{◌≡◌, length, take}
use Rattle.klp_modules.specs.Tables.{HasSites}
use Rattle.klp_modules.proofs.tables.sites_by_name.Given as goal

abbrev pub invariant-loop-place : goal.invariant-loop-place
invariant-loop-place l = record {
  count : length l.sites.items ≡ l.names;
  sites : HasSites (take l.place l.symbols) l.sites.items;
}
