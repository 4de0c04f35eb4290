-- The sites so far, and those of the rest.
use Rattle.std.proofs.Common.{◌≡◌, ◌++◌, ◌+◌, length, drop}
use Rattle.klp_types.specs.Image.{symbols_of}
use Rattle.klp_text.specs.Kept.{first_sites_from}
use Rattle.klp_text.proofs.image.first_sites.Given as goal

abbrev pub invariant-loop-object : goal.invariant-loop-object
invariant-loop-object l = record {
  sites : l.sites.items ++ first_sites_from l.site (drop l.object-index l.objects) ≡ first_sites_from 0 l.objects;
  count : l.site + length (symbols_of (drop l.object-index l.objects)) ≡ length (symbols_of l.objects);
}
