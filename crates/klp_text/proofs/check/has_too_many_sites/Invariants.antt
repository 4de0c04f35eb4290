-- What is counted and what is left are all sites.
use Rattle.std.proofs.Common.{◌≡◌, ◌+◌, ◌≤◌, length, drop}
use Rattle.klp_types.specs.Image.{symbols_of}
use Rattle.klp_text.proofs.check.has_too_many_sites.Given as goal

abbrev pub invariant-loop-object : goal.invariant-loop-object
invariant-loop-object l = record {
  few : l.sites ≤ 256;
  all : l.sites + length (symbols_of (drop l.object-index l.objects)) ≡ length (symbols_of l.objects);
}
