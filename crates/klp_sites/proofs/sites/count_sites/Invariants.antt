-- What is counted and what is left are all sites.
use Rattle.std.proofs.Common.{◌≡◌, ◌+◌, length, drop}
use Rattle.klp_types.specs.Image.{symbols_of}
use Rattle.klp_sites.proofs.sites.count_sites.Given as goal

abbrev pub invariant-loop-object : goal.invariant-loop-object
invariant-loop-object l = l.sites + length (symbols_of (drop l.object l.image.image.objects)) ≡ length (symbols_of l.image.image.objects)
