-- The symbols left.
use Rattle.std.proofs.Common.{◌≡◌, drop}
use Rattle.std.specs.Prelude.{slice_get}
use Rattle.klp_modules.specs.NamedSites.{sites_of}
use Rattle.klp_modules.proofs.named_sites.site_of.Given as goal

abbrev pub invariant-loop-named : goal.invariant-loop-named
invariant-loop-named l =
    slice_get (sites_of l.object l.sites) l.number ≡ slice_get (sites_of l.object (drop l.named-index l.sites)) l.left
