use Rattle.std.proofs.Common.{◌≡◌, Some, subst}
use Rattle.klp_catalog.specs.Catalog.{site_of}
use Rattle.klp_manager_state.specs.Managed.{setting_of}
use Rattle.klp_core.proofs.PlacedLemmas.{patches_placed}
use Rattle.klp_core.proofs.laws.functions_are_in_their_objects.Goals as goal

pub returns : goal.returns
returns c managed named =
    patches_placed (setting_of managed) managed.catalog.names
    (λ object function site picks. c.sites_lie_in_their_objects.ensures managed.image.objects object function site
    (subst (λ names. site_of names object function ≡ Some site) named picks))
    managed.catalog.patches
