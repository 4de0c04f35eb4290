use Rattle.std.proofs.Common.{◌≡◌}
use Rattle.klp_types.specs.Image.{first_site}
use Rattle.klp_core.proofs.row.first_site_of.Given as goal

abbrev pub invariant-loop-before : goal.invariant-loop-before
invariant-loop-before l = l.site ≡ first_site l.image.image.objects l.before
