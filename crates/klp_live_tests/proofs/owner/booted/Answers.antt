-- There is no first script, so there is none, and no callback is wanted.
use Rattle.std.proofs.Common.{[], option_map, refl, ap, sym, ◌∙◌}
use Rattle.klp_catalog_text.specs.Scripts.{scripts_of}
use Rattle.klp_boot.specs.Booted.{never_ran}
use Rattle.klp_boot.proofs.BoxLemmas.{all_made}
use Rattle.klp_live_tests.proofs.owner.booted.Goals as goal

pub boot-requires-clause-callbacks : goal.boot-requires-clause-callbacks
boot-requires-clause-callbacks g c =
    c.new.ensures.items ∙ all_made [] (scripts_of c.in_ok-plan.plan.patches) (ap (option_map never_ran) (sym c.in_default.ensures)) refl
