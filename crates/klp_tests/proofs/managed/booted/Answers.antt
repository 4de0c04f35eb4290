-- The modules have the names of the plan's objects.
use Rattle.std.proofs.Common.{◌≡◌, length, ap, sym, subst, ◌∙◌}
use Rattle.std.proofs.lemmas.List.{length-map}
use Rattle.klp_modules.specs.Names.{ModuleTable, names_of_object}
use Rattle.klp_catalog_text.specs.Plan.{Plan}
use Rattle.klp_catalog_text.specs.Within.{AreTargetsWithin}
use Rattle.klp_tests.proofs.managed.booted.Goals as goal

pub assemble-requires : goal.assemble-requires
assemble-requires g c =
    let left = ap (λ (p : Plan). p.patches) c.opened.ensures.rest in
    let names : length c.in_ok-image.modules.names ≡ length c.args.plan.objects =
    ap (λ (t : ModuleTable). length t.names) c.in_ok-image.ensures.opened.1 ∙ length-map c.args.plan.objects names_of_object in
    record {
      targets = subst (λ n. AreTargetsWithin n c.opened.new.plan.patches) (sym names)
          (subst (AreTargetsWithin (length c.args.plan.objects)) (sym left) c.requires);
    }
