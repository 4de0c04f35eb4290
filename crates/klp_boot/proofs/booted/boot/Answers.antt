use Rattle.std.proofs.Common.{◌≡◌, ℕ, length, sym, ap, subst, ◌∙◌}
use Rattle.std.proofs.lemmas.List.{length-map}
use Rattle.klp_text.specs.TextImage.{TextImage}
use Rattle.klp_modules.specs.Names.{ModuleTable, names_of_object, opening}
use Rattle.klp_catalog_text.specs.Plan.{Plan}
use Rattle.klp_catalog_text.specs.Within.{AreTargetsWithin}
use Rattle.klp_boot.proofs.BootedLemmas.{booted_over, assemble_faulty, boot_faulty, reported_fault}
use Rattle.klp_boot.specs.declared.fault.Fault.TheVariants.{Assemble, Boot}
use Rattle.klp_boot.proofs.booted.boot.Goals as goal

-- the modules have the plan's objects
pub assemble-requires : goal.assemble-requires
assemble-requires g c =
    let count : length c.in_ok-image.modules.names ≡ length c.args.plan.objects =
    ap (λ (m : ModuleTable). length m.names) c.in_ok-image.ensures.opened.1 ∙ length-map c.args.plan.objects names_of_object
    in
    record {
      targets = subst (λ (n : ℕ). AreTargetsWithin n c.opened.new.plan.patches) (sym count)
          (subst (λ (p : Plan). AreTargetsWithin (length c.args.plan.objects) p.patches) (sym c.opened.ensures.rest) c.requires.targets);
    }

pub returns-clause-booted : goal.returns-clause-booted
returns-clause-booted g c =
    booted_over c.args.plan c.opened.new.plan c.args.callbacks.items c.in_ok-image.image c.in_ok-image.modules c.in_ok-catalog.catalog c.in_ok-boot.field-0
    c.opened.ensures.rest c.requires.callbacks c.in_ok-image.ensures.opened.0 c.in_ok-image.ensures.opened.1
    c.in_ok-catalog.ensures.names c.in_ok-catalog.ensures.patches
    c.in_ok-catalog.ensures.scripts c.in_ok-catalog.ensures.shape c.in_ok-catalog.ensures.counts c.in_ok-boot.ensures.ok.1

pub returns-in_err-catalog-clause-fault : goal.returns-in_err-catalog-clause-fault
returns-in_err-catalog-clause-fault g c =
    let why = assemble_faulty c.args.plan c.opened.new.plan c.args.callbacks.items c.in_ok-image.modules c.in_err-catalog.field-0.0
    c.opened.ensures.rest c.requires.callbacks c.in_ok-image.ensures.sound c.in_ok-image.ensures.opened.1 c.in_err-catalog.ensures.fault in
    reported_fault c.args.plan c.from_residual-in_err-catalog.result (Assemble c.in_err-catalog.field-0.0) c.from_residual-in_err-catalog.ensures.1 why

pub returns-in_err-boot-clause-fault : goal.returns-in_err-boot-clause-fault
returns-in_err-boot-clause-fault g c =
    let numbered : c.in_ok-image.modules ≡ opening c.in_ok-image.image.image.objects =
    c.in_ok-image.ensures.opened.1 ∙ sym (ap (λ (t : TextImage). opening t.image.objects) c.in_ok-image.ensures.opened.0) in
    let why = boot_faulty c.in_ok-image.image c.in_ok-image.modules c.in_ok-catalog.catalog c.in_err-boot.field-0.0 numbered c.in_ok-catalog.ensures.names c.in_err-boot.ensures.fault in
    reported_fault c.args.plan c.from_residual-in_err-boot.result (Boot c.in_err-boot.field-0.0) c.from_residual-in_err-boot.ensures.1 why
