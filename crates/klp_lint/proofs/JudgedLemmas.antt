-- What is judged target by target is judged of the objects that take part.
use Rattle.std.proofs.Common.{◌≡◌, ℕ, false, List, None, Result, Ok, Err, sym, ap, ◌∙◌, subst}
use Rattle.std.specs.Prelude.{slice_get, IfOk, IfErr}
use Rattle.klp_types.specs.Setting.{Setting, PatchObject}
use Rattle.klp_types.specs.World.{variable}
use Rattle.klp_modules.specs.Names.{ModuleTable, names_of}
use Rattle.klp_catalog_text.specs.Plan.{PlanPatch, PlanTarget}
use Rattle.klp_catalog.specs.Catalog.{targets_of_patch}
use Rattle.klp_model.specs.State.{State, is_installed}
use Rattle.klp_model.specs.Company.{AreApart, taking_part}
use Rattle.klp_lint.specs.Acting.{acting}
use Rattle.klp_lint.specs.Undone.{Values, EachRestores, IsLeft}
use Rattle.klp_lint.specs.Premises.{ArePatchesOf, OneOf, FailsOf, Judges, JudgesEverywhere, premise_of}
use Rattle.klp_lint.specs.declared.premise.Left.{Left}
use Rattle.klp_lint.specs.declared.premise.Premise.{Premise}
use Rattle.klp_lint.proofs.ActingLemmas.{acting_takes_part}
use Rattle.klp_lint.proofs.FailsLemmas.{ByKey, restoring_undoes, bare_undoes, fails_there}

-- the modules and the targets by which the patch is judged
pub record IsOver (setting : Setting) (state : State) (patches : List PlanPatch) (patch : ℕ) (modules : ModuleTable) (targets : List PlanTarget) : Type 0 where
  pub names : modules ≡ record { names = names_of setting.image.objects; loaded = state.loaded }
  pub own : targets ≡ targets_of_patch (slice_get patches patch)

same_objects : (setting : Setting) (state : State) (patches : List PlanPatch) (patch : ℕ) (modules : ModuleTable) (targets : List PlanTarget)
    → IsOver setting state patches patch modules targets → ArePatchesOf setting patches → acting modules 0 targets ≡ taking_part setting state patch
same_objects setting state patches patch modules targets is over =
    ap (λ m. acting m 0 targets) is.names ∙ ap (λ t. acting (record { names = names_of setting.image.objects; loaded = state.loaded }) 0 t) is.own
    ∙ acting_takes_part setting state patches patch over

pub judged_there : ByKey → (setting : Setting) (state : State) (patches : List PlanPatch) (patch : ℕ) (modules : ModuleTable) (targets : List PlanTarget) (result : Result Unit Premise)
    → state.moving ≡ None → is_installed state patch ≡ false → IsOver setting state patches patch modules targets
    → IfOk result (λ _. EachRestores (variable state.world) (acting modules 0 targets))
    → IfOk result (λ _. AreApart (acting modules 0 targets))
    → IfErr result (λ premise. FailsOf (variable state.world) (acting modules 0 targets) premise)
    → ArePatchesOf setting patches → Judges setting patch state result
judged_there by_key setting state patches patch modules targets (Ok done) still away is undone apart fails over =
    let same = same_objects setting state patches patch modules targets is over in
    record {
      still = still;
      away = away;
      undone = restoring_undoes by_key patch state.world (taking_part setting state patch) (subst (EachRestores (variable state.world)) same undone);
      apart = subst AreApart same apart;
    }
judged_there by_key setting state patches patch modules targets (Err premise) still away is undone apart fails over =
    fails_there by_key setting state patch premise
    (subst (λ l. FailsOf (variable state.world) l premise) (same_objects setting state patches patch modules targets is over) fails)

pub judged_everywhere : ByKey → (setting : Setting) (state : State) (patches : List PlanPatch) (patch : ℕ) (modules : ModuleTable) (targets : List PlanTarget) (result : Result Unit Premise)
    → IsOver setting state patches patch modules targets
    → IfOk result (λ _. EachRestores (λ _. None) (acting modules 0 targets))
    → IfOk result (λ _. AreApart (acting modules 0 targets))
    → IfErr result (λ premise. FailsOf (λ _. None) (acting modules 0 targets) premise)
    → ArePatchesOf setting patches → JudgesEverywhere setting patch state result
judged_everywhere by_key setting state patches patch modules targets (Ok done) is undone apart fails over =
    let same = same_objects setting state patches patch modules targets is over in
    record {
      undone = λ world bare. bare_undoes by_key patch world (taking_part setting state patch) bare (subst (EachRestores (λ _. None)) same undone);
      apart = subst AreApart same apart;
    }
judged_everywhere by_key setting state patches patch modules targets (Err premise) is undone apart fails over =
    subst (λ l. FailsOf (λ _. None) l premise) (same_objects setting state patches patch modules targets is over) fails

-- what an object leaves is a premise that fails
pub left_fails : (values : Values) (objects : List (ℕ × PatchObject)) (place : ℕ) (rest : Left) (premise : Premise) → premise ≡ premise_of place rest
    → OneOf (λ (o : ℕ × PatchObject). (o.0 ≡ place) × IsLeft values o.1.callbacks rest) objects → FailsOf values objects premise
left_fails values objects place rest premise is h = subst (FailsOf values objects) (sym is) h
