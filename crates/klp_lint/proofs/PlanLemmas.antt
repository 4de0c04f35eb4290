-- Patches are known by what they are without their scripts, and by their scripts in order.
use Rattle.std.proofs.Common.{◌≡◌, List, [], ◌∷◌, ◌++◌, map, refl, sym, ap, ◌∙◌, append_assoc}
use Rattle.klp_types.specs.Setting.{Callback}
use Rattle.klp_types.specs.Script.{Script}
use Rattle.klp_catalog_text.specs.Plan.{PlanTarget, PlanPatch}
use Rattle.klp_catalog_text.specs.Scripts.{scripts_of_callbacks, scripts_of_target, scripts_of_targets, scripts_of}
use Rattle.klp_catalog.specs.Assembled.{without_script, target_without_scripts, without_scripts}

-- the callbacks, targets and patches with the first of these scripts in the places of their own, and the scripts left
fill_callbacks : List Callback → List Script → List Callback × List Script
fill_callbacks [] scripts = ([], scripts)
fill_callbacks (callback ∷ callbacks) [] = (callback ∷ callbacks, [])
fill_callbacks (callback ∷ callbacks) (script ∷ scripts) =
    let others = fill_callbacks callbacks scripts in (record callback { script = script } ∷ others.0, others.1)

fill_targets : List PlanTarget → List Script → List PlanTarget × List Script
fill_targets [] scripts = ([], scripts)
fill_targets (target ∷ targets) scripts =
    let own = fill_callbacks target.callbacks scripts in
    let others = fill_targets targets own.1 in
    (record target { callbacks = own.0 } ∷ others.0, others.1)

fill : List PlanPatch → List Script → List PlanPatch × List Script
fill [] scripts = ([], scripts)
fill (patch ∷ patches) scripts =
    let own = fill_targets patch.targets scripts in
    let others = fill patches own.1 in
    (record patch { targets = own.0 } ∷ others.0, others.1)

callbacks_again : (callbacks : List Callback) (more : List Script) → fill_callbacks (map without_script callbacks) (scripts_of_callbacks callbacks ++ more) ≡ (callbacks, more)
unfolding fill_callbacks
callbacks_again [] more = refl
callbacks_again (callback ∷ callbacks) more = ap (λ others. (callback ∷ others.0, others.1)) (callbacks_again callbacks more)

targets_again : (targets : List PlanTarget) (more : List Script) → fill_targets (map target_without_scripts targets) (scripts_of_targets targets ++ more) ≡ (targets, more)
unfolding fill_targets
targets_again [] more = refl
targets_again (target ∷ targets) more =
    let bare = target_without_scripts target in
    let build : List Callback × List Script → List PlanTarget × List Script = λ own.
    (record bare { callbacks = own.0 } ∷ (fill_targets (map target_without_scripts targets) own.1).0, (fill_targets (map target_without_scripts targets) own.1).1) in
    ap (λ scripts. build (fill_callbacks bare.callbacks scripts)) (append_assoc (scripts_of_target target) (scripts_of_targets targets) more)
    ∙ ap build (callbacks_again target.callbacks (scripts_of_targets targets ++ more))
    ∙ ap (λ others. (target ∷ others.0, others.1)) (targets_again targets more)

patches_again : (patches : List PlanPatch) (more : List Script) → fill (map without_scripts patches) (scripts_of patches ++ more) ≡ (patches, more)
unfolding fill
patches_again [] more = refl
patches_again (patch ∷ patches) more =
    let bare = without_scripts patch in
    let build : List PlanTarget × List Script → List PlanPatch × List Script = λ own.
    (record bare { targets = own.0 } ∷ (fill (map without_scripts patches) own.1).0, (fill (map without_scripts patches) own.1).1) in
    ap (λ scripts. build (fill_targets bare.targets scripts)) (append_assoc (scripts_of_targets patch.targets) (scripts_of patches) more)
    ∙ ap build (targets_again patch.targets (scripts_of patches ++ more))
    ∙ ap (λ others. (patch ∷ others.0, others.1)) (patches_again patches more)

pub same_patches : (made given : List PlanPatch) → map without_scripts made ≡ map without_scripts given → scripts_of made ≡ scripts_of given → made ≡ given
same_patches made given bare scripts =
    ap (λ it. it.0) (sym (patches_again made []))
    ∙ ap (λ l. (fill l (scripts_of made ++ [])).0) bare ∙ ap (λ s. (fill (map without_scripts given) (s ++ [])).0) scripts
    ∙ ap (λ it. it.0) (patches_again given [])
