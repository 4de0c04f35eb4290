-- Shadow events, where nothing refuses them.
use Rattle.std.proofs.Common.{◌≡◌, Bool, true, false, List, [], map, Option, Some, None, Ok, refl, sym, ap, ◌∙◌}
use Rattle.std.specs.Prelude.{◌∷◌}
use Rattle.klp_types.specs.declared.record.Record.{Record}
use Rattle.klp_types.specs.declared.shadow.ShadowKey.{ShadowKey}
use Rattle.klp_types.specs.FirstOf.{first_of}
use Rattle.klp_types.specs.Records.{RecordList}
use Rattle.klp_types.specs.Script.{allocated}
use Rattle.klp_types.specs.World.{Installed, World, ShadowValue}
use Rattle.klp_model.specs.declared.event.Event.{Event}
use Rattle.klp_model.specs.declared.event.Refusal.TheVariants.{Exists, Full}
use Rattle.klp_model.specs.declared.event.Reply.{Reply}
use Rattle.klp_model.specs.EventCalls.{calls}
use Rattle.klp_model.specs.State.{with_world}
use Rattle.klp_model.specs.Step.{accepted}
use Rattle.klp_catalog.specs.Catalog.{Catalog}
use Rattle.klp_world.specs.declared.shadow_table.NotAdded.TheVariants as NotAdded
use Rattle.klp_world.specs.Changes.{Changes}
use Rattle.klp_manager_state.specs.declared.state.ManagerState.{ManagerState}
use Rattle.klp_manager_state.specs.Alone.{IsWorldTaken}
use Rattle.klp_manager_state.specs.Events.{TakesEvent}
use Rattle.klp_manager_state.specs.Invariant.{Invariant}
use Rattle.klp_manager_state.specs.Managed.{setting_in, state_in, refused_in}
use Rattle.klp_manager_state.specs.StepLaws.{StepLaws}
use Rattle.klp_task_shadow_events.proofs.LoggedLemmas.{emptied}

-- an event that adds a variable isn't refused where nothing is against the variable
pub nothing_refuses : (there full : Bool) → None ≡ first_of ((there, NotAdded.Exists) ∷ (full, NotAdded.Full) ∷ []) → None ≡ first_of ((there, Exists) ∷ (full, Full) ∷ [])
nothing_refuses true full free = let no : ⊥ = cc in absurd no
nothing_refuses false true free = let no : ⊥ = cc in absurd no
nothing_refuses false false free = refl

-- the same patches are installed
pub patches_stay : (world : World) (key : ShadowKey) (value : ShadowValue) (found : Option ShadowValue)
    → map (λ (i : Installed). i.patch) (allocated world key value found).installed ≡ map (λ (i : Installed). i.patch) world.installed
patches_stay world key value None = refl
patches_stay world key value (Some there) = refl

-- an event that nothing refuses, and that adds a variable where it isn't there, is taken
pub alloc_taken : IsWorldTaken → StepLaws → (before : ManagerState) (catalog : Catalog) (world : World) (empty log : RecordList) (rows : List Record) (key : ShadowKey) (value : ShadowValue) (found : Option ShadowValue)
    (event : Event) (reply : Reply) → Invariant before catalog
    → None ≡ refused_in before catalog event
    → calls (setting_in before catalog) (state_in before catalog) event ≡ []
    → accepted (setting_in before catalog) (state_in before catalog) event
    ≡ (reply, with_world (state_in before catalog) (allocated before.world key value found))
    → empty ≡ emptied before.log → Changes before.world world empty log (allocated before.world key value found) rows
    → TakesEvent before (record before { world = world; log = log }) catalog catalog event (Ok reply)
alloc_taken law steps before catalog world empty log rows key value found event reply holds free quiet is cleared changes =
    law steps before catalog world log event reply holds (sym free) quiet
    (is ∙ ap (λ (w : World). (reply, with_world (state_in before catalog) w)) (sym changes.world))
    (ap (λ (w : World). map (λ (i : Installed). i.patch) w.installed) changes.world ∙ patches_stay before.world key value found)
    (ap (λ (l : RecordList). l.room) changes.records ∙ ap (λ (l : RecordList). l.room) cleared ∙ holds.room)
