use Rattle.std.proofs.Common.{◌≡◌, refl, sym, ap, ◌∙◌, Some, rules, Option}
use Rattle.klp_types.specs.Records.{RecordList}
use Rattle.klp_manager_state.specs.Rows.{rows_in, before_logged}
use Rattle.klp_manager_state.proofs.RowLemmas.{switched_back}
use Rattle.klp_types.specs.declared.version.Transition.{Transition}
use Rattle.klp_model.specs.Forcing.{forced}
use Rattle.klp_model.specs.declared.event.Event.TheVariants.{Force}
use Rattle.klp_model.specs.declared.event.Reply.TheVariants.{Done}
use Rattle.klp_manager_state.specs.declared.state.ManagerState.{ManagerState}
use Rattle.klp_manager_state.specs.Managed.{setting_in, state_in}
use Rattle.klp_manager_state.proofs.StepLemmas.{taken_at_sites}
use Rattle.klp_patch_events.proofs.forcing.force.Goals as goal

pub returns-clause-taken : goal.returns-clause-taken
returns-clause-taken g c =
    let made : state_in c.pin.new.state c.args.catalog.now
    ≡ (forced (setting_in c.args.state.now c.args.catalog.now) (state_in c.args.state.now c.args.catalog.now) (Some c.in-Some-moving.moving)).1 =
    rw (c.pin.ensures.parts, c.set_all.ensures.tasks, c.target_state.ensures) refl
    in
    taken_at_sites c.steps_keep.ensures c.args.state.now c.pin.new.state c.args.catalog.now c.args.catalog.now (Force c.args.patch) Done c.requires
    (sym c.force_refusal.ensures ∙ search rules) (record {
      says = rw c.in-Some-moving.is refl;
      state = made ∙ ap (λ (m : Option Transition). (forced (setting_in c.args.state.now c.args.catalog.now) (state_in c.args.state.now c.args.catalog.now) m).1) (sym c.in-Some-moving.is);
      runs = sym (c.steps_keep.ensures.none c.args.catalog.now);
      sites = ap (λ (p : ManagerState). p.sites) c.pin.ensures.parts;
      modules = ap (λ (p : ManagerState). p.modules) c.pin.ensures.parts;
      installed = rw c.pin.ensures.parts refl;
      room = c.pin.ensures.room ∙ rw (c.set_all.ensures.records, c.clear.ensures) c.requires.room;
    })

pub returns-clause-logged : goal.returns-clause-logged
returns-clause-logged g c =
    let rows = rows_in c.args.state.now in
    record {
      accepted = c.pin.ensures.logged
          ∙ switched_back c.args.state.now.tasks c.set_all.new.self _ c.clear.new.self c.set_all.new.log c.set_all.ensures.tasks c.set_all.ensures.records c.set_all.ensures.undo rows
          ∙ ap (λ (l : RecordList). before_logged rows l) c.clear.ensures;
      refused = tt;
    }
