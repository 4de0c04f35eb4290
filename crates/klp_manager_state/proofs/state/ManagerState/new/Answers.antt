use Rattle.std.proofs.Common.{refl, ap}
use Rattle.klp_types.specs.Records.{RecordList}
use Rattle.klp_manager_state.proofs.OpeningLemmas.{opening_kept}
use Rattle.klp_manager_state.proofs.state.ManagerState.new.Goals as goal

pub returns-clause-kept : goal.returns-clause-kept
returns-clause-kept g c =
    opening_kept c.opening_keeps.ensures.allowed c.opening_keeps.ensures.stated _ c.args.catalog.now c.args.image (record {
      sites = c.in_ok-sites.ensures;
      given = c.requires.image;
      world = c.in_ok-made.ensures.world;
      tasks = c.in_ok-made.ensures.tasks;
      moving = refl;
      pinned = c.in_ok-made.ensures.pinned;
    }) c.requires.limits c.requires.modules c.requires.catalog (ap (λ (l : RecordList). l.room) c.in_ok-made.ensures.log)
