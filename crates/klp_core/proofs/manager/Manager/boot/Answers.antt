use Rattle.std.proofs.Common.{[], length, sym, ap, subst}
use Rattle.klp_types.specs.Records.{RecordList}
use Rattle.klp_core.specs.Journaled.{journaled_of, groups_in, AreInStep, IsSound, IsWellFormed}
use Rattle.klp_core.proofs.JournalLemmas.{kept_in, sound_stands}
use Rattle.klp_core.proofs.manager.Manager.boot.Goals as goal

pub returns-clause-well_formed : goal.returns-clause-well_formed
returns-clause-well_formed g c =
    let state = c.in_ok-state.state in
    let catalog = c.args.catalog in
    let holds = c.in_ok-state.ensures.kept in
    let sound : IsSound state catalog [] = record { holds = holds; steps = kept_in state catalog holds } in
    subst (λ events. IsWellFormed (journaled_of state catalog (groups_in state events))) (sym c.in_ok-state.ensures.journal) (sound_stands state catalog [] sound)

pub invariant_of-result : goal.invariant_of-result
invariant_of-result g c =
    let state = c.in_ok-state.state in
    let catalog = c.args.catalog in
    let holds = c.in_ok-state.ensures.kept in
    let log = c.in_ok-state.ensures.log in
    subst (AreInStep state catalog) (sym c.in_ok-state.ensures.journal)
    (record {
      holds = holds;
      steps = kept_in state catalog holds;
      kept = record { all = sym (ap (λ (l : RecordList). length l.older) log); rests = ap (λ (l : RecordList). l.logged) log };
    })
