use Rattle.std.proofs.Common.{subst}
use Rattle.klp_model.specs.Step.{callbacks_of}
use Rattle.klp_manager_state.specs.Managed.{setting_of}
use Rattle.klp_core.specs.Journaled.{Journaled, journaled_of, groups_in}
use Rattle.klp_core.specs.Taking.{IsTaken}
use Rattle.klp_core.proofs.JournalLemmas.{over, sound_stands, counted, same_setting_taken}
use Rattle.klp_core.proofs.manager.Manager.apply_without_reply.Goals as goal

pub returns-clause-taken : goal.returns-clause-taken
returns-clause-taken g c =
    subst (λ (m : Journaled). IsTaken m (journaled_of c.take_without_reply.new.state c.take_without_reply.new.catalog (groups_in c.take_without_reply.new.state c.take_without_reply.new.journal)) c.args.event.now c.take_without_reply.result)
    c.self.view_is c.take_without_reply.ensures.taken

pub returns-clause-counts : goal.returns-clause-counts
returns-clause-counts g c =
    let own = c.args.self.now.managed in
    let calls = callbacks_of (setting_of own) own.state c.args.event.now in
    counted c.args.self.now (journaled_of c.take_without_reply.new.state c.take_without_reply.new.catalog (groups_in c.take_without_reply.new.state c.take_without_reply.new.journal)) c.args.event.now c.take_without_reply.result calls (returns-clause-taken g c)
    (λ patch object place which there. c.counts_grow_by_runs.ensures.looks own.catalog calls patch object place which there)

pub returns-clause-setting : goal.returns-clause-setting
returns-clause-setting g c =
    same_setting_taken c.args.self.now (journaled_of c.take_without_reply.new.state c.take_without_reply.new.catalog (groups_in c.take_without_reply.new.state c.take_without_reply.new.journal)) c.args.event.now c.take_without_reply.result (returns-clause-taken g c)

pub returns-clause-well_formed : goal.returns-clause-well_formed
returns-clause-well_formed g c = sound_stands c.take_without_reply.new.state c.take_without_reply.new.catalog (groups_in c.take_without_reply.new.state c.take_without_reply.new.journal) (over c.take_without_reply.new.state c.take_without_reply.new.catalog c.take_without_reply.new.journal c.take_without_reply.ensures.kept)
