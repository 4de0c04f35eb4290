use Rattle.std.proofs.Common.{◌++◌, [], ◌∷◌, length, sym, ap, subst, ◌∙◌}
use Rattle.klp_journal.specs.Journal.{Group, groups_of, has_room}
use Rattle.klp_manager_state.specs.Managed.{setting_of}
use Rattle.klp_manager_state.specs.Rows.{Before}
use Rattle.klp_core.specs.Journaled.{Journaled, journaled_of, groups_in}
use Rattle.klp_core.specs.Taking.{Appends}
use Rattle.klp_core.proofs.JournalLemmas.{over, appended_sound, appended, with_room, kept_in_step, kept_journaled}
use Rattle.klp_core.proofs.journal.append_long.Goals as goal

pub append-requires-clause-all : goal.append-requires-clause-all
append-requires-clause-all g c = c.requires.kept.kept.all ∙ sym (ap (λ (b : Before). length b.older) c.in_ok-reply.ensures.logged.accepted)

pub append-requires-clause-room : goal.append-requires-clause-room
append-requires-clause-room g c =
    ap (λ (b : Before). has_room (groups_of c.args.journal.now b.older)) c.in_ok-reply.ensures.logged.accepted ∙ c.requires.room

pub returns-clause-kept : goal.returns-clause-kept
returns-clause-kept g c =
    let taken = c.in_ok-reply.ensures.taken in
    let logged = c.in_ok-reply.ensures.logged.accepted in
    let group : Group = record { event = c.args.event.now; reply = c.in_ok-reply.reply; rows = c.take_long.new.state.log.logged } in
    let groups = groups_in c.args.state.now c.args.journal.now in
    let same = c.append.ensures.appended ∙ ap (λ (b : Before). groups_of c.args.journal.now b.older ++ group ∷ []) logged in
    kept_in_step c.take_long.new.state c.append.new.state c.take_long.new.catalog c.append.new.journal (groups ++ group ∷ [])
    (appended_sound c.args.state.now c.take_long.new.state c.args.catalog.now c.take_long.new.catalog groups c.args.event.now c.in_ok-reply.reply
    (over c.args.state.now c.args.catalog.now c.args.journal.now c.requires.kept) taken logged c.append.ensures.few c.in_ok-reply.ensures.one)
    c.append.ensures.state same c.append.ensures.kept

pub returns-clause-taken : goal.returns-clause-taken
returns-clause-taken g c =
    let taken = c.in_ok-reply.ensures.taken in
    let logged = c.in_ok-reply.ensures.logged.accepted in
    let group : Group = record { event = c.args.event.now; reply = c.in_ok-reply.reply; rows = c.take_long.new.state.log.logged } in
    let groups = groups_in c.args.state.now c.args.journal.now in
    let same = c.append.ensures.appended ∙ ap (λ (b : Before). groups_of c.args.journal.now b.older ++ group ∷ []) logged in
    let before = journaled_of c.args.state.now c.args.catalog.now groups in
    record {
      answered = with_room (setting_of before.managed) before.managed.state groups c.args.event.now c.in_ok-reply.reply c.requires.room taken.takes.answered;
      accepted = subst (λ (m : Journaled). Appends before m c.args.event.now c.in_ok-reply.reply)
          (kept_journaled c.take_long.new.state c.append.new.state c.take_long.new.catalog c.append.new.journal (groups ++ group ∷ []) c.append.ensures.state same)
          (appended c.args.state.now c.take_long.new.state c.args.catalog.now c.take_long.new.catalog groups c.args.event.now c.in_ok-reply.reply c.requires.kept.holds c.append.ensures.sites
          taken logged c.append.ensures.few c.in_ok-reply.ensures.one);
      refused = tt;
    }
