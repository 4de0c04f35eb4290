use Rattle.std.proofs.Common.{sym, ap, subst, ◌∙◌}
use Rattle.klp_types.specs.Records.{RecordList}
use Rattle.klp_journal.specs.Journal.{groups_of}
use Rattle.klp_manager_state.specs.Rows.{rows_in, undone}
use Rattle.klp_core.specs.Journaled.{rows_before_all, groups_in, IsSound}
use Rattle.klp_core.proofs.JournalLemmas.{over, some_newest, before_more, sound_due, sound_few, taken_back, taken_back_in_step, others_are}
use Rattle.klp_core.proofs.journal.take_newest_back.Goals as goal

pub reopen-requires-clause-few : goal.reopen-requires-clause-few
reopen-requires-clause-few g c = λ older newest is.
    sound_few c.args.state.now c.args.catalog.now (groups_in c.args.state.now c.args.journal.now) older newest
    (over c.args.state.now c.args.catalog.now c.args.journal.now c.requires.kept) is

pub undo-requires-clause-due : goal.undo-requires-clause-due
undo-requires-clause-due g c =
    let groups = groups_in c.args.state.now c.args.journal.now in
    let parted = some_newest groups c.requires.some in
    sound_due c.args.state.now c.args.catalog.now groups parted.0 parted.1 c.reopen.new.log.logged
    (over c.args.state.now c.args.catalog.now c.args.journal.now c.requires.kept) parted.2 (c.reopen.ensures.groups parted.0 parted.1 parted.2).1

pub returns-clause-kept : goal.returns-clause-kept
returns-clause-kept g c =
    let state = c.args.state.now in
    let parted = some_newest (groups_in state c.args.journal.now) c.requires.some in
    let left = c.reopen.ensures.groups parted.0 parted.1 parted.2 in
    let back = taken_back state c.undo.new.self c.args.catalog.now parted.0 parted.1
    (subst (IsSound state c.args.catalog.now) parted.2 (over state c.args.catalog.now c.args.journal.now c.requires.kept))
    (c.undo.ensures.rows ∙ ap (undone (rows_in state)) left.1) c.undo.ensures.modules
    (ap (λ (l : RecordList). l.room) c.undo.ensures.log ∙ c.reopen.ensures.room) in
    taken_back_in_step state c.undo.new.self c.args.catalog.now c.reopen.new.log parted.0 parted.1 c.reopen.new.self back c.undo.ensures.log left.0 c.reopen.ensures.all

pub returns-clause-groups : goal.returns-clause-groups
returns-clause-groups g c =
    let groups = groups_in c.args.state.now c.args.journal.now in
    let parted = some_newest groups c.requires.some in
    ap (λ (l : RecordList). groups_of c.reopen.new.self l.older) c.undo.ensures.log ∙ (c.reopen.ensures.groups parted.0 parted.1 parted.2).0
    ∙ others_are groups parted.0 parted.1 parted.2

pub returns-clause-base : goal.returns-clause-base
returns-clause-base g c =
    let state = c.args.state.now in
    let parted = some_newest (groups_in state c.args.journal.now) c.requires.some in
    let left = c.reopen.ensures.groups parted.0 parted.1 parted.2 in
    ap (rows_before_all (rows_in c.undo.new.self)) (ap (λ (l : RecordList). groups_of c.reopen.new.self l.older) c.undo.ensures.log ∙ left.0)
    ∙ sym (before_more (rows_in c.undo.new.self) (rows_in state) parted.0 parted.1 (sym (c.undo.ensures.rows ∙ ap (undone (rows_in state)) left.1)))
    ∙ ap (rows_before_all (rows_in state)) (sym parted.2)

pub returns-clause-image : goal.returns-clause-image
returns-clause-image g c =
    let state = c.args.state.now in
    let parted = some_newest (groups_in state c.args.journal.now) c.requires.some in
    let left = c.reopen.ensures.groups parted.0 parted.1 parted.2 in
    let back = taken_back state c.undo.new.self c.args.catalog.now parted.0 parted.1
    (subst (IsSound state c.args.catalog.now) parted.2 (over state c.args.catalog.now c.args.journal.now c.requires.kept))
    (c.undo.ensures.rows ∙ ap (undone (rows_in state)) left.1) c.undo.ensures.modules
    (ap (λ (l : RecordList). l.room) c.undo.ensures.log ∙ c.reopen.ensures.room) in
    back.image
