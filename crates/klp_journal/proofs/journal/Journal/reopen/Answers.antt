use Rattle.std.proofs.Common.{◌≡◌, List, [], ◌∷◌, ◌++◌, length, map, ap, sym, ◌∙◌}
use Rattle.std.proofs.lemmas.List.{map-append}
use Rattle.klp_types.specs.Records.{RecordList}
use Rattle.klp_journal.specs.declared.journal.StoredEvent.{StoredEvent}
use Rattle.klp_journal.specs.Journal.{Accepted, groups_of}
use Rattle.klp_journal.specs.AcceptedEvents.{accepted_of}
use Rattle.klp_journal.proofs.GroupLemmas.{last_group, few_own, older_counted, own_there, fewer}
use Rattle.klp_journal.proofs.journal.Journal.reopen.Goals as goal

-- the newest event is the last
parted : (events : List Accepted) (stored left : List StoredEvent) (newest : StoredEvent) → map accepted_of stored ≡ events → stored ≡ left ++ newest ∷ []
    → events ≡ map accepted_of left ++ accepted_of newest ∷ []
parted events stored left newest view is = sym view ∙ ap (map accepted_of) is ∙ map-append accepted_of left (newest ∷ [])

pub reopen-requires-clause-few : goal.reopen-requires-clause-few
reopen-requires-clause-few c =
    few_own c.args.self.now (map accepted_of c.pop.new.self.items) (accepted_of c.in-Some.newest) c.args.log.now.older c.requires.kept.all
    (parted c.args.self.now c.self.inside.events.items c.pop.new.self.items c.in-Some.newest c.self.view_is c.in-Some.ensures.items) c.args.log.now.room c.requires.few

pub reopen-requires-clause-there : goal.reopen-requires-clause-there
reopen-requires-clause-there c =
    own_there c.args.self.now (map accepted_of c.pop.new.self.items) (accepted_of c.in-Some.newest) c.args.log.now.older c.requires.kept.all
    (parted c.args.self.now c.self.inside.events.items c.pop.new.self.items c.in-Some.newest c.self.view_is c.in-Some.ensures.items)

pub returns-clause-all : goal.returns-clause-all
returns-clause-all c =
    older_counted c.args.self.now (map accepted_of c.pop.new.self.items) (accepted_of c.in-Some.newest) c.args.log.now.older c.requires.kept.all
    (parted c.args.self.now c.self.inside.events.items c.pop.new.self.items c.in-Some.newest c.self.view_is c.in-Some.ensures.items)
    ∙ ap (λ (l : RecordList). length l.older) (sym c.reopen.ensures)

pub returns-clause-mark : goal.returns-clause-mark
returns-clause-mark c =
    fewer c.args.self.now (map accepted_of c.pop.new.self.items) (accepted_of c.in-Some.newest) c.args.log.now.older c.requires.kept.all
    (parted c.args.self.now c.self.inside.events.items c.pop.new.self.items c.in-Some.newest c.self.view_is c.in-Some.ensures.items)

pub returns-clause-groups : goal.returns-clause-groups
returns-clause-groups c = λ others last is.
    let own = last_group c.args.self.now (map accepted_of c.pop.new.self.items) (accepted_of c.in-Some.newest) c.args.log.now.older c.requires.kept.all
    (parted c.args.self.now c.self.inside.events.items c.pop.new.self.items c.in-Some.newest c.self.view_is c.in-Some.ensures.items) others last is in
    (ap (λ (l : RecordList). groups_of (map accepted_of c.pop.new.self.items) l.older) c.reopen.ensures ∙ own.0, ap (λ (l : RecordList). l.logged) c.reopen.ensures ∙ own.1)
