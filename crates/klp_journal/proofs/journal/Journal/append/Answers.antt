use Rattle.std.proofs.Common.{◌≡◌, ◌<◌, [], ◌∷◌, ◌++◌, length, map, refl, ap, length-append, ◌∙◌, vec_len, vec_capacity, arith}
use Rattle.std.proofs.lemmas.Grind.{common_steps}
use Rattle.std.proofs.lemmas.List.{length-map, length_push, map-append}
use Rattle.klp_types.specs.Records.{RecordList}
use Rattle.klp_journal.specs.declared.journal.StoredEvent.{StoredEvent}
use Rattle.klp_journal.specs.Journal.{Accepted, groups_of, counted}
use Rattle.klp_journal.specs.AcceptedEvents.{accepted_of}
use Rattle.klp_journal.proofs.GroupLemmas.{room_for, groups-append, counted_more}
use Rattle.klp_journal.proofs.journal.Journal.append.Goals as goal

pub keep-requires : goal.keep-requires
keep-requires c =
    let room = (room_for c.args.self.now c.args.log.now.older c.requires.all c.requires.room).1 in
    omega (arith, room, c.requires.few)

-- there was room for the event
stored : (c : goal.Joined-push) → c.push.new.self.items ≡ c.self.inside.events.items ++ (record { event = c.of.result; reply = c.of-2.result; count = c.logged-count.result }) ∷ []
stored c =
    let room = (room_for c.args.self.now c.args.log.now.older c.requires.all c.requires.room).0 in
    let many = ap length c.self.view_is in
    let same = length-map c.self.inside.events.items accepted_of in
    let fits : vec_len c.self.inside.events < vec_capacity c.self.inside.events = omega arith in
    grind (arith, common_steps)

added : (c : goal.Joined-push) → map accepted_of c.push.new.self.items
    ≡ c.args.self.now ++ (record { event = c.args.event.now; reply = c.args.reply.now; count = length c.args.log.now.logged }) ∷ []
added c =
    let logged : StoredEvent = record { event = c.of.result; reply = c.of-2.result; count = c.logged-count.result } in
    ap (map accepted_of) (stored c) ∙ map-append accepted_of c.self.inside.events.items (logged ∷ [])
    ∙ ap (λ es. es ++ accepted_of logged ∷ []) c.self.view_is
    ∙ ap (λ e. c.args.self.now ++ (let own : Accepted = record { event = e; reply = c.of-2.result.value; count = c.logged-count.result } in own) ∷ []) c.of.ensures
    ∙ ap (λ r. c.args.self.now ++ (let own : Accepted = record { event = c.args.event.now; reply = r; count = c.logged-count.result } in own) ∷ []) c.of-2.ensures
    ∙ ap (λ n. c.args.self.now ++ (let own : Accepted = record { event = c.args.event.now; reply = c.args.reply.now; count = n } in own) ∷ []) c.logged-count.ensures.value

pub returns-clause-groups : goal.returns-clause-groups
returns-clause-groups c =
    ap (λ es. groups_of es c.keep.new.self.older) (added c)
    ∙ ap (λ (l : RecordList). groups_of (c.args.self.now ++ (record { event = c.args.event.now; reply = c.args.reply.now; count = length c.args.log.now.logged }) ∷ []) l.older) c.keep.ensures
    ∙ groups-append c.args.self.now c.args.log.now.older (record { event = c.args.event.now; reply = c.args.reply.now; count = length c.args.log.now.logged }) c.args.log.now.logged c.requires.all refl

pub invariant_of-self : goal.invariant_of-self
invariant_of-self c =
    let room = (room_for c.args.self.now c.args.log.now.older c.requires.all c.requires.room).0 in
    let many = ap length c.self.view_is in
    let same = length-map c.self.inside.events.items accepted_of in
    let longer = ap length (stored c) ∙ length_push c.self.inside.events.items _ in
    (omega arith, omega arith)

pub returns-clause-kept : goal.returns-clause-kept
returns-clause-kept c =
    let logged = ap (λ (l : RecordList). length l.older) c.keep.ensures in
    let both = length-append c.args.log.now.older c.args.log.now.logged in
    let more = ap counted (added c) ∙ counted_more c.args.self.now (record { event = c.args.event.now; reply = c.args.reply.now; count = length c.args.log.now.logged }) in
    record { all = omega (arith, more, c.requires.all, logged, both); rests = ap (λ (l : RecordList). l.logged) c.keep.ensures }
