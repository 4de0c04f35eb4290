-- When a journal is full.
use Rattle.std.proofs.Common.{◌≡◌, ◌-◌, ◌*◌, ◌<◌, ◌≤◌, ◌&&◌, true, List, [], ◌∷◌, length, ap, sym, ◌∙◌, arith, ⊎_elim}
use Rattle.std.specs.Prelude.{nat_lt, nat_le}
use Rattle.std.specs.List.{All}
use Rattle.std.proofs.lemmas.Bool.{lt-ltb, le-leb, both_ways}
use Rattle.std.proofs.lemmas.List.{length-map}
use Rattle.std.proofs.lemmas.List.Elements.{All-head, All-tail}
use Rattle.std.proofs.lemmas.List.Sums.{sum_by-cons}
use Rattle.klp_types.specs.declared.limits.TheConstants.{MAX_GROUPS, MAX_JOURNAL_RECORDS, MAX_RECORDS}
use Rattle.klp_types.specs.Setting.{Setting}
use Rattle.klp_model.specs.declared.event.Event.{Event}
use Rattle.klp_model.specs.Legal.{History}
use Rattle.klp_model.specs.State.{State}
use Rattle.klp_journal.specs.Journal.{Group, records_in, has_room}
use Rattle.klp_core.specs.Journaled.{IsSmall}
use Rattle.klp_live.specs.Admitting.{FindsNoRoom}
use Rattle.klp_live.proofs.Tables.{below}

records_are_few : (groups : List Group) → All IsSmall groups → records_in groups ≤ 4096 * length groups
records_are_few [] small = omega arith
records_are_few (group ∷ groups) small =
    let own : length group.rows ≤ 4096 = (All-head IsSmall group groups small).few in
    let rest : records_in groups ≤ 4096 * length groups = records_are_few groups (All-tail IsSmall group groups small) in
    omega (arith, sum_by-cons (λ (g : Group). length g.rows) group groups)

-- there is room behind so few
room : (groups : List Group) → All IsSmall groups → length groups ≤ 3 → has_room groups ≡ true
room groups small few =
    let records : records_in groups ≤ 4096 * length groups = records_are_few groups small in
    let first : nat_lt (length groups) MAX_GROUPS ≡ true = lt-ltb (length groups) MAX_GROUPS (omega arith) in
    let second : nat_le MAX_RECORDS (MAX_JOURNAL_RECORDS - records_in groups) ≡ true = le-leb MAX_RECORDS (MAX_JOURNAL_RECORDS - records_in groups) (omega arith) in
    ap (λ b. b && nat_le MAX_RECORDS (MAX_JOURNAL_RECORDS - records_in groups)) first ∙ second

pub more_than_few : (setting : Setting) (base : State) (list : History) (event : Event) → FindsNoRoom setting base list event → 3 < length list
more_than_few setting base list event found =
    ⊎_elim
    (λ (h : 3 < length list). h)
    (λ (h : length list ≤ 3). absurd (both_ways (has_room found.groups) found.full (room found.groups found.small (omega (arith, sym (length-map found.groups (λ (g : Group). (g.event, g.reply))) ∙ ap length found.events)))))
    (below 3 (length list))
