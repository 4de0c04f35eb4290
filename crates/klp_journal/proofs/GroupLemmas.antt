-- Events and their records: how many groups there are, the records that they have, and what the last of them is.
use Rattle.std.proofs.Common.{◌≡◌, ℕ, ◌+◌, ◌-◌, ◌<◌, ◌≤◌, true, List, [], ◌∷◌, ◌++◌, length, take, drop, suc, refl, sym, ap, ◌∙◌, arith, length-drop}
use Rattle.std.proofs.lemmas.List.{take-append-drop, take-append-le, drop-append-le, take_all, length-take-le, length_push, same_from_push}
use Rattle.std.proofs.lemmas.Grind.{common_steps}
use Rattle.std.proofs.lemmas.List.Sums.{sum_by-cons, sum_by_push}
use Rattle.klp_types.specs.declared.limits.TheConstants.{MAX_GROUPS, MAX_JOURNAL_RECORDS, MAX_RECORDS}
use Rattle.klp_types.specs.declared.record.Record.{Record}
use Rattle.klp_journal.specs.Journal.{Accepted, Group, group_of, groups_of, counted, records_in, has_room}

pub length-groups : (events : List Accepted) (rows : List Record) → length (groups_of events rows) ≡ length events
length-groups [] rows = refl
length-groups (accepted ∷ later) rows = ap suc (length-groups later (drop accepted.count rows))

abbrev own_rows : Accepted → ℕ
own_rows accepted = accepted.count

abbrev rows_in : Group → ℕ
rows_in group = length group.rows

-- all records are theirs
pub records_in-groups : (events : List Accepted) (rows : List Record) → counted events ≡ length rows → records_in (groups_of events rows) ≡ length rows
records_in-groups [] rows all = all
records_in-groups (accepted ∷ later) rows all =
    let count = sum_by-cons own_rows accepted later in
    let own : accepted.count ≤ length rows = omega arith in
    let rest = length-drop accepted.count rows in
    let later_all : counted later ≡ length (drop accepted.count rows) = omega arith in
    let records = sum_by-cons rows_in (group_of accepted (take accepted.count rows)) (groups_of later (drop accepted.count rows)) in
    let first = length-take-le accepted.count rows own in
    let others = records_in-groups later (drop accepted.count rows) later_all in
    omega arith

-- where there is room, one more event finds it, and as many records as one may leave
pub room_for : (events : List Accepted) (rows : List Record) → counted events ≡ length rows → has_room (groups_of events rows) ≡ true
    → (length events < MAX_GROUPS) × (length rows + MAX_RECORDS ≤ MAX_JOURNAL_RECORDS)
room_for events rows all room =
    let many = length-groups events rows in
    let records = records_in-groups events rows all in
    grind (arith, common_steps)

-- one more group, with these records behind all others
pub groups-append : (events : List Accepted) (rows : List Record) (accepted : Accepted) (more : List Record) → counted events ≡ length rows → accepted.count ≡ length more → groups_of (events ++ accepted ∷ []) (rows ++ more) ≡ groups_of events rows ++ group_of accepted more ∷ []
groups-append [] [] accepted more all own = ap (λ (rs : List Record). group_of accepted rs ∷ []) (take_all accepted.count more (omega arith))
groups-append [] (row ∷ rows) accepted more all own = absurd (omega arith)
groups-append (first ∷ later) rows accepted more all own =
    let count = sum_by-cons own_rows first later in
    let within : first.count ≤ length rows = omega arith in
    let rest = length-drop first.count rows in
    let later_all : counted later ≡ length (drop first.count rows) = omega arith in
    let taken = take-append-le first.count rows more within in
    let left = drop-append-le first.count rows more within in
    let induction = groups-append later (drop first.count rows) accepted more later_all own in
    cc

-- so many records, and one event more, are counted
pub counted_more : (events : List Accepted) (accepted : Accepted) → counted (events ++ accepted ∷ []) ≡ counted events + accepted.count
counted_more events accepted = sum_by_push own_rows events accepted

-- The last event, and the records that stand last.
module _ (events older : List Accepted) (newest : Accepted) (rows : List Record) (all : counted events ≡ length rows) (parted : events ≡ older ++ newest ∷ []) where
  many : counted older + newest.count ≡ length rows
  many = sym (counted_more older newest) ∙ ap counted (sym parted) ∙ all

  -- they are its own
  pub own_there : newest.count ≤ length rows
  own_there = omega (arith, many)

  pub older_counted : counted older ≡ length (take (length rows - newest.count) rows)
  older_counted = omega (arith, many, length-take-le (length rows - newest.count) rows (omega arith))

  groups_parted : groups_of events rows ≡ groups_of older (take (length rows - newest.count) rows) ++ group_of newest (drop (length rows - newest.count) rows) ∷ []
  groups_parted =
      let left = length-drop (length rows - newest.count) rows in
      let own : newest.count ≡ length (drop (length rows - newest.count) rows) = omega (arith, many, left) in
      ap (λ es. groups_of es rows) parted
      ∙ ap (groups_of (older ++ newest ∷ [])) (sym (take-append-drop (length rows - newest.count) rows))
      ∙ groups-append older (take (length rows - newest.count) rows) newest (drop (length rows - newest.count) rows) older_counted own

  -- the last group is the newest event's
  pub last_group : (others : List Group) (last : Group) → groups_of events rows ≡ others ++ last ∷ []
      → (groups_of older (take (length rows - newest.count) rows) ≡ others) × (drop (length rows - newest.count) rows ≡ last.rows)
  last_group others last is =
      let same = same_from_push (groups_of older (take (length rows - newest.count) rows)) others (group_of newest (drop (length rows - newest.count) rows)) last (sym groups_parted ∙ is) in
      (same.0, ap (λ (g : Group). g.rows) same.1)

  -- its records are few, where those of the last group are
  pub few_own : (room : ℕ) → ((others : List Group) (last : Group) → groups_of events rows ≡ others ++ last ∷ [] → length last.rows ≤ room) → newest.count ≤ room
  few_own room few =
      let left = length-drop (length rows - newest.count) rows in
      omega (arith, many, left, few (groups_of older (take (length rows - newest.count) rows)) (group_of newest (drop (length rows - newest.count) rows)) groups_parted)

  pub fewer : length older ≡ length events - 1
  fewer = omega (arith, length_push older newest, ap length parted)
