-- The journal: the accepted events, oldest first, and how much room there is for more.
use Rattle.std.specs.Prelude.{◌≡◌, ℕ, ◌-◌, Bool, ◌&&◌, nat_lt, nat_le, List, [], ◌∷◌, length, take, drop, sum_by}
use Rattle.klp_types.specs.declared.limits.TheConstants.{MAX_GROUPS, MAX_JOURNAL_RECORDS, MAX_RECORDS}
use Rattle.klp_types.specs.declared.record.Record.{Record}
use Rattle.klp_types.specs.Records.{RecordList}
use Rattle.klp_model.specs.declared.event.Event.{Event}
use Rattle.klp_model.specs.declared.event.Reply.{Reply}

-- an accepted event, with its reply and the number of its records
pub record Accepted : Type 0 where
  pub event : Event
  pub reply : Reply
  pub count : ℕ

-- an accepted event with its reply, and the rows that it changed, as they were, in the order in which they were
-- logged
pub record Group : Type 0 where
  pub event : Event
  pub reply : Reply
  pub rows : List Record

-- an accepted event with its records
abbrev pub group_of : Accepted → List Record → Group
group_of accepted rows = record { event = accepted.event; reply = accepted.reply; rows = rows }

-- events with their records: the list has the records of one event after those of another, and each event takes as
-- many as it has
abbrev pub groups_of : List Accepted → List Record → List Group
groups_of [] rows = []
groups_of (accepted ∷ later) rows = group_of accepted (take accepted.count rows) ∷ groups_of later (drop accepted.count rows)

-- how many records the events have together
abbrev pub counted : List Accepted → ℕ
counted events = sum_by (λ (a : Accepted). a.count) events

-- a list has the records of these events and no others, and no event is under way
pub record Keeps (log : RecordList) (events : List Accepted) : Type 0 where
  pub all : counted events ≡ length log.older
  pub rests : log.logged ≡ []

-- how many records the groups have together
abbrev pub records_in : List Group → ℕ
records_in groups = sum_by (λ (g : Group). length g.rows) groups

-- how many more records fit
abbrev pub records_free : List Group → ℕ
records_free groups = MAX_JOURNAL_RECORDS - records_in groups

-- whether one more event fits, whatever it changes: one more group, and as many records as one event may log
abbrev pub has_room : List Group → Bool
has_room groups = nat_lt (length groups) MAX_GROUPS && nat_le MAX_RECORDS (records_free groups)
