-- Records, oldest first: `logged` are those of the current event, `room` is how many it may log, and `older` are
-- those of earlier events, which come first in the same list.
use Rattle.std.specs.Prelude.{ℕ, ◌-◌, List, length}
use Rattle.klp_types.specs.declared.record.Record.{Record}

pub record RecordList : Type 0 where
  pub logged : List Record
  pub room : ℕ
  pub older : List Record

-- how many more records the current event may log
abbrev pub spare_of : RecordList → ℕ
spare_of records = records.room - length records.logged
