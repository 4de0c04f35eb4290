-- Records as they are stored: the words of one record after those of another, and the number of records.
use Rattle.std.specs.Prelude.{◌≡◌, ℕ, zero, suc, ◌-◌, ◌/◌, ◌%◌, List, [], ◌∷◌, ◌++◌, length, take, drop}
use Rattle.klp_types.specs.declared.record.Record.{Record}
use Rattle.klp_journal.specs.Words.{words_of, IsRecord, IsBody}
use Rattle.klp_journal.specs.Decoded.{word_at, record_of}

-- records, oldest first, and how many fit
pub record StoredList : Type 0 where
  pub rows : List Record
  pub room : ℕ

-- the last word of a list, which is a tag
abbrev pub last_tag : List ℕ → ℕ
last_tag words = word_at words (length words - 1)

-- the index at which the words of the last record begin
abbrev pub last_begins : List ℕ → ℕ
last_begins words = length words - 1 - last_tag words / 256

-- the last record
abbrev pub last_record : List ℕ → Record
last_record words = record_of (last_tag words % 256) (take (last_tag words / 256) (drop (last_begins words) words))

-- the words of all records before the last
abbrev pub words_before : List ℕ → List ℕ
words_before words = take (last_begins words) words

-- this many records, oldest first
abbrev pub records_in : ℕ → List ℕ → List Record
records_in zero words = []
records_in (suc count) words = records_in count (words_before words) ++ last_record words ∷ []

-- the words are those of this many records, and nothing else
abbrev pub AreWords : ℕ → List ℕ → Type 0
AreWords zero words = words ≡ []
AreWords (suc count) words =
    (words ≡ words_before words ++ words_of (last_record words)) × (IsRecord (last_record words) × AreWords count (words_before words))

-- the words end with those of a record
abbrev pub EndWithRecord : List ℕ → Type 0
EndWithRecord words = (words ≡ words_before words ++ words_of (last_record words)) × IsRecord (last_record words)

-- the words are those of a record of this kind, without its tag
abbrev pub AreOfKind : ℕ → List ℕ → Type 0
AreOfKind kind words = (row : Record) × IsBody kind words row
