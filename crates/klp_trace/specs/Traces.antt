-- A trace: each line of its text is one item, which may have a time before it.
use Rattle.std.specs.Prelude.{◌≡◌, ℕ, ◌+◌, ◌<◌, ◌≤◌, ◌==◌, ◌&&◌, Bool, true, nat_eq, nat_le, if◌then◌else◌, List, [], ◌∷◌, ◌++◌, length, map, drop, codes, Option, Some, None, option_map, option_and_then, unwrap_or}
use Rattle.std.specs.List.{starts_with, before_first, after_first}
use Rattle.std.specs.Str.Lines.{lines}
use Rattle.klp_words.specs.Seconds.{seconds_of}
use Rattle.klp_core.specs.Journaled.{Journaled}
use Rattle.klp_watch.specs.declared.observed.Observed.{Observed}
use Rattle.klp_trace.specs.declared.entry.Timed.{Timed}
use Rattle.klp_trace.specs.declared.fault.TraceFaultKind.{TraceFaultKind}
use Rattle.klp_trace.specs.declared.fault.TraceFaultKind.TheVariants.{BadItem, OutOfOrder, NoMemory}
use Rattle.klp_trace.specs.Items.{item_of}

-- what a line says: an item, and its time if it has one
abbrev pub Entry : Type 0
Entry = Timed Observed

abbrev pub entry_at : Journaled → List ℕ → Option ℕ → Option Entry
entry_at manager text time = option_map (λ item. record { item = item; time = time }) (item_of manager text)

abbrev pub is_space : ℕ → Bool
is_space b = b == 32

-- ITEM, or @SECONDS ITEM
abbrev pub entry_of : Journaled → List ℕ → Option Entry
entry_of manager line =
    if starts_with nat_eq line (codes "@")
    then option_and_then (λ time. entry_at manager (after_first is_space (drop 1 line)) (Some time)) (seconds_of (before_first is_space (drop 1 line)))
    else entry_at manager line None

-- the last time of entries, behind this one
abbrev pub last_time : ℕ → List Entry → ℕ
last_time before [] = before
last_time before (entry ∷ entries) = last_time (unwrap_or entry.time before) entries

-- no time is before one in front of it
abbrev pub are_in_order : ℕ → List Entry → Bool
are_in_order before [] = true
are_in_order before (entry ∷ entries) = nat_le before (unwrap_or entry.time before) && are_in_order (unwrap_or entry.time before) entries

-- each line is an entry, and their times are in order
pub record AreEntries (manager : Journaled) (lines : List (List ℕ)) (entries : List Entry) : Type 0 where
  pub each : map (entry_of manager) lines ≡ map Some entries
  pub in_order : are_in_order 0 entries ≡ true

abbrev pub items_in : List Entry → List Observed
items_in entries = map (λ (e : Entry). e.item) entries

abbrev pub times_in : List Entry → List (Option ℕ)
times_in entries = map (λ (e : Entry). e.time) entries

-- the items of a text, each with the time that its line has
pub record IsTraceOf (manager : Journaled) (text : List ℕ) (items : List Observed) (times : List (Option ℕ)) : Type 0 where
  pub entries : List Entry
  pub read : AreEntries manager (lines text) entries
  pub items_are : items ≡ items_in entries
  pub times_are : times ≡ times_in entries

-- what is wrong with a line behind entries of this last time: it is no entry, or its time is before that one. Want of memory may stand in
-- place of either
abbrev pub IsLineFault : Journaled → ℕ → List ℕ → TraceFaultKind → Type 0
IsLineFault manager before line BadItem = entry_of manager line ≡ None
IsLineFault manager before line OutOfOrder = (entry : Entry) × (entry_of manager line ≡ Some entry) × (unwrap_or entry.time before < before)
IsLineFault manager before line NoMemory = Unit {0}

-- the first line at fault, counted from 1
pub record IsTraceFault (manager : Journaled) (lines : List (List ℕ)) (number : ℕ) (kind : TraceFaultKind) : Type 0 where
  pub earlier : List (List ℕ)
  pub bad : List ℕ
  pub later : List (List ℕ)
  pub entries : List Entry
  pub parted : lines ≡ earlier ++ bad ∷ later
  pub number_is : number ≡ length earlier + 1
  pub read : AreEntries manager earlier entries
  pub why : IsLineFault manager (last_time 0 entries) bad kind

-- one more line is an entry behind those of this last time; that time is the last one now
pub record IsReadOn (manager : Journaled) (before : ℕ) (line : List ℕ) (items : List Observed) (times : List (Option ℕ))
    (items-now : List Observed) (times-now : List (Option ℕ)) (time : ℕ) : Type 0 where
  pub entry : Entry
  pub is : entry_of manager line ≡ Some entry
  pub in_order : before ≤ unwrap_or entry.time before
  pub time_is : time ≡ unwrap_or entry.time before
  pub items_are : items-now ≡ items ++ entry.item ∷ []
  pub times_are : times-now ≡ times ++ entry.time ∷ []
