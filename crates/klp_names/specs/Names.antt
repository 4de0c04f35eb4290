-- What an observer knows of a run beside its lines.
use Rattle.std.specs.Prelude.{◌≡◌, ℕ, ◌+◌, ◌-◌, ◌<◌, ◌≤◌, ◌==◌, if◌then◌else◌, List, [], ◌∷◌, length, slice_index_or, Option, Some, None, option_map, option_and_then}
use Rattle.klp_words.specs.Seconds.{within_64_bits}
use Rattle.klp_names.specs.declared.timed.Timed.{Timed}
use Rattle.klp_names.specs.Named.{Named}

pub record Names : Type 0 where
  pub named : List Named
  -- lines, each with its time
  pub timed : List Timed

abbrev pub nothing_known : Names
nothing_known = record { named = []; timed = [] }

-- what a task is called, if that is known
abbrev pub name_of : List Named → ℕ → Option (List ℕ)
name_of [] task = None
name_of (named ∷ rest) task = if named.task == task then Some named.name else name_of rest task

-- when a line was, if that is known
abbrev pub time_of : List Timed → ℕ → Option ℕ
time_of [] line = None
time_of (timed ∷ rest) line = if timed.line == line then Some timed.at else time_of rest line

-- the first time that is known
abbrev pub start_of : List Timed → Option ℕ
start_of [] = None
start_of (first ∷ rest) = Some first.at

-- how long after one time another is, where both are known
abbrev pub time_between : Option ℕ → Option ℕ → Option ℕ
time_between from to = option_and_then (λ begin. option_map (λ end. end - begin) to) from

-- how long after the first time a line was
abbrev pub since_start : List Timed → ℕ → Option ℕ
since_start timed line = time_between (start_of timed) (time_of timed line)

-- how long something lasted that was so from one line up to another: it ended with the line behind that
abbrev pub lasted : List Timed → ℕ → Option ℕ → Option ℕ
lasted timed from None = None
lasted timed from (Some last) = option_and_then (λ next. time_between (time_of timed from) (time_of timed next)) (within_64_bits (last + 1))

abbrev pub line_at : List Timed → ℕ → ℕ
line_at timed index = let found = slice_index_or timed index (record { line = 0; at = 0 }) in found.line

-- each line that has a time is behind those that have theirs before it
abbrev pub DoLinesRise : List Timed → Type 0
DoLinesRise timed = (i j : ℕ) → i < j → j < length timed → line_at timed i < line_at timed j

-- the time at a place is that of the line
pub record IsAt (l : List Timed) (line i : ℕ) : Type 0 where
  pub in_range : i < length l
  pub has_line : line_at l i ≡ line

-- the line would be at a place: smaller lines are before it, and greater ones from it on
pub record IsGapFor (l : List Timed) (line i : ℕ) : Type 0 where
  pub in_range : i ≤ length l
  pub smaller_before : (j : ℕ) → j < i → line_at l j < line
  pub greater_after : (j : ℕ) → i ≤ j → j < length l → line < line_at l j
