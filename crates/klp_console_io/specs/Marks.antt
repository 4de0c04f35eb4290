-- Where the answers to lines end in the gathered bytes.
use Rattle.std.specs.Prelude.{ℕ, nat_lt, Bool, List, find, Option, option_map}
use Rattle.klp_console_io.specs.declared.marks.Mark.{Mark}

-- whether the line's answer ends behind the first `taken` bytes
abbrev pub ends_behind : ℕ → Mark → Bool
ends_behind taken mark = nat_lt taken mark.end

-- how many events the journal had after the first line whose answer ends behind the first `taken` bytes
abbrev pub events_at_cut : ℕ → List Mark → Option ℕ
events_at_cut taken marks = option_map (λ (m : Mark). m.events) (find (ends_behind taken) marks)
