-- Times, as a page spells them.
use Rattle.std.specs.Prelude.{ℕ, ◌/◌, ◌%◌, List, [], ◌++◌, codes, Option, Some, None}
use Rattle.std.specs.Fmt.{decimal}
use Rattle.klp_names.specs.Names.{Names, since_start, lasted}

-- microseconds as seconds with one decimal, of which the rest is left out
unfoldable pub seconds_text : ℕ → List ℕ
seconds_text time = decimal (time / 1000000) ++ codes "." ++ decimal (time / 100000 % 10) ++ codes " s"

-- how long something lasted, if that is known
abbrev pub lasting_text : Option ℕ → List ℕ
lasting_text None = []
lasting_text (Some time) = codes " for " ++ seconds_text time

-- how long after the first time something was, and how long it lasted
abbrev pub after_text : Option ℕ → Option ℕ → List ℕ
after_text None lasting = []
after_text (Some time) lasting = codes " (+" ++ seconds_text time ++ lasting_text lasting ++ codes ")"

-- when a line was: ` (+3.0 s)`
abbrev pub line_time : Names → ℕ → List ℕ
line_time names line = after_text (since_start names.timed line) None

-- when something began with a line that was so up to another line, and how long it lasted: ` (+0.0 s for 15.1 s)`
abbrev pub span_time : Names → ℕ → Option ℕ → List ℕ
span_time names line to = after_text (since_start names.timed line) (lasted names.timed line to)
