use Rattle.std.proofs.Common.{◌≡◌, ◌++◌, false, length}
use Rattle.klp_markup.specs.Escaped.{escaped, escaped_behind}
use Rattle.klp_markup.proofs.sheet.Sheet.text.Given as goal

-- what is written, and what is left to be
abbrev pub invariant-loop-byte : goal.invariant-loop-byte
invariant-loop-byte l = l.self.is_short ≡ false
    → (l.initial.self.is_short ≡ false) × (l.self.text ++ escaped_behind l.kept l.rest ≡ l.initial.self.text ++ escaped l.text)

abbrev pub decreases-loop-byte : goal.decreases-loop-byte
decreases-loop-byte l = length l.rest
