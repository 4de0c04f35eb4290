-- Records of earlier events, and behind them those of the event that is under way.
use Rattle.std.proofs.Common.{◌≡◌, ℕ, ◌≤◌, List, [], length, take, drop, sym, ap, ◌∙◌, arith}
use Rattle.std.proofs.lemmas.List.{length-drop, take_all}
use Rattle.klp_types.specs.declared.record.Record.{Record}

-- the event has logged nothing
pub nothing_logged : (rows : List Record) (count : ℕ) → count ≤ length rows → drop count rows ≡ [] → count ≡ length rows
nothing_logged rows count within none = omega (arith, ap length none, length-drop count rows, within)

-- so all are older
pub all_older : (rows older : List Record) (count : ℕ) → count ≡ length rows → take count rows ≡ older → rows ≡ older
all_older rows older count all is = sym (take_all count rows (omega (arith, all))) ∙ is
