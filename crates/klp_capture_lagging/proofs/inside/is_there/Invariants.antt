use Rattle.std.proofs.Common.{◌≡◌, drop}
use Rattle.std.specs.List.{list_any}
use Rattle.klp_capture_lagging.specs.Inside.{is_symbol_of}
use Rattle.klp_capture_lagging.proofs.inside.is_there.Given as goal

-- the symbols so far have other names
abbrev pub invariant-loop-symbol : goal.invariant-loop-symbol
invariant-loop-symbol l =
    list_any (is_symbol_of l.function) l.capture.symbols.items ≡ list_any (is_symbol_of l.function) (drop l.symbol-index l.capture.symbols.items)
