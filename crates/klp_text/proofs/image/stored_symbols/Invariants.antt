-- The symbols so far.
use Rattle.std.proofs.Common.{◌++◌, take}
use Rattle.std.specs.List.{AllZip}
use Rattle.klp_types.specs.Image.{symbols_of}
use Rattle.klp_text.specs.Kept.{IsResting}
use Rattle.klp_text.proofs.image.stored_symbols.Given as goal

abbrev pub invariant-loop-object : goal.invariant-loop-object
invariant-loop-object l = AllZip (IsResting l.fn.handler) l.sites.items (symbols_of (take l.object-index l.objects))

abbrev pub invariant-loop-symbol : goal.invariant-loop-symbol
invariant-loop-symbol l =
    AllZip (IsResting l.fn.handler) l.sites.items (symbols_of (take l.object-index l.objects) ++ take l.symbol-index l.symbol-items)
