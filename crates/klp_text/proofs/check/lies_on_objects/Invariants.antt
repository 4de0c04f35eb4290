-- The rest of the objects decides.
use Rattle.std.proofs.Common.{◌≡◌, drop}
use Rattle.std.specs.List.{list_any}
use Rattle.klp_types.specs.Image.{symbols_of}
use Rattle.klp_text.specs.Faults.{share_address}
use Rattle.klp_text.proofs.check.lies_on_objects.Given as goal

abbrev pub invariant-loop-object : goal.invariant-loop-object
invariant-loop-object l =
    list_any (share_address l.symbol) (symbols_of (drop l.object-index l.objects)) ≡ list_any (share_address l.symbol) (symbols_of l.objects)
