-- The rest of the objects decides.
use Rattle.std.proofs.Common.{◌≡◌, drop}
use Rattle.std.specs.List.{list_any}
use Rattle.klp_types.specs.Image.{symbols_of}
use Rattle.klp_text.specs.Faults.{is_long}
use Rattle.klp_text.proofs.check.has_long_body.Given as goal

abbrev pub invariant-loop-object : goal.invariant-loop-object
invariant-loop-object l = list_any is_long (symbols_of (drop l.object-index l.objects)) ≡ list_any is_long (symbols_of l.objects)
