-- What a callback of a kind tells.
use Rattle.std.specs.Prelude.{pos, []}
use Rattle.klp_callback.specs.LentCallback.{LentCallback}
use Rattle.klp_boot.specs.declared.kind.CallbackKind.{CallbackKind}
use Rattle.klp_boot.specs.declared.kind.CallbackKind.TheVariants.{Scripted, Refusing, Quiet}

abbrev pub lent_by : CallbackKind → LentCallback
lent_by (Scripted callback) = callback.value
lent_by (Refusing callback) = record { script = record { edits = []; status = callback.value.status }; runs = callback.value.runs }
lent_by (Quiet callback) = record { script = record { edits = []; status = pos 0 }; runs = callback.value }
