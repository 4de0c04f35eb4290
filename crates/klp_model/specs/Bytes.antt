-- The text of a loaded object.
use Rattle.std.specs.Prelude.{ℕ, List, Option, None, if◌then◌else◌}
use Rattle.klp_types.specs.Image.{Symbol}
use Rattle.klp_types.specs.Setting.{Setting}
use Rattle.klp_types.specs.Bytes.{text_where}
use Rattle.klp_model.specs.State.{State, is_loaded}
use Rattle.klp_model.specs.Entries.{is_hooked}

-- the symbols of a loaded object, with the bytes that a processor would run
abbrev pub text_of : Setting → State → ℕ → Option (List Symbol)
text_of setting state object = if is_loaded state object then text_where setting.image (is_hooked setting state) object else None
