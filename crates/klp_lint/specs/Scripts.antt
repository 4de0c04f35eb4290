-- The edits that an object's callbacks make.
use Rattle.std.specs.Prelude.{Bool, List, ◌++◌}
use Rattle.std.specs.List.{list_any}
use Rattle.klp_types.specs.declared.shadow.ShadowKey.{ShadowKey}
use Rattle.klp_types.specs.declared.callback.Which.{Which}
use Rattle.klp_types.specs.declared.callback.Which.TheVariants.{Pre, Post, PreUn, PostUn}
use Rattle.klp_types.specs.declared.edit.Edit.{Edit}
use Rattle.klp_types.specs.Setting.{Callback}
use Rattle.klp_types.specs.Callbacks.{script_for}
use Rattle.klp_types.specs.Script.{edits_made, edit_touches}
use Rattle.klp_model.specs.Company.{script_or_empty}

-- the edits that the callback of a kind makes; none if there is no such callback, or if its status isn't 0
abbrev pub edits_for : Which → List Callback → List Edit
edits_for which callbacks = edits_made (script_or_empty (script_for which callbacks))

-- the edits that all callbacks of an object make
abbrev pub all_edits : List Callback → List Edit
all_edits callbacks = ((edits_for Pre callbacks ++ edits_for Post callbacks) ++ edits_for PreUn callbacks) ++ edits_for PostUn callbacks

-- whether one of these edits touches the variable
abbrev pub one_edit_touches : List Edit → ShadowKey → Bool
one_edit_touches edits key = list_any (edit_touches key) edits
