-- When two lists of edits touch a common variable.
use Rattle.std.specs.Prelude.{◌≡◌, true, false, List}
use Rattle.klp_types.specs.declared.shadow.ShadowKey.{ShadowKey}
use Rattle.klp_types.specs.declared.edit.Edit.{Edit}
use Rattle.klp_types.specs.Script.{edit_touches}
use Rattle.klp_lint.specs.Scripts.{one_edit_touches}

-- no variable is touched by both edits
abbrev pub IsApartFrom : Edit → Edit → Type 0
IsApartFrom one other = (key : ShadowKey) → edit_touches key one ≡ true → edit_touches key other ≡ false

-- no variable is touched by edits of both lists
abbrev pub AreEditsApart : List Edit → List Edit → Type 0
AreEditsApart one other = (key : ShadowKey) → one_edit_touches one key ≡ true → one_edit_touches other key ≡ false

-- edits of both lists touch the variable
pub record BothTouch (one other : List Edit) (key : ShadowKey) : Type 0 where
  pub first : one_edit_touches one key ≡ true
  pub second : one_edit_touches other key ≡ true
