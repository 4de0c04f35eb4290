-- When the callbacks of an object undo each other, one variable at a time.
use Rattle.std.specs.Prelude.{◌≡◌, ℕ, ◌<◌, ◌≤◌, List, [], ◌∷◌, Option, Some, None}
use Rattle.klp_types.specs.declared.shadow.ShadowKey.{ShadowKey}
use Rattle.klp_types.specs.declared.callback.Which.TheVariants.{Pre, Post, PreUn, PostUn}
use Rattle.klp_types.specs.declared.edit.Edit.{Edit}
use Rattle.klp_types.specs.declared.edit.Edit.TheVariants.{Alloc, Free, FreeAll, SetData, TakePrev}
use Rattle.klp_types.specs.Setting.{Callback, PatchObject}
use Rattle.klp_types.specs.World.{ShadowValue}
use Rattle.klp_types.specs.Script.{made_of}
use Rattle.klp_lint.specs.Scripts.{edits_for}
use Rattle.klp_lint.specs.declared.premise.Pair.{Pair}
use Rattle.klp_lint.specs.declared.premise.Pair.TheVariants as pair
use Rattle.klp_lint.specs.declared.premise.Left.{Left}

-- the values of all shadow variables
abbrev pub Values : Type 0
Values = ShadowKey → Option ShadowValue

-- the lowest parent object, at or above an address, that has a variable of the id: there is none from the address up to it
abbrev pub IsNextOf : Values → ℕ → ℕ → Option ℕ → Type 0
IsNextOf values id from None = (other : ℕ) → from ≤ other → values (record { obj = other; id = id }) ≡ None
IsNextOf values id from (Some parent) =
    (from ≤ parent) × ((other : ℕ) → from ≤ other → other < parent → values (record { obj = other; id = id }) ≡ None)

-- the value of a variable that the first callback of the pair finds; before pre-patch it has this one
abbrev pub found_by : Pair → List Callback → ShadowKey → Option ShadowValue → Option ShadowValue
found_by pair.Pre callbacks key was = was
found_by pair.Post callbacks key was = made_of key was (edits_for Pre callbacks)

-- the value that it has behind both callbacks of the pair
abbrev pub left_behind : Pair → List Callback → ShadowKey → Option ShadowValue → Option ShadowValue
left_behind pair.Pre callbacks key was = made_of key (made_of key was (edits_for Pre callbacks)) (edits_for PostUn callbacks)
left_behind pair.Post callbacks key was =
    made_of key (made_of key (made_of key was (edits_for Pre callbacks)) (edits_for Post callbacks)) (edits_for PreUn callbacks)

-- A variable that has this value has it again after both callbacks of the pair. Those of the second pair begin with what
-- pre-patch makes of it.
abbrev pub IsRestored : Pair → List Callback → ShadowKey → Option ShadowValue → Type 0
IsRestored pair.Pre callbacks key was = made_of key (made_of key was (edits_for Pre callbacks)) (edits_for PostUn callbacks) ≡ was
IsRestored pair.Post callbacks key was =
    made_of key (made_of key (made_of key was (edits_for Pre callbacks)) (edits_for Post callbacks)) (edits_for PreUn callbacks)
    ≡ made_of key was (edits_for Pre callbacks)

pub record AreRestored (callbacks : List Callback) (key : ShadowKey) (was : Option ShadowValue) : Type 0 where
  pub pre : IsRestored pair.Pre callbacks key was
  pub post : IsRestored pair.Post callbacks key was

-- each variable is restored by the callbacks of each of these objects
abbrev pub EachRestores : Values → List (ℕ × PatchObject) → Type 0
EachRestores values [] = Unit {0}
EachRestores values (object ∷ objects) = ((key : ShadowKey) → AreRestored object.1.callbacks key (values key)) × EachRestores values objects

-- Nothing that this edit names stays changed: a variable is restored, and of an id each that is there.
abbrev pub IsHarmless : Values → List Callback → Edit → Type 0
IsHarmless values callbacks (Alloc key value) = AreRestored callbacks key (values key)
IsHarmless values callbacks (Free key) = AreRestored callbacks key (values key)
IsHarmless values callbacks (FreeAll id) = (key : ShadowKey) → id ≡ key.id → (values key ≡ None → ⊥) → AreRestored callbacks key (values key)
IsHarmless values callbacks (SetData id value) = Unit {0}
IsHarmless values callbacks (TakePrev id) = Unit {0}

abbrev pub AreHarmless : Values → List Callback → List Edit → Type 0
AreHarmless values callbacks [] = Unit {0}
AreHarmless values callbacks (edit ∷ edits) = IsHarmless values callbacks edit × AreHarmless values callbacks edits

-- What the callbacks leave: a variable that the pair doesn't restore.
abbrev pub IsLeft : Values → List Callback → Left → Type 0
IsLeft values callbacks left = IsRestored left.pair callbacks left.key (values left.key) → ⊥
