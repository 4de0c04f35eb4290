-- How a premise of the round trip fails.
use Rattle.std.specs.Prelude.{◌≡◌, ◌⊎◌, ℕ, true, false, List, [], ◌∷◌, None, Result, Ok, Err, map}
use Rattle.klp_types.specs.declared.shadow.ShadowKey.{ShadowKey}
use Rattle.klp_types.specs.declared.callback.Which.TheVariants.{Pre, Post, PreUn, PostUn}
use Rattle.klp_types.specs.declared.edit.Edit.{Edit}
use Rattle.klp_types.specs.Setting.{Setting, PatchObject}
use Rattle.klp_types.specs.World.{World, variable}
use Rattle.klp_types.specs.Script.{effect}
use Rattle.klp_modules.specs.Names.{names_of}
use Rattle.klp_catalog_text.specs.Plan.{PlanPatch}
use Rattle.klp_catalog.specs.Catalog.{setting_patch}
use Rattle.klp_model.specs.State.{State, is_installed}
use Rattle.klp_model.specs.Company.{taking_part, script_of, object_touches, one_touches, company_keys, EachUndoes, AreApart, IsFairStart}
use Rattle.klp_lint.specs.Scripts.{one_edit_touches}
use Rattle.klp_lint.specs.Undone.{Values, IsRestored}
use Rattle.klp_lint.specs.declared.premise.Pair.{Pair}
use Rattle.klp_lint.specs.declared.premise.Pair.TheVariants as pair
use Rattle.klp_lint.specs.declared.premise.Left.{Left}
use Rattle.klp_lint.specs.declared.premise.Premise.{Premise}
use Rattle.klp_lint.specs.declared.premise.Premise.TheVariants.{Moving, Installed, NotUndone, NotApart}

-- the setting has the patches of a plan, over the names of its image
abbrev pub ArePatchesOf : Setting → List PlanPatch → Type 0
ArePatchesOf setting patches = setting.patches ≡ map (setting_patch (names_of setting.image.objects)) patches

-- one of the objects has the property
abbrev pub OneOf : (ℕ × PatchObject → Type 0) → List (ℕ × PatchObject) → Type 0
OneOf P [] = ⊥
OneOf P (object ∷ objects) = P object ⊎ OneOf P objects

-- the second callback of the pair leaves the variable with another value than the first found in this world; those of
-- the second pair run in the world that pre-patch leaves
abbrev pub IsNotUndone : Pair → ℕ → World → ShadowKey → ℕ × PatchObject → Type 0
IsNotUndone pair.Pre patch world key object =
    variable (effect patch (effect patch world (script_of Pre object)) (script_of PostUn object)) key ≡ variable world key → ⊥
IsNotUndone pair.Post patch world key object =
    let there = effect patch world (script_of Pre object) in
    variable (effect patch (effect patch there (script_of Post object)) (script_of PreUn object)) key ≡ variable there key → ⊥

-- the objects touch no variable that these edits touch
abbrev pub AreApartFrom : List Edit → List (ℕ × PatchObject) → Type 0
AreApartFrom edits objects = (key : ShadowKey) → one_edit_touches edits key ≡ true → one_touches objects key ≡ false

-- an object and a later one touch the variable; they have these indexes in their patch
abbrev pub TwoTouch : ℕ → ℕ → ShadowKey → List (ℕ × PatchObject) → Type 0
TwoTouch first second key [] = ⊥
TwoTouch first second key (object ∷ objects) =
    ((object.0 ≡ first) × (object_touches key object ≡ true)
    × OneOf (λ (later : ℕ × PatchObject). (later.0 ≡ second) × (object_touches key later ≡ true)) objects)
    ⊎ TwoTouch first second key objects

-- the premise doesn't hold
abbrev pub Fails : Setting → ℕ → State → Premise → Type 0
Fails setting patch state Moving = state.moving ≡ None → ⊥
Fails setting patch state Installed = is_installed state patch ≡ true
Fails setting patch state (NotUndone place two key) =
    OneOf (λ (o : ℕ × PatchObject). (o.0 ≡ place) × IsNotUndone two patch state.world key o) (taking_part setting state patch)
Fails setting patch state (NotApart first second key) = TwoTouch first second key (taking_part setting state patch)

-- The same of the callbacks of these objects, where the variables have these values.
abbrev pub FailsOf : Values → List (ℕ × PatchObject) → Premise → Type 0
FailsOf values objects Moving = ⊥
FailsOf values objects Installed = ⊥
FailsOf values objects (NotUndone place two key) =
    OneOf (λ (o : ℕ × PatchObject). (o.0 ≡ place) × (IsRestored two o.1.callbacks key (values key) → ⊥)) objects
FailsOf values objects (NotApart first second key) = TwoTouch first second key objects

-- the premise that an object of this index doesn't keep, since its callbacks leave this
abbrev pub premise_of : ℕ → Left → Premise
premise_of place left = NotUndone place left.pair left.key

-- the answer of `leaves_no_trace`: the patch is at a fair start, or the premise fails
abbrev pub Judges : Setting → ℕ → State → Result Unit Premise → Type 0
Judges setting patch state (Ok done) = IsFairStart setting patch state
Judges setting patch state (Err premise) = Fails setting patch state premise

-- None of the variables that the patch's callbacks touch is there.
abbrev pub IsBare : Setting → ℕ → State → World → Type 0
IsBare setting patch state world = (key : ShadowKey) → company_keys setting state patch key ≡ true → variable world key ≡ None

-- The premises hold in each world that has none of the touched variables.
pub record HoldEverywhere (setting : Setting) (patch : ℕ) (state : State) : Type 0 where
  pub undone : (world : World) → IsBare setting patch state world → EachUndoes patch world (taking_part setting state patch)
  pub apart : AreApart (taking_part setting state patch)

-- the answer of `holds_everywhere`: they hold, or the premise fails where there are no variables at all
abbrev pub JudgesEverywhere : Setting → ℕ → State → Result Unit Premise → Type 0
JudgesEverywhere setting patch state (Ok done) = HoldEverywhere setting patch state
JudgesEverywhere setting patch state (Err premise) = FailsOf (λ _. None) (taking_part setting state patch) premise
