-- What is against a shadow variable that is to be added, and what nothing against it tells.
use Rattle.std.proofs.Common.{◌≡◌, ◌<◌, ◌≤◌, Bool, true, false, [], ◌∷◌, nat_le, Option, Some, None, is_some, refl, sym, ap, ◌∙◌}
use Rattle.std.specs.FinMap as finite
use Rattle.std.proofs.lemmas.Bool.{le-leb, lt-leb}
use Rattle.klp_types.specs.declared.limits.TheConstants.{MAX_VARIABLES}
use Rattle.klp_types.specs.declared.shadow.ShadowKey.{ShadowKey}
use Rattle.klp_types.specs.FirstOf.{first_of}
use Rattle.klp_types.specs.World.{Shadow, ShadowValue}
use Rattle.klp_world.specs.declared.shadow_table.NotAdded.{NotAdded}
use Rattle.klp_world.specs.declared.shadow_table.NotAdded.TheVariants.{Exists, Full}
use Rattle.klp_world.specs.Added.{against}

-- the first reason, by whether it is there and whether there is no room
abbrev reason : Bool → Bool → Option NotAdded
reason there full = first_of ((there, Exists) ∷ (full, Full) ∷ [])

pub is_there : (shadow : Shadow) (key : ShadowKey) → is_some (finite.get shadow key) ≡ true → Some Exists ≡ against shadow key
is_there shadow key there = sym (ap (λ t. reason t (nat_le MAX_VARIABLES (finite.len shadow))) there)

pub is_free : (shadow : Shadow) (key : ShadowKey) → is_some (finite.get shadow key) ≡ false → finite.len shadow < MAX_VARIABLES → None ≡ against shadow key
is_free shadow key away room =
    sym (ap (λ t. reason t (nat_le MAX_VARIABLES (finite.len shadow))) away ∙ ap (reason false) (lt-leb MAX_VARIABLES (finite.len shadow) room))

pub is_full : (shadow : Shadow) (key : ShadowKey) → is_some (finite.get shadow key) ≡ false → MAX_VARIABLES ≤ finite.len shadow → Some Full ≡ against shadow key
is_full shadow key away full =
    sym (ap (λ t. reason t (nat_le MAX_VARIABLES (finite.len shadow))) away ∙ ap (reason false) (le-leb MAX_VARIABLES (finite.len shadow) full))

none_if : (full : Bool) (found : Option ShadowValue) → None ≡ reason (is_some found) full → found ≡ None
none_if full None free = refl
none_if full (Some there) free = let no : ⊥ = cc in absurd no

-- where nothing is against it, it isn't there
pub not_there : (shadow : Shadow) (key : ShadowKey) → None ≡ against shadow key → finite.get shadow key ≡ None
not_there shadow key free = none_if (nat_le MAX_VARIABLES (finite.len shadow)) (finite.get shadow key) free

-- what is against nothing answers none
pub none_against : (why : Option NotAdded) → false ≡ is_some why → why ≡ None
none_against None e = refl
none_against (Some why) e = cc
