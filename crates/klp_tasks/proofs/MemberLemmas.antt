-- Membership by flags, and by lists.
use Rattle.std.proofs.Common.{◌≡◌, ℕ, zero, suc, Bool, false, List, [], ◌∷◌, get_or, replicate, refl}
use Rattle.std.specs.List.{list_any}
use Rattle.klp_types.specs.declared.limits.TheConstants.{MAX_SITES, MAX_PATCHES, MAX_FUNCTIONS}
use Rattle.klp_types.specs.declared.version.Version.{Version}
use Rattle.klp_types.specs.declared.version.Version.TheVariants.{Original, New}
use Rattle.klp_tasks.specs.Members.{has}

none_at : (n i : ℕ) → get_or (replicate n false) i false ≡ false
none_at zero i = refl
none_at (suc n) zero = refl
none_at (suc n) (suc i) = none_at n i

none_in : (m n p f : ℕ) → get_or (get_or (replicate m (replicate n false)) p []) f false ≡ false
none_in zero n p f = refl
none_in (suc m) n zero f = none_at n f
none_in (suc m) n (suc p) f = none_in m n p f

pub in_none : (version : Version) → has (record { originals = replicate MAX_SITES false; functions = replicate MAX_PATCHES (replicate MAX_FUNCTIONS false) }) version ≡ false
in_none (Original site) = none_at MAX_SITES site
in_none (New patch function) = none_in MAX_PATCHES MAX_FUNCTIONS patch function

-- a test that a set passes alike
pub same_any : (one other : Version → Bool) → ((version : Version) → one version ≡ other version) → (versions : List Version) → list_any one versions ≡ list_any other versions
same_any one other same [] = refl
same_any one other same (version ∷ versions) = rw (same version, same_any one other same versions) refl
