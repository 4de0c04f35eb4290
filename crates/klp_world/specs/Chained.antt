-- The slots of the shadow variables in lists by bucket: which links are right.
use Rattle.std.specs.Prelude.{◌≡◌, ◌≢◌, ℕ, zero, suc, ◌<◌, ◌≤◌, ◌==◌, Bool, true, false, cond, List, length, get_or, set, Option, Some, None, vec_capacity}
use Rattle.klp_types.specs.declared.limits.TheConstants.{MAX_VARIABLES}
use Rattle.klp_world.specs.declared.chains.TheConstants.{BUCKETS}
use Rattle.klp_world.specs.declared.chains.Link.{Link}
use Rattle.klp_world.specs.declared.chains.Chains.{Chains}

-- the node that is read if there is no such slot
abbrev pub no_link : Link
no_link = record { older = None; bucket = BUCKETS }

abbrev pub link_at : List Link → ℕ → Link
link_at links slot = get_or links slot no_link

abbrev pub bucket_at : Chains → ℕ → ℕ
bucket_at chains slot = (link_at chains.links.items slot).bucket

-- whether a slot is in the bucket
abbrev pub is_in : List Link → ℕ → ℕ → Bool
is_in links bucket slot = (link_at links slot).bucket == bucket

-- the highest number below this one that passes the test
abbrev pub last_below : (ℕ → Bool) → ℕ → Option ℕ
last_below test zero = None
last_below test (suc n) = cond (test n) (Some n) (last_below test n)

-- each bucket starts with its highest slot, and each slot links to the next lower slot of its bucket
pub record IsLinked (heads : List (Option ℕ)) (links : List Link) : Type 0 where
  pub buckets : length heads ≡ BUCKETS
  pub newest : (bucket : ℕ) → bucket < BUCKETS → get_or heads bucket None ≡ last_below (is_in links bucket) (length links)
  pub older : (slot : ℕ) → slot < length links → (link_at links slot).older ≡ last_below (is_in links (link_at links slot).bucket) slot
  pub within : (slot : ℕ) → slot < length links → (link_at links slot).bucket < BUCKETS

pub record IsChained (chains : Chains) : Type 0 where
  pub linked : IsLinked chains.newest.items chains.links.items
  pub few : length chains.links.items ≤ MAX_VARIABLES
  pub room : MAX_VARIABLES ≤ vec_capacity chains.links

-- the lowest number above `slot` and below `end` that passes the test, or None if no number does
abbrev pub IsAbove : (ℕ → Bool) → ℕ → ℕ → Option ℕ → Type 0
IsAbove test slot end None = (n : ℕ) → slot < n → n < end → test n ≡ false
IsAbove test slot end (Some above) =
    (slot < above) × (above < end) × (test above ≡ true) × ((n : ℕ) → slot < n → n < above → test n ≡ false)

-- the slot that the slot `above` links to; without a slot above, the newest slot of the bucket
abbrev pub pointed : Chains → ℕ → Option ℕ → Option ℕ
pointed chains bucket None = get_or chains.newest.items bucket None
pointed chains bucket (Some above) = (link_at chains.links.items above).older

abbrev pub with_newest : List (Option ℕ) → ℕ → Option ℕ → Option ℕ → List (Option ℕ)
with_newest newest bucket None to = set newest bucket to
with_newest newest bucket (Some above) to = newest

abbrev pub with_links : List Link → Option ℕ → Option ℕ → List Link
with_links links None to = links
with_links links (Some above) to = set links above (record { older = to; bucket = (link_at links above).bucket })

-- slot `slot` is in bucket `to` now, and the other slots are in their old buckets
pub record IsRehomed (old new : Chains) (slot to : ℕ) : Type 0 where
  pub len : length new.links.items ≡ length old.links.items
  pub moved : bucket_at new slot ≡ to
  pub others : (other : ℕ) → other ≢ slot → bucket_at new other ≡ bucket_at old other
