-- The hooked sites, one bit each, and the first of them from a number on.
use Rattle.std.specs.Prelude.{◌≡◌, ℕ, ◌<◌, ◌≤◌, ◌/◌, ◌%◌, true, false, List, slice_index_or, if◌then◌else◌}
use Rattle.std.specs.Int.{bit_at}
use Rattle.klp_types.specs.declared.version.Entry.{Entry}
use Rattle.klp_sites.specs.Table.{is_hooked_at}

-- the bit of a site: each word has the bits of 64 sites
abbrev pub bit_of : List ℕ → ℕ → ℕ
bit_of words site = bit_at (slice_index_or words (site / 64) 0) (site % 64)

-- the set bits are exactly those of the sites with an entry
pub record AreHooked (words : List ℕ) (stacks : List (List Entry)) : Type 0 where
  pub each : (site : ℕ) → bit_of words site ≡ if is_hooked_at stacks site then 1 else 0

-- `site` is the lowest site from number `from` on that has an entry
pub record IsNextHooked (stacks : List (List Entry)) (from site : ℕ) : Type 0 where
  pub since : from ≤ site
  pub there : is_hooked_at stacks site ≡ true
  pub passed : (other : ℕ) → from ≤ other → other < site → is_hooked_at stacks other ≡ false

-- `site` is the lowest number from `from` on whose bit is set
pub record IsNextSet (words : List ℕ) (from site : ℕ) : Type 0 where
  pub since : from ≤ site
  pub there : bit_of words site ≡ 1
  pub passed : (other : ℕ) → from ≤ other → other < site → bit_of words other ≡ 0

-- `number` is the lowest set bit of a word, from bit `from` on
pub record IsLowestFrom (word from number : ℕ) : Type 0 where
  pub within : number < 64
  pub since : from ≤ number
  pub there : bit_at word number ≡ 1
  pub passed : (other : ℕ) → from ≤ other → other < number → bit_at word other ≡ 0
