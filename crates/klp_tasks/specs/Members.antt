-- A set of versions, as flags.
use Rattle.std.specs.Prelude.{◌≡◌, ◌<◌, Bool, false, List, [], slice_index_or}
use Rattle.std.specs.List.{list_any}
use Rattle.klp_types.specs.declared.limits.TheConstants.{MAX_SITES, MAX_PATCHES, MAX_FUNCTIONS}
use Rattle.klp_types.specs.declared.version.Version.{Version}
use Rattle.klp_types.specs.declared.version.Version.TheVariants.{Original, New}
use Rattle.klp_model.specs.Blocked.{is_version}

-- for each site whether its original is in the set, and for each patch and function whether that function is
pub record VersionFlags : Type 0 where
  pub originals : List Bool
  pub functions : List (List Bool)

-- whether a version is in the set
abbrev pub has : VersionFlags → Version → Bool
has flags (Original site) = slice_index_or flags.originals site false
has flags (New patch function) = slice_index_or (slice_index_or flags.functions patch []) function false

-- a version is in the set exactly when it passes the test
abbrev pub ArePassing : VersionFlags → (Version → Bool) → Type 0
ArePassing flags test = (version : Version) → has flags version ≡ test version

-- a version is in the set exactly when it is in the list
abbrev pub IsSetOf : VersionFlags → List Version → Type 0
IsSetOf flags versions = ArePassing flags (λ version. list_any (is_version version) versions)

-- the version is of a possible site, or of a possible function
abbrev pub IsWithin : Version → Type 0
IsWithin (Original site) = site < MAX_SITES
IsWithin (New patch function) = (patch < MAX_PATCHES) × (function < MAX_FUNCTIONS)
