-- The version of the newest of some entries, and where it begins.
use Rattle.std.specs.Prelude.{ℕ, ◌+◌, Bool, false, ◌==◌, ◌&&◌, ℤ, pos, List, [], ◌∷◌, Option, Some, None, option_map, if◌then◌else◌, slice_get}
use Rattle.klp_types.specs.declared.version.Version.{Version}
use Rattle.klp_types.specs.declared.version.Version.TheVariants.{Original, New}
use Rattle.klp_types.specs.declared.version.Target.{Target}
use Rattle.klp_types.specs.declared.version.Entry.{Entry}
use Rattle.klp_types.specs.declared.version.Transition.{Transition}
use Rattle.klp_types.specs.Image.{Symbol, symbol_of}
use Rattle.klp_types.specs.Bytes.{entry_address}
use Rattle.klp_types.specs.Setting.{Setting, Function, functions_of}

-- whether this patch is in transition
abbrev pub moves : Option Transition → ℕ → Bool
moves None patch = false
moves (Some move) patch = move.patch == patch

-- whether a task isn't switched to the patch in transition: its patch state is 0
abbrev pub is_unpatched : ℤ → Bool
is_unpatched (pos n) = n == 0
is_unpatched other = false

-- the entries that a task may run: a task that isn't switched passes over the newest one if its patch is in
-- transition
abbrev pub entries_for : Option Transition → ℤ → List Entry → List Entry
entries_for moving task [] = []
entries_for moving task (newest ∷ older) = if moves moving newest.patch && is_unpatched task then older else newest ∷ older

-- the version of an entry; for a nop it is the original
abbrev pub version_of : ℕ → Option ℕ → ℕ → Version
version_of site (Some function) patch = New patch function
version_of site None patch = Original site

-- the version of the newest entry, or the original if there is no entry
abbrev pub newest_version : ℕ → List Entry → Version
newest_version site [] = Original site
newest_version site (newest ∷ older) = version_of site newest.func newest.patch

-- the address at which a version begins: a new function at its own address, an original right after its entry site
abbrev pub address_of : Setting → Version → Option ℕ
address_of setting (Original site) = option_map (λ (symbol : Symbol). entry_address symbol + 5) (symbol_of setting.image site)
address_of setting (New patch function) = option_map (λ (f : Function). f.address) (slice_get (functions_of setting patch) function)

abbrev pub target_of : Setting → Version → Option Target
target_of setting version = option_map (λ address. record { version = version; address = address }) (address_of setting version)
