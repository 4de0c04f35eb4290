-- Which version a task runs, from the word of a site alone.
use Rattle.std.specs.Prelude.{ℕ, ◌&&◌, ℤ, Option, if◌then◌else◌}
use Rattle.std.specs.Option.{option_to_list}
use Rattle.klp_types.specs.declared.row.SiteWord.{SiteWord}
use Rattle.klp_types.specs.declared.version.Entry.{Entry}
use Rattle.klp_types.specs.declared.version.Version.{Version}
use Rattle.klp_types.specs.Pick.{is_unpatched, newest_version}

-- the entry that a task runs: the newest, unless its patch is in transition and the task isn't switched to it yet,
-- which passes over that entry
abbrev pub entry_for : SiteWord → ℤ → Option Entry
entry_for word task = if word.moves && is_unpatched task then word.below else word.top

-- the version of that entry, or the original if there is no entry
abbrev pub picked : ℕ → SiteWord → ℤ → Version
picked site word task = newest_version site (option_to_list (entry_for word task))
