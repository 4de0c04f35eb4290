-- Words that sentences share.
use Rattle.std.specs.Prelude.{ℕ, true, false, Bool, List, ◌++◌, codes}
use Rattle.std.specs.Fmt.{decimal}
use Rattle.klp_types.specs.declared.version.Version.{Version}
use Rattle.klp_types.specs.declared.version.Version.TheVariants.{Original, New}
use Rattle.klp_catalog.specs.Catalog.{Catalog}
use Rattle.klp_markup.specs.Escaped.{name_text}
use Rattle.klp_markup.specs.Names.{patch_name}
use Rattle.klp_markup.specs.Tasks.{plural}

-- so many of something, between what stands before and the word for one or for another number
abbrev pub counted_text : List ℕ → ℕ → List ℕ → List ℕ → List ℕ
counted_text before count one more = before ++ decimal count ++ plural count one more

-- a link to a line, which says its number
unfoldable pub link_text : List ℕ → ℕ → List ℕ
link_text word line = codes "<a href=\"#line-" ++ decimal line ++ codes "\">" ++ word ++ decimal line ++ codes "</a>"

unfoldable pub quoted_text : Catalog → ℕ → List ℕ
quoted_text catalog patch = codes "'" ++ name_text (patch_name catalog patch) ++ codes "'"

-- why a sleeper inside of a function holds the transition up
abbrev pub why : Bool → Version → List ℕ
why true version = codes "which the patch changes"
why false (New patch function) = codes "which leaves with the patch"
why false (Original site) = codes "which the patch gave back"
