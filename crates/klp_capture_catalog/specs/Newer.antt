-- What a log says by the files of patches that only newer kernels have.
use Rattle.std.specs.Prelude.{ℕ, ◌&&◌, Bool, true, false, not, List, bytes_eq, Option, Some, None}
use Rattle.std.specs.List.{list_any}
use Rattle.klp_capture.specs.declared.capture.PatchRow.{PatchRow}
use Rattle.klp_capture.specs.declared.capture.PatchRow.TheVariants.{Patch}

-- whether a file was read, and reads so
abbrev pub is_flag : Bool → Option Bool → Bool
is_flag wanted None = false
is_flag true (Some read) = read
is_flag false (Some read) = not read

-- a row that has the file `replace` of the patch of this name, which reads so
abbrev pub reads_replace : List ℕ → Bool → PatchRow → Bool
reads_replace patch wanted (Patch name enabled moving newer) = bytes_eq name.now patch && is_flag wanted newer.is_cumulative
reads_replace patch wanted row = false

-- rows that say both are of two patches of one name
abbrev pub unless_both : Bool → Bool → Option Bool
unless_both true false = Some true
unless_both false true = Some false
unless_both true true = None
unless_both false false = None

-- whether a patch is cumulative by its file `replace`
abbrev pub cumulative_by : List PatchRow → List ℕ → Option Bool
cumulative_by rows patch = unless_both (list_any (reads_replace patch true) rows) (list_any (reads_replace patch false) rows)

-- the place of a patch by its file `stack_order`
abbrev pub place_of : Option PatchRow → Option ℕ
place_of (Some (Patch name enabled moving newer)) = newer.order
place_of other = None
