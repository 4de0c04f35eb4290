-- What the lines of a catalog mark as not known.
use Rattle.std.specs.Prelude.{ℕ, ◌≡◌, ◌&&◌, ◌||◌, Bool, true, false, bytes_eq, codes, nat_eq, nat_lt, if◌then◌else◌, List, [], ◌∷◌, ◌++◌, drop, length, map}
use Rattle.std.specs.List.{flat_map, starts_with}
use Rattle.std.specs.Str.Lines.{lines}
use Rattle.klp_catalog_text.specs.Lines.{words_of}
use Rattle.klp_tables.specs.declared.patch.Object.{Object}
use Rattle.klp_tables.specs.declared.patch.Callbacks.{Callbacks}
use Rattle.klp_tables.specs.declared.patch.Replaces.{Replaces}
use Rattle.klp_tables.specs.declared.patch.Replaces.TheVariants.{No, Yes, Unknown}
use Rattle.klp_module_fit.specs.declared.NamedPatch.{NamedPatch}
use Rattle.klp_module_symbols.specs.Symbols.{ObjectFacts}
use Rattle.klp_module_catalog.specs.declared.marks.Marked.{Marked}
use Rattle.klp_module_catalog.specs.declared.marks.Marked.TheVariants.{Callback, Patch, ObjectLine, CutPatch}

-- the first of these words is this one
abbrev pub begins : List ℕ → List (List ℕ) → Bool
begins wanted [] = false
begins wanted (first ∷ words) = bytes_eq first wanted

-- a line is of this kind, by its first word
abbrev pub is_line_of : Marked → List ℕ → Bool
is_line_of Callback line =
    begins (codes "pre") (words_of line) || begins (codes "post") (words_of line)
    || begins (codes "preun") (words_of line) || begins (codes "postun") (words_of line)
is_line_of Patch line = begins (codes "patch") (words_of line)
is_line_of CutPatch line = begins (codes "patch") (words_of line)
is_line_of ObjectLine line = begins (codes "object") (words_of line)

-- what a line of this kind is marked by: an object's symbols are assumed, something of a patch is left out, all else isn't known
abbrev pub mark_of : Marked → List ℕ
mark_of Callback = codes "unknown"
mark_of Patch = codes "unknown"
mark_of CutPatch = codes "left"
mark_of ObjectLine = codes "assumed"

-- the line is the mark, which begins with `#? `
abbrev pub is_mark : Marked → List ℕ → Bool
is_mark kind line = starts_with nat_eq line (codes "#? ") && begins (mark_of kind) (words_of (drop 3 line))

-- the first of these lines is the mark
abbrev pub is_marked_by : Marked → List (List ℕ) → Bool
is_marked_by kind [] = false
is_marked_by kind (line ∷ lines) = is_mark kind line

-- the lines but for those marks: a line may have several
abbrev pub without : Marked → List (List ℕ) → List (List ℕ)
without other [] = []
without other (line ∷ lines) = if is_mark other line then without other lines else line ∷ without other lines

-- of each line of this kind, in order, whether the mark stands right behind it
abbrev pub marks_of : Marked → List (List ℕ) → List Bool
marks_of kind [] = []
marks_of kind (line ∷ lines) = if is_line_of kind line then is_marked_by kind lines ∷ marks_of kind lines else marks_of kind lines

abbrev pub true_if : Bool → List Bool
true_if there = if there then true ∷ [] else []

-- each callback is marked, since no code is read
abbrev pub callback_marks : Callbacks → List Bool
callback_marks c = true_if c.pre_patch ++ true_if c.post_patch ++ true_if c.pre_unpatch ++ true_if c.post_unpatch

abbrev pub object_marks : Object → List Bool
object_marks object = callback_marks object.row.callbacks

abbrev pub patch_marks : NamedPatch → List Bool
patch_marks p = flat_map object_marks p.patch.now.objects.items

abbrev pub is_unknown : Replaces → Bool
is_unknown Unknown = true
is_unknown Yes = false
is_unknown No = false

abbrev pub needs_replace_mark : NamedPatch → Bool
needs_replace_mark p = is_unknown p.patch.now.replaces

-- something of the patch is left out
abbrev pub cut_mark : NamedPatch → Bool
cut_mark p = nat_lt 0 p.left_out.functions || nat_lt 0 p.left_out.objects

-- an object is marked if it has symbols that are made up
abbrev pub symbols_mark : ObjectFacts → Bool
symbols_mark object = object.is_made_up && nat_lt 0 (length object.symbols)

-- Each callback of the patches is marked as unknown, each patch exactly if it isn't known whether it replaces others, and
-- exactly if something of it is left out, and each object exactly if its symbols are made up. No other line of these kinds is
-- there.
pub record AreMarked (text : List ℕ) (objects : List ObjectFacts) (patches : List NamedPatch) : Type 0 where
  pub callbacks : marks_of Callback (without CutPatch (lines text)) ≡ flat_map patch_marks patches
  pub replaces : marks_of Patch (without CutPatch (lines text)) ≡ map needs_replace_mark patches
  pub cuts : marks_of CutPatch (without Patch (lines text)) ≡ map cut_mark patches
  pub symbols : marks_of ObjectLine (without CutPatch (lines text)) ≡ map symbols_mark objects
