-- What the modules store: every name once, and the objects and symbols with the numbers of their names.
use Rattle.std.specs.Prelude.{◌≡◌, ℕ, zero, suc, ◌+◌, ◌≤◌, ◌<◌, Bool, List, [], ◌∷◌, length, map, slice_index_or, string_bytes, String}
use Rattle.std.specs.declared.alloc.Global.{Global}
use Rattle.std.specs.List.{All}
use Rattle.klp_types.specs.Image.{Object, symbols_of}
use Rattle.klp_modules.specs.Names.{ObjectNames, names_of}
use Rattle.klp_modules.specs.declared.numbered.NumberedObject.{NumberedObject}

-- the texts of the names, by their numbers
abbrev pub texts_of : List (String Global) → List (List ℕ)
texts_of keys = map string_bytes keys

abbrev pub text_at : List (List ℕ) → ℕ → List ℕ
text_at texts number = slice_index_or texts number []

abbrev pub object_names : List (List ℕ) → NumberedObject → ObjectNames
object_names texts object = record { name = text_at texts object.name; symbols = map (text_at texts) object.symbols.items }

-- the objects with their names instead of numbers
abbrev pub names_from : List (List ℕ) → List NumberedObject → List ObjectNames
names_from texts objects = map (object_names texts) objects

-- how many symbols all objects have
abbrev pub symbol_count : List NumberedObject → ℕ
symbol_count [] = 0
symbol_count (object ∷ objects) = length object.symbols.items + symbol_count objects

-- the site of an object's first symbol
abbrev pub numbered_first_site : List NumberedObject → ℕ → ℕ
numbered_first_site [] number = 0
numbered_first_site (object ∷ objects) zero = 0
numbered_first_site (object ∷ objects) (suc number) = length object.symbols.items + numbered_first_site objects number

-- each number of the object has a text
pub record HasTexts (texts : List (List ℕ)) (object : NumberedObject) : Type 0 where
  pub name : object.name < length texts
  pub symbols : All (λ number. number < length texts) object.symbols.items

-- no text has two numbers
abbrev pub IsApart : List (List ℕ) → Type 0
IsApart texts = (i j : ℕ) → i < length texts → j < length texts → text_at texts i ≡ text_at texts j → i ≡ j

pub record IsKept (texts : List (List ℕ)) (objects : List NumberedObject) (loaded : List Bool) : Type 0 where
  pub few_objects : length objects ≤ 17
  pub few_symbols : symbol_count objects ≤ 256
  pub each_loaded : length loaded ≡ length objects
  pub numbered : All (HasTexts texts) objects
  pub apart : IsApart texts

-- every number keeps its text
pub record Extends (old new : List (List ℕ)) : Type 0 where
  pub longer : length old ≤ length new
  pub same : (number : ℕ) → number < length old → text_at new number ≡ text_at old number

-- the name has this number now, and every number keeps its text
pub record AddsName (old new : List (List ℕ)) (name : List ℕ) (number : ℕ) : Type 0 where
  pub there : number < length new
  pub text : text_at new number ≡ name
  pub extends : Extends old new
  pub apart : IsApart old → IsApart new

-- the names have these numbers now, in order, and every number keeps its text
pub record AddsNames (old new : List (List ℕ)) (names : List (List ℕ)) (numbers : List ℕ) : Type 0 where
  pub there : All (λ number. number < length new) numbers
  pub texts : map (text_at new) numbers ≡ names
  pub extends : Extends old new
  pub apart : IsApart old → IsApart new

-- the names of an object and its symbols have numbers now, and every number keeps its text
pub record AddsObject (old new : List (List ℕ)) (names : ObjectNames) (object : NumberedObject) : Type 0 where
  pub there : HasTexts new object
  pub names_are : object_names new object ≡ names
  pub extends : Extends old new
  pub apart : IsApart old → IsApart new

-- the objects with the numbers of their names
pub record AreNumbered (texts : List (List ℕ)) (numbered : List NumberedObject) (objects : List Object) : Type 0 where
  pub apart : IsApart texts
  pub there : All (HasTexts texts) numbered
  pub names : names_from texts numbered ≡ names_of objects
  pub symbols : symbol_count numbered ≡ length (symbols_of objects)
