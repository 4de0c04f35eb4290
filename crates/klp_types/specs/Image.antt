-- The image: the objects in order, each with its symbols in order, and the handler that hooked sites call.
use Rattle.std.specs.Prelude.{ℕ, zero, suc, ◌+◌, ◌-◌, nat_lt, if◌then◌else◌, List, [], ◌∷◌, ◌++◌, length, slice_get, Option, Some, None, option_map, option_and_then}

-- a function of the kernel, as it was built
pub record Symbol : Type 0 where
  pub name : List ℕ
  pub address : ℕ
  pub body : List ℕ

-- `vmlinux` or a module
pub record Object : Type 0 where
  pub name : List ℕ
  pub symbols : List Symbol

pub record Image : Type 0 where
  pub handler : ℕ
  pub objects : List Object

-- the symbols of all objects in order: site s is the s-th of them, from 0
abbrev pub symbols_of : List Object → List Symbol
symbols_of [] = []
symbols_of (object ∷ objects) = object.symbols ++ symbols_of objects

-- the symbol of a site
abbrev pub symbol_of : Image → ℕ → Option Symbol
symbol_of image site = slice_get (symbols_of image.objects) site

-- the object of a site
abbrev pub object_of : List Object → ℕ → Option ℕ
object_of [] site = None
object_of (object ∷ objects) site =
    if nat_lt site (length object.symbols) then Some 0 else option_map suc (object_of objects (site - length object.symbols))

-- the site of the first symbol of an object
abbrev pub first_site : List Object → ℕ → ℕ
first_site [] number = 0
first_site (object ∷ objects) zero = 0
first_site (object ∷ objects) (suc number) = length object.symbols + first_site objects number

-- the symbol with this number in an object, as it was built
abbrev pub given_symbol : Image → ℕ → ℕ → Option Symbol
given_symbol image object number = option_and_then (λ (found : Object). slice_get found.symbols number) (slice_get image.objects object)
