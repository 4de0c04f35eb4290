-- The site of a function lies in the object that the function is for.
use Rattle.std.proofs.Common.{◌≡◌, ℕ, zero, suc, ◌+◌, ◌-◌, ◌<◌, ◌≤◌, List, [], ◌∷◌, length, slice_get, Some, arith}
use Rattle.std.proofs.lemmas.Bool.{lt-ltb, le-ltb}
use Rattle.std.proofs.lemmas.List.{length-map}
use Rattle.klp_types.specs.Image.{Symbol, Object, object_of}
use Rattle.klp_modules.specs.Names.{names_of, first_site, symbol_names}
use Rattle.klp_catalog_text.specs.Plan.{PlanFunction}
use Rattle.klp_catalog.specs.Catalog.{site_of}
use Rattle.klp_catalog.proofs.CatalogLemmas.{site_in_object}

-- a site that lies in an object by the names is a site of that object
pub object_of-named : (objects : List Object) (object site : ℕ)
    → first_site (names_of objects) object ≤ site
    → site < first_site (names_of objects) object + length (symbol_names (slice_get (names_of objects) object))
    → object_of objects site ≡ Some object
object_of-named [] object site from below = absurd (omega arith)
object_of-named (x ∷ objects) zero site from below =
    let inside : site < length x.symbols = omega (arith, length-map x.symbols (λ (s : Symbol). s.name)) in
    rw (lt-ltb site (length x.symbols) inside)
object_of-named (x ∷ objects) (suc object) site from below =
    let count = length-map x.symbols (λ (s : Symbol). s.name) in
    let behind : length x.symbols ≤ site = omega (arith, count) in
    rw (
      le-ltb site (length x.symbols) behind,
      object_of-named objects object (site - length x.symbols) (omega (arith, count)) (omega (arith, count)),
    )

pub site_of-named : (objects : List Object) (object : ℕ) (function : PlanFunction) (site : ℕ)
    → site_of (names_of objects) object function ≡ Some site → object_of objects site ≡ Some object
site_of-named objects object function site picks =
    let lies = site_in_object (names_of objects) object function site picks in
    object_of-named objects object site lies.from lies.below
