-- The names of an image have the sites of its objects.
use Rattle.std.proofs.Common.{◌≡◌, ℕ, zero, suc, ◌+◌, ◌-◌, ◌<◌, List, [], ◌∷◌, length, map, Option, Some, None, refl, ◌∙◌, arith, inl, inr}
use Rattle.std.specs.Prelude.{option_map}
use Rattle.std.proofs.lemmas.List.{length-map}
use Rattle.std.proofs.lemmas.Bool.{cases_lt, lt-ltb, le-ltb}
use Rattle.std.proofs.lemmas.Option.{slice_get-get_or}
use Rattle.klp_types.specs.Image.{Symbol, Object, object_of, first_site as first_site_in_image}
use Rattle.klp_modules.specs.Names.{Named, named_at, names_of, first_site, symbol_from, symbol_at_site}

-- an object's first site is the same among the names
pub first_site-names_of : (objects : List Object) (o : ℕ) → first_site (names_of objects) o ≡ first_site_in_image objects o
first_site-names_of [] o = refl
first_site-names_of (object ∷ objects) zero = refl
first_site-names_of (object ∷ objects) (suc o) =
    omega (arith, length-map object.symbols (λ (s : Symbol). s.name), first_site-names_of objects o)

-- a symbol that is there tells its object
object_of_named : (number place : ℕ) (names : List (List ℕ)) → place < length names →
    option_map (λ (s : Named). s.object) (named_at number names place) ≡ Some number
object_of_named number place names below = rw (slice_get-get_or names place [] below)

counted_on : (number : ℕ) (found : Option ℕ) → option_map (λ n. suc number + n) found ≡ option_map (λ n. number + n) (option_map suc found)
counted_on number None = refl
counted_on number (Some n) = let e : suc number + n ≡ number + suc n = omega arith in rw e

counted_from_zero : (found : Option ℕ) → option_map (λ n. 0 + n) found ≡ found
counted_from_zero None = refl
counted_from_zero (Some n) = let e : 0 + n ≡ n = omega arith in rw e

symbol_from-object : (number : ℕ) (objects : List Object) (site : ℕ) →
    option_map (λ (s : Named). s.object) (symbol_from number (names_of objects) site) ≡ option_map (λ n. number + n) (object_of objects site)
symbol_from-object number [] site = refl
symbol_from-object number (object ∷ objects) site =
    let size : length (map (λ (s : Symbol). s.name) object.symbols) ≡ length object.symbols = length-map object.symbols (λ (s : Symbol). s.name) in
    let none : number + 0 ≡ number = omega arith in
    elim (cases_lt site (length object.symbols)) [
      | inl here ↦
          rw (size, lt-ltb site (length object.symbols) here, none)
          (object_of_named number site (map (λ (s : Symbol). s.name) object.symbols) (omega (arith, here, size)))
      | inr behind ↦
          rw (size, le-ltb site (length object.symbols) behind)
          (symbol_from-object (suc number) objects (site - length object.symbols)
          ∙ counted_on number (object_of objects (site - length object.symbols)))
    ]

-- a site's symbol tells the object that the site lies in
pub symbol_at_site-object : (objects : List Object) (site : ℕ) →
    option_map (λ (s : Named). s.object) (symbol_at_site (names_of objects) site) ≡ object_of objects site
symbol_at_site-object objects site = symbol_from-object 0 objects site ∙ counted_from_zero (object_of objects site)
