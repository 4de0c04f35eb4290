-- The sites of an object stand behind those of the objects before it.
use Rattle.std.proofs.Common.{◌≡◌, ℕ, zero, suc, ◌+◌, ◌≤◌, List, [], ◌∷◌, length, length-append, refl, arith}
use Rattle.klp_types.specs.Image.{Object, symbols_of, first_site}
use Rattle.klp_core.specs.Sites.{sites_in}

pub none_before : (objects : List Object) → first_site objects 0 ≡ 0
none_before [] = refl
none_before (object ∷ objects) = refl

one_on : (object : Object) (objects : List Object) (n : ℕ) → sites_in (object ∷ objects) (suc n) ≡ sites_in objects n
one_on object objects n = refl

-- so the first site of the next one is behind all of its own
pub first_site-next : (objects : List Object) (n : ℕ) → first_site objects (suc n) ≡ first_site objects n + sites_in objects n
first_site-next [] n = refl
first_site-next (object ∷ objects) zero = omega (arith, none_before objects)
first_site-next (object ∷ objects) (suc n) = omega (arith, one_on object objects n, first_site-next objects n)

pub sites-within : (objects : List Object) (n : ℕ) → first_site objects n + sites_in objects n ≤ length (symbols_of objects)
sites-within [] n = omega arith
sites-within (object ∷ objects) zero = omega (arith, length-append object.symbols (symbols_of objects))
sites-within (object ∷ objects) (suc n) = omega (arith, one_on object objects n, length-append object.symbols (symbols_of objects), sites-within objects n)
