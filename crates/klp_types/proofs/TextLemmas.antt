-- The text of an object, symbol by symbol.
use Rattle.std.proofs.Common.{◌≡◌, ℕ, zero, suc, ◌+◌, Bool, false, List, [], ◌∷◌, Option, Some, None, refl, ap, ◌∙◌, arith}
use Rattle.std.specs.Prelude.{slice_get, option_map, option_and_then}
use Rattle.klp_types.specs.Image.{Symbol, Object, Image, first_site, given_symbol}
use Rattle.klp_types.specs.Bytes.{patched, patched_from, resting, text_where, symbol_in}

pub slice_get-patched_from : (handler : ℕ) (hooked : ℕ → Bool) (site : ℕ) (symbols : List Symbol) (number : ℕ)
    → slice_get (patched_from handler hooked site symbols) number ≡ option_map (patched handler (hooked (site + number))) (slice_get symbols number)
slice_get-patched_from handler hooked site [] number = refl
slice_get-patched_from handler hooked site (symbol ∷ symbols) zero =
    let e : site + 0 ≡ site = omega arith in rw e refl
slice_get-patched_from handler hooked site (symbol ∷ symbols) (suc number) =
    let e : suc site + number ≡ site + suc number = omega arith in
    rw (← e) (slice_get-patched_from handler hooked (suc site) symbols number)

in_object : (handler : ℕ) (hooked : ℕ → Bool) (first number : ℕ) (object : Option Object)
    → symbol_in (option_map (λ (found : Object). patched_from handler hooked first found.symbols) object) number
    ≡ option_map (patched handler (hooked (first + number))) (option_and_then (λ (found : Object). slice_get found.symbols number) object)
in_object handler hooked first number None = refl
in_object handler hooked first number (Some object) = slice_get-patched_from handler hooked first object.symbols number

pub symbol_in-text_where : (image : Image) (hooked : ℕ → Bool) (object number : ℕ)
    → symbol_in (text_where image hooked object) number
    ≡ option_map (patched image.handler (hooked (first_site image.objects object + number))) (given_symbol image object number)
symbol_in-text_where image hooked object number =
    in_object image.handler hooked (first_site image.objects object) number (slice_get image.objects object)

pub reads_nop : (image : Image) (hooked : ℕ → Bool) (object number : ℕ) → hooked (first_site image.objects object + number) ≡ false
    → symbol_in (text_where image hooked object) number ≡ option_map resting (given_symbol image object number)
reads_nop image hooked object number unhooked =
    symbol_in-text_where image hooked object number ∙ ap (λ h. option_map (patched image.handler h) (given_symbol image object number)) unhooked
