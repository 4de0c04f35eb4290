-- Which sites the functions of a patch are for.
use Rattle.std.proofs.Common.{◌≡◌, ℕ, zero, suc, ◌<◌, Bool, true, false, not, List, [], ◌∷◌, length, is_some, Option, Some, None, option_map, option_and_then, slice_get, refl, sym, ap, ◌∙◌, if◌then◌else◌, arith}
use Rattle.klp_types.specs.Setting.{Function, is_at, function_for}

-- the site of the function with this number
abbrev pub site_numbered : List Function → ℕ → Option ℕ
site_numbered functions number = option_and_then (λ (f : Function). f.site) (slice_get functions number)

-- a function of the patch is for the site
pub site_there : (functions : List Function) (number site : ℕ) → is_at (site_numbered functions number) site ≡ true
    → is_some (function_for functions site) ≡ true
site_there [] number site is = absurd (cc is)
site_there (function ∷ functions) zero site is =
    ap (λ (t : Bool). is_some (if t then Some 0 else option_map suc (function_for functions site))) is
site_there (function ∷ functions) (suc number) site is = by (is_at function.site site) (site_there functions number site is)
  where
    some_suc : (o : Option ℕ) → is_some o ≡ true → is_some (option_map suc o) ≡ true
    some_suc None e = absurd (cc e)
    some_suc (Some n) e = refl

    by : (t : Bool) → is_some (function_for functions site) ≡ true → is_some (if t then Some 0 else option_map suc (function_for functions site)) ≡ true
    by true e = refl
    by false e = some_suc (function_for functions site) e

-- none is
pub none_there : (functions : List Function) (site : ℕ) → ((number : ℕ) → number < length functions → is_at (site_numbered functions number) site ≡ false)
    → is_some (function_for functions site) ≡ false
none_there [] site none = refl
none_there (function ∷ functions) site none =
    by (is_at function.site site) (none 0 (omega arith)) (none_there functions site (λ number below. none (suc number) (omega (arith, below))))
  where
    none_suc : (o : Option ℕ) → is_some o ≡ false → is_some (option_map suc o) ≡ false
    none_suc None e = refl
    none_suc (Some n) e = absurd (cc e)

    by : (t : Bool) → t ≡ false → is_some (function_for functions site) ≡ false
        → is_some (if t then Some 0 else option_map suc (function_for functions site)) ≡ false
    by true e rest = absurd (cc e)
    by false e rest = none_suc (function_for functions site) rest

pub not_true : (b : Bool) → not b ≡ true → b ≡ false
not_true true is = absurd (cc)
not_true false is = refl
