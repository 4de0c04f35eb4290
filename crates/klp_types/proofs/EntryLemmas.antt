-- When patches put an entry on a site, and whose it is.
use Rattle.std.proofs.Common.{◌≡◌, ℕ, suc, ◌<◌, Bool, true, false, not, ◌&&◌, ◌||◌, cond, List, [], ◌∷◌, ◌++◌, length, reverse, Option, Some, None, is_some, refl, sym, ap, subst, ◌∙◌, arith}
use Rattle.std.specs.Prelude.{◌==◌, IfSome, option_map}
use Rattle.std.specs.List.{All, list_any}
use Rattle.std.proofs.lemmas.Bool.{eq-eqb, eqb-true}
use Rattle.std.proofs.lemmas.List.Elements.{All-nil, All-cons, All-append}
use Rattle.std.proofs.lemmas.List.Folds.{list_any-append}
use Rattle.std.proofs.lemmas.Grind.{reverse_onto}
use Rattle.klp_types.specs.declared.version.Entry.{Entry}
use Rattle.klp_types.specs.Setting.{Setting, Function, functions_of, function_for, is_at, replaces}
use Rattle.klp_types.specs.Entries.{entry_of, patches_site, entries_from, is_empty}

or-comm : (a b : Bool) → (a || b) ≡ (b || a)
or-comm true true = refl
or-comm true false = refl
or-comm false true = refl
or-comm false false = refl

or-false : (a : Bool) → (a || false) ≡ a
or-false true = refl
or-false false = refl

pub list_any-reverse : {X : Type 0} (p : X → Bool) (xs : List X) → list_any p (reverse xs) ≡ list_any p xs
list_any-reverse p [] = refl
list_any-reverse p (x ∷ xs) =
    ap (list_any p) (reverse_onto xs x [])
    ∙ list_any-append p (reverse xs) (x ∷ [])
    ∙ ap (λ b. b || (p x || false)) (list_any-reverse p xs)
    ∙ ap (λ b. list_any p xs || b) (or-false (p x))
    ∙ or-comm (list_any p xs) (p x)

-- the entry of a patch over older ones: there is one if it has a function, and a nop stands over a function
over_entries : (patch : ℕ) (function : Option ℕ) (replace older : Bool) (entries : List Entry)
    → not (is_empty entries) ≡ older
    → not (is_empty (entry_of patch function (replace && older) ++ entries)) ≡ (is_some function || older)
over_entries patch (Some f) replace older entries h = refl
over_entries patch None true true entries h = refl
over_entries patch None true false entries h = h
over_entries patch None false older entries h = h

pub entries_from-any : (setting : Setting) (site : ℕ) (patches : List ℕ)
    → not (is_empty (entries_from setting site patches)) ≡ list_any (patches_site setting site) patches
entries_from-any setting site [] = refl
entries_from-any setting site (patch ∷ older) =
    over_entries patch (function_for (functions_of setting patch) site) (replaces setting patch) (list_any (patches_site setting site) older)
    (entries_from setting site older) (entries_from-any setting site older)

-- a patch that is put last gets its entry on top
pub entries-on_top : (setting : Setting) (site patch : ℕ) (older : List ℕ)
    → entries_from setting site (patch ∷ older)
    ≡ entry_of patch (function_for (functions_of setting patch) site) (replaces setting patch && not (is_empty (entries_from setting site older))) ++ entries_from setting site older
entries-on_top setting site patch older =
    ap (λ any. entry_of patch (function_for (functions_of setting patch) site) (replaces setting patch && any) ++ entries_from setting site older)
    (sym (entries_from-any setting site older))

-- whether one of the entries is of the patch
abbrev pub has_entry : ℕ → List Entry → Bool
has_entry patch entries = list_any (λ (e : Entry). e.patch == patch) entries

either : (own older : Bool) {P : Type 0} → (own ≡ true → P) → (older ≡ true → P) → (own || older) ≡ true → P
either true older first rest e = first e
either false older first rest e = rest e

or-left : (a b : Bool) → a ≡ true → (a || b) ≡ true
or-left true b e = refl
or-left false b e = cc

or-right : (a b : Bool) → b ≡ true → (a || b) ≡ true
or-right true b e = refl
or-right false b e = e

-- an entry of a patch over older ones is its own, or one of the older ones
own_or_older : (own : ℕ) (function : Option ℕ) (undoes : Bool) (older : List Entry) (patch : ℕ) {P : Type 0}
    → ((is_some function || undoes) ≡ true → own ≡ patch → P) → (has_entry patch older ≡ true → P)
    → has_entry patch (entry_of own function undoes ++ older) ≡ true → P
own_or_older own (Some f) undoes older patch first rest e = either (own == patch) (has_entry patch older) (λ same. first refl (eqb-true own patch same)) rest e
own_or_older own None true older patch first rest e = either (own == patch) (has_entry patch older) (λ same. first refl (eqb-true own patch same)) rest e
own_or_older own None false older patch first rest e = rest e

replaces_too : (function : Option ℕ) (replace older : Bool) → (is_some function || (replace && older)) ≡ true → (is_some function || replace) ≡ true
replaces_too (Some f) replace older e = refl
replaces_too None true older e = refl
replaces_too None false older e = e

-- an entry is of one of the patches
pub entries-of_patches : (setting : Setting) (site patch : ℕ) (patches : List ℕ) → has_entry patch (entries_from setting site patches) ≡ true → list_any (λ p. p == patch) patches ≡ true
entries-of_patches setting site patch [] e = e
entries-of_patches setting site patch (own ∷ older) e =
    own_or_older own (function_for (functions_of setting own) site) (replaces setting own && list_any (patches_site setting site) older) (entries_from setting site older) patch
    (λ puts same. or-left (own == patch) (list_any (λ p. p == patch) older) (eq-eqb own patch same))
    (λ rest. or-right (own == patch) (list_any (λ p. p == patch) older) (entries-of_patches setting site patch older rest)) e

-- a patch that has an entry has a function for the site, or replaces
pub entries-own : (setting : Setting) (site patch : ℕ) (patches : List ℕ) → has_entry patch (entries_from setting site patches) ≡ true
    → (is_some (function_for (functions_of setting patch) site) || replaces setting patch) ≡ true
entries-own setting site patch [] e = cc
entries-own setting site patch (own ∷ older) e =
    own_or_older own (function_for (functions_of setting own) site) (replaces setting own && list_any (patches_site setting site) older) (entries_from setting site older) patch
    (λ puts same. subst (λ p. (is_some (function_for (functions_of setting p) site) || replaces setting p) ≡ true) same
    (replaces_too (function_for (functions_of setting own) site) (replaces setting own) (list_any (patches_site setting site) older) puts))
    (entries-own setting site patch older) e

behind_first : (found : Option ℕ) (count : ℕ) → IfSome found (λ f. f < count) → IfSome (option_map suc found) (λ f. f < suc count)
behind_first None count within = tt
behind_first (Some f) count within = omega arith

function_for-within : (functions : List Function) (site : ℕ) → IfSome (function_for functions site) (λ f. f < length functions)
function_for-within [] site = tt
function_for-within (function ∷ functions) site = by (is_at function.site site) (behind_first (function_for functions site) (length functions) (function_for-within functions site))
  where
    by : (own : Bool) → IfSome (option_map suc (function_for functions site)) (λ f. f < suc (length functions))
        → IfSome (cond own (Some 0) (option_map suc (function_for functions site))) (λ f. f < suc (length functions))
    by true behind = omega arith
    by false behind = behind

-- the patch has the function of the entry
abbrev HasFunction : Setting → Entry → Type 0
HasFunction setting entry = IfSome entry.func (λ f. f < length (functions_of setting entry.patch))

entry_of-within : (setting : Setting) (patch : ℕ) (function : Option ℕ) (undoes : Bool) → IfSome function (λ f. f < length (functions_of setting patch))
    → All (HasFunction setting) (entry_of patch function undoes)
entry_of-within setting patch (Some f) undoes within = All-cons (HasFunction setting) (record { patch = patch; func = Some f }) [] within (All-nil (HasFunction setting))
entry_of-within setting patch None true within = All-cons (HasFunction setting) (record { patch = patch; func = None }) [] tt (All-nil (HasFunction setting))
entry_of-within setting patch None false within = All-nil (HasFunction setting)

-- what an entry names is there
pub entries-have_functions : (setting : Setting) (site : ℕ) (patches : List ℕ)
    → All (λ (e : Entry). IfSome e.func (λ f. f < length (functions_of setting e.patch))) (entries_from setting site patches)
entries-have_functions setting site [] = All-nil (HasFunction setting)
entries-have_functions setting site (patch ∷ older) =
    All-append (HasFunction setting) (entry_of patch (function_for (functions_of setting patch) site) (replaces setting patch && list_any (patches_site setting site) older))
    (entries_from setting site older)
    (entry_of-within setting patch (function_for (functions_of setting patch) site) (replaces setting patch && list_any (patches_site setting site) older)
    (function_for-within (functions_of setting patch) site))
    (entries-have_functions setting site older)
