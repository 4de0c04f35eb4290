-- The text of one object, symbol by symbol.
use Rattle.std.proofs.Common.{◌≡◌, ℕ, zero, suc, ◌+◌, Bool, true, false, List, [], ◌∷◌, length, map, Option, Some, None, is_some, refl, sym, ap, ◌∙◌, arith}
use Rattle.std.specs.Prelude.{slice_get, slice_index_or, option_map, option_and_then, if◌then◌else◌}
use Rattle.klp_types.specs.Image.{Symbol, Object, first_site, given_symbol}
use Rattle.klp_types.specs.Bytes.{patched, patched_from, text_where}
use Rattle.klp_model.specs.Bytes.{text_of}
use Rattle.klp_types.specs.Setting.{Setting}
use Rattle.klp_model.specs.State.{State}
use Rattle.klp_model.specs.Entries.{is_hooked}
use Rattle.klp_types.specs.declared.version.Entry.{Entry}
use Rattle.klp_stack.specs.Stack.{entries_at}
use Rattle.klp_sites.specs.Table.{is_stacked}
use Rattle.klp_text.specs.TextImage.{TextImage, is_hooked_at, bytes_at}
use Rattle.klp_core.specs.View.{or_none, symbols_at}

length-patched_from : (handler : ℕ) (hooked : ℕ → Bool) (site : ℕ) (symbols : List Symbol)
    → length (patched_from handler hooked site symbols) ≡ length symbols
length-patched_from handler hooked site [] = refl
length-patched_from handler hooked site (symbol ∷ symbols) = ap suc (length-patched_from handler hooked (suc site) symbols)

-- the symbol of a number is patched by its own site
symbol_patched : (handler : ℕ) (hooked : ℕ → Bool) (site : ℕ) (symbols : List Symbol) (number : ℕ)
    → slice_get (patched_from handler hooked site symbols) number ≡ option_map (patched handler (hooked (site + number))) (slice_get symbols number)
symbol_patched handler hooked site [] number = refl
symbol_patched handler hooked site (symbol ∷ symbols) zero =
    let here : site + 0 ≡ site = omega arith in rw here refl
symbol_patched handler hooked site (symbol ∷ symbols) (suc number) =
    let next : suc site + number ≡ site + suc number = omega arith in
    rw (← next) (symbol_patched handler hooked (suc site) symbols number)

some_inj : {m n : ℕ} → Some m ≡ Some n → m ≡ n
some_inj e = cc

length_where : (handler : ℕ) (hooked : ℕ → Bool) (first count : ℕ) (object : Option Object)
    → Some count ≡ option_map (λ (found : Object). length found.symbols) object
    → count ≡ length (or_none (option_map (λ (found : Object). patched_from handler hooked first found.symbols) object))
length_where handler hooked first count None h = let no : ⊥ = cc in absurd no
length_where handler hooked first count (Some object) h = some_inj h ∙ sym (length-patched_from handler hooked first object.symbols)

pub length-symbols_at : (text : TextImage) (object count : ℕ)
    → Some count ≡ option_map (λ (found : Object). length found.symbols) (slice_get text.image.objects object)
    → count ≡ length (symbols_at text object)
length-symbols_at text object count h =
    length_where text.image.handler (is_hooked_at text) (first_site text.image.objects object) count (slice_get text.image.objects object) h

in_object : {A : Type 0} (read : Symbol → A) → ((hooked : Bool) (symbol : Symbol) → (handler : ℕ) → read (patched handler hooked symbol) ≡ read symbol)
    → (handler : ℕ) (hooked : ℕ → Bool) (first number : ℕ) (object : Option Object)
    → option_map read (slice_get (or_none (option_map (λ (found : Object). patched_from handler hooked first found.symbols) object)) number)
    ≡ option_map read (option_and_then (λ (found : Object). slice_get found.symbols number) object)
in_object read same handler hooked first number None = refl
in_object read same handler hooked first number (Some object) =
    ap (option_map read) (symbol_patched handler hooked first object.symbols number)
    ∙ unpatched (slice_get object.symbols number)
  where
    unpatched : (symbol : Option Symbol) → option_map read (option_map (patched handler (hooked (first + number))) symbol) ≡ option_map read symbol
    unpatched None = refl
    unpatched (Some symbol) = ap Some (same (hooked (first + number)) symbol handler)

pub symbols_at-name : (text : TextImage) (object number : ℕ)
    → option_map (λ (s : Symbol). s.name) (slice_get (symbols_at text object) number) ≡ option_map (λ (s : Symbol). s.name) (given_symbol text.image object number)
symbols_at-name text object number =
    in_object (λ (s : Symbol). s.name) (λ hooked symbol handler. refl) text.image.handler (is_hooked_at text) (first_site text.image.objects object) number
    (slice_get text.image.objects object)

pub symbols_at-address : (text : TextImage) (object number : ℕ)
    → option_map (λ (s : Symbol). s.address) (slice_get (symbols_at text object) number) ≡ option_map (λ (s : Symbol). s.address) (given_symbol text.image object number)
symbols_at-address text object number =
    in_object (λ (s : Symbol). s.address) (λ hooked symbol handler. refl) text.image.handler (is_hooked_at text) (first_site text.image.objects object) number
    (slice_get text.image.objects object)

body_in : (number : ℕ) (symbols : Option (List Symbol))
    → option_map (λ (s : Symbol). s.body) (option_and_then (λ (ss : List Symbol). slice_get ss number) symbols)
    ≡ option_map (λ (s : Symbol). s.body) (slice_get (or_none symbols) number)
body_in number None = refl
body_in number (Some symbols) = refl

pub symbols_at-body : (text : TextImage) (object number : ℕ) → slice_index_or text.loaded object false ≡ true
    → bytes_at text object number ≡ option_map (λ (s : Symbol). s.body) (slice_get (symbols_at text object) number)
symbols_at-body text object number loaded =
    ap (λ l. option_map (λ (s : Symbol). s.body) (option_and_then (λ (ss : List Symbol). slice_get ss number) (if l then text_where text.image (is_hooked_at text) object else None))) loaded
    ∙ body_in number (text_where text.image (is_hooked_at text) object)

-- a symbol that has no address isn't there
pub nothing_from : {A B : Type 0} (read : A → B) (o : Option A) → None ≡ option_map read o → o ≡ None
nothing_from read None h = refl
nothing_from read (Some a) h = let no : ⊥ = cc in absurd no

-- the text of a loaded object is that of the state

same_from : (handler : ℕ) (f g : ℕ → Bool) → ((site : ℕ) → f site ≡ g site) → (site : ℕ) (symbols : List Symbol)
    → patched_from handler f site symbols ≡ patched_from handler g site symbols
same_from handler f g h site [] = refl
same_from handler f g h site (s ∷ symbols) =
    ap (λ b. patched handler b s ∷ patched_from handler f (suc site) symbols) (h site)
    ∙ ap (λ rest. patched handler (g site) s ∷ rest) (same_from handler f g h (suc site) symbols)

flag_within : (objects : List Object) (flags : List Bool) (object : ℕ) → length flags ≡ length objects → slice_index_or flags object false ≡ true
    → is_some (slice_get objects object) ≡ true
flag_within objects [] object count h = let no : ⊥ = cc in absurd no
flag_within [] (b ∷ flags) object count h = absurd (omega arith)
flag_within (o ∷ objects) (b ∷ flags) zero count h = refl
flag_within (o ∷ objects) (b ∷ flags) (suc object) count h = flag_within objects flags object (omega arith) h

shown_in : (handler first : ℕ) (f g : ℕ → Bool) (found : Option Object) → ((site : ℕ) → f site ≡ g site) → is_some found ≡ true
    → Some (or_none (option_map (λ (o : Object). patched_from handler f first o.symbols) found)) ≡ option_map (λ (o : Object). patched_from handler g first o.symbols) found
shown_in handler first f g None h there = let no : ⊥ = cc in absurd no
shown_in handler first f g (Some o) h there = ap Some (same_from handler f g h first o.symbols)

pub text_shown : (text : TextImage) (setting : Setting) (state : State) (object : ℕ) → setting.image ≡ text.image
    → ((site : ℕ) → slice_index_or text.hooked site false ≡ is_hooked setting state site)
    → length state.loaded ≡ length setting.image.objects → slice_index_or state.loaded object false ≡ true
    → Some (symbols_at text object) ≡ text_of setting state object
text_shown text setting state object same hooked count loaded =
    rw (loaded, ← same) (shown_in setting.image.handler (first_site setting.image.objects object) (is_hooked_at text) (is_hooked setting state)
    (slice_get setting.image.objects object) hooked (flag_within setting.image.objects state.loaded object count loaded))

-- whether a site is hooked, by its stack
pub hooked_at : (stacks : List (List Entry)) (site : ℕ) → slice_index_or (map is_stacked stacks) site false ≡ is_stacked (entries_at stacks site)
hooked_at [] site = refl
hooked_at (entries ∷ stacks) zero = refl
hooked_at (entries ∷ stacks) (suc site) = hooked_at stacks site
