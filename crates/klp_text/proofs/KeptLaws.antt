-- Laws of what an image keeps: the table of sites against the symbols.
use Rattle.std.proofs.Common.{◌≡◌, ℕ, zero, suc, ◌+◌, ◌^◌, ◌<◌, ◌≤◌, List, [], ◌∷◌, ◌++◌, length, get_or, set, take, drop, replicate, Bool, true, false, if◌then◌else◌, Option, Some, None, refl, ap, sym, ◌∙◌, subst, arith, append_assoc, length-append}
use Rattle.std.specs.Prelude.{FitsSigned, option_map}
use Rattle.std.specs.Int.{w32}
use Rattle.std.specs.List.{All, AllZip, slice_get}
use Rattle.std.proofs.lemmas.List.{map-set, take_more, take_at, drop_at, get_or-map, length-take-le, take-append-drop, get_or-append-add, get_or_append_left}
use Rattle.std.proofs.lemmas.Option.{slice_get-get_or, slice_get_past}
use Rattle.klp_types.specs.Image.{Symbol, Object, symbols_of, first_site}
use Rattle.klp_types.specs.Bytes.{patched, patched_from, entry_bytes, nop, displacement, entry_offset, entry_end, entry_address}
use Rattle.klp_types.proofs.SiteLemmas.{first_site-below, slice_get-symbols_of, symbols_of-append, symbols_of-drop}
use Rattle.klp_text.specs.declared.stored.StoredSymbol.{StoredSymbol}
use Rattle.klp_text.specs.TextImage.{TextImage, bytes_at, is_hooked_at}
use Rattle.klp_text.specs.Kept.{IsKept, IsStored, IsResting, hooked_of, first_sites_from, with_entry_at}

-- ---- lists in step

pub length-AllZip : {A B : Type 0} (R : A → B → Type 0) (xs : List A) (ys : List B) → AllZip R xs ys → length xs ≡ length ys
length-AllZip R [] [] h = refl
length-AllZip R [] (y ∷ ys) h = absurd h
length-AllZip R (x ∷ xs) [] h = absurd h
length-AllZip R (x ∷ xs) (y ∷ ys) h = ap suc (length-AllZip R xs ys h.1)

pub AllZip-at : {A B : Type 0} (R : A → B → Type 0) (xs : List A) (ys : List B) (i : ℕ) (d : A) (e : B) →
    AllZip R xs ys → i < length xs → R (get_or xs i d) (get_or ys i e)
AllZip-at R [] ys i d e h below = absurd (omega arith)
AllZip-at R (x ∷ xs) [] i d e h below = absurd h
AllZip-at R (x ∷ xs) (y ∷ ys) zero d e h below = h.0
AllZip-at R (x ∷ xs) (y ∷ ys) (suc i) d e h below = AllZip-at R xs ys i d e h.1 (omega arith)

pub AllZip-set : {A B : Type 0} (R : A → B → Type 0) (xs : List A) (ys : List B) (i : ℕ) (x : A) (e : B) →
    AllZip R xs ys → R x (get_or ys i e) → AllZip R (set xs i x) ys
AllZip-set R [] ys i x e h own = h
AllZip-set R (x' ∷ xs) [] i x e h own = absurd h
AllZip-set R (x' ∷ xs) (y ∷ ys) zero x e h own = (own, h.1)
AllZip-set R (x' ∷ xs) (y ∷ ys) (suc i) x e h own = (h.0, AllZip-set R xs ys i x e h.1 own)

pub AllZip-append : {A B : Type 0} (R : A → B → Type 0) (xs : List A) (ys : List B) (x : A) (y : B) →
    AllZip R xs ys → R x y → AllZip R (xs ++ x ∷ []) (ys ++ y ∷ [])
AllZip-append R [] [] x y h own = (own, tt)
AllZip-append R [] (y' ∷ ys) x y h own = absurd h
AllZip-append R (x' ∷ xs) [] x y h own = absurd h
AllZip-append R (x' ∷ xs) (y' ∷ ys) x y h own = (h.0, AllZip-append R xs ys x y h.1 own)

-- one more of a list behind others
pub AllZip-more : {A B : Type 0} (R : A → B → Type 0) (xs xs' : List A) (before ys : List B) (k : ℕ) (x : A) (y : B) →
    AllZip R xs (before ++ take k ys) → k < length ys → y ≡ get_or ys k y → xs' ≡ xs ++ x ∷ [] → R x y →
    AllZip R xs' (before ++ take (k + 1) ys)
AllZip-more R xs xs' before ys k x y h below is pushed own =
    let front : take (k + 1) ys ≡ take k ys ++ y ∷ [] = take_more ys k y below ∙ ap (λ z. take k ys ++ z ∷ []) (sym is) in
    rw (pushed, front, ← append_assoc before (take k ys) (y ∷ [])) (AllZip-append R xs (before ++ take k ys) x y h own)

-- what holds of all holds of those in the middle
pub All-middle : {A : Type 0} (P : A → Type 0) (xs ys zs : List A) → All P (xs ++ (ys ++ zs)) → All P ys
All-middle P xs ys zs h k d below =
    let inside : length xs + k < length (xs ++ (ys ++ zs)) = omega (arith, length-append xs (ys ++ zs), length-append ys zs) in
    let e : get_or (xs ++ (ys ++ zs)) (length xs + k) d ≡ get_or ys k d =
    get_or-append-add xs (ys ++ zs) k d ∙ get_or_append_left ys zs d k below in
    subst P e (h (length xs + k) d inside)

-- the symbols of one object among all
pub All-symbols : (P : Symbol → Type 0) (objects : List Object) (i : ℕ) (d : Object) → i < length objects →
    All P (symbols_of objects) → All P (get_or objects i d).symbols
All-symbols P objects i d below h =
    let x : Object = get_or objects i d in
    let whole : symbols_of objects ≡ symbols_of (take i objects) ++ (x.symbols ++ symbols_of (drop (i + 1) objects)) =
    ap symbols_of (sym (take-append-drop i objects))
    ∙ (symbols_of-append (take i objects) (drop i objects)
    ∙ ap (λ rest. symbols_of (take i objects) ++ rest) (symbols_of-drop objects i d below)) in
    let all : All P (symbols_of (take i objects) ++ (x.symbols ++ symbols_of (drop (i + 1) objects))) =
    subst (λ (symbols : List Symbol). All P symbols) whole h in
    All-middle P (symbols_of (take i objects)) x.symbols (symbols_of (drop (i + 1) objects)) all

-- ---- one site

pub length-entry_bytes : (handler address : ℕ) (hooked : Bool) → length (entry_bytes handler address hooked) ≡ 5
length-entry_bytes handler address true = refl
length-entry_bytes handler address false = refl

-- a symbol of the table, and the given symbol of the same site
pub record IsSite (handler : ℕ) (objects : List Object) (site : ℕ) (stored : StoredSymbol) (symbol : Symbol) : Type 0 where
  pub at : slice_get (symbols_of objects) site ≡ Some symbol
  pub stored_is : IsStored handler stored symbol
  pub long : entry_end symbol.body ≤ length symbol.body
  pub near : FitsSigned w32 (displacement handler (entry_address symbol))
  pub in_range : symbol.address + length symbol.body < 2 ^ 64

-- the given symbol of a site
abbrev pub symbol_at : List Object → ℕ → Symbol
symbol_at objects site = get_or (symbols_of objects) site (record { name = []; address = 0; body = [] })

pub site_count_is : (handler : ℕ) (objects : List Object) (loaded : List Bool) (first_sites : List ℕ) (stored : List StoredSymbol) →
    IsKept handler objects loaded first_sites stored → length stored ≡ length (symbols_of objects)
site_count_is handler objects loaded first_sites stored kept = length-AllZip (IsStored handler) stored (symbols_of objects) kept.stored_are

pub site_is : (handler : ℕ) (objects : List Object) (loaded : List Bool) (first_sites : List ℕ) (stored : List StoredSymbol)
    (site : ℕ) (s : StoredSymbol) →
    IsKept handler objects loaded first_sites stored → site < length stored → s ≡ get_or stored site s →
    IsSite handler objects site s (symbol_at objects site)
site_is handler objects loaded first_sites stored site s kept below is =
    let symbols : List Symbol = symbols_of objects in
    let same : length stored ≡ length symbols = site_count_is handler objects loaded first_sites stored kept in
    let inside : site < length symbols = omega arith in
    record {
      at = slice_get-get_or symbols site _ inside;
      stored_is =
          subst (λ (x : StoredSymbol). IsStored handler x (symbol_at objects site)) (sym is)
          (AllZip-at (IsStored handler) stored symbols site s _ kept.stored_are below);
      long = kept.long site _ inside;
      near = kept.near site _ inside;
      in_range = kept.in_range site _ inside;
    }

-- what is written at an entry site a second time leaves nothing of the first
pub written_twice : (offset : ℕ) (first second body : List ℕ) → offset + 5 ≤ length body → length first ≡ 5
    → with_entry_at offset second (with_entry_at offset first body) ≡ with_entry_at offset second body
written_twice offset first second body long five =
    let front : length (take offset body) ≡ offset = length-take-le offset body (omega arith) in
    let before : take offset ((take offset body ++ first) ++ drop (offset + 5) body) ≡ take offset body =
    rw (append_assoc (take offset body) first (drop (offset + 5) body)) (take_at (take offset body) (first ++ drop (offset + 5) body) offset front) in
    let written : length (take offset body ++ first) ≡ offset + 5 = omega (arith, length-append (take offset body) first) in
    let behind : drop (offset + 5) ((take offset body ++ first) ++ drop (offset + 5) body) ≡ drop (offset + 5) body =
    drop_at (take offset body ++ first) (drop (offset + 5) body) (offset + 5) written in
    rw (before, behind)

-- a symbol written anew
pub stored-set_hooked : (handler : ℕ) (hooked : Bool) (old new : StoredSymbol) (symbol : Symbol) → entry_end symbol.body ≤ length symbol.body →
    IsStored handler old symbol → new.address ≡ old.address → new.offset ≡ old.offset → new.call ≡ old.call → new.hooked ≡ hooked →
    new.body.items ≡ with_entry_at old.offset (if hooked then old.call else nop) old.body.items →
    IsStored handler new symbol
stored-set_hooked handler hooked old new symbol long stored address offset same flag body =
    let twice = written_twice (entry_offset symbol.body) (entry_bytes handler (entry_address symbol) old.hooked) (entry_bytes handler (entry_address symbol) hooked) symbol.body
    long (length-entry_bytes handler (entry_address symbol) old.hooked) in
    record {
      address = address ∙ stored.address;
      offset = offset ∙ stored.offset;
      call = same ∙ stored.call;
      body = rw (body, stored.body, stored.call, stored.offset, flag) twice;
    }

pub kept-set : (handler : ℕ) (objects : List Object) (loaded : List Bool) (first_sites : List ℕ) (stored : List StoredSymbol)
    (site : ℕ) (s : StoredSymbol) →
    IsKept handler objects loaded first_sites stored → IsStored handler s (symbol_at objects site) →
    IsKept handler objects loaded first_sites (set stored site s)
kept-set handler objects loaded first_sites stored site s kept own =
    record {
      limits = kept.limits;
      long = kept.long;
      near = kept.near;
      in_range = kept.in_range;
      each_loaded = kept.each_loaded;
      first_sites_are = kept.first_sites_are;
      stored_are = AllZip-set (IsStored handler) stored (symbols_of objects) site s _ kept.stored_are own;
    }

-- one site written anew
pub kept-set_hooked : (handler : ℕ) (hooked : Bool) (objects : List Object) (loaded : List Bool) (first_sites : List ℕ)
    (stored : List StoredSymbol) (site : ℕ) (old new : StoredSymbol) →
    IsKept handler objects loaded first_sites stored → site < length stored → old ≡ get_or stored site old →
    new.address ≡ old.address → new.offset ≡ old.offset → new.call ≡ old.call → new.hooked ≡ hooked →
    new.body.items ≡ with_entry_at old.offset (if hooked then old.call else nop) old.body.items →
    IsKept handler objects loaded first_sites (set stored site new)
kept-set_hooked handler hooked objects loaded first_sites stored site old new kept below is address offset same flag body =
    let there = site_is handler objects loaded first_sites stored site old kept below is in
    kept-set handler objects loaded first_sites stored site new kept
    (stored-set_hooked handler hooked old new (symbol_at objects site) there.long there.stored_is address offset same flag body)

pub hooked_of-set : (stored : List StoredSymbol) (site : ℕ) (new : StoredSymbol) (hooked : Bool) → new.hooked ≡ hooked →
    hooked_of (set stored site new) ≡ set (hooked_of stored) site hooked
hooked_of-set stored site new hooked flag =
    map-set (λ (s : StoredSymbol). s.hooked) stored site new ∙ ap (set (hooked_of stored) site) flag

-- a stored body has an entry site too
pub stored_long : (handler : ℕ) (stored : StoredSymbol) (symbol : Symbol) → entry_end symbol.body ≤ length symbol.body → IsStored handler stored symbol
    → stored.offset + 5 ≤ length stored.body.items
stored_long handler stored symbol long h =
    let entry = length-entry_bytes handler (entry_address symbol) stored.hooked in
    let bytes : List ℕ = entry_bytes handler (entry_address symbol) stored.hooked in
    let front = length-take-le (entry_offset symbol.body) symbol.body (omega arith) in
    let inner = length-append (take (entry_offset symbol.body) symbol.body) bytes in
    let whole = length-append (take (entry_offset symbol.body) symbol.body ++ bytes) (drop (entry_end symbol.body) symbol.body) in
    let same : length stored.body.items ≡ length ((take (entry_offset symbol.body) symbol.body ++ bytes) ++ drop (entry_end symbol.body) symbol.body) = ap length h.body in
    omega (arith, entry, inner, whole, front, same, h.offset)

-- an object has no more symbols than the image
pub few_symbols : (objects : List Object) (o : ℕ) (object : Object) → length (symbols_of objects) ≤ 256 →
    slice_get objects o ≡ Some object → length object.symbols ≤ 256
few_symbols objects o object few found = omega (arith, first_site-below objects o object found)

-- ---- the tables of a new image

pub stored_from_resting : (handler : ℕ) (stored : List StoredSymbol) (symbols : List Symbol) →
    AllZip (IsResting handler) stored symbols → AllZip (IsStored handler) stored symbols
stored_from_resting handler [] [] h = tt
stored_from_resting handler [] (y ∷ ys) h = absurd h
stored_from_resting handler (x ∷ xs) [] h = absurd h
stored_from_resting handler (x ∷ xs) (y ∷ ys) h =
    (record { address = h.0.address; offset = h.0.offset; call = h.0.call; body = rw (h.0.flag) h.0.body }, stored_from_resting handler xs ys h.1)

pub hooked_of-resting : (handler : ℕ) (stored : List StoredSymbol) (symbols : List Symbol) →
    AllZip (IsResting handler) stored symbols → hooked_of stored ≡ replicate (length symbols) false
hooked_of-resting handler [] [] h = refl
hooked_of-resting handler [] (y ∷ ys) h = absurd h
hooked_of-resting handler (x ∷ xs) [] h = absurd h
hooked_of-resting handler (x ∷ xs) (y ∷ ys) h = rw (h.0.flag, hooked_of-resting handler xs ys h.1)

-- ---- the first sites

pub length-first_sites_from : (site : ℕ) (objects : List Object) → length (first_sites_from site objects) ≡ length objects
length-first_sites_from site [] = refl
length-first_sites_from site (object ∷ objects) = ap suc (length-first_sites_from (site + length object.symbols) objects)

pub get_or-first_sites_from : (site : ℕ) (objects : List Object) (i d : ℕ) → i < length objects →
    get_or (first_sites_from site objects) i d ≡ site + first_site objects i
get_or-first_sites_from site [] i d below = absurd (omega arith)
get_or-first_sites_from site (object ∷ objects) zero d below = omega arith
get_or-first_sites_from site (object ∷ objects) (suc i) d below =
    get_or-first_sites_from (site + length object.symbols) objects i d (omega arith) ∙ omega arith

pub first_site_is : (handler : ℕ) (objects : List Object) (loaded : List Bool) (first_sites : List ℕ) (stored : List StoredSymbol)
    (o first : ℕ) → IsKept handler objects loaded first_sites stored → o < length objects →
    first ≡ get_or first_sites o first → first ≡ first_site objects o
first_site_is handler objects loaded first_sites stored o first kept below is =
    is ∙ (ap (λ xs. get_or xs o first) kept.first_sites_are ∙ (get_or-first_sites_from 0 objects o first below ∙ omega arith))

-- ---- the text

pub slice_get-patched_from : (handler : ℕ) (hooked : ℕ → Bool) (first k : ℕ) (symbols : List Symbol) →
    slice_get (patched_from handler hooked first symbols) k ≡ option_map (patched handler (hooked (first + k))) (slice_get symbols k)
slice_get-patched_from handler hooked first k [] = refl
slice_get-patched_from handler hooked first zero (symbol ∷ symbols) =
    let e : first + 0 ≡ first = omega arith in rw e
slice_get-patched_from handler hooked first (suc k) (symbol ∷ symbols) =
    let e : first + suc k ≡ suc first + k = omega arith in
    rw e (slice_get-patched_from handler hooked (suc first) k symbols)

option_map-option_map : {A B C : Type 0} (f : B → C) (g : A → B) (x : Option A) → option_map f (option_map g x) ≡ option_map (λ a. f (g a)) x
option_map-option_map f g None = refl
option_map-option_map f g (Some x) = refl

-- the symbols of an object that is there, at one number
pub bytes_at-loaded : (text : TextImage) (o k : ℕ) (object : Object) →
    get_or text.loaded o false ≡ true → slice_get text.image.objects o ≡ Some object →
    bytes_at text o k
    ≡ option_map (λ (symbol : Symbol). (patched text.image.handler (is_hooked_at text (first_site text.image.objects o + k)) symbol).body) (slice_get object.symbols k)
bytes_at-loaded text o k object loaded found =
    rw (loaded, found, slice_get-patched_from text.image.handler (is_hooked_at text) (first_site text.image.objects o) k object.symbols)
    (option_map-option_map (λ (symbol : Symbol). symbol.body) (patched text.image.handler (is_hooked_at text (first_site text.image.objects o + k)))
    (slice_get object.symbols k))

-- the stored body of a site of a loaded object is what stands there
pub bytes_at-stored : (handler : ℕ) (objects : List Object) (loaded : List Bool) (first_sites : List ℕ) (stored : List StoredSymbol)
    (o k : ℕ) (object : Object) (s : StoredSymbol) →
    IsKept handler objects loaded first_sites stored → get_or loaded o false ≡ true →
    slice_get objects o ≡ Some object → k < length object.symbols → s ≡ get_or stored (first_site objects o + k) s →
    bytes_at (record { image = record { handler = handler; objects = objects }; loaded = loaded; hooked = hooked_of stored }) o k
    ≡ Some s.body.items
bytes_at-stored handler objects loaded first_sites stored o k object s kept is_loaded found below is =
    let text : TextImage = record { image = record { handler = handler; objects = objects }; loaded = loaded; hooked = hooked_of stored } in
    let site : ℕ = first_site objects o + k in
    let inside : site < length stored =
    omega (arith, site_count_is handler objects loaded first_sites stored kept, first_site-below objects o object found) in
    let there = site_is handler objects loaded first_sites stored site s kept inside is in
    let own : slice_get object.symbols k ≡ Some (symbol_at objects site) =
    sym (slice_get-symbols_of objects o k object found below) ∙ there.at in
    let flag : get_or (hooked_of stored) site false ≡ s.hooked =
    get_or-map (λ (x : StoredSymbol). x.hooked) stored site s false inside ∙ ap (λ (x : StoredSymbol). x.hooked) (sym is) in
    bytes_at-loaded text o k object is_loaded found ∙ rw (own, flag) (ap Some (sym there.stored_is.body))

-- a loaded object has no bytes behind its last symbol
pub bytes_at-past : (text : TextImage) (o k : ℕ) (object : Object) →
    get_or text.loaded o false ≡ true → slice_get text.image.objects o ≡ Some object → length object.symbols ≤ k →
    bytes_at text o k ≡ None
bytes_at-past text o k object loaded found past =
    bytes_at-loaded text o k object loaded found ∙ rw (slice_get_past object.symbols k past)

-- an object that isn't loaded has no bytes
pub bytes_at-unloaded : (text : TextImage) (o k : ℕ) → get_or text.loaded o false ≡ false → bytes_at text o k ≡ None
bytes_at-unloaded text o k loaded = rw loaded
