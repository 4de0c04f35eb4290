-- Sites: the symbols of all objects in order, and the place of each object among them.
use Rattle.std.proofs.Common.{◌≡◌, ℕ, zero, suc, ◌+◌, ◌-◌, ◌<◌, ◌≤◌, List, [], ◌∷◌, ◌++◌, length, get_or, take, drop, Bool, ◌||◌, Option, Some, None, refl, ap, sym, ◌∙◌, arith, append_assoc, length-append, add-one, drop-cons}
use Rattle.std.specs.Prelude.{option_map}
use Rattle.std.specs.List.{list_any, slice_get}
use Rattle.std.proofs.lemmas.List.{take_more, at_drop_more, append-nil}
use Rattle.std.proofs.lemmas.Option.{slice_get-get_or}
use Rattle.std.proofs.lemmas.Bool.{lt-ltb, le-ltb}
use Rattle.std.proofs.lemmas.List.Folds.{list_any-append}
use Rattle.klp_types.specs.Image.{Symbol, Object, symbols_of, first_site, object_of}

pub slice_get-append_left : {X : Type 0} (xs ys : List X) (n : ℕ) → n < length xs → slice_get (xs ++ ys) n ≡ slice_get xs n
slice_get-append_left [] ys n h = absurd (omega arith)
slice_get-append_left (x ∷ xs) ys zero h = refl
slice_get-append_left (x ∷ xs) ys (suc n) h = let below : n < length xs = omega arith in slice_get-append_left xs ys n below

pub slice_get-append_right : {X : Type 0} (xs ys : List X) (n : ℕ) → length xs ≤ n → slice_get (xs ++ ys) n ≡ slice_get ys (n - length xs)
slice_get-append_right [] ys n h = let e : n - 0 ≡ n = omega arith in rw e refl
slice_get-append_right (x ∷ xs) ys zero h = absurd (omega arith)
slice_get-append_right (x ∷ xs) ys (suc n) h =
    let below : length xs ≤ n = omega arith in
    let e : suc n - suc (length xs) ≡ n - length xs = omega arith in
    rw e (slice_get-append_right xs ys n below)

-- the objects from one on, where this is that one
pub objects_from : (objects : List Object) (i : ℕ) (object : Object) → i < length objects → object ≡ get_or objects i object
    → drop i objects ≡ object ∷ drop (i + 1) objects
objects_from objects i object below is = rw (add-one, drop-cons objects i object) (ap (λ o. o ∷ drop (suc i) objects) (sym is))

-- a site that lies in the first of the objects left
pub site_here : (objects : List Object) (i n : ℕ) (object : Object) (symbol : Symbol) → i < length objects → object ≡ get_or objects i object
    → n < length object.symbols → symbol ≡ get_or object.symbols n symbol
    → slice_get (symbols_of (drop i objects)) n ≡ Some symbol
site_here objects i n object symbol below is within at =
    ap (λ rest. slice_get (symbols_of rest) n) (objects_from objects i object below is)
    ∙ slice_get-append_left object.symbols (symbols_of (drop (i + 1) objects)) n within
    ∙ slice_get-get_or object.symbols n symbol within
    ∙ ap Some (sym at)

-- a site that lies behind it
pub site_behind : (objects : List Object) (i n : ℕ) (object : Object) → i < length objects → object ≡ get_or objects i object
    → length object.symbols ≤ n
    → slice_get (symbols_of (drop i objects)) n ≡ slice_get (symbols_of (drop (i + 1) objects)) (n - length object.symbols)
site_behind objects i n object below is behind =
    ap (λ rest. slice_get (symbols_of rest) n) (objects_from objects i object below is)
    ∙ slice_get-append_right object.symbols (symbols_of (drop (i + 1) objects)) n behind

pub symbols_of-append : (xs ys : List Object) → symbols_of (xs ++ ys) ≡ symbols_of xs ++ symbols_of ys
symbols_of-append [] ys = refl
symbols_of-append (x ∷ xs) ys = rw (symbols_of-append xs ys, append_assoc)

-- one more object
pub symbols_of-take : (objects : List Object) (i : ℕ) (d : Object) → i < length objects →
    symbols_of (take (i + 1) objects) ≡ symbols_of (take i objects) ++ (get_or objects i d).symbols
symbols_of-take objects i d below =
    ap symbols_of (take_more objects i d below)
    ∙ (symbols_of-append (take i objects) (get_or objects i d ∷ [])
    ∙ ap (λ xs. symbols_of (take i objects) ++ xs) (append-nil (get_or objects i d).symbols))

-- one object fewer
pub symbols_of-drop : (objects : List Object) (i : ℕ) (d : Object) → i < length objects →
    symbols_of (drop i objects) ≡ (get_or objects i d).symbols ++ symbols_of (drop (i + 1) objects)
symbols_of-drop objects i d below = at_drop_more symbols_of objects i d below

-- some symbol of some object
pub list_any-symbols_of : (test : Symbol → Bool) (objects : List Object) →
    list_any (λ (object : Object). list_any test object.symbols) objects ≡ list_any test (symbols_of objects)
list_any-symbols_of test [] = refl
list_any-symbols_of test (object ∷ objects) =
    ap (λ b. list_any test object.symbols || b) (list_any-symbols_of test objects)
    ∙ sym (list_any-append test object.symbols (symbols_of objects))

slice_get-append_behind : {X : Type 0} (xs ys : List X) (n : ℕ) → slice_get (xs ++ ys) (length xs + n) ≡ slice_get ys n
slice_get-append_behind [] ys n = let e : 0 + n ≡ n = omega arith in rw e
slice_get-append_behind (x ∷ xs) ys n =
    let e : suc (length xs) + n ≡ suc (length xs + n) = omega arith in rw e (slice_get-append_behind xs ys n)

-- an object's symbols stand together, from its first site on
pub slice_get-symbols_of : (objects : List Object) (o k : ℕ) (object : Object) →
    slice_get objects o ≡ Some object → k < length object.symbols →
    slice_get (symbols_of objects) (first_site objects o + k) ≡ slice_get object.symbols k
slice_get-symbols_of [] o k object found below = let no : ⊥ = cc in absurd no
slice_get-symbols_of (x ∷ xs) zero k object found below =
    let same : x ≡ object = cc in
    let e : 0 + k ≡ k = omega arith in
    rw (same, e) (slice_get-append_left object.symbols (symbols_of xs) k below)
slice_get-symbols_of (x ∷ xs) (suc o) k object found below =
    let e : length x.symbols + first_site xs o + k ≡ length x.symbols + (first_site xs o + k) = omega arith in
    rw e (slice_get-append_behind x.symbols (symbols_of xs) (first_site xs o + k) ∙ slice_get-symbols_of xs o k object found below)

-- and are sites of the image
pub first_site-below : (objects : List Object) (o : ℕ) (object : Object) →
    slice_get objects o ≡ Some object → first_site objects o + length object.symbols ≤ length (symbols_of objects)
first_site-below [] o object found = let no : ⊥ = cc in absurd no
first_site-below (x ∷ xs) zero object found =
    let same : x ≡ object = cc in
    rw same (omega (arith, length-append object.symbols (symbols_of xs)))
first_site-below (x ∷ xs) (suc o) object found =
    omega (arith, length-append x.symbols (symbols_of xs), first_site-below xs o object found)

-- the object of each of them is that object
pub object_of-first_site : (objects : List Object) (o k : ℕ) (object : Object) →
    slice_get objects o ≡ Some object → k < length object.symbols → object_of objects (first_site objects o + k) ≡ Some o
object_of-first_site [] o k object found below = let no : ⊥ = cc in absurd no
object_of-first_site (x ∷ xs) zero k object found below =
    let same : x ≡ object = cc in
    let inside : 0 + k < length x.symbols = rw same (omega arith) in
    rw (lt-ltb (0 + k) (length x.symbols) inside)
object_of-first_site (x ∷ xs) (suc o) k object found below =
    let behind : length x.symbols ≤ length x.symbols + first_site xs o + k = omega arith in
    let e : length x.symbols + first_site xs o + k - length x.symbols ≡ first_site xs o + k = omega arith in
    rw (le-ltb (length x.symbols + first_site xs o + k) (length x.symbols) behind, e, object_of-first_site xs o k object found below)

pub symbols-within : (objects : List Object) (number : ℕ) (symbols : List Symbol)
    → Some symbols ≡ option_map (λ (object : Object). object.symbols) (slice_get objects number)
    → first_site objects number + length symbols ≤ length (symbols_of objects)
symbols-within objects number symbols found = of_found (slice_get objects number) refl found
  where
    of_found : (at : Option Object) → slice_get objects number ≡ at → Some symbols ≡ option_map (λ (object : Object). object.symbols) at
        → first_site objects number + length symbols ≤ length (symbols_of objects)
    of_found None is none = let no : ⊥ = cc in absurd no
    of_found (Some object) is some =
        let e : symbols ≡ object.symbols = cc in
        rw e (first_site-below objects number object is)
