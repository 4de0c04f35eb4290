-- Laws of the faults: tests in order, and the symbols that come before.
use Rattle.std.proofs.Common.{◌≡◌, ℕ, ◌+◌, ◌<◌, List, [], ◌∷◌, ◌++◌, length, get_or, take, drop, Bool, true, false, Option, Some, None, refl, ap, sym, ◌∙◌, append_assoc}
use Rattle.std.specs.Prelude.{if◌then◌else◌}
use Rattle.std.proofs.lemmas.List.{take_more, drop_more, append-nil}
use Rattle.klp_types.specs.Image.{Symbol, Object, symbols_of}
use Rattle.klp_types.proofs.SiteLemmas.{symbols_of-take, symbols_of-drop}
use Rattle.klp_text.specs.declared.fault.ImageFault.{ImageFault}
use Rattle.klp_text.specs.Faults.{first_fault, symbol_tests, symbols_tests}

-- the fault of the first tests, or of the others where these have none
abbrev pub or_else : Option ImageFault → Option ImageFault → Option ImageFault
or_else None other = other
or_else (Some fault) other = Some fault

or_else-if : (b : Bool) (fault : ImageFault) (x y : Option ImageFault) →
    (if b then Some fault else or_else x y) ≡ or_else (if b then Some fault else x) y
or_else-if true fault x y = refl
or_else-if false fault x y = refl

pub first_fault-append : (xs ys : List (Bool × ImageFault)) → first_fault (xs ++ ys) ≡ or_else (first_fault xs) (first_fault ys)
first_fault-append [] ys = refl
first_fault-append (x ∷ xs) ys = rw (first_fault-append xs ys) (or_else-if x.0 x.1 (first_fault xs) (first_fault ys))

pub symbols_tests-append : (handler : ℕ) (earlier xs ys : List Symbol) →
    symbols_tests handler earlier (xs ++ ys) ≡ symbols_tests handler earlier xs ++ symbols_tests handler (earlier ++ xs) ys
symbols_tests-append handler earlier [] ys = rw (append-nil earlier)
symbols_tests-append handler earlier (x ∷ xs) ys =
    let shifted : (earlier ++ x ∷ []) ++ xs ≡ earlier ++ x ∷ xs = append_assoc earlier (x ∷ []) xs in
    rw (symbols_tests-append handler (earlier ++ x ∷ []) xs ys, shifted)

-- one symbol more: its own tests come first
pub symbols_tests-drop : (handler : ℕ) (before symbols : List Symbol) (i : ℕ) (x : Symbol) →
    i < length symbols → x ≡ get_or symbols i x →
    first_fault (symbols_tests handler (before ++ take i symbols) (drop i symbols))
    ≡ or_else
    (first_fault (symbol_tests handler (before ++ take i symbols) x))
    (first_fault (symbols_tests handler (before ++ take (i + 1) symbols) (drop (i + 1) symbols)))
symbols_tests-drop handler before symbols i x below is =
    let rest : drop i symbols ≡ x ∷ drop (i + 1) symbols = drop_more symbols i x below ∙ ap (λ y. y ∷ drop (i + 1) symbols) (sym is) in
    let front : take (i + 1) symbols ≡ take i symbols ++ x ∷ [] = take_more symbols i x below ∙ ap (λ y. take i symbols ++ y ∷ []) (sym is) in
    rw (rest, front, ← append_assoc before (take i symbols) (x ∷ []))
    (first_fault-append (symbol_tests handler (before ++ take i symbols) x) (symbols_tests handler ((before ++ take i symbols) ++ x ∷ []) (drop (i + 1) symbols)))

-- one object more: the tests of its symbols come first
pub symbols_tests-drop_object : (handler : ℕ) (objects : List Object) (i : ℕ) (x : Object) →
    i < length objects → x ≡ get_or objects i x →
    first_fault (symbols_tests handler (symbols_of (take i objects)) (symbols_of (drop i objects)))
    ≡ or_else
    (first_fault (symbols_tests handler (symbols_of (take i objects)) x.symbols))
    (first_fault (symbols_tests handler (symbols_of (take (i + 1) objects)) (symbols_of (drop (i + 1) objects))))
symbols_tests-drop_object handler objects i x below is =
    let rest : symbols_of (drop i objects) ≡ x.symbols ++ symbols_of (drop (i + 1) objects) =
    symbols_of-drop objects i x below ∙ ap (λ (y : Object). y.symbols ++ symbols_of (drop (i + 1) objects)) (sym is) in
    let front : symbols_of (take (i + 1) objects) ≡ symbols_of (take i objects) ++ x.symbols =
    symbols_of-take objects i x below ∙ ap (λ (y : Object). symbols_of (take i objects) ++ y.symbols) (sym is) in
    rw (rest, front, symbols_tests-append handler (symbols_of (take i objects)) x.symbols (symbols_of (drop (i + 1) objects)))
    (first_fault-append
    (symbols_tests handler (symbols_of (take i objects)) x.symbols)
    (symbols_tests handler (symbols_of (take i objects) ++ x.symbols) (symbols_of (drop (i + 1) objects))))

-- the first tests have a fault: it is that of all
pub fault_found : (whole rest own later : Option ImageFault) (fault : ImageFault) →
    rest ≡ whole → rest ≡ or_else own later → Some fault ≡ own → Some fault ≡ whole
fault_found whole rest own later fault same step is =
    let first : or_else (Some fault) later ≡ or_else own later = ap (λ x. or_else x later) is in first ∙ (sym step ∙ same)

-- the first tests have none: the others decide
pub fault_later : (whole rest own later : Option ImageFault) →
    rest ≡ whole → rest ≡ or_else own later → None ≡ own → later ≡ whole
fault_later whole rest own later same step is =
    let first : or_else None later ≡ or_else own later = ap (λ x. or_else x later) is in first ∙ (sym step ∙ same)
