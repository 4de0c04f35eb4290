-- The rows of a kernel's symbols, line by line.
use Rattle.std.proofs.Common.{◌≡◌, ℕ, suc, Bool, true, false, ◌||◌, ◌&&◌, map, if◌then◌else◌, List, [], ◌∷◌, ◌++◌, Option, Some, None, option_map, ◌⊎◌, inl, inr, refl, sym, ap, ◌∙◌, append_assoc}
use Rattle.std.specs.List.{filter_map, list_all, list_any}
use Rattle.std.proofs.lemmas.List.Elements.{filter_map-append}
use Rattle.klp_module_symbols.specs.Kernel.{RowFacts, are_unknown, first_bad, unless_bad}
use Rattle.klp_module_symbols.specs.declared.rows.RowsFault.{RowsFault}
use Rattle.klp_module_symbols.specs.declared.rows.RowsFault.TheVariants.{NoMemory, NoAddresses}

-- a line was read, and what it has was added
pub lines_done : {R : Type 0} (read : List ℕ → Option R) (before after : List R) (line : List ℕ) (lines more : List (List ℕ)) (whole : List R)
    → after ≡ before ++ filter_map read (line ∷ []) → lines ≡ line ∷ more → before ++ filter_map read lines ≡ whole
    → after ++ filter_map read more ≡ whole
lines_done {R} read before after line lines more whole added cut so_far =
    ap (λ (all : List R). all ++ filter_map read more) added
    ∙ append_assoc before (filter_map read (line ∷ [])) (filter_map read more)
    ∙ ap (λ (all : List R). before ++ all) (sym (filter_map-append read (line ∷ []) more))
    ∙ ap (λ (ls : List (List ℕ)). before ++ filter_map read ls) (sym cut)
    ∙ so_far

-- a line was read that isn't bad
pub good_done : (bad : List ℕ → Bool) (number next : ℕ) (line : List ℕ) (lines more : List (List ℕ)) (whole : Option ℕ)
    → next ≡ suc number → bad line ≡ false → lines ≡ line ∷ more → first_bad bad number lines ≡ whole → first_bad bad next more ≡ whole
good_done bad number next line lines more whole is_next fine cut so_far =
    ap (λ (n : ℕ). first_bad bad n more) is_next
    ∙ sym (ap (λ (b : Bool). if b then Some number else first_bad bad (suc number) more) fine)
    ∙ ap (λ (ls : List (List ℕ)). first_bad bad number ls) (sym cut)
    ∙ so_far

bad_here : (bad : List ℕ → Bool) (number : ℕ) (line : List ℕ) (lines more : List (List ℕ)) (whole : Option ℕ)
    → bad line ≡ true → lines ≡ line ∷ more → first_bad bad number lines ≡ whole → whole ≡ Some number
bad_here bad number line lines more whole is_bad cut so_far =
    sym so_far
    ∙ ap (λ (ls : List (List ℕ)). first_bad bad number ls) cut
    ∙ ap (λ (b : Bool). if b then Some number else first_bad bad (suc number) more) is_bad

-- memory ran out at a line, or the line is the first bad one
pub stopped : {F : Type 0} (memory : F) (at_line : ℕ → F) (bad : List ℕ → Bool) (number : ℕ) (line : List ℕ) (lines more : List (List ℕ))
    (whole : Option ℕ) (fault : F)
    → (fault ≡ memory) ⊎ ((fault ≡ at_line number) × (bad line ≡ true)) → lines ≡ line ∷ more → first_bad bad number lines ≡ whole
    → (fault ≡ memory) ⊎ (option_map at_line whole ≡ Some fault)
stopped memory at_line bad number line lines more whole fault (inl ran_out) cut so_far = inl ran_out
stopped {F} memory at_line bad number line lines more whole fault (inr is_bad) cut so_far =
    inr (ap (option_map at_line) (bad_here bad number line lines more whole is_bad.1 cut so_far) ∙ ap (λ (f : F). Some f) (sym is_bad.0))

-- a bad line is the fault of all
pub faulty : (first : Option RowsFault) (rows : List RowFacts) (fault : RowsFault)
    → (fault ≡ NoMemory) ⊎ (first ≡ Some fault) → (fault ≡ NoMemory) ⊎ (unless_bad first rows ≡ Some fault)
faulty first rows fault (inl memory) = inl memory
faulty first rows fault (inr bad) = inr (ap (λ (f : Option RowsFault). unless_bad f rows) bad)

-- without a bad line the addresses decide
pub addressed : (first : Option RowsFault) (rows all : List RowFacts) (unknown : Bool)
    → first ≡ None → rows ≡ all → unknown ≡ are_unknown rows → unless_bad first all ≡ (if unknown then Some NoAddresses else None)
addressed first rows all unknown none same answer =
    ap (λ (f : Option RowsFault). unless_bad f all) none
    ∙ ap (λ (rs : List RowFacts). if are_unknown rs then Some NoAddresses else None) (sym same)
    ∙ ap (λ (b : Bool). if b then Some NoAddresses else None) (sym answer)

-- an element of a map passes a test exactly if what it is made of does
pub any_map : {X Y : Type 0} (p : Y → Bool) (f : X → Y) (xs : List X) → list_any p (map f xs) ≡ list_any (λ x. p (f x)) xs
any_map p f [] = refl
any_map p f (x ∷ xs) = ap (λ (b : Bool). p (f x) || b) (any_map p f xs)

pub all_map : {X Y : Type 0} (p : Y → Bool) (f : X → Y) (xs : List X) → list_all p (map f xs) ≡ list_all (λ x. p (f x)) xs
all_map p f [] = refl
all_map p f (x ∷ xs) = ap (λ (b : Bool). p (f x) && b) (all_map p f xs)
