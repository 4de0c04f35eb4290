-- How many rows a table has.
use Rattle.std.proofs.Common.{◌≡◌, ◌⊎◌, inl, inr, ℕ, zero, suc, ◌+◌, ◌*◌, ◌/◌, ◌<◌, List, ◌++◌, length, take, get_or, Some, refl, sym, ap, ◌∙◌, subst, arith, length-append}
use Rattle.std.proofs.lemmas.Bool.Decides.{nat_tests}
use Rattle.std.proofs.lemmas.List.Folds.{length-flat_map-take}
use Rattle.std.specs.List.{flat_map}
use Rattle.klp_elf.specs.Faults.{many_fault}
use Rattle.klp_elf.specs.Tables.{first_values, rows_of}
use Rattle.klp_elf.specs.declared.elf.TheConstants.{MAX_RELOCATIONS}
use Rattle.klp_elf.specs.declared.fault.ElfFault.{ElfFault}
use Rattle.klp_elf.specs.declared.fault.ElfFault.TheVariants.{NoMemory, TooManyRelocations}
use Rattle.klp_elf.specs.declared.row.Relocation.{Relocation}
use Rattle.klp_elf.specs.declared.row.Section.{Section}

pub length-first_values : {X : Type 0} (value : ℕ → X) (n : ℕ) → length (first_values value n) ≡ n
length-first_values value zero = refl
length-first_values value (suc n) = simp length-append (grind (arith, length-first_values value n))

pub length-rows : {X : Type 0} (old : List X) (row : ℕ → List ℕ → X) (table : List ℕ)
    → length (old ++ rows_of 24 row table) ≡ length old + length table / 24
length-rows old row table =
    let rows = length-first_values (λ k. row (24 * k) table) (length table / 24) in simp length-append (omega (arith, rows))

pub is_many : (rows : List Relocation) → MAX_RELOCATIONS < length rows → many_fault rows ≡ Some TooManyRelocations
is_many rows h = grind (arith, nat_tests)

pub is_many_then : (f : Section → List Relocation) (sections : List Section) (i : ℕ) (d : Section) → i < length sections
    → MAX_RELOCATIONS < length (flat_map f (take i sections) ++ f (get_or sections i d))
    → MAX_RELOCATIONS < length (flat_map f sections)
is_many_then f sections i d within h =
    let most = length-flat_map-take f sections i d within in
    omega (arith, most, simp length-append at h)

-- where a table had too many rows, the file has
pub fault_after : (f : Section → List Relocation) (sections : List Section) (i : ℕ) (d : Section) (rows : List Relocation) (fault : ElfFault)
    → i < length sections → rows ≡ flat_map f (take i sections)
    → (fault ≡ NoMemory) ⊎ ((fault ≡ TooManyRelocations) × (MAX_RELOCATIONS < length (rows ++ f (get_or sections i d))))
    → (fault ≡ NoMemory) ⊎ (many_fault (flat_map f sections) ≡ Some fault)
fault_after f sections i d rows fault within are (inl h) = inl h
fault_after f sections i d rows fault within are (inr (named, many)) =
    let longer = is_many_then f sections i d within (subst (λ (xs : List Relocation). MAX_RELOCATIONS < length (xs ++ f (get_or sections i d))) are many) in
    inr (is_many (flat_map f sections) longer ∙ ap (λ (x : ElfFault). Some x) (sym named))
