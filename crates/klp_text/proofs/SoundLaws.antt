-- What an image without a fault has.
use Rattle.std.proofs.Common.{◌≡◌, ℕ, ◌+◌, ◌-◌, ◌^◌, ◌<◌, ◌≤◌, ◌&&◌, ◌||◌, List, [], ◌∷◌, ◌++◌, length, Bool, true, false, Option, Some, None, refl, arith}
use Rattle.std.specs.Prelude.{FitsSigned, if◌then◌else◌, not, nat_lt, nat_le, int_le, int_lt, ℤ, pos, negsuc}
use Rattle.std.specs.Int.{w32}
use Rattle.std.specs.List.{All, AllByRecursion, list_any}
use Rattle.std.proofs.lemmas.Bool.{ltb-false, leb-false}
use Rattle.std.proofs.lemmas.Int.{ints}
use Rattle.std.proofs.lemmas.List.Elements.{All-from_recursion, All-weaker}
use Rattle.klp_types.specs.Image.{Symbol, Object, symbols_of}
use Rattle.klp_types.specs.Bytes.{can_reach, displacement, entry_end, entry_address}
use Rattle.klp_text.specs.declared.fault.ImageFault.{ImageFault}
use Rattle.klp_text.specs.Faults.{first_fault, symbols_tests, image_fault, is_in_the_way, is_too_many, begins_with_kernel, has_duplicate, share_address}
use Rattle.klp_text.specs.TextImage.{IsWithinLimits}
use Rattle.klp_text.specs.Kept.{IsLong, IsNear, IsInRange}

-- no fault of the first test, and none of the others
no_fault : (test : Bool) (fault : ImageFault) (later : Option ImageFault) →
    (if test then Some fault else later) ≡ None → (test ≡ false) × (later ≡ None)
no_fault true fault later h = let no : ⊥ = cc in absurd no
no_fault false fault later h = (refl, h)

neither : (a b : Bool) → (a || b) ≡ false → (a ≡ false) × (b ≡ false)
neither true b h = let no : ⊥ = cc in absurd no
neither false b h = (refl, h)

both : (a b : Bool) → (a && b) ≡ true → (a ≡ true) × (b ≡ true)
both true b h = (refl, h)
both false b h = let no : ⊥ = cc in absurd no

true_from_not : (a : Bool) → not a ≡ false → a ≡ true
true_from_not true h = refl
true_from_not false h = let no : ⊥ = cc in absurd no

fits : (z : ℤ) → int_le (negsuc (2 ^ 31 - 1)) z ≡ true → int_lt z (pos (2 ^ 31)) ≡ true → FitsSigned w32 z
fits z low high = grind (arith, ints)

-- a symbol without a fault
pub record IsSound (handler : ℕ) (symbol : Symbol) : Type 0 where
  pub long : entry_end symbol.body ≤ length symbol.body
  pub near : FitsSigned w32 (displacement handler (entry_address symbol))
  pub in_range : symbol.address + length symbol.body < 2 ^ 64

sound_symbols : (handler : ℕ) (earlier symbols : List Symbol) →
    first_fault (symbols_tests handler earlier symbols) ≡ None → AllByRecursion (IsSound handler) symbols
sound_symbols handler earlier [] h = tt
sound_symbols handler earlier (symbol ∷ symbols) h =
    let short = no_fault (nat_lt (length symbol.body) (entry_end symbol.body)) _ _ h in
    let far = no_fault (not (can_reach handler (entry_address symbol))) _ _ short.1 in
    let way = no_fault (is_in_the_way earlier symbol) _ _ far.1 in
    let in_range = neither (nat_le (2 ^ 64) (symbol.address + length symbol.body)) (list_any (share_address symbol) earlier) way.0 in
    let near = both (int_le (negsuc (2 ^ 31 - 1)) (displacement handler (entry_address symbol))) _ (true_from_not (can_reach handler (entry_address symbol)) far.0) in (
      record {
        long = ltb-false (length symbol.body) (entry_end symbol.body) short.0;
        near = fits (displacement handler (entry_address symbol)) near.0 near.1;
        in_range = leb-false (2 ^ 64) (symbol.address + length symbol.body) in_range.0;
      },
      sound_symbols handler (earlier ++ symbol ∷ []) symbols way.1,
    )

has_kernel : (objects : List Object) → not (begins_with_kernel objects) ≡ false → 0 < length objects
has_kernel [] h = let no : ⊥ = cc in absurd no
has_kernel (object ∷ objects) h = omega arith

pub record IsSoundImage (handler : ℕ) (objects : List Object) : Type 0 where
  pub limits : IsWithinLimits objects
  pub long : All IsLong (symbols_of objects)
  pub near : All (IsNear handler) (symbols_of objects)
  pub in_range : All IsInRange (symbols_of objects)

pub sound_image : (handler : ℕ) (objects : List Object) → image_fault handler objects ≡ None → IsSoundImage handler objects
sound_image handler objects h =
    let few = no_fault (is_too_many objects) _ _ h in
    let kernel = no_fault (not (begins_with_kernel objects)) _ _ few.1 in
    let apart = no_fault (has_duplicate objects) _ _ kernel.1 in
    let counted = neither (nat_lt 17 (length objects) || nat_lt 256 (length (symbols_of objects))) _ few.0 in
    let numbers = neither (nat_lt 17 (length objects)) (nat_lt 256 (length (symbols_of objects))) counted.0 in
    let sound : All (IsSound handler) (symbols_of objects) =
    All-from_recursion (IsSound handler) (symbols_of objects) (sound_symbols handler [] (symbols_of objects) apart.1) in
    record {
      limits = record {
        kernel = has_kernel objects kernel.0;
        few_objects = ltb-false 17 (length objects) numbers.0;
        few_sites = ltb-false 256 (length (symbols_of objects)) numbers.1;
      };
      long = All-weaker (IsSound handler) IsLong (λ symbol s. s.long) (symbols_of objects) sound;
      near = All-weaker (IsSound handler) (IsNear handler) (λ symbol s. s.near) (symbols_of objects) sound;
      in_range = All-weaker (IsSound handler) IsInRange (λ symbol s. s.in_range) (symbols_of objects) sound;
    }
