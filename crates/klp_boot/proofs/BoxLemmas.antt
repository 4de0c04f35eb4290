-- A callback for each script of a plan, made one after the other.
use Rattle.std.proofs.Common.{◌≡◌, ℕ, List, [], ◌∷◌, ◌++◌, Some, None, length, map, take, option_map, refl, sym, ap}
use Rattle.std.specs.List.{slice_get}
use Rattle.klp_types.specs.Script.{Script}
use Rattle.klp_callback.specs.LentCallback.{LentCallback}
use Rattle.klp_boot.specs.Booted.{never_ran}

-- as many of the scripts as there are callbacks, and no other, have theirs
abbrev pub first_made : List LentCallback → List Script → List LentCallback
first_made made scripts = map never_ran (take (length made) scripts)

-- the callback of the next script
pub next_made : (made : List LentCallback) (scripts : List Script) (lent : LentCallback)
    → option_map never_ran (slice_get scripts (length made)) ≡ Some lent → made ≡ first_made made scripts
    → made ++ lent ∷ [] ≡ first_made (made ++ lent ∷ []) scripts
next_made [] [] lent next so_far = let no : ⊥ = cc in absurd no
next_made [] (first ∷ scripts) lent next so_far = let same : never_ran first ≡ lent = cc in ap (λ (t : LentCallback). t ∷ []) (sym same)
next_made (one ∷ made) [] lent next so_far = let no : ⊥ = cc in absurd no
next_made (one ∷ made) (first ∷ scripts) lent next so_far =
    let head : one ≡ never_ran first = cc in
    let tail : made ≡ first_made made scripts = cc in
    let more = next_made made scripts lent next tail in
    cc

-- where no script is next, each has its callback
pub all_made : (made : List LentCallback) (scripts : List Script)
    → option_map never_ran (slice_get scripts (length made)) ≡ None → made ≡ first_made made scripts → made ≡ map never_ran scripts
all_made [] [] past so_far = refl
all_made [] (first ∷ scripts) past so_far = let no : ⊥ = cc in absurd no
all_made (one ∷ made) [] past so_far = let no : ⊥ = cc in absurd no
all_made (one ∷ made) (first ∷ scripts) past so_far =
    let head : one ≡ never_ran first = cc in
    let tail : made ≡ first_made made scripts = cc in
    let more = all_made made scripts past tail in
    cc

-- what a box tells, by its parts
pub reported_of : (lent : LentCallback) (given script : Script) (count runs : ℕ)
    → lent ≡ record { script = given; runs = count } → given ≡ script → count ≡ runs → lent ≡ record { script = script; runs = runs }
reported_of lent given script count runs made same counted = rw (made, same, counted) refl
