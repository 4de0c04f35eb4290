-- Each set has a list: the versions whose flags are set, in order.
use Rattle.std.proofs.Common.{◌≡◌, ℕ, zero, suc, ◌+◌, ◌<◌, Bool, true, false, eqb, List, [], ◌∷◌, ◌++◌, get_or, refl, sym, arith}
use Rattle.std.specs.List.{list_any}
use Rattle.std.proofs.lemmas.List.Folds.{list_any-append}
use Rattle.klp_types.specs.declared.version.Version.{Version}
use Rattle.klp_types.specs.declared.version.Version.TheVariants.{Original, New}
use Rattle.klp_model.specs.Blocked.{is_version}
use Rattle.klp_tasks.specs.Members.{VersionFlags, IsSetOf}

abbrev flagged : (ℕ → Version) → ℕ → List Bool → List Version
flagged make start [] = []
flagged make start (true ∷ flags) = make start ∷ flagged make (suc start) flags
flagged make start (false ∷ flags) = flagged make (suc start) flags

none_pass : (test : Version → Bool) (make : ℕ → Version) → ((n : ℕ) → test (make n) ≡ false) → (start : ℕ) (flags : List Bool) → list_any test (flagged make start flags) ≡ false
none_pass test make none start [] = refl
none_pass test make none start (true ∷ flags) = rw (none start) (none_pass test make none (suc start) flags)
none_pass test make none start (false ∷ flags) = none_pass test make none (suc start) flags

none_behind : (test : Version → Bool) (make : ℕ → Version) (place : ℕ) → ((n : ℕ) → test (make n) ≡ eqb place n)
    → (start : ℕ) (flags : List Bool) → place < start → list_any test (flagged make start flags) ≡ false
none_behind test make place one start [] below = refl
none_behind test make place one start (true ∷ flags) below =
    let other : eqb place start ≡ false = grind arith in
    rw (one start, other) (none_behind test make place one (suc start) flags (omega arith))
none_behind test make place one start (false ∷ flags) below = none_behind test make place one (suc start) flags (omega arith)

one_at : (test : Version → Bool) (make : ℕ → Version) (place : ℕ) → ((n : ℕ) → test (make n) ≡ eqb place n)
    → (start offset : ℕ) (flags : List Bool) → place ≡ start + offset → list_any test (flagged make start flags) ≡ get_or flags offset false
one_at test make place one start offset [] at = refl
one_at test make place one start zero (true ∷ flags) at =
    let own : eqb place start ≡ true = grind arith in
    rw (one start, own) refl
one_at test make place one start zero (false ∷ flags) at = none_behind test make place one (suc start) flags (omega arith)
one_at test make place one start (suc offset) (true ∷ flags) at =
    let other : eqb place start ≡ false = grind arith in
    rw (one start, other) (one_at test make place one (suc start) offset flags (omega arith))
one_at test make place one start (suc offset) (false ∷ flags) at = one_at test make place one (suc start) offset flags (omega arith)

abbrev functions_flagged : ℕ → List (List Bool) → List Version
functions_flagged start [] = []
functions_flagged start (flags ∷ patches) = flagged (New start) 0 flags ++ functions_flagged (suc start) patches

no_original : (site start : ℕ) (patches : List (List Bool)) → list_any (is_version (Original site)) (functions_flagged start patches) ≡ false
no_original site start [] = refl
no_original site start (flags ∷ patches) =
    rw (
      list_any-append (is_version (Original site)) (flagged (New start) 0 flags) (functions_flagged (suc start) patches),
      none_pass (is_version (Original site)) (New start) (λ n. refl) 0 flags,
    )
    (no_original site (suc start) patches)

other_patch : (patch function start : ℕ) (flags : List Bool) → eqb patch start ≡ false → list_any (is_version (New patch function)) (flagged (New start) 0 flags) ≡ false
other_patch patch function start flags other = none_pass (is_version (New patch function)) (New start) (λ n. rw other refl) 0 flags

no_function : (patch function start : ℕ) (patches : List (List Bool)) → patch < start → list_any (is_version (New patch function)) (functions_flagged start patches) ≡ false
no_function patch function start [] below = refl
no_function patch function start (flags ∷ patches) below =
    let other : eqb patch start ≡ false = grind arith in
    rw (
      list_any-append (is_version (New patch function)) (flagged (New start) 0 flags) (functions_flagged (suc start) patches),
      other_patch patch function start flags other,
    )
    (no_function patch function (suc start) patches (omega arith))

function_at : (patch function start offset : ℕ) (patches : List (List Bool)) → patch ≡ start + offset
    → list_any (is_version (New patch function)) (functions_flagged start patches) ≡ get_or (get_or patches offset []) function false
function_at patch function start offset [] at = refl
function_at patch function start zero (flags ∷ patches) at =
    let own : eqb patch start ≡ true = grind arith in
    rw (
      list_any-append (is_version (New patch function)) (flagged (New start) 0 flags) (functions_flagged (suc start) patches),
      one_at (is_version (New patch function)) (New start) function (λ n. rw own refl) 0 function flags (omega arith),
      no_function patch function (suc start) patches (omega arith),
    )
    (grind arith)
function_at patch function start (suc offset) (flags ∷ patches) at =
    let other : eqb patch start ≡ false = grind arith in
    rw (
      list_any-append (is_version (New patch function)) (flagged (New start) 0 flags) (functions_flagged (suc start) patches),
      other_patch patch function start flags other,
    )
    (function_at patch function (suc start) offset patches (omega arith))

abbrev listing : VersionFlags → List Version
listing flags = flagged Original 0 flags.originals ++ functions_flagged 0 flags.functions

is_listed : (flags : VersionFlags) → IsSetOf flags (listing flags)
is_listed flags (Original site) =
    rw (
      list_any-append (is_version (Original site)) (flagged Original 0 flags.originals) (functions_flagged 0 flags.functions),
      one_at (is_version (Original site)) Original site (λ n. refl) 0 site flags.originals (omega arith),
      no_original site 0 flags.functions,
    )
    (grind arith)
is_listed flags (New patch function) =
    rw (
      list_any-append (is_version (New patch function)) (flagged Original 0 flags.originals) (functions_flagged 0 flags.functions),
      none_pass (is_version (New patch function)) Original (λ n. refl) 0 flags.originals,
    )
    (sym (function_at patch function 0 patch flags.functions (omega arith)))

pub listed : (flags : VersionFlags) → (versions : List Version) × IsSetOf flags versions
listed flags = (listing flags, is_listed flags)
