-- The list of installed patches, when older ones leave it.
use Rattle.std.proofs.Common.{◌≡◌, ℕ, suc, ◌+◌, ◌≤◌, Bool, true, false, List, [], ◌∷◌, length, map, Option, Some, None, refl, sym, ap, ◌∙◌, arith}
use Rattle.std.specs.Prelude.{◌==◌, if◌then◌else◌, slice_get}
use Rattle.std.specs.Cmp.{nat_eq_equiv}
use Rattle.klp_types.specs.Setting.{Setting, replaces}
use Rattle.klp_types.specs.World.{Installed, World, taken_out, installed_before, without_patch}
use Rattle.klp_types.specs.declared.version.Transition.{Transition}
use Rattle.klp_model.specs.Completing.{from_patch, settled, without_older}
use Rattle.klp_catalog.specs.States as numbers
use Rattle.klp_manager_state.proofs.InstalledLemmas.{taken_number, numbers-taken}

abbrev pub first_of_list : List Installed → Option ℕ
first_of_list installed = slice_get (map (λ (i : Installed). i.patch) installed) 0

pub none_left : (patch : ℕ) (installed : List Installed) → first_of_list installed ≡ None → from_patch patch installed ≡ installed
none_left patch [] none = refl
none_left patch (i ∷ installed) none = let no : ⊥ = cc in absurd no

pub none_there : (patch : ℕ) (installed : List Installed) → length installed ≡ 0 → from_patch patch installed ≡ installed
none_there patch [] none = refl
none_there patch (i ∷ installed) none = absurd (omega (arith, none))

pub own_first : (patch : ℕ) (installed : List Installed) → first_of_list installed ≡ Some patch → from_patch patch installed ≡ installed
own_first patch [] is = refl
own_first patch (i ∷ installed) is =
    let own : i.patch ≡ patch = cc in
    ap (λ b. if b then i ∷ installed else from_patch patch installed) (ap (λ p. p == patch) own ∙ nat_eq_equiv.refl patch)

pub older_dropped : (patch oldest : ℕ) (installed : List Installed) → first_of_list installed ≡ Some oldest → (oldest == patch) ≡ false
    → from_patch patch (taken_out oldest installed) ≡ from_patch patch installed
older_dropped patch oldest [] is apart = refl
older_dropped patch oldest (i ∷ installed) is apart =
    let own : i.patch ≡ oldest = cc in
    ap (λ b. from_patch patch (if b then installed else i ∷ taken_out oldest installed)) (ap (λ p. p == oldest) own ∙ nat_eq_equiv.refl oldest)
    ∙ sym (ap (λ b. if b then i ∷ installed else from_patch patch installed) (ap (λ p. p == patch) own ∙ apart))

pub one_fewer : (oldest : ℕ) (installed : List Installed) → first_of_list installed ≡ Some oldest → length (taken_out oldest installed) + 1 ≡ length installed
one_fewer oldest [] is = let no : ⊥ = cc in absurd no
one_fewer oldest (i ∷ installed) is =
    let own : i.patch ≡ oldest = cc in
    ap (λ b. length (if b then installed else i ∷ taken_out oldest installed) + 1) (ap (λ p. p == oldest) own ∙ nat_eq_equiv.refl oldest) ∙ omega arith

pub all_dropped : (world first : World) (patch : ℕ) → from_patch patch world.installed ≡ from_patch patch first.installed → world.shadow ≡ first.shadow
    → from_patch patch world.installed ≡ world.installed → world ≡ without_older true first patch
all_dropped world first patch same shadow left =
    ap (λ i. record { installed = i; shadow = world.shadow }) (sym left ∙ same) ∙ ap (λ s. record { installed = from_patch patch first.installed; shadow = s }) shadow

-- the numbers of the patches that are left depend on the numbers alone

abbrev from_number : ℕ → List ℕ → List ℕ
from_number patch [] = []
from_number patch (first ∷ newer) = if first == patch then first ∷ newer else from_number patch newer

abbrev numbers_in : List Installed → List ℕ
numbers_in installed = map (λ (i : Installed). i.patch) installed

numbers-from : (patch : ℕ) (installed : List Installed) → numbers_in (from_patch patch installed) ≡ from_number patch (numbers_in installed)
numbers-from patch [] = refl
numbers-from patch (i ∷ newer) =
    elim (i.patch == patch) as (λ b. numbers_in (if b then i ∷ newer else from_patch patch newer) ≡ (if b then i.patch ∷ numbers_in newer else from_number patch (numbers_in newer))) [
      | true ↦ refl
      | false ↦ numbers-from patch newer
    ]

older_numbers : (cumulative : Bool) (patch : ℕ) (one other : World) → numbers_in one.installed ≡ numbers_in other.installed
    → numbers_in (without_older cumulative one patch).installed ≡ numbers_in (without_older cumulative other patch).installed
older_numbers true patch one other same = numbers-from patch one.installed ∙ ap (from_number patch) same ∙ sym (numbers-from patch other.installed)
older_numbers false patch one other same = same

pub settled_numbers : (setting : Setting) (move : Transition) (one other : World) → numbers_in one.installed ≡ numbers_in other.installed
    → numbers_in (settled setting one move).installed ≡ numbers_in (settled setting other move).installed
settled_numbers setting move one other same =
    elim move.target as (λ b. numbers_in (if b then without_older (replaces setting move.patch) one move.patch else without_patch one move.patch).installed
    ≡ numbers_in (if b then without_older (replaces setting move.patch) other move.patch else without_patch other move.patch).installed) [
      | true ↦ older_numbers (replaces setting move.patch) move.patch one other same
      | false ↦ numbers-taken move.patch one.installed ∙ ap (taken_number move.patch) same ∙ sym (numbers-taken move.patch other.installed)
    ]

-- the older ones

pub before_numbers : (patch : ℕ) (installed : List Installed) → numbers_in (installed_before patch installed) ≡ numbers.installed_before patch (numbers_in installed)
before_numbers patch [] = refl
before_numbers patch (i ∷ newer) =
    elim (i.patch == patch) as (λ b. numbers_in (if b then [] else i ∷ installed_before patch newer) ≡ (if b then [] else i.patch ∷ numbers.installed_before patch (numbers_in newer))) [
      | true ↦ refl
      | false ↦ ap (λ rest. i.patch ∷ rest) (before_numbers patch newer)
    ]

pub before_fewer : (patch : ℕ) (patches : List ℕ) → length (numbers.installed_before patch patches) ≤ length patches
before_fewer patch [] = omega arith
before_fewer patch (p ∷ patches) =
    let rest = before_fewer patch patches in
    elim (p == patch) as (λ b. length (if b then [] else p ∷ numbers.installed_before patch patches) ≤ suc (length patches)) [
      | true ↦ omega arith
      | false ↦ omega (arith, rest)
    ]
