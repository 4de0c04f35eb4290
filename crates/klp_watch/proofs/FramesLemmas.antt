-- Frames that are compared with all the room that they have.
use Rattle.std.proofs.Common.{◌≡◌, Bool, true, false, List, length, take, refl, sym, ap, ◌∙◌}
use Rattle.std.specs.Prelude.{not, ◌==◌, ◌&&◌}
use Rattle.std.proofs.Math.Seq.{take-append_seam}
use Rattle.std.proofs.lemmas.Bool.{eqb-true, eq-eqb, and_parts, and_from}
use lib.Pointwise.{pointwise, pointwise_decides}
use Rattle.klp_types.specs.Padded.{padded}
use Rattle.klp_types.specs.declared.limits.TheConstants.{MAX_FRAMES}
use Rattle.klp_types.specs.declared.version.Version.{Version}
use Rattle.klp_types.specs.declared.version.Version.TheVariants.{Original, New}
use Rattle.klp_types.specs.contracts.version.VersionPartialEq.TheImpl.{eq-value}

same_version : (a b : Version) → eq-value.it a b ≡ true → a ≡ b
same_version (Original site) (Original other) e = ap Original (eqb-true site other e)
same_version (New patch function) (New other another) e =
    let parts = and_parts (patch == other) (function == another) e in
    λ i. New (eqb-true patch other parts.0 i) (eqb-true function another parts.1 i)
same_version a b e = cc

itself : (a : Version) → eq-value.it a a ≡ true
itself (Original site) = eq-eqb site site refl
itself (New patch function) = and_from (patch == patch) (function == function) (eq-eqb patch patch refl) (eq-eqb function function refl)

one_version : (a b : Version) → a ≡ b → eq-value.it a b ≡ true
one_version a b e = ap (eq-value.it a) (sym e) ∙ itself a

-- the versions with the fillers behind them, and how many they are
abbrev pub frames_test : List Version → List Version → Bool
frames_test xs ys =
    pointwise eq-value.it (padded MAX_FRAMES (Original 0) xs) (padded MAX_FRAMES (Original 0) ys) && length xs == length ys

pub equal_frames : (xs ys : List Version) → false ≡ not (frames_test xs ys) → xs ≡ ys
equal_frames xs ys e =
    let parts = and_parts (pointwise eq-value.it (padded MAX_FRAMES (Original 0) xs) (padded MAX_FRAMES (Original 0) ys)) (length xs == length ys) (is_true (frames_test xs ys) e) in
    let kept = (pointwise_decides {E = eq-value.it} (λ x y. (same_version x y, one_version x y)) (padded MAX_FRAMES (Original 0) xs) (padded MAX_FRAMES (Original 0) ys)).0 parts.0 in
    sym (take-append_seam xs _) ∙ (λ i. take (eqb-true (length xs) (length ys) parts.1 i) (kept i)) ∙ take-append_seam ys _
  where
    is_true : (b : Bool) → false ≡ not b → b ≡ true
    is_true true e = refl
    is_true false e = let no : ⊥ = cc in absurd no

pub other_frames : (xs ys : List Version) → true ≡ not (frames_test xs ys) → xs ≡ ys → ⊥
other_frames xs ys e same =
    let own = (pointwise_decides {E = eq-value.it} (λ x y. (same_version x y, one_version x y)) (padded MAX_FRAMES (Original 0) xs) (padded MAX_FRAMES (Original 0) xs)).1 refl in
    let test : frames_test xs xs ≡ true = and_from (pointwise eq-value.it (padded MAX_FRAMES (Original 0) xs) (padded MAX_FRAMES (Original 0) xs)) (length xs == length xs) own (eq-eqb (length xs) (length xs) refl) in
    let other : true ≡ not (frames_test xs xs) = e ∙ ap (λ l. not (frames_test xs l)) (sym same) in
    let no : ⊥ = cc in
    no

pub same_frames : (xs ys : List Version) → xs ≡ ys → frames_test xs ys ≡ true
same_frames xs ys same = ap (frames_test xs) (sym same) ∙ itself_all
  where
    itself_all : frames_test xs xs ≡ true
    itself_all =
        and_from (pointwise eq-value.it (padded MAX_FRAMES (Original 0) xs) (padded MAX_FRAMES (Original 0) xs)) (length xs == length xs)
        ((pointwise_decides {E = eq-value.it} (λ x y. (same_version x y, one_version x y)) (padded MAX_FRAMES (Original 0) xs) (padded MAX_FRAMES (Original 0) xs)).1 refl)
        (eq-eqb (length xs) (length xs) refl)
