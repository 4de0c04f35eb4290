-- Where a name is cut.
use Rattle.std.proofs.Common.{◌≡◌, ℕ, zero, suc, ◌-◌, ◌<◌, true, false, List, refl, ap, arith}
use Rattle.std.specs.Prelude.{slice_index}
use Rattle.klp_markup.specs.Called.{goes_on, last_begin}

-- where a byte goes on with a character, that begins before it
pub begins_before : (place : ℕ) (name : List ℕ) → 0 < place → goes_on (slice_index name place) ≡ true → last_begin (place - 1) name ≡ last_begin place name
unfolding last_begin
begins_before zero name some on = absurd (omega arith)
begins_before (suc place) name some on =
    let same : suc place - 1 ≡ place = omega arith in
    rw on (ap (λ (n : ℕ). last_begin n name) same)

-- where it doesn't, one begins with it
pub begins_here : (place : ℕ) (name : List ℕ) → goes_on (slice_index name place) ≡ false → last_begin place name ≡ place
unfolding last_begin
begins_here zero name here = refl
begins_here (suc place) name here = rw here refl

pub begins_first : (name : List ℕ) → last_begin 0 name ≡ 0
unfolding last_begin
begins_first name = refl
