-- The sentences that are shown if there are too many: the oldest are left out, but none that lasts.
use Rattle.std.specs.Prelude.{ℕ, suc, ◌-◌, Bool, false, not, nat_lt, ◌&&◌, List, [], ◌∷◌, length, is_none, if◌then◌else◌}
use Rattle.klp_timeline.specs.declared.shown.TheConstants.{MAX_SENTENCES}
use Rattle.klp_timeline.specs.declared.moment.Said.{Said}
use Rattle.klp_timeline.specs.declared.moment.Said.TheVariants.{Did, Slept}
use Rattle.klp_timeline.specs.declared.moment.Sentence.{Sentence}

-- whether it lasts until the end of the run
abbrev pub is_lasting_said : Said → Bool
is_lasting_said (Did fact) = false
is_lasting_said (Slept sleepers) = is_none sleepers.to

-- whether the sentence is about a stay that lasts until the end of the run
abbrev pub is_lasting : Sentence → Bool
is_lasting sentence = is_lasting_said sentence.said

-- whether the first of some sentences is left out, if this many are too many
abbrev pub is_left_out : ℕ → Sentence → Bool
is_left_out excess sentence = nat_lt 0 excess && not (is_lasting sentence)

-- the sentences that are shown, if this many are too many
abbrev pub shown_of : ℕ → List Sentence → List Sentence
shown_of excess [] = []
shown_of excess (sentence ∷ rest) = if is_left_out excess sentence then shown_of (excess - 1) rest else sentence ∷ shown_of excess rest

-- how many sentences are left out, if this many are too many
abbrev pub left_out_of : ℕ → List Sentence → ℕ
left_out_of excess [] = 0
left_out_of excess (sentence ∷ rest) = if is_left_out excess sentence then suc (left_out_of (excess - 1) rest) else left_out_of excess rest

-- by how many the sentences exceed the limit
abbrev pub excess : List Sentence → ℕ
excess sentences = length sentences - MAX_SENTENCES

-- the sentences that are shown
abbrev pub shown : List Sentence → List Sentence
shown sentences = shown_of (excess sentences) sentences

-- how many sentences aren't shown
abbrev pub left_out : List Sentence → ℕ
left_out sentences = left_out_of (excess sentences) sentences
