-- The record that a list ends with, by its tag and the words before it.
use Rattle.std.proofs.Common.{◌≡◌, ℕ, ◌+◌, ◌-◌, ◌*◌, ◌/◌, ◌%◌, ◌<◌, ◌≤◌, ◌++◌, List, [], ◌∷◌, length, get_or, take, drop, refl, sym, ap, subst, ◌∙◌, arith, length-append}
use Rattle.klp_types.specs.declared.record.Record.{Record}
use Rattle.klp_journal.specs.Words.{words_before_tag, words_of, IsRecord, IsBody}
use Rattle.klp_journal.specs.Decoded.{record_of}
use Rattle.klp_journal.specs.Stored.{last_record, words_before, EndWithRecord, AreOfKind}
use Rattle.klp_journal.proofs.BackLemmas.{every, long_enough, last_is, too_long, tag_of, tag_count}

-- the record of words that end with one, by its tag
module _ (words : List ℕ) (kind count : ℕ) (ends : EndWithRecord words) (small : kind < 256) (tag : get_or words (length words - 1) 0 ≡ kind + 256 * count) where
  long : length words ≡ length words - 1 + 1
  long = omega (arith, long_enough words (words_before words) (last_record words) ends.0)

  as_many : get_or words (length words - 1) 0 / 256 ≡ count
  as_many = omega (arith, tag, small)

  same_kind : get_or words (length words - 1) 0 % 256 ≡ kind
  same_kind = omega (arith, tag, small)

  -- there are as many words before the tag
  pub fits : count ≤ length words - 1
  fits = omega (arith, as_many, too_long words (words_before words) (last_record words) (length words - 1) long ends.0)

  cut : length words - 1 - (length words - 1 - count) ≡ count
  cut = omega (arith, fits)

  -- these words, as they are cut out
  abbrev body : List ℕ
  body = take (length words - 1 - (length words - 1 - count)) (drop (length words - 1 - count) words)

  -- and by what the tag says
  abbrev own : List ℕ
  own =
      take (get_or words (length words - 1) 0 / 256) (drop (length words - 1 - get_or words (length words - 1) 0 / 256) words)

  cut_there : body ≡ own
  cut_there =
      ap (λ n. take n (drop (length words - 1 - count) words)) cut
      ∙ ap (λ n. take n (drop (length words - 1 - n) words)) (sym as_many)

  -- which are of this kind
  pub of_kind : AreOfKind kind body
  of_kind = (
    last_record words,
    subst (λ k. IsBody k body (last_record words)) same_kind
        (every words body (length words - 1) (get_or words (length words - 1) 0 / 256) (get_or words (length words - 1) 0) long refl refl
        (too_long words (words_before words) (last_record words) (length words - 1) long ends.0) cut_there (words_before words) (last_record words) ends.1 ends.0),
  )

  last_words : count + 1 ≡ length (words_of (last_record words))
  last_words =
      let row = last_record words in
      let counts : count ≡ length (words_before_tag row) = sym as_many ∙ ap (λ t. t / 256) (last_is words (words_before words) row (length words - 1) long ends.0) ∙ tag_count row in
      omega (arith, counts, length-append (words_before_tag row) (tag_of row ∷ []))

  -- and are the last record
  pub is_last : (row : Record) → row ≡ record_of kind body → (older : List ℕ) × ((words ≡ older ++ words_of row) × (count + 1 ≡ length (words_of row)) × IsRecord row)
  is_last row is =
      subst (λ r. (older : List ℕ) × ((words ≡ older ++ words_of r) × (count + 1 ≡ length (words_of r)) × IsRecord r)) (sym same)
      (words_before words, (ends.0, last_words, ends.1))
    where
      same : row ≡ last_record words
      same = is ∙ ap (record_of kind) cut_there ∙ ap (λ k. record_of k own) (sym same_kind)
