-- Reading the parts of records: frames and values.
use Rattle.std.proofs.Common.{◌≡◌, ℕ, zero, suc, ◌+◌, ◌-◌, ◌*◌, ◌/◌, ◌%◌, ◌^◌, ◌<◌, ◌≤◌, List, [], ◌∷◌, ◌++◌, map, length, get_or, take, drop, replicate, Option, Some, None, refl, sym, ap, subst, ◌∙◌, arith, take-append-drop, take_at, drop_at, drop-drop}
use Rattle.std.proofs.lemmas.List.{length-map, get_or-map, drop-replicate}
use Rattle.std.specs.List.{All}
use Rattle.std.specs.Int.{w64, to_le_bytes, from_le_bytes, byte_at, bytes_low_first}
use Rattle.klp_types.specs.declared.version.Version.{Version}
use Rattle.klp_types.specs.declared.version.Version.TheVariants.{Original}
use Rattle.klp_types.specs.Finds.{Finds}
use Rattle.klp_types.specs.Padded.{padded}
use Rattle.klp_journal.specs.Words.{frame_word, byte_words, IsFrameOf, AreFramesOf, IsValueOf}
use Rattle.klp_journal.specs.Decoded.{frame_of, bytes_in}
use Rattle.klp_journal.proofs.WordLemmas.{frames_back, IsByte, IsWord, all_cons, all_nil, all_append, all_take, all_same, value_bytes, words_of_bytes, length-byte_words, enough, few_words}
use Rattle.klp_journal.proofs.ReadLemmas.{found, not_found, none_is}

-- lists of frames
pub frames_found : (words : List ℕ) (frames : List Version) → AreFramesOf words frames → Finds (AreFramesOf words) (Some frames)
frames_found words frames h =
    found (AreFramesOf words) frames h
    (λ own is. sym (frames_back frames h.2) ∙ ap (map frame_of) (h.0 ∙ sym is.0) ∙ frames_back own is.2)

pub frame_among : (words : List ℕ) (frames : List Version) (k : ℕ) → AreFramesOf words frames → k < length words → IsFrameOf (get_or words k 0) (get_or frames k (Original 0))
frame_among words frames k h l =
    let long : length frames ≡ length words = sym (length-map frames frame_word) ∙ ap length h.0 in
    let within : k < length frames = omega (arith, long, l) in
    (sym (get_or-map frame_word frames k (Original 0) 0 within) ∙ ap (λ xs. get_or xs k 0) h.0, h.2 k (Original 0) within)

pub no_frames_at : (words : List ℕ) (k : ℕ) → k < length words → Finds (IsFrameOf (get_or words k 0)) None → Finds (AreFramesOf words) None
no_frames_at words k l none =
    not_found (AreFramesOf words) (λ frames h. none_is (IsFrameOf (get_or words k 0)) (get_or frames k (Original 0)) none (frame_among words frames k h l))

-- the words of a value are those that its bytes, padded, begin with
module _ (count : ℕ) (words : List ℕ) (few : count ≤ 64) (as_many : length words ≡ (count + 7) / 8) (ranges : All IsWord words) where
  abbrev filled : List ℕ
  filled = bytes_in words ++ replicate (64 - 8 * length words) 0

  fits : 8 * length words ≤ 64
  fits = omega (arith, as_many, few_words count few)

  pub is_value : (value : List ℕ) → length value ≡ count → padded 64 0 value ≡ filled → All IsByte value → IsValueOf count words value
  is_value value l h bytes = (
    l,
    ap (λ n. byte_words ((n + 7) / 8) (padded 64 0 value)) l
        ∙ ap (λ n. byte_words n (padded 64 0 value)) (sym as_many)
        ∙ ap (byte_words (length words)) h
        ∙ words_of_bytes words (replicate (64 - 8 * length words) 0) ranges,
    (omega (arith, l, few), bytes),
  )

  pub fills : (value : List ℕ) → IsValueOf count words value → padded 64 0 value ≡ filled
  fills value h =
      sym (take-append-drop (8 * length words) (padded 64 0 value))
      ∙ ap (λ xs. xs ++ drop (8 * length words) (padded 64 0 value)) front
      ∙ ap (λ xs. bytes_in words ++ xs) (back value h.0)
    where
      front : take (8 * length words) (padded 64 0 value) ≡ bytes_in words
      front =
          ap (λ n. take (8 * n) (padded 64 0 value)) (as_many ∙ ap (λ n. (n + 7) / 8) (sym h.0))
          ∙ sym (value_bytes value h.2)
          ∙ ap bytes_in h.1

      back : (own : List ℕ) → length own ≡ count → drop (8 * length words) (padded 64 0 own) ≡ replicate (64 - 8 * length words) 0
      back own l =
          ap (λ n. drop n (padded 64 0 own)) further
          ∙ sym (drop-drop (8 * length words - length own) (length own) (padded 64 0 own))
          ∙ ap (drop (8 * length words - length own)) (drop_at own (replicate (64 - length own) 0) (length own) refl)
          ∙ drop-replicate (8 * length words - length own) (64 - length own) 0
          ∙ ap (λ n. replicate n 0) same
        where
          further : 8 * length words ≡ length own + (8 * length words - length own)
          further = omega (arith, l, as_many, enough count)

          same : 64 - length own - (8 * length words - length own) ≡ 64 - 8 * length words
          same = omega (arith, l, as_many, enough count, fits)

  pub value_found : (value : List ℕ) → length value ≡ count → padded 64 0 value ≡ filled → All IsByte value → Finds (IsValueOf count words) (Some value)
  value_found value l h bytes =
      found (IsValueOf count words) value (is_value value l h bytes)
      (λ own is. sym (take_at value (replicate (64 - length value) 0) count l) ∙ ap (take count) (h ∙ sym (fills own is)) ∙ take_at own (replicate (64 - length own) 0) count is.0)

  pub no_value : Finds (λ v. (length v ≡ count) × (padded 64 0 v ≡ filled)) None → Finds (IsValueOf count words) None
  no_value none =
      not_found (IsValueOf count words) (λ own is. none_is (λ v. (length v ≡ count) × (padded 64 0 v ≡ filled)) own none (is.0, fills own is))

pub other_length : (count : ℕ) (words : List ℕ) → (length words ≡ (count + 7) / 8 → ⊥) → Finds (IsValueOf count words) None
other_length count words never =
    not_found (IsValueOf count words)
    (λ own is. never (sym (ap length is.1) ∙ length-byte_words ((length own + 7) / 8) (padded 64 0 own) ∙ ap (λ n. (n + 7) / 8) is.0))

-- one more word of bytes
pub byte_words_more : (count : ℕ) (bytes : List ℕ) → byte_words (suc count) bytes ≡ byte_words count bytes ++ from_le_bytes w64 (take 8 (drop (8 * count) bytes)) ∷ []
byte_words_more zero bytes = refl
byte_words_more (suc count) bytes =
    ap (λ xs. from_le_bytes w64 (take 8 bytes) ∷ xs) (byte_words_more count (drop 8 bytes) ∙ ap (λ xs. byte_words count (drop 8 bytes) ++ from_le_bytes w64 (take 8 xs) ∷ []) (drop-drop (8 * count) 8 bytes ∙ ap (λ n. drop n bytes) further))
  where
    further : 8 + 8 * count ≡ 8 * suc count
    further = omega arith

byte_small : (i n : ℕ) → byte_at i n < 256
byte_small zero n = omega arith
byte_small (suc i) n = let low : n / 256 ^ suc i % 256 < 256 = small (n / 256 ^ suc i) in low
  where
    small : (m : ℕ) → m % 256 < 256
    small m = omega arith

all_low_first : (i count n : ℕ) → All IsByte (bytes_low_first i count n)
all_low_first i zero n = all_nil IsByte
all_low_first i (suc count) n =
    all_cons IsByte (byte_at i n) (bytes_low_first (suc i) count n) (byte_small i n) (all_low_first (suc i) count n)

all_bytes_in : (words : List ℕ) → All IsByte (bytes_in words)
all_bytes_in [] = all_nil IsByte
all_bytes_in (w ∷ words) = all_append IsByte (to_le_bytes w64 w) (bytes_in words) (all_low_first 0 8 w) (all_bytes_in words)

-- the value that bytes are which words were unpacked to
pub value_read : (count : ℕ) (words bytes : List ℕ) (result : Option (List ℕ)) → count ≤ 64 → length words ≡ (count + 7) / 8 → All IsWord words → bytes ≡ bytes_in words ++ drop (8 * length words) (replicate 64 0) → Finds (λ v. (length v ≡ count) × (padded 64 0 v ≡ bytes)) result → Finds (IsValueOf count words) result
value_read count words bytes None few as_many ranges e f =
    no_value count words few as_many ranges (subst (λ bs. Finds (λ v. (length v ≡ count) × (padded 64 0 v ≡ bs)) None) (e ∙ ap (λ xs. bytes_in words ++ xs) (drop-replicate (8 * length words) 64 0)) f)
value_read count words bytes (Some value) few as_many ranges e f =
    value_found count words few as_many ranges value f.has.0 all (subst (λ v. All IsByte v) (take_at value (replicate (64 - length value) 0) (length value) refl) (all_take IsByte (length value) (padded 64 0 value) (subst (All IsByte) (sym all) filled_bytes)))
  where
    all : padded 64 0 value ≡ bytes_in words ++ replicate (64 - 8 * length words) 0
    all = f.has.1 ∙ e ∙ ap (λ xs. bytes_in words ++ xs) (drop-replicate (8 * length words) 64 0)

    filled_bytes : All IsByte (bytes_in words ++ replicate (64 - 8 * length words) 0)
    filled_bytes =
        all_append IsByte (bytes_in words) (replicate (64 - 8 * length words) 0) (all_bytes_in words) (all_same IsByte (64 - 8 * length words) 0 (omega arith))
