-- Records as they are stored: what the last of them is, and one more behind them.
use Rattle.std.proofs.Common.{◌≡◌, ℕ, zero, suc, ◌+◌, ◌-◌, ◌*◌, ◌/◌, ◌%◌, ◌<◌, ◌≤◌, List, [], ◌∷◌, ◌++◌, length, take, drop, refl, sym, ap, subst, ◌∙◌, arith, length-append, append_assoc, append-nil, add-zero}
use Rattle.std.proofs.lemmas.List.{take_at}
use Rattle.klp_types.specs.declared.record.Record.{Record}
use Rattle.klp_journal.specs.Words.{words_before_tag, words_of, IsRecord}
use Rattle.klp_journal.specs.Stored.{last_tag, last_begins, last_record, words_before, records_in, AreWords, EndWithRecord}
use Rattle.klp_journal.proofs.ReadLemmas.{known}
use Rattle.klp_journal.proofs.BackLemmas.{tag_count, every, long_enough, last_is, too_long}
use Rattle.klp_journal.proofs.RecordsLemmas.{few}

-- words that end with those of a record
module _ (words front : List ℕ) (row : Record) (is : IsRecord row) (e : words ≡ front ++ words_of row) where
  long : length words ≡ length words - 1 + 1
  long = omega (arith, long_enough words front row e)

  -- it is the last record
  pub last_is_row : last_record words ≡ row
  last_is_row =
      known (last_tag words % 256) (take (last_tag words / 256) (drop (last_begins words) words)) row
      (every words (take (last_tag words / 256) (drop (last_begins words) words)) (length words - 1) (last_tag words / 256) (last_tag words) long refl refl
      (too_long words front row (length words - 1) long e) refl front row is e)

  begins : last_begins words ≡ length front
  begins =
      let tag = last_is words front row (length words - 1) long e in
      let count : last_tag words / 256 ≡ length (words_before_tag row) = ap (λ t. t / 256) tag ∙ tag_count row in
      omega (arith, count, long_enough words front row e)

  -- and these are the words before it
  pub front_is : words_before words ≡ front
  front_is = ap (take (last_begins words)) e ∙ take_at front (words_of row) (last_begins words) (sym begins)

-- one record more
pub are_more : (count : ℕ) (words : List ℕ) (row : Record) → IsRecord row → AreWords count words → AreWords (suc count) (words ++ words_of row)
are_more count words row is are =
    let all = words ++ words_of row in
    let last = last_is_row all words row is refl in
    let front = front_is all words row is refl in (
      ap (λ xs. xs ++ words_of row) (sym front) ∙ ap (λ r. words_before all ++ words_of r) (sym last),
      (subst IsRecord (sym last) is, subst (AreWords count) (sym front) are),
    )

pub records_more : (count : ℕ) (words : List ℕ) (row : Record) → IsRecord row → records_in (suc count) (words ++ words_of row) ≡ records_in count words ++ row ∷ []
records_more count words row is =
    let all = words ++ words_of row in
    ap (λ xs. records_in count xs ++ last_record all ∷ []) (front_is all words row is refl) ∙ ap (λ r. records_in count words ++ r ∷ []) (last_is_row all words row is refl)

-- how many there are
pub length-records_in : (count : ℕ) (words : List ℕ) → length (records_in count words) ≡ count
length-records_in zero words = refl
length-records_in (suc count) words =
    let rest = length-records_in count (words_before words) in
    omega (arith, length-append (records_in count (words_before words)) (last_record words ∷ []), rest)

-- each has at most 36 words
pub few_words : (count : ℕ) (words : List ℕ) → AreWords count words → length words ≤ 36 * count
few_words zero words are = omega (arith, ap length are)
few_words (suc count) words are =
    let own = few (last_record words) are.1.0 in
    let rest = few_words count (words_before words) are.1.1 in
    omega (arith, ap length are.0, length-append (words_before words) (words_of (last_record words)), own, rest)

-- what the last record leaves
pub are_fewer : (count left : ℕ) (words front : List ℕ) (row : Record) → left ≡ count - 1 → IsRecord row → words ≡ front ++ words_of row → AreWords count words
    → (1 ≤ count) × (AreWords left front × (records_in count words ≡ records_in left front ++ row ∷ []))
are_fewer zero left words front row fewer is e are = absurd (omega (arith, ap length are, long_enough words front row e))
are_fewer (suc count) left words front row fewer is e are =
    let same : count ≡ left = omega (arith, fewer) in
    let front_same = front_is words front row is e in (
      omega arith,
      (
        subst (λ n. AreWords n front) same (subst (AreWords count) front_same are.1.1),
        ap (λ xs. records_in count xs ++ last_record words ∷ []) front_same ∙ ap (λ r. records_in count front ++ r ∷ []) (last_is_row words front row is e)
            ∙ ap (λ n. records_in n front ++ row ∷ []) same,
      ),
    )

-- words that end with no record are none
pub none_left : (count : ℕ) (words : List ℕ) → AreWords count words → ((older : List ℕ) (row : Record) → IsRecord row → words ≡ older ++ words_of row → ⊥) → records_in count words ≡ []
none_left zero words are never = refl
none_left (suc count) words are never = absurd (never (words_before words) (last_record words) are.1.0 are.0)

-- the words that are left, where those of the last record are taken off
pub is_fewer : (count many all : ℕ) (words left front : List ℕ) (row : Record) → AreWords count words → IsRecord row → words ≡ front ++ words_of row → many ≡ length (words_of row) → all ≡ length words
    → left ≡ take (all - many) words → (1 ≤ count) × (AreWords (count - 1) left × (records_in count words ≡ records_in (count - 1) left ++ row ∷ []))
is_fewer count many all words left front row are is e own long cut =
    subst (λ xs. (1 ≤ count) × (AreWords (count - 1) xs × (records_in count words ≡ records_in (count - 1) xs ++ row ∷ []))) (sym same)
    (are_fewer count (count - 1) words front row refl is e are)
  where
    fits : length front ≡ all - many
    fits = omega (arith, own, long, ap length e ∙ length-append front (words_of row))

    same : left ≡ front
    same = cut ∙ ap (take (all - many)) e ∙ take_at front (words_of row) (all - many) fits

-- and there are as many
pub within : (many all : ℕ) (words front : List ℕ) (row : Record) → words ≡ front ++ words_of row → many ≡ length (words_of row) → all ≡ length words → many ≤ all
within many all words front row e own long = omega (arith, own, long, ap length e ∙ length-append front (words_of row))

-- records behind others

one_behind : (words others : List ℕ) (own : others ≡ words_before others ++ words_of (last_record others)) → words ++ others ≡ (words ++ words_before others) ++ words_of (last_record others)
one_behind words others own = ap (λ xs. words ++ xs) own ∙ sym (append_assoc words (words_before others) (words_of (last_record others)))

next : (count more : ℕ) → suc (count + more) ≡ count + suc more
next count more = omega arith

pub are_behind : (count more : ℕ) (words others : List ℕ) → AreWords count words → AreWords more others → AreWords (count + more) (words ++ others)
are_behind count zero words others are these =
    subst (AreWords (count + 0)) (sym (ap (λ xs. words ++ xs) these ∙ append-nil words)) (subst (λ n. AreWords n words) (sym (add-zero count)) are)
are_behind count (suc more) words others are these =
    let rest = are_behind count more words (words_before others) are these.1.1 in
    subst (λ n. AreWords n (words ++ others)) (next count more)
    (subst (AreWords (suc (count + more))) (sym (one_behind words others these.0)) (are_more (count + more) (words ++ words_before others) (last_record others) these.1.0 rest))

pub records_behind : (count more : ℕ) (words others : List ℕ) → AreWords more others → records_in (count + more) (words ++ others) ≡ records_in count words ++ records_in more others
records_behind count zero words others these =
    ap (λ n. records_in n (words ++ others)) (add-zero count)
    ∙ ap (records_in count) (ap (λ xs. words ++ xs) these ∙ append-nil words)
    ∙ sym (append-nil (records_in count words))
records_behind count (suc more) words others these =
    ap (λ n. records_in n (words ++ others)) (sym (next count more))
    ∙ ap (records_in (suc (count + more))) (one_behind words others these.0)
    ∙ records_more (count + more) (words ++ words_before others) (last_record others) these.1.0
    ∙ ap (λ rows. rows ++ last_record others ∷ []) (records_behind count more words (words_before others) these.1.1)
    ∙ append_assoc (records_in count words) (records_in more (words_before others)) (last_record others ∷ [])

-- there is room for the words of as many records
pub room_for_all : (count more room end length_of : ℕ) (words others : List ℕ) → AreWords count words → AreWords more others → length words ≡ end → length others ≡ length_of → count + more ≤ room
    → end + length_of ≤ 36 * room
room_for_all count more room end length_of words others are these long own fits =
    omega (arith, few_words count words are, few_words more others these, long, own)

-- where there are records, the words end with those of one
pub end_with : (count : ℕ) (words : List ℕ) → 0 < count → AreWords count words → EndWithRecord words
end_with zero words some are = absurd (omega (arith, some))
end_with (suc count) words some are = (are.0, are.1.0)
