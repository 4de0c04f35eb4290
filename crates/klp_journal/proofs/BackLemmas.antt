-- Reading a list of words from its end.
use Rattle.std.proofs.Common.{◌≡◌, ℕ, ◌+◌, ◌-◌, ◌*◌, ◌/◌, ◌%◌, ◌≤◌, List, [], ◌∷◌, ◌++◌, length, get_or, take, drop, refl, sym, ap, ◌∙◌, arith, length-append, append_assoc, take-append-drop, drop-drop, drop_at}
use Rattle.std.proofs.lemmas.List.{same_from_push, nil_from_length, get_or_at, drop_more, drop_all, length-take-le}
use Rattle.klp_types.specs.declared.record.Record.{Record}
use Rattle.klp_journal.specs.Words.{words_before_tag, kind_of, words_of, IsRecord, IsBody}
use Rattle.klp_journal.proofs.WordLemmas.{record_back}
use Rattle.klp_journal.proofs.ReadLemmas.{known, kinds}

-- the tag of a record
abbrev pub tag_of : Record → ℕ
tag_of row = kind_of row + 256 * length (words_before_tag row)

pub tag_kind : (row : Record) → tag_of row % 256 ≡ kind_of row
tag_kind row = omega (arith, (kinds row).1)

pub tag_count : (row : Record) → tag_of row / 256 ≡ length (words_before_tag row)
tag_count row = omega (arith, (kinds row).1)

same_kinds : (k l m n : ℕ) → k ≤ 10 → m ≤ 10 → k + 256 * l ≡ m + 256 * n → k ≡ m
same_kinds k l m n a b e = omega arith

same_counts : (k l m n : ℕ) → k ≤ 10 → m ≤ 10 → k + 256 * l ≡ m + 256 * n → l ≡ n
same_counts k l m n a b e = omega arith

-- no record's words are the last of another's
pub apart : (a b : Record) (front : List ℕ) → IsRecord a → IsRecord b → words_of a ≡ front ++ words_of b → (front ≡ []) × (a ≡ b)
apart a b front ha hb h =
    let both = same_from_push (words_before_tag a) (front ++ words_before_tag b) (tag_of a) (tag_of b) (h ∙ sym (append_assoc front (words_before_tag b) (tag_of b ∷ []))) in
    let counts : length (words_before_tag a) ≡ length (words_before_tag b) = same_counts (kind_of a) _ (kind_of b) _ (kinds a).1 (kinds b).1 both.1 in
    let same : kind_of a ≡ kind_of b = same_kinds (kind_of a) (length (words_before_tag a)) (kind_of b) (length (words_before_tag b)) (kinds a).1 (kinds b).1 both.1 in
    let none : front ≡ [] = nil_from_length front (omega (arith, counts, ap length both.0 ∙ length-append front (words_before_tag b))) in
    let words : words_before_tag a ≡ words_before_tag b = both.0 ∙ ap (λ f. f ++ words_before_tag b) none in
    (none, sym (known (kind_of b) (words_before_tag b) a (same, words, ha)) ∙ record_back b hb)

-- a list of words that is read from its end
module _ (words body : List ℕ) (last count tag : ℕ) (long : length words ≡ last + 1) (is_tag : tag ≡ get_or words last 0) (is_count : count ≡ tag / 256) (fits : count ≤ last) (is_body : body ≡ take count (drop (last - count) words)) where
  abbrev older : List ℕ
  older = take (last - count) words

  the_end : drop count (drop (last - count) words) ≡ tag ∷ []
  the_end =
      drop-drop count (last - count) words
      ∙ ap (λ n. drop n words) all
      ∙ drop_more words last 0 (omega (arith, long))
      ∙ ap (λ t. t ∷ drop (last + 1) words) (sym is_tag)
      ∙ ap (λ xs. tag ∷ xs) (drop_all (last + 1) words (omega (arith, long)))
    where
      all : last - count + count ≡ last
      all = omega (arith, fits)

  split : words ≡ older ++ (body ++ tag ∷ [])
  split =
      sym (take-append-drop (last - count) words)
      ∙ ap (λ xs. older ++ xs) (sym (take-append-drop count (drop (last - count) words)) ∙ ap (λ xs. xs ++ drop count (drop (last - count) words)) (sym is_body) ∙ ap (λ xs. body ++ xs) the_end)

  length_body : length body ≡ count
  length_body = omega (arith, fits, long, length-append older (body ++ tag ∷ []), length-append body (tag ∷ []), length-take-le (last - count) words (omega (arith, long)), ap length split)

  pub read : (row : Record) → IsBody (tag % 256) body row → (front : List ℕ) × ((words ≡ front ++ words_of row) × (count + 1 ≡ length (words_of row)) × IsRecord row)
  read row h =
      let is : tag ≡ tag_of row = omega (arith, h.0, ap length h.1, length_body, is_count) in
      let same : body ++ tag ∷ [] ≡ words_of row = ap (λ xs. xs ++ tag ∷ []) (sym h.1) ∙ ap (λ t. words_before_tag row ++ t ∷ []) is in
      (older, (split ∙ ap (λ xs. older ++ xs) same, ap (λ n. n + 1) (sym length_body) ∙ sym (length-append body (tag ∷ [])) ∙ ap length same, h.2))

  pub every : (front : List ℕ) (row : Record) → IsRecord row → words ≡ front ++ words_of row → IsBody (tag % 256) body row
  every front row h e =
      let both = same_from_push (older ++ body) (front ++ words_before_tag row) tag (tag_of row) (append_assoc older body (tag ∷ []) ∙ sym split ∙ e ∙ sym (append_assoc front (words_before_tag row) (tag_of row ∷ []))) in
      let kind : kind_of row ≡ tag % 256 = sym (tag_kind row) ∙ ap (λ t. t % 256) (sym both.1) in
      let counts : length body ≡ length (words_before_tag row) = length_body ∙ is_count ∙ ap (λ t. t / 256) both.1 ∙ tag_count row in
      let fronts : length older ≡ length front = omega (arith, counts, sym (length-append older body) ∙ ap length both.0 ∙ length-append front (words_before_tag row)) in
      (kind, sym (same_end older front body (words_before_tag row) fronts both.0), h)
    where
      same_end : (a b c d : List ℕ) → length a ≡ length b → a ++ c ≡ b ++ d → c ≡ d
      same_end a b c d l e = sym (drop_at a c (length a) refl) ∙ ap (drop (length a)) e ∙ drop_at b d (length a) (sym l)

-- a list that ends with a record is as long as its words, and says so
pub long_enough : (words front : List ℕ) (row : Record) → words ≡ front ++ words_of row → length words ≡ length front + length (words_before_tag row) + 1
long_enough words front row e =
    omega (arith, ap length e ∙ length-append front (words_of row), length-append (words_before_tag row) (tag_of row ∷ []))

pub last_is : (words front : List ℕ) (row : Record) (last : ℕ) → length words ≡ last + 1 → words ≡ front ++ words_of row → get_or words last 0 ≡ tag_of row
last_is words front row last l e =
    ap (λ xs. get_or xs last 0) (e ∙ sym (append_assoc front (words_before_tag row) (tag_of row ∷ [])))
    ∙ get_or_at (front ++ words_before_tag row) (tag_of row) [] 0 last (omega (arith, l, long_enough words front row e, length-append front (words_before_tag row)))

pub too_long : (words front : List ℕ) (row : Record) (last : ℕ) → length words ≡ last + 1 → words ≡ front ++ words_of row → get_or words last 0 / 256 ≤ last
too_long words front row last l e =
    let tag = last_is words front row last l e in
    let count : get_or words last 0 / 256 ≡ length (words_before_tag row) = ap (λ t. t / 256) tag ∙ tag_count row in
    omega (arith, count, l, long_enough words front row e)
