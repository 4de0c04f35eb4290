-- Slots in lists by bucket: what a walk finds, and what becomes of the links when a slot comes, goes or changes its bucket.
use Rattle.std.proofs.Common.{◌≡◌, ◌≢◌, ℕ, zero, suc, ◌<◌, ◌≤◌, Bool, true, false, cond, ltb, List, [], ◌∷◌, ◌++◌, length, get_or, set, refl, sym, ap, subst, ◌∙◌, arith, Option, Some, None, inl, inr}
use Rattle.std.specs.Bool.{◌==◌}
use Rattle.std.proofs.lemmas.List.{get_or-set_same, get_or-set_other, get_or_push, get_or_read, get_or_append_left, length-set, length_push}
use Rattle.std.proofs.lemmas.Bool.{cases_eq, eq-eqb, eqb-true, ltb-true, ltb-false}
use Rattle.klp_world.specs.declared.chains.TheConstants.{BUCKETS}
use Rattle.klp_world.specs.declared.chains.Link.{Link}
use Rattle.klp_world.specs.declared.chains.Chains.{Chains}
use Rattle.klp_world.specs.Chained.{no_link, link_at, is_in, last_below, IsLinked, IsAbove, pointed, with_newest, with_links}

not_both : (b : Bool) → b ≡ true → b ≡ false → ⊥
not_both b holds fails = cc

-- tests that agree below a number have the same last one
pub same_below : (t u : ℕ → Bool) (m : ℕ) → ((i : ℕ) → i < m → u i ≡ t i) → last_below u m ≡ last_below t m
same_below t u zero same = refl
same_below t u (suc m) same =
    ap (λ b. cond b (Some m) (last_below u m)) (same m (omega arith)) ∙ ap (cond (t m) (Some m)) (same_below t u m (λ i lt. same i (omega arith)))

-- numbers that don't pass are passed over
pub gap : (t : ℕ → Bool) (k n : ℕ) → k ≤ n → ((i : ℕ) → k ≤ i → i < n → t i ≡ false) → last_below t n ≡ last_below t k
gap t k zero le fails = let none : 0 ≡ k = omega arith in ap (last_below t) none
gap t k (suc n) le fails =
    elim (cases_eq (suc n) k) as (λ _. last_below t (suc n) ≡ last_below t k) [
      | inl same ↦ ap (last_below t) same
      | inr apart ↦ ap (λ b. cond b (Some n) (last_below t n)) (fails n (omega arith) (omega arith)) ∙ gap t k n (omega arith) (λ i le lt. fails i le (omega arith))
    ]

-- what is below a number that passes is not seen
agreeing : (t u : ℕ → Bool) (j m : ℕ) → j < m → t j ≡ true → ((i : ℕ) → j ≤ i → i < m → u i ≡ t i) → last_below u m ≡ last_below t m
agreeing t u j zero lt passes same = absurd (omega arith)
agreeing t u j (suc m) lt passes same =
    elim (cases_eq m j) as (λ _. last_below u (suc m) ≡ last_below t (suc m)) [
      | inl here ↦
          let is : t m ≡ true = ap t here ∙ passes in
          ap (λ b. cond b (Some m) (last_below u m)) (same m (omega arith) (omega arith) ∙ is) ∙ sym (ap (λ b. cond b (Some m) (last_below t m)) is)
      | inr apart ↦
          ap (λ b. cond b (Some m) (last_below u m)) (same m (omega arith) (omega arith))
          ∙ ap (cond (t m) (Some m)) (agreeing t u j m (omega arith) passes (λ i le lt. same i le (omega arith)))
    ]

-- the last one below a number passes, and none from there on
abbrev pub IsLast : (ℕ → Bool) → ℕ → Option ℕ → Type 0
IsLast t m None = (i : ℕ) → i < m → t i ≡ false
IsLast t m (Some k) = (k < m) × (t k ≡ true) × ((i : ℕ) → k < i → i < m → t i ≡ false)

later : (t : ℕ → Bool) (m : ℕ) (o : Option ℕ) → t m ≡ false → IsLast t m o → IsLast t (suc m) o
later t m None fails last = λ i lt. elim (cases_eq i m) as (λ _. t i ≡ false) [
  | inl same ↦ ap t same ∙ fails
  | inr apart ↦ last i (omega arith)
]
later t m (Some k) fails last = (
  omega (arith, last.0),
  last.1,
  λ i above lt. elim (cases_eq i m) as (λ _. t i ≡ false) [
    | inl same ↦ ap t same ∙ fails
    | inr apart ↦ last.2 i above (omega arith)
  ],
)

pub last_is : (t : ℕ → Bool) (m : ℕ) → IsLast t m (last_below t m)
last_is t zero = λ i lt. absurd (omega arith)
last_is t (suc m) =
    elim (t m) as (λ b. t m ≡ b → IsLast t (suc m) (cond b (Some m) (last_below t m))) [
      | true ↦ λ e. (omega arith, e, λ i above lt. absurd (omega arith))
      | false ↦ λ e. later t m (last_below t m) e (last_is t m)
    ] refl

-- the slot above, or else the end
abbrev pub reach : ℕ → Option ℕ → ℕ
reach end None = end
reach end (Some above) = above

beyond : (t : ℕ → Bool) (slot end : ℕ) (above : Option ℕ) → slot < end → IsAbove t slot end above → slot < reach end above
beyond t slot end None lt is = lt
beyond t slot end (Some above) lt is = is.0

between : (t : ℕ → Bool) (slot end : ℕ) (above : Option ℕ) → IsAbove t slot end above → (i : ℕ) → slot < i → i < reach end above → t i ≡ false
between t slot end None is i gt lt = is i gt lt
between t slot end (Some above) is i gt lt = is.3 i gt lt

-- A test changes at one slot.
module _ (t u : ℕ → Bool) (slot end : ℕ) (same : (i : ℕ) → i ≢ slot → u i ≡ t i) (there : slot < end) where
  under : (m : ℕ) → m ≤ slot → last_below u m ≡ last_below t m
  under m le = same_below t u m (λ i lt. same i (λ e. let no : ⊥ = omega arith in no))

  over : (above : Option ℕ) → IsAbove t slot end above → (m : ℕ) → slot < m → m ≤ end → m ≢ reach end above → (m < end → t m ≡ true) → last_below u m ≡ last_below t m
  over None is m gt le apart passes =
      let lt : m < end = elim (cases_eq m end) as (λ _. m < end) [
        | inl here ↦ absurd (apart here)
        | inr away ↦ omega arith
      ] in
      absurd (not_both (t m) (passes lt) (is m gt lt))
  over (Some above) is m gt le apart passes =
      elim (ltb above m) as (λ b. ltb above m ≡ b → last_below u m ≡ last_below t m) [
        | true ↦ λ e. agreeing t u above m (ltb-true above m e) is.2 (λ i low lt. same i (λ e. let no : ⊥ = omega (arith, is.0) in no))
        | false ↦ λ e. let le = ltb-false above m e in
            let lt : m < above = elim (cases_eq m above) as (λ _. m < above) [
              | inl here ↦ absurd (apart here)
              | inr elsewhere ↦ omega arith
            ] in
            absurd (not_both (t m) (passes (omega (arith, is.1))) (is.3 m gt lt))
      ] refl

  module _ (above : Option ℕ) (is : IsAbove t slot end above) where
    free : (i : ℕ) → slot < i → i < reach end above → u i ≡ false
    free i gt lt = same i (λ e. let no : ⊥ = omega arith in no) ∙ between t slot end above is i gt lt

    pub elsewhere : (m : ℕ) → m ≤ end → m ≢ reach end above → (m < end → t m ≡ true) → last_below u m ≡ last_below t m
    elsewhere m le apart passes =
        elim (ltb slot m) as (λ b. ltb slot m ≡ b → last_below u m ≡ last_below t m) [
          | true ↦ λ e. over above is m (ltb-true slot m e) le apart passes
          | false ↦ λ e. under m (ltb-false slot m e)
        ] refl

    -- the slot leaves
    pub gone : u slot ≡ false → last_below u (reach end above) ≡ last_below t slot
    gone fails =
        let gt = beyond t slot end above there is in
        gap u slot (reach end above) (omega arith) (λ i le lt. elim (cases_eq i slot) as (λ _. u i ≡ false) [
          | inl here ↦ ap u here ∙ fails
          | inr apart ↦ free i (omega arith) lt
        ]) ∙ under slot (omega arith)

    -- the slot comes
    pub come : u slot ≡ true → last_below u (reach end above) ≡ Some slot
    come passes =
        let gt = beyond t slot end above there is in
        gap u (suc slot) (reach end above) (omega arith) (λ i le lt. free i (omega arith) lt) ∙ ap (λ b. cond b (Some slot) (last_below u slot)) passes

    pub before : t slot ≡ false → last_below t (reach end above) ≡ last_below t slot
    before fails =
        let gt = beyond t slot end above there is in
        gap t slot (reach end above) (omega arith) (λ i le lt. elim (cases_eq i slot) as (λ _. t i ≡ false) [
          | inl here ↦ ap t here ∙ fails
          | inr apart ↦ between t slot end above is i (omega arith) lt
        ])

    pub stays : last_below u slot ≡ last_below t slot
    stays = under slot (omega arith)

-- A link is changed.
length_with : (links : List Link) (above to : Option ℕ) → length (with_links links above to) ≡ length links
length_with links None to = refl
length_with links (Some above) to = length-set links above (record { older = to; bucket = (link_at links above).bucket })

pub bucket_with : (links : List Link) (above to : Option ℕ) (i : ℕ) → ((j : ℕ) → above ≡ Some j → j < length links) → (link_at (with_links links above to) i).bucket ≡ (link_at links i).bucket
bucket_with links None to i inside = refl
bucket_with links (Some above) to i inside =
    let new : Link = record { older = to; bucket = (link_at links above).bucket } in
    elim (cases_eq i above) as (λ _. (link_at (set links above new) i).bucket ≡ (link_at links i).bucket) [
      | inl same ↦ ap (λ j. (link_at (set links above new) j).bucket) same ∙ ap (λ (l : Link). l.bucket) (get_or-set_same links above new no_link (inside above refl)) ∙ sym (ap (λ j. (link_at links j).bucket) same)
      | inr apart ↦ ap (λ (l : Link). l.bucket) (get_or-set_other links above i new no_link apart)
    ]

older_beside : (links : List Link) (above to : Option ℕ) (i : ℕ) → i < length links → i ≢ reach (length links) above → (link_at (with_links links above to) i).older ≡ (link_at links i).older
older_beside links None to i lt apart = refl
older_beside links (Some above) to i lt apart = ap (λ (l : Link). l.older) (let new : Link = record { older = to; bucket = (link_at links above).bucket } in get_or-set_other links above i new no_link apart)

older_there : (links : List Link) (above to : Option ℕ) (i : ℕ) → i < length links → i ≡ reach (length links) above → (link_at (with_links links above to) i).older ≡ to
older_there links None to i lt e = absurd (omega arith)
older_there links (Some above) to i lt e =
    let new : Link = record { older = to; bucket = (link_at links above).bucket } in
    ap (λ j. (link_at (set links above new) j).older) e ∙ ap (λ (l : Link). l.older) (get_or-set_same links above new no_link (omega arith))

length_newest : (heads : List (Option ℕ)) (bucket : ℕ) (above to : Option ℕ) → length (with_newest heads bucket above to) ≡ length heads
length_newest heads bucket None to = length-set heads bucket to
length_newest heads bucket (Some above) to = refl

newest_beside : (heads : List (Option ℕ)) (bucket : ℕ) (above to : Option ℕ) (b : ℕ) → b ≢ bucket → get_or (with_newest heads bucket above to) b None ≡ get_or heads b None
newest_beside heads bucket None to b apart = get_or-set_other heads bucket b to None apart
newest_beside heads bucket (Some above) to b apart = refl

-- the links of a bucket are those of a test, but for one slot's
pub record IsListed (heads : List (Option ℕ)) (links : List Link) (bucket : ℕ) (t : ℕ → Bool) (slot : ℕ) : Type 0 where
  pub newest : get_or heads bucket None ≡ last_below t (length links)
  pub older : (i : ℕ) → i < length links → i ≢ slot → t i ≡ true → (link_at links i).older ≡ last_below t i

-- A slot comes to the bucket or leaves it: the link above is changed.
module _ (heads : List (Option ℕ)) (links : List Link) (bucket : ℕ) (inside : bucket < length heads) (t u : ℕ → Bool) (slot : ℕ) (same : (i : ℕ) → i ≢ slot → u i ≡ t i) (there : slot < length links) where
  newest_effective : (above to : Option ℕ) → IsAbove t slot (length links) above → to ≡ last_below u (reach (length links) above) → IsListed heads links bucket t slot
      → get_or (with_newest heads bucket above to) bucket None ≡ last_below u (length links)
  newest_effective None to is next effective = get_or-set_same heads bucket to None inside ∙ next
  newest_effective (Some above) to is next effective =
      effective.newest ∙ sym (elsewhere t u slot (length links) same there (Some above) is (length links) (omega arith) (λ e. let no : ⊥ = omega (arith, is.1) in no) (λ lt. absurd (omega arith)))

  pub pointed_effective : (above to : Option ℕ) → IsAbove t slot (length links) above → to ≡ last_below u (reach (length links) above) → IsListed heads links bucket t slot
      → IsListed (with_newest heads bucket above to) (with_links links above to) bucket u slot
  pointed_effective above to is next effective =
      let long = length_with links above to in
      record {
        newest = newest_effective above to is next effective ∙ ap (last_below u) (sym long);
        older = λ i lt apart passes.
            let within : i < length links = omega arith in
            let passed : t i ≡ true = sym (same i apart) ∙ passes in
            elim (cases_eq i (reach (length links) above)) as (λ _. (link_at (with_links links above to) i).older ≡ last_below u i) [
              | inl here ↦ older_there links above to i within here ∙ next ∙ ap (last_below u) (sym here)
              | inr away ↦ older_beside links above to i within away ∙ effective.older i within apart passed
                  ∙ sym (elsewhere t u slot (length links) same there above is i (omega arith) away (λ _. passed))
            ];
      }

-- another bucket's link is changed
pub other_effective : (heads : List (Option ℕ)) (links : List Link) (bucket : ℕ) (above to : Option ℕ) (b : ℕ) (t : ℕ → Bool) (slot : ℕ) → b ≢ bucket
    → ((i : ℕ) → i < length links → t i ≡ true → i ≢ reach (length links) above) → IsListed heads links b t slot → IsListed (with_newest heads bucket above to) (with_links links above to) b t slot
other_effective heads links bucket above to b t slot apart away effective =
    let long = length_with links above to in
    record {
      newest = newest_beside heads bucket above to b apart ∙ effective.newest ∙ ap (last_below t) (sym long);
      older = λ i lt other passes. let within : i < length links = omega arith in older_beside links above to i within (away i within passes) ∙ effective.older i within other passes;
    }

-- tests that agree tell the same links
pub agreed_effective : (heads : List (Option ℕ)) (links : List Link) (b : ℕ) (t u : ℕ → Bool) (slot : ℕ) → ((i : ℕ) → u i ≡ t i) → IsListed heads links b t slot → IsListed heads links b u slot
agreed_effective heads links b t u slot same effective = record {
  newest = effective.newest ∙ sym (same_below t u (length links) (λ i lt. same i));
  older = λ i lt apart passes. effective.older i lt apart (sym (same i) ∙ passes) ∙ sym (same_below t u i (λ j lt. same j));
}

pub linked_effective : (heads : List (Option ℕ)) (links : List Link) → IsLinked heads links → (b slot : ℕ) → b < BUCKETS → IsListed heads links b (is_in links b) slot
linked_effective heads links linked b slot lt = record {
  newest = linked.newest b lt;
  older = λ i within apart passes. linked.older i within ∙ ap (λ c. last_below (is_in links c) i) (eqb-true (link_at links i).bucket b passes);
}

pub not_equal : (a b : ℕ) → a ≢ b → (a == b) ≡ false
not_equal a b apart =
    elim (a == b) as (λ e. (a == b) ≡ e → e ≡ false) [
      | true ↦ λ e. absurd (apart (eqb-true a b e))
      | false ↦ λ e. refl
    ] refl

above_passes : (t : ℕ → Bool) (slot end : ℕ) (above : Option ℕ) → IsAbove t slot end above → (i : ℕ) → i < end → i ≡ reach end above → t i ≡ true
above_passes t slot end None is i lt e = absurd (omega arith)
above_passes t slot end (Some above) is i lt e = ap t e ∙ is.2

pub above_inside : (t : ℕ → Bool) (slot end : ℕ) (above : Option ℕ) → IsAbove t slot end above → (j : ℕ) → above ≡ Some j → j < end
above_inside t slot end None is j e = let no : ⊥ = cc in absurd no
above_inside t slot end (Some above) is j e = let same : above ≡ j = cc in omega (arith, is.1)

-- A slot goes from the list of its bucket to that of another.
module _ (heads : List (Option ℕ)) (links : List Link) (linked : IsLinked heads links) (slot : ℕ) (there : slot < length links) (from to : ℕ) (own : (link_at links slot).bucket ≡ from) (below : to < BUCKETS) (apart : from ≢ to)
    (left entered : Option ℕ) (is_left : IsAbove (is_in links from) slot (length links) left) (is_entered : IsAbove (is_in links to) slot (length links) entered)
    (older next : Option ℕ) (was : older ≡ (link_at links slot).older) (reads : next ≡ last_below (is_in links to) (reach (length links) entered)) where
  from_below : from < BUCKETS
  from_below = let within = linked.within slot there in omega arith

  abbrev heads_left : List (Option ℕ)
  heads_left = with_newest heads from left older

  abbrev links_left : List Link
  links_left = with_links links left older

  abbrev pub heads_after : List (Option ℕ)
  heads_after = with_newest heads_left to entered (Some slot)

  abbrev links_entered : List Link
  links_entered = with_links links_left entered (Some slot)

  abbrev pub links_after : List Link
  links_after = set links_entered slot (record { older = next; bucket = to })

  long_left : length links_left ≡ length links
  long_left = length_with links left older

  long_entered : length links_entered ≡ length links
  long_entered = length_with links_left entered (Some slot) ∙ long_left

  pub long_after : length links_after ≡ length links
  long_after = length-set links_entered slot (record { older = next; bucket = to }) ∙ long_entered

  pub moved_after : (link_at links_after slot).bucket ≡ to
  moved_after = ap (λ (l : Link). l.bucket) (get_or-set_same links_entered slot (record { older = next; bucket = to }) no_link (omega (arith, long_entered, there)))

  pub others_after : (i : ℕ) → i ≢ slot → (link_at links_after i).bucket ≡ (link_at links i).bucket
  others_after i away =
      ap (λ (l : Link). l.bucket) (get_or-set_other links_entered slot i (record { older = next; bucket = to }) no_link away)
      ∙ bucket_with links_left entered (Some slot) i (λ j e. let lt = above_inside (is_in links to) slot (length links) entered is_entered j e in omega (arith, long_left))
      ∙ bucket_with links left older i (above_inside (is_in links from) slot (length links) left is_left)

  same_is : (b i : ℕ) → i ≢ slot → is_in links_after b i ≡ is_in links b i
  same_is b i away = ap (λ c. c == b) (others_after i away)

  moved_is : (b : ℕ) → is_in links_after b slot ≡ (to == b)
  moved_is b = ap (λ c. c == b) moved_after

  own_is : (b : ℕ) → is_in links b slot ≡ (from == b)
  own_is b = ap (λ c. c == b) own

  -- the slot above in one bucket isn't in another
  not_above : (b c : ℕ) (above : Option ℕ) → IsAbove (is_in links c) slot (length links) above → b ≢ c → (i : ℕ) → i < length links → is_in links b i ≡ true → i ≢ reach (length links) above
  not_above b c above is away i lt passes e =
      away (sym (eqb-true (link_at links i).bucket b passes) ∙ eqb-true (link_at links i).bucket c (above_passes (is_in links c) slot (length links) above is i lt e))

  left_effective : IsListed heads_left links_left from (is_in links_after from) slot
  left_effective =
      pointed_effective heads links from (omega (arith, linked.buckets, from_below)) (is_in links from) (is_in links_after from) slot (same_is from) there left older is_left
      (was ∙ linked.older slot there ∙ ap (λ c. last_below (is_in links c) slot) own
      ∙ sym (gone (is_in links from) (is_in links_after from) slot (length links) (same_is from) there left is_left (moved_is from ∙ not_equal to from (λ e. apart (sym e)))))
      (linked_effective heads links linked from slot from_below)

  entered_not_left : (i : ℕ) → i < length links_left → is_in links_after from i ≡ true → i ≢ reach (length links_left) entered
  entered_not_left i lt passes e =
      elim (cases_eq i slot) as (λ _. ⊥) [
        | inl here ↦ not_both (is_in links_after from slot) (ap (is_in links_after from) (sym here) ∙ passes) (moved_is from ∙ not_equal to from (λ e. apart (sym e)))
        | inr away ↦ not_above from to entered is_entered apart i (omega (arith, long_left)) (sym (same_is from i away) ∙ passes) (e ∙ ap (λ n. reach n entered) long_left)
      ]

  from_effective : IsListed heads_after links_entered from (is_in links_after from) slot
  from_effective = other_effective heads_left links_left to entered (Some slot) from (is_in links_after from) slot apart entered_not_left left_effective

  to_before : IsListed heads_left links_left to (is_in links to) slot
  to_before =
      other_effective heads links from left older to (is_in links to) slot (λ e. apart (sym e)) (not_above to from left is_left (λ e. apart (sym e)))
      (linked_effective heads links linked to slot below)

  entered_left : IsAbove (is_in links to) slot (length links_left) entered
  entered_left = subst (λ n. IsAbove (is_in links to) slot n entered) (sym long_left) is_entered

  to_effective : IsListed heads_after links_entered to (is_in links_after to) slot
  to_effective =
      pointed_effective heads_left links_left to (omega (arith, length_newest heads from left older, linked.buckets)) (is_in links to) (is_in links_after to) slot (same_is to) (omega (arith, long_left, there)) entered (Some slot) entered_left
      (sym (come (is_in links to) (is_in links_after to) slot (length links_left) (same_is to) (omega (arith, long_left, there)) entered entered_left (moved_is to ∙ eq-eqb to to refl)))
      to_before

  other_bucket : (b : ℕ) → b < BUCKETS → b ≢ from → b ≢ to → IsListed heads_after links_entered b (is_in links_after b) slot
  other_bucket b lt not_from not_to =
      agreed_effective heads_after links_entered b (is_in links b) (is_in links_after b) slot
      (λ i. elim (cases_eq i slot) as (λ _. is_in links_after b i ≡ is_in links b i) [
        | inl here ↦ ap (is_in links_after b) here ∙ moved_is b ∙ not_equal to b (λ e. not_to (sym e)) ∙ sym (ap (is_in links b) here ∙ own_is b ∙ not_equal from b (λ e. not_from (sym e)))
        | inr away ↦ same_is b i away
      ])
      (other_effective heads_left links_left to entered (Some slot) b (is_in links b) slot not_to
      (λ i lt passes e. not_above b to entered is_entered not_to i (omega (arith, long_left)) passes (e ∙ ap (λ n. reach n entered) long_left))
      (other_effective heads links from left older b (is_in links b) slot not_from (not_above b from left is_left not_from) (linked_effective heads links linked b slot lt)))

  all_effective : (b : ℕ) → b < BUCKETS → IsListed heads_after links_entered b (is_in links_after b) slot
  all_effective b lt =
      elim (cases_eq b from) as (λ _. IsListed heads_after links_entered b (is_in links_after b) slot) [
        | inl here ↦ subst (λ c. IsListed heads_after links_entered c (is_in links_after c) slot) (sym here) from_effective
        | inr not_from ↦ elim (cases_eq b to) as (λ _. IsListed heads_after links_entered b (is_in links_after b) slot) [
          | inl here ↦ subst (λ c. IsListed heads_after links_entered c (is_in links_after c) slot) (sym here) to_effective
          | inr not_to ↦ other_bucket b lt not_from not_to
        ]
      ]

  within_after : (i : ℕ) → i < length links_after → (link_at links_after i).bucket < BUCKETS
  within_after i lt =
      elim (cases_eq i slot) as (λ _. (link_at links_after i).bucket < BUCKETS) [
        | inl here ↦ let at = ap (λ j. (link_at links_after j).bucket) here ∙ moved_after in omega (arith, below)
        | inr away ↦ let at = others_after i away in let old = linked.within i (omega (arith, long_after)) in omega arith
      ]

  older_after : (i : ℕ) → i < length links_after → (link_at links_after i).older ≡ last_below (is_in links_after (link_at links_after i).bucket) i
  older_after i lt =
      elim (cases_eq i slot) as (λ _. (link_at links_after i).older ≡ last_below (is_in links_after (link_at links_after i).bucket) i) [
        | inl here ↦ subst (λ j. (link_at links_after j).older ≡ last_below (is_in links_after (link_at links_after j).bucket) j) (sym here)
            (ap (λ (l : Link). l.older) (get_or-set_same links_entered slot (record { older = next; bucket = to }) no_link (omega (arith, long_entered, there)))
            ∙ reads ∙ before (is_in links to) (is_in links_after to) slot (length links) (same_is to) there entered is_entered (own_is to ∙ not_equal from to apart)
            ∙ sym (stays (is_in links to) (is_in links_after to) slot (length links) (same_is to) there entered is_entered)
            ∙ ap (λ c. last_below (is_in links_after c) slot) (sym moved_after))
        | inr away ↦
            ap (λ (l : Link). l.older) (get_or-set_other links_entered slot i (record { older = next; bucket = to }) no_link away)
            ∙ (all_effective (link_at links_after i).bucket (within_after i lt)).older i (omega (arith, long_entered, long_after)) away (eq-eqb (link_at links_after i).bucket (link_at links_after i).bucket refl)
      ]

  pub linked_after : IsLinked heads_after links_after
  linked_after = record {
    buckets = length_newest heads_left to entered (Some slot) ∙ length_newest heads from left older ∙ linked.buckets;
    newest = λ b lt. (all_effective b lt).newest ∙ ap (last_below (is_in links_after b)) (long_entered ∙ sym long_after);
    older = older_after;
    within = within_after;
  }

-- how many slots there are up to this one
abbrev pub height : Option ℕ → ℕ
height None = 0
height (Some slot) = suc slot

pub height_last : (t : ℕ → Bool) (m : ℕ) → height (last_below t m) ≤ m
height_last t m =
    elim (last_below t m) as (λ o. IsLast t m o → height o ≤ m) [
      | None ↦ λ last. omega arith
      | Some k ↦ λ last. let lt = last.0 in omega arith
    ] (last_is t m)

-- a walk down to a slot has come to this one
abbrev pub IsOver : (ℕ → Bool) → ℕ → ℕ → Option ℕ → Type 0
IsOver t slot end None = Unit {0}
IsOver t slot end (Some above) = (slot < above) × (above < end) × (t above ≡ true)

walked : (t : ℕ → Bool) (slot end : ℕ) (above next : Option ℕ) → IsOver t slot end above → IsLast t (reach end above) next → ((k : ℕ) → next ≡ Some k → k ≤ slot) → IsAbove t slot end above
walked t slot end None None over last low = λ i gt lt. last i lt
walked t slot end None (Some k) over last low = λ i gt lt. last.2 i (let le = low k refl in omega arith) lt
walked t slot end (Some j) None over last low = (over.0, over.1, over.2, λ i gt lt. last i lt)
walked t slot end (Some j) (Some k) over last low = (over.0, over.1, over.2, λ i gt lt. last.2 i (let le = low k refl in omega arith) lt)

pub walked_to : (t : ℕ → Bool) (slot end : ℕ) (above next : Option ℕ) (newer : ℕ) → IsOver t slot end above → next ≡ last_below t (reach end above) → next ≡ Some newer → newer ≤ slot → IsAbove t slot end above
walked_to t slot end above next newer over is here low =
    walked t slot end above (Some newer) over (subst (IsLast t (reach end above)) (sym is ∙ here) (last_is t (reach end above))) (λ k e. let same : newer ≡ k = cc in omega arith)

pub walked_off : (t : ℕ → Bool) (slot end : ℕ) (above next : Option ℕ) → IsOver t slot end above → next ≡ last_below t (reach end above) → next ≡ None → IsAbove t slot end above
walked_off t slot end above next over is here =
    walked t slot end above None over (subst (IsLast t (reach end above)) (sym is ∙ here) (last_is t (reach end above))) (λ k e. let no : ⊥ = cc in absurd no)

-- a slot that was come to is one of the bucket, below the slot above
pub seen_last : (t : ℕ → Bool) (slot end : ℕ) (above : Option ℕ) (k : ℕ) → IsOver t slot end above → Some k ≡ last_below t (reach end above) → (k < end) × (t k ≡ true)
seen_last t slot end None k over e = let last = subst (IsLast t end) (sym e) (last_is t end) in (last.0, last.1)
seen_last t slot end (Some j) k over e = let last = subst (IsLast t j) (sym e) (last_is t j) in (omega (arith, last.0, over.1), last.1)

-- what is read at a slot of the bucket is its link
pub older_read : (heads : List (Option ℕ)) (links : List Link) (linked : IsLinked heads links) (b at k : ℕ) → at ≡ k → k < length links → is_in links b k ≡ true → (link : Link) → link ≡ get_or links at link
    → link.older ≡ last_below (is_in links b) k
older_read heads links linked b at k here lt passes link read =
    ap (λ (l : Link). l.older) (get_or_read links k link lt (read ∙ ap (λ j. get_or links j link) here) no_link)
    ∙ linked.older k lt ∙ ap (λ c. last_below (is_in links c) k) (eqb-true (link_at links k).bucket b passes)

-- A slot comes to a bucket.
module _ (heads : List (Option ℕ)) (links : List Link) (linked : IsLinked heads links) (bucket : ℕ) (below : bucket < BUCKETS) (older : Option ℕ) (reads : older ≡ get_or heads bucket None) where
  abbrev more : List Link
  more = links ++ record { older = older; bucket = bucket } ∷ []

  end_link : link_at more (length links) ≡ record { older = older; bucket = bucket }
  end_link = get_or_push links (record { older = older; bucket = bucket }) no_link (length links) refl

  kept_link : (i : ℕ) → i < length links → link_at more i ≡ link_at links i
  kept_link i lt = get_or_append_left links (record { older = older; bucket = bucket } ∷ []) no_link i lt

  kept_is : (b i : ℕ) → i < length links → is_in more b i ≡ is_in links b i
  kept_is b i lt = ap (λ (l : Link). l.bucket == b) (kept_link i lt)

  end_is : (b : ℕ) → is_in more b (length links) ≡ (bucket == b)
  end_is b = ap (λ (l : Link). l.bucket == b) end_link

  kept_below : (b i : ℕ) → i ≤ length links → last_below (is_in more b) i ≡ last_below (is_in links b) i
  kept_below b i le = same_below (is_in links b) (is_in more b) i (λ j lt. kept_is b j (omega arith))

  long_more : length more ≡ suc (length links)
  long_more = let long = length_push links (record { older = older; bucket = bucket }) in omega arith

  pub pushed_linked : IsLinked (set heads bucket (Some (length links))) more
  pushed_linked =
      let long = long_more in
      record {
        buckets = length-set heads bucket (Some (length links)) ∙ linked.buckets;
        newest = λ b lt. elim (cases_eq b bucket) as (λ _. get_or (set heads bucket (Some (length links))) b None ≡ last_below (is_in more b) (length more)) [
          | inl same ↦
              ap (λ c. get_or (set heads bucket (Some (length links))) c None) same
              ∙ get_or-set_same heads bucket (Some (length links)) None (omega (arith, linked.buckets, below))
              ∙ sym (ap (last_below (is_in more b)) long
              ∙ ap (λ t. cond t (Some (length links)) (last_below (is_in more b) (length links))) (end_is b ∙ eq-eqb bucket b (sym same)))
          | inr apart ↦
              get_or-set_other heads bucket b (Some (length links)) None apart ∙ linked.newest b lt ∙ sym (kept_below b (length links) (omega arith))
              ∙ sym (ap (last_below (is_in more b)) long
              ∙ ap (λ t. cond t (Some (length links)) (last_below (is_in more b) (length links))) (end_is b ∙ not_equal bucket b (λ e. apart (sym e))))
        ];
        older = λ i lt. elim (cases_eq i (length links)) as (λ _. (link_at more i).older ≡ last_below (is_in more (link_at more i).bucket) i) [
          | inl here ↦ subst (λ j. (link_at more j).older ≡ last_below (is_in more (link_at more j).bucket) j) (sym here)
              (ap (λ (l : Link). l.older) end_link ∙ reads ∙ linked.newest bucket below ∙ sym (kept_below bucket (length links) (omega arith))
              ∙ ap (λ (l : Link). last_below (is_in more l.bucket) (length links)) (sym end_link))
          | inr away ↦
              let within : i < length links = omega arith in
              ap (λ (l : Link). l.older) (kept_link i within) ∙ linked.older i within ∙ sym (kept_below (link_at links i).bucket i (omega arith))
              ∙ ap (λ (l : Link). last_below (is_in more l.bucket) i) (sym (kept_link i within))
        ];
        within = λ i lt. elim (cases_eq i (length links)) as (λ _. (link_at more i).bucket < BUCKETS) [
          | inl here ↦ let at = ap (λ j. (link_at more j).bucket) here ∙ ap (λ (l : Link). l.bucket) end_link in omega (arith, below)
          | inr away ↦ let at = ap (λ (l : Link). l.bucket) (kept_link i (omega arith)) in let old = linked.within i (omega arith) in omega arith
        ];
      }

-- The last slot goes.
module _ (heads : List (Option ℕ)) (links left : List Link) (linked : IsLinked heads links) (last : Link) (ends : links ≡ left ++ last ∷ []) where
  long : length links ≡ suc (length left)
  long = let whole = ap length ends ∙ length_push left last in omega arith

  last_link : link_at links (length left) ≡ last
  last_link = ap (λ ls. link_at ls (length left)) ends ∙ get_or_push left last no_link (length left) refl

  left_link : (i : ℕ) → i < length left → link_at links i ≡ link_at left i
  left_link i lt = ap (λ ls. link_at ls i) ends ∙ get_or_append_left left (last ∷ []) no_link i lt

  left_below : (b i : ℕ) → i ≤ length left → last_below (is_in links b) i ≡ last_below (is_in left b) i
  left_below b i le = same_below (is_in left b) (is_in links b) i (λ j lt. ap (λ (l : Link). l.bucket == b) (left_link j (omega arith)))

  was_newest : (b : ℕ) → b < BUCKETS → b ≢ last.bucket → get_or heads b None ≡ last_below (is_in left b) (length left)
  was_newest b lt apart =
      linked.newest b lt ∙ ap (last_below (is_in links b)) long
      ∙ ap (λ t. cond t (Some (length left)) (last_below (is_in links b) (length left))) (ap (λ (l : Link). l.bucket == b) last_link ∙ not_equal last.bucket b (λ e. apart (sym e)))
      ∙ left_below b (length left) (omega arith)

  pub popped_linked : IsLinked (set heads last.bucket last.older) left
  popped_linked = record {
    buckets = length-set heads last.bucket last.older ∙ linked.buckets;
    newest = λ b lt. elim (cases_eq b last.bucket) as (λ _. get_or (set heads last.bucket last.older) b None ≡ last_below (is_in left b) (length left)) [
      | inl same ↦
          ap (λ c. get_or (set heads last.bucket last.older) c None) same
          ∙ get_or-set_same heads last.bucket last.older None (let e = same in omega (arith, linked.buckets, lt))
          ∙ sym (ap (λ (l : Link). l.older) last_link) ∙ linked.older (length left) (omega (arith, long))
          ∙ ap (λ c. last_below (is_in links c) (length left)) (ap (λ (l : Link). l.bucket) last_link ∙ sym same)
          ∙ left_below b (length left) (omega arith)
      | inr apart ↦ get_or-set_other heads last.bucket b last.older None apart ∙ was_newest b lt apart
    ];
    older = λ i lt.
        sym (ap (λ (l : Link). l.older) (left_link i lt)) ∙ linked.older i (omega (arith, long))
        ∙ left_below (link_at links i).bucket i (omega arith) ∙ ap (λ (l : Link). last_below (is_in left l.bucket) i) (left_link i lt);
    within = λ i lt. let at = ap (λ (l : Link). l.bucket) (left_link i lt) in let old = linked.within i (omega (arith, long)) in omega arith;
  }

-- what is linked below the slot above is the last slot there
pub pointed_is : (chains : Chains) (linked : IsLinked chains.newest.items chains.links.items) (b slot : ℕ) (above : Option ℕ) → b < BUCKETS → IsAbove (is_in chains.links.items b) slot (length chains.links.items) above
    → pointed chains b above ≡ last_below (is_in chains.links.items b) (reach (length chains.links.items) above)
pointed_is chains linked b slot None lt is = linked.newest b lt
pointed_is chains linked b slot (Some above) lt is =
    linked.older above is.1 ∙ ap (λ c. last_below (is_in chains.links.items c) above) (eqb-true (link_at chains.links.items above).bucket b is.2)
