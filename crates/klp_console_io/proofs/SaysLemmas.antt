-- Saying one text after another.
use Rattle.std.proofs.Common.{◌≡◌, ℕ, ◌+◌, ◌-◌, ◌<◌, ◌≤◌, ◌⊎◌, Bool, true, false, true≢false, List, [], ◌++◌, length, inl, inr, refl, sym, ap, ◌∙◌, subst, append_assoc, append-nil, arith, length-append}
use Rattle.std.proofs.KnownBytes.{Appends-nil, Appends-trans}
use Rattle.klp_console_io.specs.Gathered.{Gathered}
use Rattle.klp_console_io.specs.Written.{Written}
use Rattle.klp_types.specs.declared.limits.TheConstants.{ANSWER_ROOM}
use Rattle.klp_console_io.specs.Says.{IsWell, Moves, Leaves, Spoken, Speaks, Says}

not_both : (b : Bool) → b ≡ true → b ≡ false → ⊥
not_both b is isnt = true≢false (sym is ∙ isnt)

-- what is moved next is moved behind what was moved first
moves_on : (a b c : Written) (old next more gone more_gone rest : List ℕ) → Moves a b old gone next → Moves b c (next ++ more) more_gone rest → Moves a c (old ++ more) (gone ++ more_gone) rest
moves_on a b c old next more gone more_gone rest first second = record {
  cut = ap (λ bytes. bytes ++ more) first.cut ∙ append_assoc gone next more ∙ ap (λ bytes. gone ++ bytes) second.cut ∙ sym (append_assoc gone more_gone rest);
  taken = Appends-trans a.taken b.taken c.taken gone more_gone first.taken second.taken;
}

-- nobody was to blame before, and what was gathered before fits
leaves_on : (a b c : Gathered × Written) (rest : List ℕ) → IsWell a.1 b.1 → (length a.0.bytes ≤ ANSWER_ROOM → length b.0.bytes ≤ ANSWER_ROOM) → Leaves b c rest → Leaves a c rest
leaves_on a b c rest well fits left = elim left [
  | inl calm ↦ inl (calm.0, calm.1, (calm.2.0 ∙ well.0, calm.2.1 ∙ well.1), λ fit. calm.3 (fits fit))
  | inr blamed ↦ inr (
    blamed.0,
    elim blamed.1 [
      | inl failed ↦ inl (failed.0 ∙ ap (λ n. n + 1) well.0, failed.1 ∙ well.1)
      | inr stalled ↦ inr (stalled.0 ∙ well.0, stalled.1 ∙ ap (λ n. n + 1) well.1)
    ],
    blamed.2,
  )
]

-- what fits is what is gathered
fits_gathered : (gathered rest : List ℕ) → gathered ≡ rest → length rest ≤ ANSWER_ROOM → length gathered ≤ ANSWER_ROOM
fits_gathered gathered rest same fits = subst (λ bytes. length bytes ≤ ANSWER_ROOM) (sym same) fits

-- what is missing stays missing, whatever comes behind it
still_missing : (rest more : List ℕ) → 0 < length rest → 0 < length (rest ++ more)
still_missing rest more missing = omega (arith, length-append rest more)

-- what isn't held any more after both
held_on : (a b c : ℕ) (gone more : List ℕ) → b ≡ a - length gone → c ≡ b - length more → c ≡ a - length (gone ++ more)
held_on a b c gone more first second = omega (arith, first, second, length-append gone more)

-- nothing was written twice, or all that was held was written once
whole_on : (b c : ℕ) (gone more : List ℕ) → c ≡ b - length more → (gone ≡ []) ⊎ (b ≡ 0) → (more ≡ []) ⊎ (c ≡ 0) → (gone ++ more ≡ []) ⊎ (c ≡ 0)
whole_on b c gone more left (inl none) (inl nothing) = inl (ap (λ (l : List ℕ). l ++ more) none ∙ nothing)
whole_on b c gone more left first (inr all) = inr all
whole_on b c gone more left (inr all) (inl nothing) = inr (omega (arith, left, all))

-- the second text is said
spoken_on : (a b c : Gathered × Written) (t u : List ℕ) → Spoken a b t → b.0.has_failed ≡ false → Spoken b c u → Spoken a c (t ++ u)
spoken_on a b c t u first still second = elim first.leaves [
  | inl calm ↦
      let moves = moves_on a.1 b.1 c.1 (a.0.bytes ++ t) b.0.bytes u first.gone second.gone second.rest (subst (Moves a.1 b.1 (a.0.bytes ++ t) first.gone) (sym calm.1) first.moves) second.moves in
      record {
        gone = first.gone ++ second.gone;
        rest = second.rest;
        moves = subst (λ bytes. Moves a.1 c.1 bytes (first.gone ++ second.gone) second.rest) (append_assoc a.0.bytes t u) moves;
        leaves = leaves_on a b c second.rest calm.2 (λ fit. fits_gathered b.0.bytes first.rest calm.1 (calm.3 fit)) second.leaves;
        held = held_on a.0.held b.0.held c.0.held first.gone second.gone first.held second.held;
        whole = λ end. whole_on b.0.held c.0.held first.gone second.gone second.held (first.whole still) (second.whole end);
      }
  | inr blamed ↦ absurd (not_both _ blamed.0 still)
]

-- the second text isn't said, since the first failed
failed_on : (a b : Gathered × Written) (t u : List ℕ) → Spoken a b t → b.0.has_failed ≡ true → Spoken a b (t ++ u)
failed_on a b t u first failed = elim first.leaves [
  | inl calm ↦ absurd (not_both _ failed calm.0)
  | inr blamed ↦ record {
    gone = first.gone;
    rest = first.rest ++ u;
    moves = record {
      cut = sym (append_assoc a.0.bytes t u) ∙ ap (λ bytes. bytes ++ u) first.moves.cut ∙ append_assoc first.gone first.rest u;
      taken = first.moves.taken;
    };
    leaves = inr (blamed.0, blamed.1, still_missing first.rest u blamed.2);
    held = first.held;
    whole = λ calm. absurd (not_both _ failed calm);
  }
]

-- a failure, or none
bool_cases : {P : Type 0} (b : Bool) → (b ≡ true → P) → (b ≡ false → P) → P
bool_cases true then other = then refl
bool_cases false then other = other refl

-- two texts, one after the other
speaks_on : (a b c : Gathered × Written) (t u : List ℕ) → Speaks a b t → Speaks b c u → Speaks a c (t ++ u)
unfolding Speaks
speaks_on a b c t u first second = (
  λ failed. let same = first.0 failed in second.0 (ap (λ (s : Gathered × Written). s.0.has_failed) same ∙ failed) ∙ same,
  λ yet. bool_cases b.0.has_failed
      (λ failed. subst (λ s. Spoken a s (t ++ u)) (sym (second.0 failed)) (failed_on a b t u (first.1 yet) failed))
      (λ still. spoken_on a b c t u (first.1 yet) still (second.1 still)),
)

pub says-append : (a b c : Gathered × Written) (t u : List ℕ) → Says a b t → Says b c u → Says a c (t ++ u)
says-append a b c t u first second = record { speaks = speaks_on a b c t u first.speaks second.speaks }

-- where nothing happens the empty text is said
pub says_nothing : (a : Gathered × Written) → Says a a []
unfolding Speaks
says_nothing a = record {
  speaks = (
    λ failed. refl,
    λ still. record {
      gone = [];
      rest = a.0.bytes;
      moves = record { cut = append-nil a.0.bytes; taken = Appends-nil a.1.taken };
      leaves = inl (still, refl, (refl, refl), λ fit. fit);
      held = omega arith;
      whole = λ calm. inl refl;
    },
  );
}

-- the same text
pub says_same : (a b : Gathered × Written) (t u : List ℕ) → t ≡ u → Says a b t → Says a b u
says_same a b t u same said = subst (Says a b) same said
