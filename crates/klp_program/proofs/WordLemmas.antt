-- One word as the reader of words sees it: a file, the end of the options, or an option, which klpsim has none of.
use Rattle.std.proofs.Common.{◌≡◌, ◌∙◌, ◌⊎◌, inl, inr, ℕ, ◌==◌, ◌&&◌, Bool, true, false, not, if◌then◌else◌, refl, sym, ap, subst, List, [], ◌∷◌, length, drop, Option, Some, None, codes, bytes_eq, encode_utf8, encode_utf8_all, IsUtf8, slice_get}
use Rattle.std.specs.Option.{option_map_or}
use Rattle.std.specs.Str.{chars}
use Rattle.std.proofs.lemmas.Bool.Decides.{Decides-eqb}
use Rattle.std.proofs.lemmas.Str.{encodes-chars}
use Rattle.clap.specs.declared.error.kind.ErrorKind.{ErrorKind}
use Rattle.clap.specs.Kinds.{Kinds, or_else}
use Rattle.clap.specs.Lexer.{long_of, short_of}
use Rattle.clap.specs.Simple.{Shape, filled, help_rule}
use Rattle.clap.specs.Walk.{Held, Names, Row, Rule, Step, Text, Walk, after_step, arg_by_index, arg_by_long, arg_by_short, idle, long_or_other, short_or_plain, subcommand_met, subcommand_or_other, to_positional, trailing, value, walked, word_met}
use Rattle.clap.specs.Faults.{bundle_fault, bundle_step_fault, flag_word_fault, flags_fault, long_fault, other_fault, short_fault, step_fault, turn_fault, word_fault}
use Rattle.clap.proofs.OnLiterals.{clap_on_literals}
use Rattle.klp_program.specs.Asked.{begins_with_dash}

pub nonempty : {k : ErrorKind} {ks : Kinds} → k ∷ ks ≡ [] → ⊥
nonempty e = let no : ⊥ = cc in no

-- a fault of the second is one of both
pub second_fault : (first : Kinds) (k : ErrorKind) (ks : Kinds) → or_else first (k ∷ ks) ≡ [] → ⊥
second_fault [] k ks e = nonempty e
second_fault (first ∷ more) k ks e = nonempty e

pub first_fault : (first second : Kinds) → or_else first second ≡ [] → first ≡ []
first_fault [] second e = refl
first_fault (k ∷ ks) second e = absurd (nonempty e)

-- a word that is a file where options may come
pub record IsFile (word : Text) : Type 0 where
  pub no_end : bytes_eq word (codes "--") ≡ false
  pub no_option : (begins_with_dash word && not (bytes_eq word (codes "-"))) ≡ false
  pub no_long : long_of word ≡ None
  pub no_short : short_of word ≡ None

-- the only option is `--help`, or `-h`
pub record HasHelpAlone (rules : List Rule) : Type 0 where
  pub long : (name : Text) → (arg_by_long rules name ≡ None) ⊎ (arg_by_long rules name ≡ Some (filled help_rule))
  pub short : (letter : ℕ) → (arg_by_short rules letter ≡ None) ⊎ (arg_by_short rules letter ≡ Some (filled help_rule))

-- nothing of a bundle is passed over
abbrev pub held : List Row → Option (Text × List Text) → Held
held rows pending = record { rows = rows; pending = pending; skip = 0 }

-- a word that is an option
pub record IsOption (word : Text) : Type 0 where
  pub no_end : bytes_eq word (codes "--") ≡ false
  pub option : (begins_with_dash word && not (bytes_eq word (codes "-"))) ≡ true
  pub faulty : (rules : List Rule) (again : Bool) (rows : List Row) (pending : Option (Text × List Text)) → HasHelpAlone rules
      → flag_word_fault rules again (long_of word) word (held rows pending) ≡ [] → ⊥

help_faulty : (rules : List Rule) (again : Bool) (v : Option Text) (h : Held) → long_fault rules again (Some (filled help_rule)) v h ≡ [] → ⊥
unfolding clap_on_literals
help_faulty rules again (Some v) h e = nonempty e
help_faulty rules again None h e = second_fault _ _ _ e

long_faulty : (rules : List Rule) (again : Bool) (name : Text) (v : Option Text) (h : Held) → HasHelpAlone rules → long_fault rules again (arg_by_long rules name) v h ≡ [] → ⊥
long_faulty rules again name v h alone e = elim (alone.long name) [
  | inl none ↦ nonempty (sym (ap (λ o. long_fault rules again o v h) none) ∙ e)
  | inr help ↦ help_faulty rules again v h (sym (ap (λ o. long_fault rules again o v h) help) ∙ e)
]

letter_help_faulty : (rules : List Rule) (again : Bool) (rest : Text) (h : Held) (next : Held → Kinds) → short_fault rules again (Some (filled help_rule)) rest h next ≡ [] → ⊥
unfolding clap_on_literals
letter_help_faulty rules again rest h next e = second_fault _ _ _ (first_fault _ _ e)

letter_faulty : (rules : List Rule) (again : Bool) (letter : ℕ) (rest : Text) (h : Held) (next : Held → Kinds) → HasHelpAlone rules
    → short_fault rules again (arg_by_short rules letter) rest h next ≡ [] → ⊥
letter_faulty rules again letter rest h next alone e = elim (alone.short letter) [
  | inl none ↦ nonempty (sym (ap (λ o. short_fault rules again o rest h next) none) ∙ e)
  | inr help ↦ letter_help_faulty rules again rest h next (sym (ap (λ o. short_fault rules again o rest h next) help) ∙ e)
]

-- a text behind a dash has a first character
first_of_text : (b : ℕ) (bytes : Text) → IsUtf8 (45 ∷ b ∷ bytes) → (letter : ℕ) × (rest : List ℕ) × (chars (b ∷ bytes) ≡ letter ∷ rest)
unfolding clap_on_literals
first_of_text b bytes u = go (chars (b ∷ bytes)) refl
  where
    go : (cs : List ℕ) → chars (b ∷ bytes) ≡ cs → (letter : ℕ) × (rest : List ℕ) × (chars (b ∷ bytes) ≡ letter ∷ rest)
    go (c ∷ cs) e = (c, cs, e)
    go [] e = let no : 45 ∷ [] ≡ 45 ∷ b ∷ bytes = sym (ap (λ cs. encode_utf8_all (45 ∷ cs)) e) ∙ encodes-chars (45 ∷ b ∷ bytes) u in absurd (let no2 : ⊥ = cc in no2)

bundle_faulty : (rules : List Rule) (again : Bool) (b : ℕ) (bytes : Text) (rows : List Row) (pending : Option (Text × List Text)) → HasHelpAlone rules
    → IsUtf8 (45 ∷ b ∷ bytes) → bundle_fault rules again (b ∷ bytes) (held rows pending) ≡ [] → ⊥
unfolding flags_fault
bundle_faulty rules again b bytes rows pending alone u e =
    let first = first_of_text b bytes u in
    let h = held rows pending in
    let next : Text → ℕ → Held → Kinds = flags_fault rules again (length bytes) in
    let at : slice_get (chars (b ∷ bytes)) 0 ≡ Some first.0 = ap (λ cs. slice_get cs 0) first.2 in
    letter_faulty rules again first.0 (drop (length (encode_utf8 first.0)) (b ∷ bytes)) h (next (drop (length (encode_utf8 first.0)) (b ∷ bytes)) 0) alone
    (sym (ap (λ o. bundle_step_fault rules again o (b ∷ bytes) 0 h next) at) ∙ e)

-- what a word is
abbrev pub IsWord : Text → Type 0
IsWord word = IsFile word ⊎ ((word ≡ codes "--") ⊎ IsOption word)

long_word : (b : ℕ) (bytes : Text) → IsWord (45 ∷ 45 ∷ b ∷ bytes)
long_word b bytes = inr (inr (record {
  no_end = refl;
  option = refl;
  faulty = λ rules again rows pending alone e. long_faulty rules again _ _ (held rows pending) alone e;
}))

short_word : (b : ℕ) (bytes : Text) → (b == 45) ≡ false → IsUtf8 (45 ∷ b ∷ bytes) → IsWord (45 ∷ b ∷ bytes)
short_word b bytes other u =
    let no_long : long_of (45 ∷ b ∷ bytes) ≡ None = rw other refl in
    let letters : short_of (45 ∷ b ∷ bytes) ≡ Some (b ∷ bytes) = rw other refl in
    inr (inr (record {
      no_end = rw other refl;
      option = refl;
      faulty = λ rules again rows pending alone e.
          bundle_faulty rules again b bytes rows pending alone u
          (sym (ap (λ o. flag_word_fault rules again o (45 ∷ b ∷ bytes) (held rows pending)) no_long
          ∙ ap (λ o. option_map_or (λ flags. bundle_fault rules again flags (held rows pending)) o []) letters) ∙ e);
    }))

behind_dashes : (bytes : Text) → IsWord (45 ∷ 45 ∷ bytes)
behind_dashes [] = inr (inl refl)
behind_dashes (b ∷ bytes) = long_word b bytes

behind_dash : (bytes : Text) → IsUtf8 (45 ∷ bytes) → IsWord (45 ∷ bytes)
behind_dash [] u = inl (record { no_end = refl; no_option = refl; no_long = refl; no_short = refl })
behind_dash (b ∷ bytes) u = go (b == 45) refl
  where
    go : (is_dash : Bool) → (b == 45) ≡ is_dash → IsWord (45 ∷ b ∷ bytes)
    go false other = short_word b bytes other u
    go true same = subst (λ c. IsWord (45 ∷ c ∷ bytes)) (sym ((Decides-eqb b 45).0 same)) (behind_dashes bytes)

pub word_is : (word : Text) → IsUtf8 word → IsWord word
word_is [] u = inl (record { no_end = refl; no_option = refl; no_long = refl; no_short = refl })
word_is (b ∷ bytes) u = go (b == 45) refl
  where
    go : (is_dash : Bool) → (b == 45) ≡ is_dash → IsWord (b ∷ bytes)
    go false other = inl (record { no_end = rw other refl; no_option = rw other refl; no_long = rw other refl; no_short = rw other refl })
    go true same =
        let is : b ≡ 45 = (Decides-eqb b 45).0 same in
        subst (λ c. IsWord (c ∷ bytes)) (sym is) (behind_dash bytes (subst (λ c. IsUtf8 (c ∷ bytes)) is u))

-- ---- a word's turn, where no word waits for a value and no subcommand was met

abbrev pub at : List Row → Option (Text × List Text) → ℕ → Bool → Walk
at rows pending position is_trailing = record { held = held rows pending; waiting = idle; position = position; is_trailing = is_trailing; stopped = None }

module _ (s : Shape) (names : Names) (rows : List Row) (pending : Option (Text × List Text)) (position : ℕ) where
  -- a file goes to the positional
  pub file_met : (word : Text) → IsFile word → subcommand_met names idle word ≡ None
      → word_met s.rules names false idle position word (held rows pending) ≡ (held rows pending, value)
  file_met word file none =
      ap (λ o. subcommand_or_other s.rules o idle position word (held rows pending)) none
      ∙ ap (λ b. if b then (held rows pending, trailing position) else long_or_other s.rules idle word (long_of word) (held rows pending)) file.no_end
      ∙ ap (λ o. long_or_other s.rules idle word o (held rows pending)) file.no_long
      ∙ ap (λ o. short_or_plain s.rules idle word o (held rows pending)) file.no_short

  file_passes : (word : Text) → IsFile word → subcommand_met names idle word ≡ None → word_fault s names false idle word (held rows pending) ≡ []
  file_passes word file none =
      ap (λ o. other_fault s o word (held rows pending)) none
      ∙ ap (λ b. if b then [] else flag_word_fault s.rules s.args_override_self (long_of word) word (held rows pending)) file.no_end
      ∙ ap (λ o. flag_word_fault s.rules s.args_override_self o word (held rows pending)) file.no_long
      ∙ ap (λ o. option_map_or (λ flags. bundle_fault s.rules s.args_override_self flags (held rows pending)) o []) file.no_short

  pub file_turn : (word : Text) → IsFile word → subcommand_met names idle word ≡ None
      → turn_fault s names (at rows pending position false) word ≡ step_fault s position (held rows pending) value
  file_turn word file none =
      ap (λ (met : Held × Step). or_else (word_fault s names false idle word (held rows pending)) (step_fault s position met.0 met.1)) (file_met word file none)
      ∙ ap (λ kinds. or_else kinds (step_fault s position (held rows pending) value)) (file_passes word file none)

  pub file_moves : (word : Text) → IsFile word → subcommand_met names idle word ≡ None
      → walked s.rules names (at rows pending position false) word
      ≡ to_positional s.rules (arg_by_index s.rules position) word (at rows pending position false) (held rows pending)
  unfolding walked
  file_moves word file none =
      ap (λ (met : Held × Step). after_step s.rules word (at rows pending position false) met.0 met.1) (file_met word file none)

  -- an option is at fault
  pub option_turn : (word : Text) → IsOption word → HasHelpAlone s.rules → subcommand_met names idle word ≡ None
      → turn_fault s names (at rows pending position false) word ≡ [] → ⊥
  option_turn word option alone none e =
      option.faulty s.rules s.args_override_self rows pending alone
      (sym (ap (λ o. other_fault s o word (held rows pending)) none
      ∙ ap (λ b. if b then [] else flag_word_fault s.rules s.args_override_self (long_of word) word (held rows pending)) option.no_end)
      ∙ first_fault _ _ e)
