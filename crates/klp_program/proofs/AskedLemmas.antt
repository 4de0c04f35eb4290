-- What klpsim's words ask for is what the reader of words makes of them.
use Rattle.std.proofs.Common.{◌≡◌, ◌∙◌, ◌⊎◌, inl, inr, ℕ, ◌==◌, ◌&&◌, Bool, true, false, not, if◌then◌else◌, refl, sym, ap, subst, List, [], ◌∷◌, map, Option, Some, None, option_map, option_and_then, MatchOption, codes, bytes_eq, string_bytes, IsUtf8, fold, is_some, String}
use Rattle.std.proofs.lemmas.Str.{IsUtf8-string_bytes}
use Rattle.std.proofs.lemmas.Slice.Eq.{bytes_eq-Decides}
use Rattle.clap.specs.Words.{App, Row, Text, fault_of, is_simple, is_simple_and_free, subcommand_of}
use Rattle.clap.specs.Kinds.{Kinds, or_else}
use Rattle.clap.specs.Simple.{Shape, built, built_leaf, entered, filled, help_rule, inherited, marked_built, names_of, with_leaf_noted}
use Rattle.clap.specs.Walk.{Names, Walk, arg_by_index, arg_by_long, arg_by_short, finished, idle, nothing_held, settled, subcommand_met, to_positional, value, walk_from, walked}
use Rattle.clap.specs.Faults.{check_fault, defaults_fault, entered_fault, settle_fault, step_fault, turn_fault, walk_fault}
use Rattle.clap.proofs.OnLiterals.{clap_on_literals}
use Rattle.clap.proofs.FaultLemmas.{stopped_fault}
use Rattle.clap.proofs.WalkLemmas.{walk_stopped}
use Rattle.klp_program.specs.Asked.{Asked, begins_with_dash, files_of, console_over, live_over, none_over, asked_of}
use Rattle.klp_program.specs.Commands.{asked_in, console_app, live_app, klpsim_app}
use Rattle.klp_program.proofs.WordLemmas.{nonempty, first_fault, HasHelpAlone, word_is, at, held, file_turn, file_moves, option_turn}

abbrev pub AreTexts : List Text → Type 0
AreTexts [] = Unit {0}
AreTexts (word ∷ words) = IsUtf8 word × AreTexts words

-- ---- one level

abbrev fault_from : Shape → Walk → List Text → Kinds
fault_from s w words =
    let end = (fold (walked s.rules []) w words).held in
    or_else (walk_fault s [] w words) (or_else (settle_fault s.rules s.args_override_self end)
    (or_else (defaults_fault (settled s.rules end).rows s.rules) (check_fault s (finished s.rules end) false)))

abbrev rows_from : Shape → Walk → List Text → List Row
rows_from s w words = finished s.rules (fold (walked s.rules []) w words).held

-- from this moment on the words come to what is wanted, or one is at fault
abbrev Agrees : Option Asked → Text → Shape → Walk → List Text → Type 0
Agrees wanted name s w words = MatchOption wanted (fault_from s w words ≡ [] → ⊥)
    (λ asked. (fault_from s w words ≡ []) × (asked_in (Some (name, rows_from s w words)) ≡ Some asked))

faulty_turn : (s : Shape) (w : Walk) (word : Text) (words : List Text) → (turn_fault s [] w word ≡ [] → ⊥) → fault_from s w (word ∷ words) ≡ [] → ⊥
unfolding walk_fault
faulty_turn s w word words faulty e = faulty (first_fault _ _ (first_fault _ _ e))

good_turn : (s : Shape) (w : Walk) (word : Text) (words : List Text) → turn_fault s [] w word ≡ [] → fault_from s (walked s.rules [] w word) words ≡ fault_from s w (word ∷ words)
unfolding walk_fault
good_turn s w word words good =
    let after = walked s.rules [] w word in
    let end = (fold (walked s.rules []) after words).held in
    sym (ap (λ kinds. or_else (or_else kinds (walk_fault s [] after words)) (or_else (settle_fault s.rules s.args_override_self end)
    (or_else (defaults_fault (settled s.rules end).rows s.rules) (check_fault s (finished s.rules end) false)))) good)

-- a word that passes, and what is wanted behind it
passes : (wanted : Option Asked) (name : Text) (s : Shape) (w after : Walk) (word : Text) (words : List Text)
    → turn_fault s [] w word ≡ [] → walked s.rules [] w word ≡ after → Agrees wanted name s after words → Agrees wanted name s w (word ∷ words)
passes None name s w after word words good moved agrees =
    λ e. agrees (ap (λ v. fault_from s v words) (sym moved) ∙ good_turn s w word words good ∙ e)
passes (Some asked) name s w after word words good moved agrees = (
  sym (good_turn s w word words good) ∙ ap (λ v. fault_from s v words) moved ∙ agrees.0,
  ap (λ v. asked_in (Some (name, rows_from s v words))) moved ∙ agrees.1,
)

-- the files among the words that are left
abbrev files : Bool → List Text → Option (List Text)
files true words = Some words
files false words = files_of words

before : (over : List Text → Option Asked) (word : Text) (o : Option (List Text))
    → option_and_then (λ files. over (word ∷ files)) o ≡ option_and_then over (option_map (λ files. word ∷ files) o)
before over word None = refl
before over word (Some files) = refl

module _ (name : Text) (s : Shape) (alone : HasHelpAlone s.rules) (over : List Text → Option Asked)
    (rows : List Row) (pending : Option (Text × List Text)) (position : ℕ) where
  abbrev OnWord : Type 0
  OnWord = (t : Bool) (word : Text) (words : List Text) → AreTexts words
      → turn_fault s [] (at rows pending position t) word ≡ step_fault s position (held rows pending) value
      → walked s.rules [] (at rows pending position t) word
      ≡ to_positional s.rules (arg_by_index s.rules position) word (at rows pending position t) (held rows pending)
      → Agrees (option_and_then (λ files. over (word ∷ files)) (files t words)) name s (at rows pending position t) (word ∷ words)

  abbrev AtEnd : Type 0
  AtEnd = (t : Bool) → Agrees (over []) name s (at rows pending position t) []

  behind_end : AtEnd → OnWord → (words : List Text) → AreTexts words → Agrees (over words) name s (at rows pending position true) words
  unfolding walked
  behind_end ends on [] u = ends true
  behind_end ends on (word ∷ words) u = on true word words u.1 refl refl

  end_met : AtEnd → OnWord → (words : List Text) → AreTexts words → Agrees (over words) name s (at rows pending position false) (codes "--" ∷ words)
  unfolding walked
  end_met ends on words u = passes (over words) name s (at rows pending position false) (at rows pending position true) (codes "--") words refl refl
      (behind_end ends on words u)

  -- the words are gone through, whatever they are
  each_word : AtEnd → OnWord → (t : Bool) (words : List Text) → AreTexts words → Agrees (option_and_then over (files t words)) name s (at rows pending position t) words
  each_word ends on true words u = behind_end ends on words u
  each_word ends on false [] u = ends false
  each_word ends on false (word ∷ words) u = elim (word_is word u.0) [
    | inl file ↦
        let wanted : option_and_then (λ files. over (word ∷ files)) (files_of words) ≡ option_and_then over (files_of (word ∷ words)) =
        before over word (files_of words)
        ∙ ap (option_and_then over) (sym (ap (λ b. if b then Some words else (if begins_with_dash word && not (bytes_eq word (codes "-")) then None
        else option_map (λ files. word ∷ files) (files_of words))) file.no_end
        ∙ ap (λ b. if b then None else option_map (λ files. word ∷ files) (files_of words)) file.no_option)) in
        subst (λ o. Agrees o name s (at rows pending position false) (word ∷ words)) wanted
        (on false word words u.1 (file_turn s [] rows pending position word file refl) (file_moves s [] rows pending position word file refl))
    | inr (inl dashes) ↦ subst (λ w. Agrees (option_and_then over (files_of (w ∷ words))) name s (at rows pending position false) (w ∷ words)) (sym dashes)
        (end_met ends on words u.1)
    | inr (inr option) ↦
        let wanted : None ≡ option_and_then over (files_of (word ∷ words)) =
        ap (option_and_then over) (sym (ap (λ b. if b then Some words else (if begins_with_dash word && not (bytes_eq word (codes "-")) then None
        else option_map (λ files. word ∷ files) (files_of words))) option.no_end
        ∙ ap (λ b. if b then None else option_map (λ files. word ∷ files) (files_of words)) option.option)) in
        subst (λ o. Agrees o name s (at rows pending position false) (word ∷ words)) wanted
        (faulty_turn s (at rows pending position false) word words (option_turn s [] rows pending position word option alone refl))
  ]

-- ---- the two subcommands

-- a subcommand as it is built
abbrev leaf : App → Shape
leaf app = built_leaf (inherited (with_leaf_noted (marked_built klpsim_app.top)) app.top)

console_help : HasHelpAlone (leaf console_app).rules
console_help = record { long = λ name. long name (bytes_eq (codes "help") name) refl; short = λ letter. short letter (104 == letter) refl }
  where
    long : (name : Text) (b : Bool) → bytes_eq (codes "help") name ≡ b
        → (arg_by_long (leaf console_app).rules name ≡ None) ⊎ (arg_by_long (leaf console_app).rules name ≡ Some (filled help_rule))
    long name true e = inr (rw e refl)
    long name false e = inl (rw e refl)

    short : (letter : ℕ) (b : Bool) → (104 == letter) ≡ b
        → (arg_by_short (leaf console_app).rules letter ≡ None) ⊎ (arg_by_short (leaf console_app).rules letter ≡ Some (filled help_rule))
    short letter true e = inr (rw e refl)
    short letter false e = inl (rw e refl)

live_help : HasHelpAlone (leaf live_app).rules
live_help = record { long = λ name. long name (bytes_eq (codes "help") name) refl; short = λ letter. short letter (104 == letter) refl }
  where
    long : (name : Text) (b : Bool) → bytes_eq (codes "help") name ≡ b
        → (arg_by_long (leaf live_app).rules name ≡ None) ⊎ (arg_by_long (leaf live_app).rules name ≡ Some (filled help_rule))
    long name true e = inr (rw e refl)
    long name false e = inl (rw e refl)

    short : (letter : ℕ) (b : Bool) → (104 == letter) ≡ b
        → (arg_by_short (leaf live_app).rules letter ≡ None) ⊎ (arg_by_short (leaf live_app).rules letter ≡ Some (filled help_rule))
    short letter true e = inr (rw e refl)
    short letter false e = inl (rw e refl)

no_more : (over : List Text → Option Asked) → ((files : List Text) → over files ≡ None) → (o : Option (List Text)) → None ≡ option_and_then over o
no_more over none None = refl
no_more over none (Some files) = sym (none files)

abbrev given : Text → Text → Option (Text × List Text)
given id word = Some (id, word ∷ [])

console_behind : (catalog : Text) (t : Bool) (words : List Text) → AreTexts words
    → Agrees (option_and_then (λ files. console_over (catalog ∷ files)) (files t words)) (codes "console") (leaf console_app) (at [] (given (codes "CATALOG") catalog) 2 t) words
unfolding clap_on_literals
console_behind catalog = each_word (codes "console") (leaf console_app) console_help (λ files. console_over (catalog ∷ files)) [] (given (codes "CATALOG") catalog) 2
    (λ t. (refl, refl))
    (λ t word words u turned moved.
    subst (λ o. Agrees o (codes "console") (leaf console_app) (at [] (given (codes "CATALOG") catalog) 2 t) (word ∷ words))
    (no_more (λ files. console_over (catalog ∷ word ∷ files)) (λ files. refl) (files t words))
    (faulty_turn (leaf console_app) (at [] (given (codes "CATALOG") catalog) 2 t) word words (λ e. nonempty (sym turned ∙ e))))

console_words : (t : Bool) (words : List Text) → AreTexts words
    → Agrees (option_and_then console_over (files t words)) (codes "console") (leaf console_app) (at [] None 1 t) words
unfolding clap_on_literals
console_words = each_word (codes "console") (leaf console_app) console_help console_over [] None 1 (λ t. (refl, refl)) on
  where
    on : (t : Bool) (word : Text) (words : List Text) → AreTexts words
        → turn_fault (leaf console_app) [] (at [] None 1 t) word ≡ step_fault (leaf console_app) 1 (held [] None) value
        → walked (leaf console_app).rules [] (at [] None 1 t) word
        ≡ to_positional (leaf console_app).rules (arg_by_index (leaf console_app).rules 1) word (at [] None 1 t) (held [] None)
        → Agrees (option_and_then (λ files. console_over (word ∷ files)) (files t words)) (codes "console") (leaf console_app) (at [] None 1 t) (word ∷ words)
    on true word words u turned moved =
        passes (option_and_then (λ more. console_over (word ∷ more)) (files true words)) (codes "console") (leaf console_app) (at [] None 1 true) (at [] (given (codes "CATALOG") word) 2 true) word words turned moved (console_behind word true words u)
    on false word words u turned moved =
        passes (option_and_then (λ more. console_over (word ∷ more)) (files false words)) (codes "console") (leaf console_app) (at [] None 1 false) (at [] (given (codes "CATALOG") word) 2 false) word words turned moved (console_behind word false words u)

-- the catalog, once the steps are met
abbrev kept : Text → List Row
kept catalog = (settled (leaf live_app).rules (held [] (given (codes "CATALOG") catalog))).rows

live_last : (catalog steps : Text) (t : Bool) (words : List Text) → AreTexts words
    → Agrees (option_and_then (λ files. live_over (catalog ∷ steps ∷ files)) (files t words)) (codes "live") (leaf live_app)
    (at (kept catalog) (given (codes "STEPS") steps) 3 t) words
unfolding clap_on_literals
live_last catalog steps = each_word (codes "live") (leaf live_app) live_help (λ files. live_over (catalog ∷ steps ∷ files)) (kept catalog) (given (codes "STEPS") steps) 3
    (λ t. (refl, refl))
    (λ t word words u turned moved.
    subst (λ o. Agrees o (codes "live") (leaf live_app) (at (kept catalog) (given (codes "STEPS") steps) 3 t) (word ∷ words))
    (no_more (λ files. live_over (catalog ∷ steps ∷ word ∷ files)) (λ files. refl) (files t words))
    (faulty_turn (leaf live_app) (at (kept catalog) (given (codes "STEPS") steps) 3 t) word words (λ e. nonempty (sym turned ∙ e))))

live_behind : (catalog : Text) (t : Bool) (words : List Text) → AreTexts words
    → Agrees (option_and_then (λ files. live_over (catalog ∷ files)) (files t words)) (codes "live") (leaf live_app) (at [] (given (codes "CATALOG") catalog) 2 t) words
unfolding clap_on_literals
live_behind catalog = each_word (codes "live") (leaf live_app) live_help (λ files. live_over (catalog ∷ files)) [] (given (codes "CATALOG") catalog) 2 (λ t. λ e. nonempty e) on
  where
    on : (t : Bool) (word : Text) (words : List Text) → AreTexts words
        → turn_fault (leaf live_app) [] (at [] (given (codes "CATALOG") catalog) 2 t) word ≡ step_fault (leaf live_app) 2 (held [] (given (codes "CATALOG") catalog)) value
        → walked (leaf live_app).rules [] (at [] (given (codes "CATALOG") catalog) 2 t) word
        ≡ to_positional (leaf live_app).rules (arg_by_index (leaf live_app).rules 2) word (at [] (given (codes "CATALOG") catalog) 2 t) (held [] (given (codes "CATALOG") catalog))
        → Agrees (option_and_then (λ files. live_over (catalog ∷ word ∷ files)) (files t words)) (codes "live") (leaf live_app)
        (at [] (given (codes "CATALOG") catalog) 2 t) (word ∷ words)
    on true word words u turned moved =
        passes (option_and_then (λ more. live_over (catalog ∷ word ∷ more)) (files true words)) (codes "live") (leaf live_app)
        (at [] (given (codes "CATALOG") catalog) 2 true) (at (kept catalog) (given (codes "STEPS") word) 3 true) word words turned moved (live_last catalog word true words u)
    on false word words u turned moved =
        passes (option_and_then (λ more. live_over (catalog ∷ word ∷ more)) (files false words)) (codes "live") (leaf live_app)
        (at [] (given (codes "CATALOG") catalog) 2 false) (at (kept catalog) (given (codes "STEPS") word) 3 false) word words turned moved (live_last catalog word false words u)

live_words : (t : Bool) (words : List Text) → AreTexts words
    → Agrees (option_and_then live_over (files t words)) (codes "live") (leaf live_app) (at [] None 1 t) words
unfolding clap_on_literals
live_words = each_word (codes "live") (leaf live_app) live_help live_over [] None 1 (λ t. λ e. nonempty e) on
  where
    on : (t : Bool) (word : Text) (words : List Text) → AreTexts words
        → turn_fault (leaf live_app) [] (at [] None 1 t) word ≡ step_fault (leaf live_app) 1 (held [] None) value
        → walked (leaf live_app).rules [] (at [] None 1 t) word
        ≡ to_positional (leaf live_app).rules (arg_by_index (leaf live_app).rules 1) word (at [] None 1 t) (held [] None)
        → Agrees (option_and_then (λ files. live_over (word ∷ files)) (files t words)) (codes "live") (leaf live_app) (at [] None 1 t) (word ∷ words)
    on true word words u turned moved =
        passes (option_and_then (λ more. live_over (word ∷ more)) (files true words)) (codes "live") (leaf live_app) (at [] None 1 true) (at [] (given (codes "CATALOG") word) 2 true) word words turned moved (live_behind word true words u)
    on false word words u turned moved =
        passes (option_and_then (λ more. live_over (word ∷ more)) (files false words)) (codes "live") (leaf live_app) (at [] None 1 false) (at [] (given (codes "CATALOG") word) 2 false) word words turned moved (live_behind word false words u)

-- ---- the first word

abbrev top : Shape
top = (built klpsim_app).top

abbrev names : Names
names = names_of (built klpsim_app)

top_help : HasHelpAlone top.rules
top_help = record { long = λ name. long name (bytes_eq (codes "help") name) refl; short = λ letter. short letter (104 == letter) refl }
  where
    long : (name : Text) (b : Bool) → bytes_eq (codes "help") name ≡ b → (arg_by_long top.rules name ≡ None) ⊎ (arg_by_long top.rules name ≡ Some (filled help_rule))
    long name true e = inr (rw e refl)
    long name false e = inl (rw e refl)

    short : (letter : ℕ) (b : Bool) → (104 == letter) ≡ b → (arg_by_short top.rules letter ≡ None) ⊎ (arg_by_short top.rules letter ≡ Some (filled help_rule))
    short letter true e = inr (rw e refl)
    short letter false e = inl (rw e refl)

abbrev Top : Option Asked → List Text → Type 0
Top wanted words = MatchOption wanted (fault_of klpsim_app words ≡ [] → ⊥)
    (λ asked. (fault_of klpsim_app words ≡ []) × (asked_in (subcommand_of klpsim_app words) ≡ Some asked))

-- all faults, by those of the words and by where the walk ends
abbrev top_fault : Kinds → Walk → Kinds
top_fault kinds w = or_else kinds (or_else (entered_fault (built klpsim_app) w.stopped) (or_else (settle_fault top.rules top.args_override_self w.held)
    (or_else (defaults_fault (settled top.rules w.held).rows top.rules) (check_fault top (finished top.rules w.held) (is_some (entered (built klpsim_app) w.stopped))))))

abbrev begun : Walk
begun = walk_from nothing_held

abbrev stopped_at : Text → List Text → Walk
stopped_at name words = record begun { stopped = Some (name, words) }

last : (kinds : Kinds) → or_else kinds [] ≡ kinds
last [] = refl
last (k ∷ ks) = refl

-- behind the name of a subcommand all words are its own
walk_ends : (name : Text) (words : List Text) → walked top.rules names begun name ≡ stopped_at name []
    → fold (walked top.rules names) begun (name ∷ words) ≡ stopped_at name words
walk_ends name words met = ap (λ w. fold (walked top.rules names) w words) met ∙ sym (walk_stopped top.rules names begun name [] words)

walk_passes_all : (name : Text) (words : List Text) → walked top.rules names begun name ≡ stopped_at name [] → turn_fault top names begun name ≡ []
    → walk_fault top names begun (name ∷ words) ≡ []
unfolding walk_fault
walk_passes_all name words met good =
    ap (λ kinds. or_else kinds (walk_fault top names (walked top.rules names begun name) words)) good
    ∙ ap (λ w. walk_fault top names w words) met ∙ stopped_fault top names begun (name, []) words

as_console : (words : List Text) → AreTexts words → Top (asked_of (codes "console" ∷ words)) (codes "console" ∷ words)
unfolding clap_on_literals
as_console words u = go (option_and_then console_over (files_of words)) (console_words false words u)
  where
    faults : fault_of klpsim_app (codes "console" ∷ words) ≡ fault_from (leaf console_app) (at [] None 1 false) words
    faults =
        ap (λ kinds. top_fault kinds (fold (walked top.rules names) begun (codes "console" ∷ words))) (walk_passes_all (codes "console") words refl refl)
        ∙ ap (λ w. top_fault [] w) (walk_ends (codes "console") words refl) ∙ last (fault_from (leaf console_app) (at [] None 1 false) words)

    enters : subcommand_of klpsim_app (codes "console" ∷ words) ≡ Some (codes "console", rows_from (leaf console_app) (at [] None 1 false) words)
    enters = ap (λ (w : Walk). entered (built klpsim_app) w.stopped) (walk_ends (codes "console") words refl)

    go : (wanted : Option Asked) → Agrees wanted (codes "console") (leaf console_app) (at [] None 1 false) words → Top wanted (codes "console" ∷ words)
    go None agrees = λ e. agrees (sym faults ∙ e)
    go (Some asked) agrees = (faults ∙ agrees.0, ap asked_in enters ∙ agrees.1)

as_live : (words : List Text) → AreTexts words → Top (asked_of (codes "live" ∷ words)) (codes "live" ∷ words)
unfolding clap_on_literals
as_live words u = go (option_and_then live_over (files_of words)) (live_words false words u)
  where
    faults : fault_of klpsim_app (codes "live" ∷ words) ≡ fault_from (leaf live_app) (at [] None 1 false) words
    faults =
        ap (λ kinds. top_fault kinds (fold (walked top.rules names) begun (codes "live" ∷ words))) (walk_passes_all (codes "live") words refl refl)
        ∙ ap (λ w. top_fault [] w) (walk_ends (codes "live") words refl) ∙ last (fault_from (leaf live_app) (at [] None 1 false) words)

    enters : subcommand_of klpsim_app (codes "live" ∷ words) ≡ Some (codes "live", rows_from (leaf live_app) (at [] None 1 false) words)
    enters = ap (λ (w : Walk). entered (built klpsim_app) w.stopped) (walk_ends (codes "live") words refl)

    go : (wanted : Option Asked) → Agrees wanted (codes "live") (leaf live_app) (at [] None 1 false) words → Top wanted (codes "live" ∷ words)
    go None agrees = λ e. agrees (sym faults ∙ e)
    go (Some asked) agrees = (faults ∙ agrees.0, ap asked_in enters ∙ agrees.1)

as_help : (words : List Text) → fault_of klpsim_app (codes "help" ∷ words) ≡ [] → ⊥
unfolding clap_on_literals
as_help words e = nonempty e

as_end : (words : List Text) → Top (none_over words) (codes "--" ∷ words)
unfolding clap_on_literals
as_end [] = (refl, refl)
as_end (word ∷ words) = λ e. nonempty e

top_faulty : (word : Text) (words : List Text) → (turn_fault top names begun word ≡ [] → ⊥) → fault_of klpsim_app (word ∷ words) ≡ [] → ⊥
unfolding walk_fault
top_faulty word words faulty e = faulty (first_fault _ _ (first_fault _ _ e))

as_other : (word : Text) (words : List Text) → IsUtf8 word → bytes_eq (codes "console") word ≡ false → bytes_eq (codes "live") word ≡ false → bytes_eq (codes "help") word ≡ false
    → Top (if bytes_eq word (codes "--") then none_over words else None) (word ∷ words)
as_other word words u no_console no_live no_help =
    let none : subcommand_met names idle word ≡ None = rw (no_console, no_live, no_help) refl in
    elim (word_is word u) [
      | inl file ↦
          subst (λ b. Top (if b then none_over words else None) (word ∷ words)) (sym file.no_end)
          (top_faulty word words (λ e. nonempty (sym (file_turn top names [] None 1 word file none) ∙ e)))
      | inr (inl dashes) ↦ subst (λ w. Top (if bytes_eq w (codes "--") then none_over words else None) (w ∷ words)) (sym dashes) (as_end words)
      | inr (inr option) ↦
          subst (λ b. Top (if b then none_over words else None) (word ∷ words)) (sym option.no_end)
          (top_faulty word words (option_turn top names [] None 1 word option top_help none))
    ]

all_words : (words : List Text) → AreTexts words → Top (asked_of words) words
unfolding clap_on_literals
all_words [] u = (refl, refl)
all_words (word ∷ words) u = console_or_not (bytes_eq (codes "console") word) refl
  where
    help_or_not : bytes_eq (codes "console") word ≡ false → bytes_eq (codes "live") word ≡ false → (b : Bool) → bytes_eq (codes "help") word ≡ b
        → Top (if bytes_eq word (codes "--") then none_over words else None) (word ∷ words)
    help_or_not no_console no_live true e =
        subst (λ w. Top (if bytes_eq w (codes "--") then none_over words else None) (w ∷ words)) ((bytes_eq-Decides (codes "help") word).0 e) (as_help words)
    help_or_not no_console no_live false e = as_other word words u.0 no_console no_live e

    live_or_not : bytes_eq (codes "console") word ≡ false → (b : Bool) → bytes_eq (codes "live") word ≡ b
        → Top (if b then option_and_then live_over (files_of words) else if bytes_eq word (codes "--") then none_over words else None) (word ∷ words)
    live_or_not no_console true e =
        subst (λ w. Top (option_and_then live_over (files_of words)) (w ∷ words)) ((bytes_eq-Decides (codes "live") word).0 e) (as_live words u.1)
    live_or_not no_console false e = help_or_not no_console e (bytes_eq (codes "help") word) refl

    console_or_not : (b : Bool) → bytes_eq (codes "console") word ≡ b
        → Top (if b then option_and_then console_over (files_of words) else if bytes_eq (codes "live") word then option_and_then live_over (files_of words)
        else if bytes_eq word (codes "--") then none_over words else None) (word ∷ words)
    console_or_not true e =
        subst (λ w. Top (option_and_then console_over (files_of words)) (w ∷ words)) ((bytes_eq-Decides (codes "console") word).0 e) (as_console words u.1)
    console_or_not false e = live_or_not e (bytes_eq (codes "live") word) refl

-- ---- what the reader's clauses come to

pub are_texts : {Z : Type 0} (words : List (String Z)) → AreTexts (map string_bytes words)
are_texts [] = tt
are_texts (word ∷ words) = (IsUtf8-string_bytes word, are_texts words)

pub is_read : is_simple_and_free klpsim_app ≡ true
unfolding clap_on_literals
is_read = refl

pub is_read_simply : is_simple klpsim_app ≡ true
unfolding clap_on_literals
is_read_simply = refl

-- words that have no fault ask for what the subcommand asks for
pub asked_is : (words : List Text) → AreTexts words → fault_of klpsim_app words ≡ [] → asked_of words ≡ asked_in (subcommand_of klpsim_app words)
asked_is words u good = go (asked_of words) (all_words words u)
  where
    go : (wanted : Option Asked) → Top wanted words → wanted ≡ asked_in (subcommand_of klpsim_app words)
    go None agrees = absurd (agrees good)
    go (Some asked) agrees = sym agrees.1

-- words that have one ask for nothing
pub none_asked : (words : List Text) → AreTexts words → (fault_of klpsim_app words ≡ [] → ⊥) → asked_of words ≡ None
none_asked words u faulty = go (asked_of words) (all_words words u)
  where
    go : (wanted : Option Asked) → Top wanted words → wanted ≡ None
    go None agrees = refl
    go (Some asked) agrees = absurd (faulty agrees.0)
