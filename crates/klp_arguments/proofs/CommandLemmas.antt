-- The reader of words has definitions of what it finds for each program.
use Rattle.std.proofs.Common.{◌≡◌, ◌≢◌, ℕ, Bool, Bor, length, map, option_map, true, refl, sym, ap, ◌∙◌, subst, arith, List, [], ◌∷◌, Option, Some, None}
use Rattle.clap.specs.Words.{App, Kinds, Row, Text, all_of, app_of, fault_of, is_simple, is_simple_and_free, matches_of, rows_of}
use Rattle.clap.specs.Matches.{matched_of, raw_values}
use Rattle.clap.specs.declared.parser.matches.Found.{Found}
use Rattle.clap.proofs.WalkLemmas.{raw_values-rows}
use Rattle.clap.specs.declared.builder.command.Command.{Command}
use Rattle.clap.proofs.OnLiterals.{clap_on_literals}
use Rattle.klp_arguments.specs.Asked.{is_given, linted_by, paged_by, seen_by, seen_if, go_together, unless, values_in, watched_by, Linted, Seen, Ends, EndsBy}
use Rattle.klp_arguments.specs.declared.ending.Ending.{Ending}
use Rattle.klp_arguments.specs.declared.ending.Ending.TheVariants.{Shown, Refused, NoMemory}
use Rattle.klp_arguments.specs.Commands.{lint_app, module_app, page_app, see_app, watch_app}

pub watch_walked : is_simple watch_app ≡ true
unfolding clap_on_literals
watch_walked = refl

pub watch_judged : is_simple_and_free watch_app ≡ true
unfolding clap_on_literals
watch_judged = refl

pub page_walked : is_simple page_app ≡ true
unfolding clap_on_literals
page_walked = refl

pub page_judged : is_simple_and_free page_app ≡ true
unfolding clap_on_literals
page_judged = refl

pub lint_walked : is_simple lint_app ≡ true
unfolding clap_on_literals
lint_walked = refl

pub lint_judged : is_simple_and_free lint_app ≡ true
unfolding clap_on_literals
lint_judged = refl

pub see_walked : is_simple see_app ≡ true
unfolding clap_on_literals
see_walked = refl

pub see_judged : is_simple_and_free see_app ≡ true
unfolding clap_on_literals
see_judged = refl

pub module_walked : is_simple module_app ≡ true
unfolding clap_on_literals
module_walked = refl

pub module_judged : is_simple_and_free module_app ≡ true
unfolding clap_on_literals
module_judged = refl

-- the files of klpwatch, by what is found for each of its arguments
pub watched_by-found : (catalog trace : Text) (first second : Option Text) → Some catalog ≡ first → Some trace ≡ second
    → watched_by (Some catalog) (Some trace) ≡ watched_by first second
watched_by-found catalog trace first second is_first is_second = rw (← is_first, ← is_second) refl

-- those of klppage behind a trace, where the names are in the place of the script
pub paged_by-trace : (catalog trace : Text) (names first second third fourth : Option Text)
    → Some catalog ≡ first → Some trace ≡ second → names ≡ third → None ≡ fourth
    → paged_by (Some catalog) (Some trace) names None ≡ paged_by first second third fourth
paged_by-trace catalog trace names first second third fourth is_first is_second is_third is_fourth =
    rw (← is_first, ← is_second, ← is_third, ← is_fourth) refl

pub linted_by-found : (catalog : Text) (script : Option Text) (is_json : Bool) (first second third : Option Text)
    → Some catalog ≡ first → script ≡ second → is_json ≡ is_given third
    → ◌≡◌ {A = Option Linted} (Some (record { catalog = catalog; script = script; is_json = is_json })) (linted_by first second third)
linted_by-found catalog script is_json first second third is_first is_second is_third =
    rw (← is_first, ← is_second, is_third) refl

pub seen_by-found : (logs own : List Text) (folder catalog : Option Text) (is_json follows is_metrics : Bool)
    (second third fourth fifth sixth : Option Text)
    → own ≡ logs → folder ≡ second → catalog ≡ third → is_json ≡ is_given fourth → follows ≡ is_given fifth → is_metrics ≡ is_given sixth
    → seen_if (go_together (length own) (record { logs = own; folder = folder; catalog = catalog; is_json = is_json; follows = follows; is_metrics = is_metrics }))
    (record { logs = own; folder = folder; catalog = catalog; is_json = is_json; follows = follows; is_metrics = is_metrics })
    ≡ seen_by logs second third fourth fifth sixth
seen_by-found logs own folder catalog is_json follows is_metrics second third fourth fifth sixth is_first is_second is_third is_fourth is_fifth is_sixth =
    rw (← is_first, ← is_second, ← is_third, is_fourth, is_fifth, is_sixth) refl

-- the values that are found are all values of the argument
pub no_values : (f : Found) (id : Text) (values : Option (Bor (List (Bor (List ℕ)))))
    → option_map (λ (s : Bor (List (Bor (List ℕ)))). map (λ (v : Bor (List ℕ)). v.now) s.now) values ≡ option_map raw_values (matched_of f id)
    → values ≡ None → [] ≡ values_in (all_of id (rows_of f))
no_values f id values are none = rw (← raw_values-rows f id, ← are, none) refl

pub some_values : (f : Found) (id : Text) (values : Option (Bor (List (Bor (List ℕ))))) (some : Bor (List (Bor (List ℕ))))
    → option_map (λ (s : Bor (List (Bor (List ℕ)))). map (λ (v : Bor (List ℕ)). v.now) s.now) values ≡ option_map raw_values (matched_of f id)
    → values ≡ Some some → map (λ (v : Bor (List ℕ)). v.now) some.now ≡ values_in (all_of id (rows_of f))
some_values f id values some are is = rw (← raw_values-rows f id, ← are, is) refl

module _ {Z : Type 0} (app : App) (command : Command) (words : List Text) (is_app : app_of command ≡ app) where
  -- words that the reader refuses ask for nothing
  pub ends : (asked : Option Z) (ending : Ending) → EndsBy (fault_of (app_of command) words) ending
      → Ends (fault_of app words) (unless (fault_of app words) asked) ending
  ends asked ending by = by_kinds (fault_of app words) asked ending (subst (λ a. EndsBy (fault_of a words) ending) is_app by)
    where
      none_asked : (kinds : Kinds) (asked : Option Z) → kinds ≢ [] → unless kinds asked ≡ None
      none_asked [] asked faulty = absurd (faulty refl)
      none_asked (kind ∷ kinds) asked faulty = refl

      by_kinds : (kinds : Kinds) (asked : Option Z) (ending : Ending) → EndsBy kinds ending → Ends kinds (unless kinds asked) ending
      by_kinds kinds asked (Shown error) by = by
      by_kinds kinds asked Refused by = (none_asked kinds asked by.0, by.1)
      by_kinds kinds asked NoMemory by = by

  -- words that it takes ask for what is found
  pub asks : (asked_in : List Row → Option Z) (rows : List Row) (asked : Z) → fault_of (app_of command) words ≡ []
      → rows ≡ matches_of (app_of command) words → asked_in rows ≡ Some asked
      → unless (fault_of app words) (asked_in (matches_of app words)) ≡ Some asked
  asks asked_in rows asked faultless found is =
      ap (λ kinds. unless kinds (asked_in (matches_of app words))) (ap (λ a. fault_of a words) (sym is_app) ∙ faultless)
      ∙ (ap asked_in (ap (λ a. matches_of a words) (sym is_app) ∙ sym found) ∙ is)

  -- nor do words that it takes, but whose files don't go together
  pub refused : (asked : Option Z) → fault_of (app_of command) words ≡ [] → asked ≡ None
      → Ends (fault_of app words) (unless (fault_of app words) asked) Refused
  refused asked faultless nothing = by_none (fault_of app words) asked (subst (λ a. fault_of a words ≡ []) is_app faultless) nothing
    where
      by_none : (kinds : Kinds) (asked : Option Z) → kinds ≡ [] → asked ≡ None → Ends kinds (unless kinds asked) Refused
      by_none [] asked faultless nothing = (nothing, (grind arith, grind arith))
      by_none (kind ∷ kinds) asked faultless nothing = grind arith
