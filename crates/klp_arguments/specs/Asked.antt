-- What words ask a program for, by the values that the reader of words finds in them.
use Rattle.std.specs.Prelude.{ℕ, ◌≡◌, ◌≢◌, ◌⊎◌, ⊤, Bool, true, false, List, [], ◌∷◌, codes, bytes_eq, Option, Some, None, option_map, ◌==◌, ◌&&◌, ◌||◌, not, nat_lt, is_some, length, map, if◌then◌else◌}
use Rattle.clap.specs.Words.{Kinds, Row, Text, IsAmong, all_of, fault_of, first_of, matches_of}
use Rattle.clap.specs.declared.error.kind.ErrorKind.TheVariants.{DisplayHelp, DisplayVersion}
use Rattle.klp_arguments.specs.Commands.{lint_app, module_app, page_app, see_app, watch_app}
use Rattle.klp_arguments.specs.declared.asked.WatchWords.{WatchWords}
use Rattle.klp_arguments.specs.declared.asked.PageWords.{PageWords}
use Rattle.klp_arguments.specs.declared.asked.LintWords.{LintWords}
use Rattle.klp_arguments.specs.declared.asked.SeeWords.{SeeWords}
use Rattle.klp_arguments.specs.declared.asked.ModuleQuestion.{ModuleQuestion}
use Rattle.klp_arguments.specs.declared.asked.ModuleQuestion.TheVariants.{Catalog, List as Listed, Matrix}
use Rattle.klp_arguments.specs.declared.asked.ModuleWords.{ModuleWords}
use Rattle.klp_arguments.specs.declared.ending.Ending.{Ending}
use Rattle.klp_arguments.specs.declared.ending.Ending.TheVariants.{Shown, Refused, NoMemory}

pub record Watched : Type 0 where
  pub catalog : Text
  pub trace : Text

pub record Paged : Type 0 where
  pub catalog : Text
  pub run : Text
  pub is_trace : Bool
  pub names : Option Text

pub record Linted : Type 0 where
  pub catalog : Text
  pub script : Option Text
  pub is_json : Bool

pub record Seen : Type 0 where
  pub logs : List Text
  pub folder : Option Text
  pub catalog : Option Text
  pub is_json : Bool
  pub follows : Bool
  pub is_metrics : Bool

pub record Modules : Type 0 where
  pub patches : List Text
  pub question : ModuleQuestion
  pub is_json : Bool
  pub layout : Option Text
  pub symbols : Option Text
  pub objects : List Text
  pub traceable : Option Text
  pub kernel : Option Text
  pub is_cut : Bool

-- an option without a value is given
abbrev pub is_given : Option Text → Bool
is_given (Some value) = bytes_eq value (codes "true")
is_given None = false

abbrev pub watched_by : Option Text → Option Text → Option Watched
watched_by (Some catalog) (Some trace) = Some (record { catalog = catalog; trace = trace })
watched_by catalog trace = None

-- a catalog, a trace, a script and names: behind a trace, the first file is the one with the names
abbrev pub paged_by : Option Text → Option Text → Option Text → Option Text → Option Paged
paged_by (Some catalog) None (Some run) names = Some (record { catalog = catalog; run = run; is_trace = false; names = names })
paged_by (Some catalog) (Some run) names None = Some (record { catalog = catalog; run = run; is_trace = true; names = names })
paged_by catalog trace script names = None

abbrev pub linted_by : Option Text → Option Text → Option Text → Option Linted
linted_by (Some catalog) script json = Some (record { catalog = catalog; script = script; is_json = is_given json })
linted_by None script json = None

-- A folder or an answer for programs is for one log alone. A log that is followed is alone, too, and told in words; numbers are of
-- any logs
abbrev pub go_together : ℕ → Seen → Bool
go_together count seen =
    let is_plain = not (is_some seen.folder) && not seen.is_json in
    if seen.follows then count == 1 && is_plain && not seen.is_metrics
    else if seen.is_metrics then nat_lt 0 count && is_plain
    else count == 1 || nat_lt 0 count && is_plain

-- all values of an argument
abbrev pub values_in : Option (List Text) → List Text
values_in None = []
values_in (Some values) = values

abbrev pub seen_if : Bool → Seen → Option Seen
seen_if true seen = Some seen
seen_if false seen = None

abbrev pub seen_by : List Text → Option Text → Option Text → Option Text → Option Text → Option Text → Option Seen
seen_by logs folder catalog json follow metrics =
    let seen : Seen = record {
      logs = logs;
      folder = folder;
      catalog = catalog;
      is_json = is_given json;
      follows = is_given follow;
      is_metrics = is_given metrics;
    } in
    seen_if (go_together (length logs) seen) seen

-- One of --list and --matrix, or a catalog. An answer for programs is of the first two, and some options are for a catalog alone
abbrev pub question_of : Bool → Bool → Bool → Bool → Option ModuleQuestion
question_of true false json false = Some Listed
question_of false true json false = Some Matrix
question_of false false false for_catalog = Some Catalog
question_of list matrix json for_catalog = None

-- files say something of the kernel: its symbols, modules of it, or which functions can be traced
abbrev pub has_kernel : Option Text → List Text → Option Text → Bool
has_kernel symbols objects traceable = is_some symbols || nat_lt 0 (length objects) || is_some traceable

-- an option is given that is for a catalog alone: what is known of the kernel, its image, or that the catalog may be cut
abbrev pub is_for_catalog : Bool → Option Text → Bool → Bool
is_for_catalog known kernel cut = known || is_some kernel || cut

-- the kernel's image has its symbols, and the functions that can be traced, so neither is given beside it
abbrev pub clash : Option Text → Option Text → Option Text → Bool
clash kernel symbols traceable = is_some kernel && (is_some symbols || is_some traceable)

abbrev pub unless_clash : Bool → Option ModuleQuestion → Option ModuleQuestion
unless_clash true question = None
unless_clash false question = question

abbrev pub modules_by : List Text → Option Text → Option Text → Option Text → Option Text → Option Text → List Text → Option Text → Option Text → Option Text
    → Option Modules
modules_by patches list matrix json layout symbols objects traceable kernel cut =
    option_map (λ question. record {
      patches = patches;
      question = question;
      is_json = is_given json;
      layout = layout;
      symbols = symbols;
      objects = objects;
      traceable = traceable;
      kernel = kernel;
      is_cut = is_given cut;
    })
    (unless_clash (clash kernel symbols traceable)
    (question_of (is_given list) (is_given matrix) (is_given json) (is_for_catalog (has_kernel symbols objects traceable) kernel (is_given cut))))

-- what the values ask for, unless the words are at fault
abbrev pub unless : {Z : Type 0} → Kinds → Option Z → Option Z
unless [] asked = asked
unless (kind ∷ kinds) asked = None

abbrev pub watched_in : List Row → Option Watched
watched_in rows = watched_by (first_of (codes "CATALOG") rows) (first_of (codes "TRACE") rows)

abbrev pub paged_in : List Row → Option Paged
paged_in rows = paged_by (first_of (codes "CATALOG") rows) (first_of (codes "TRACE") rows) (first_of (codes "SCRIPT") rows) (first_of (codes "NAMES") rows)

abbrev pub linted_in : List Row → Option Linted
linted_in rows = linted_by (first_of (codes "CATALOG") rows) (first_of (codes "SCRIPT") rows) (first_of (codes "JSON") rows)

abbrev pub seen_in : List Row → Option Seen
seen_in rows =
    seen_by (values_in (all_of (codes "LOG") rows)) (first_of (codes "FOLDER") rows) (first_of (codes "CATALOG") rows)
    (first_of (codes "JSON") rows) (first_of (codes "FOLLOW") rows) (first_of (codes "METRICS") rows)

abbrev pub modules_in : List Row → Option Modules
modules_in rows =
    modules_by (values_in (all_of (codes "PATCH") rows)) (first_of (codes "LIST") rows) (first_of (codes "MATRIX") rows) (first_of (codes "JSON") rows)
    (first_of (codes "BTF") rows) (first_of (codes "SYMBOLS") rows) (values_in (all_of (codes "MODULE") rows)) (first_of (codes "TRACEABLE") rows)
    (first_of (codes "KERNEL") rows) (first_of (codes "CUT") rows)

abbrev pub watch_asked : List Text → Option Watched
watch_asked words = unless (fault_of watch_app words) (watched_in (matches_of watch_app words))

abbrev pub page_asked : List Text → Option Paged
page_asked words = unless (fault_of page_app words) (paged_in (matches_of page_app words))

abbrev pub lint_asked : List Text → Option Linted
lint_asked words = unless (fault_of lint_app words) (linted_in (matches_of lint_app words))

abbrev pub see_asked : List Text → Option Seen
see_asked words = unless (fault_of see_app words) (seen_in (matches_of see_app words))

abbrev pub module_asked : List Text → Option Modules
module_asked words = unless (fault_of module_app words) (modules_in (matches_of module_app words))

abbrev pub watch_meaning : WatchWords → Watched
watch_meaning words = record { catalog = words.catalog.now; trace = words.trace.now }

abbrev pub page_meaning : PageWords → Paged
page_meaning words = record { catalog = words.catalog.now; run = words.run.now; is_trace = words.is_trace; names = option_map (λ names. names.now) words.names }

abbrev pub lint_meaning : LintWords → Linted
lint_meaning words = record { catalog = words.catalog.now; script = option_map (λ script. script.now) words.script; is_json = words.is_json }

abbrev pub see_meaning : SeeWords → Seen
see_meaning words = record {
  logs = map (λ log. log.now) words.logs.items;
  folder = option_map (λ folder. folder.now) words.folder;
  catalog = option_map (λ catalog. catalog.now) words.catalog;
  is_json = words.is_json;
  follows = words.follows;
  is_metrics = words.is_metrics;
}

abbrev pub module_meaning : ModuleWords → Modules
module_meaning words = record {
  patches = map (λ patch. patch.now) words.modules.items;
  question = words.question;
  is_json = words.is_json;
  layout = option_map (λ layout. layout.now) words.layout;
  symbols = option_map (λ symbols. symbols.now) words.symbols;
  objects = map (λ object. object.now) words.objects.items;
  traceable = option_map (λ traceable. traceable.now) words.traceable;
  kernel = option_map (λ kernel. kernel.now) words.kernel;
  is_cut = words.is_cut;
}

-- the words ask for help, or for the version
abbrev pub AskToShow : Kinds → Type 0
AskToShow kinds = IsAmong DisplayHelp kinds ⊎ IsAmong DisplayVersion kinds

-- they don't ask for one of the two alone
abbrev pub AskForMore : Kinds → Type 0
AskForMore kinds = (kinds ≢ DisplayHelp ∷ []) × (kinds ≢ DisplayVersion ∷ [])

-- help or the version is written only where the words ask for it, and words are refused only where they ask for nothing, not even for help
-- or the version
abbrev pub Ends : {Z : Type 0} → Kinds → Option Z → Ending → Type 0
Ends kinds asked (Shown error) = AskToShow kinds
Ends kinds asked Refused = (asked ≡ None) × AskForMore kinds
Ends kinds asked NoMemory = ⊤

-- the same by the status with which the program ends
abbrev pub EndsWith : {Z : Type 0} → Kinds → Option Z → ℕ → Type 0
EndsWith kinds asked status = ((status ≡ 0) × AskToShow kinds) ⊎ ((status ≡ 1) ⊎ ((status ≡ 2) × ((asked ≡ None) × AskForMore kinds)))

abbrev pub status_of : Ending → ℕ
status_of (Shown error) = 0
status_of Refused = 2
status_of NoMemory = 1

-- why the reader of words refuses them
abbrev pub EndsBy : Kinds → Ending → Type 0
EndsBy kinds (Shown error) = AskToShow kinds
EndsBy kinds Refused = (kinds ≢ []) × AskForMore kinds
EndsBy kinds NoMemory = ⊤
