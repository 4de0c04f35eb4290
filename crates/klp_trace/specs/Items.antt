-- The items of a trace: a line says one thing that happened to a kernel, or that it showed.
use Rattle.std.specs.Prelude.{ℕ, ◌==◌, Bool, true, false, nat_eq, if◌then◌else◌, List, [], ◌∷◌, drop, codes, bytes_eq, Option, Some, None, option_map, option_and_then}
use Rattle.std.specs.List.{starts_with, before_first, after_first}
use Rattle.klp_types.specs.declared.version.Version.{Version}
use Rattle.klp_model.specs.declared.event.Event.{Event}
use Rattle.klp_model.specs.declared.seen.Seen.TheVariants.{Event as Happens, Call as Calls, Return as Returns}
use Rattle.klp_words.specs.Split.{separates, words_between}
use Rattle.klp_words.specs.declared.split.Separators.TheVariants.{Spaces}
use Rattle.klp_watch.specs.declared.observed.Observed.{Observed}
use Rattle.klp_watch.specs.declared.observed.Observed.TheVariants.{Seen as Item, Answered, Saw}
use Rattle.klp_watch.specs.declared.observed.PatchFiles.{PatchFiles}
use Rattle.klp_watch.specs.declared.observed.Sight.{Sight}
use Rattle.klp_watch.specs.declared.observed.Sight.TheVariants.{State as StateSeen, Files as FilesSeen, Version as VersionSeen, Text as TextSeen}
use Rattle.klp_core.specs.Journaled.{Journaled}
use Rattle.klp_console.specs.Asked.{event_of, site_of}
use Rattle.klp_trace.specs.Names.{task_of, patch_of, version_of, site_of_version, state_of, flag_of}
use Rattle.klp_trace.specs.Answers.{answer_of}

-- call T SYM
abbrev pub call_of : Journaled → List (List ℕ) → Option Observed
call_of manager (number ∷ symbol ∷ []) = option_and_then (λ task. option_map (λ site. Item (Calls task site)) (site_of manager symbol)) (task_of number)
call_of manager words = None

-- return T
abbrev pub return_of : List (List ℕ) → Option Observed
return_of (number ∷ []) = option_map (λ task. Item (Returns task)) (task_of number)
return_of words = None

-- saw T STATE
abbrev pub state_seen : List ℕ → List ℕ → Option Sight
state_seen number word = option_and_then (λ task. option_map (λ state. StateSeen task (Some state)) (state_of word)) (task_of number)

-- saw PATCH gone
abbrev pub gone_seen : Journaled → List ℕ → Option Sight
gone_seen manager name = option_map (λ patch. FilesSeen patch None) (patch_of manager name)

-- saw PATCH ENABLED TRANSITION
abbrev pub files_seen : Journaled → List ℕ → List ℕ → List ℕ → Option Sight
files_seen manager name enabled transition =
    option_and_then (λ patch. option_and_then (λ e. option_map (λ t. FilesSeen patch (Some (record { enabled = e; transition = t }))) (flag_of transition)) (flag_of enabled))
    (patch_of manager name)

-- saw
abbrev pub saw_of : Journaled → List (List ℕ) → Option Sight
saw_of manager (first ∷ second ∷ []) = if bytes_eq second (codes "gone") then gone_seen manager first else state_seen first second
saw_of manager (first ∷ second ∷ third ∷ []) = files_seen manager first second third
saw_of manager words = None

-- a task ran this version when it called the function of its site
abbrev pub version_seen : Journaled → ℕ → Version → Option Sight
version_seen manager task version = option_map (λ site. VersionSeen task site version) (site_of_version manager version)

-- ran T FRAME
abbrev pub ran_of : Journaled → List (List ℕ) → Option Sight
ran_of manager (number ∷ frame ∷ []) = option_and_then (λ task. option_and_then (version_seen manager task) (version_of manager frame)) (task_of number)
ran_of manager words = None

-- hooked SYM, plain SYM
abbrev pub text_of : Journaled → Bool → List (List ℕ) → Option Sight
text_of manager hooked (symbol ∷ []) = option_map (λ site. TextSeen site hooked) (site_of manager symbol)
text_of manager hooked words = None

abbrev pub item_with : Journaled → List ℕ → List (List ℕ) → Option Observed
item_with manager text [] = None
item_with manager text (first ∷ words) =
    if bytes_eq first (codes "call") then call_of manager words
    else if bytes_eq first (codes "return") then return_of words
    else if bytes_eq first (codes "saw") then option_map Saw (saw_of manager words)
    else if bytes_eq first (codes "ran") then option_map Saw (ran_of manager words)
    else if bytes_eq first (codes "hooked") then option_map Saw (text_of manager true words)
    else if bytes_eq first (codes "plain") then option_map Saw (text_of manager false words)
    else option_map (λ event. Item (Happens event)) (event_of manager text)

-- an item without an answer: one of these, or a line of the console that asks for an event
abbrev pub item_alone : Journaled → List ℕ → Option Observed
item_alone manager text = item_with manager text (words_between (separates Spaces) text)

-- an event, and how it was answered; with `?` that isn't known
abbrev pub event_answered : Journaled → List ℕ → Event → Option Observed
event_answered manager answer event =
    if bytes_eq answer (codes "?") then Some (Item (Happens event)) else option_map (Answered event) (answer_of manager answer)

-- LINE => ANSWER
abbrev pub item_answered : Journaled → List ℕ → List ℕ → Option Observed
item_answered manager text answer = option_and_then (event_answered manager answer) (event_of manager text)

abbrev pub is_equals_sign : ℕ → Bool
is_equals_sign b = b == 61

-- an item is answered where `=> ` follows; no event has a `=` itself
abbrev pub item_of : Journaled → List ℕ → Option Observed
item_of manager text =
    let behind = after_first is_equals_sign text in
    if starts_with nat_eq behind (codes "> ") then item_answered manager (before_first is_equals_sign text) (drop 2 behind) else item_alone manager text
