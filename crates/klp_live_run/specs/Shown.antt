-- What is shown of two tasks that have run: how many steps of each are done, and the text of each loaded object.
use Rattle.std.specs.Prelude.{◌≡◌, ℕ, Bool, true, false, List, [], ◌∷◌, ◌++◌, length, take, codes, Option, Some, None}
use Rattle.std.specs.Fmt.{decimal}
use Rattle.std.specs.Io.KnownBytes.{Appends}
use Rattle.klp_types.specs.declared.limits.TheConstants.{MAX_OBJECTS}
use Rattle.klp_modules.specs.Names.{ObjectNames, names_of}
use Rattle.klp_core.specs.Journaled.{Journaled}
use Rattle.klp_console.specs.Answered.{Answer}
use Rattle.klp_console.specs.Lines.{AreAnswered, lines_of, texts_of}
use Rattle.klp_live_run.specs.declared.race.Done.{Done}

-- the console line that asks for the text of an object, if it is loaded
abbrev pub asks_for : ObjectNames → Bool → List ℕ
asks_for object true = codes "text " ++ object.name ++ codes "\n"
asks_for object false = []

-- the lines for all of these objects, in the order of the catalog
abbrev pub asks_for_all : List ObjectNames → List Bool → List ℕ
asks_for_all [] loaded = []
asks_for_all (object ∷ objects) [] = []
asks_for_all (object ∷ objects) (is_loaded ∷ loaded) = asks_for object is_loaded ++ asks_for_all objects loaded

-- the lines for all objects of a manager; a catalog has at most `MAX_OBJECTS`
abbrev pub asks_for_texts : Journaled → List ℕ
asks_for_texts manager = asks_for_all (take MAX_OBJECTS (names_of manager.managed.image.objects)) manager.managed.state.loaded

-- the line for the text of an object, if there is such an object and it is loaded
abbrev pub asks_if : Option ObjectNames → Bool → List ℕ
asks_if None is_loaded = []
asks_if (Some object) is_loaded = asks_for object is_loaded

-- how many steps each task did, on a line each
abbrev pub counts_text : ℕ → ℕ → List ℕ
counts_text first second = codes "task 1 " ++ decimal first ++ codes "\ntask 2 " ++ decimal second ++ codes "\n"

-- `front` and then the console's answers to these lines
pub record IsAnsweredBehind (manager : Journaled) (lines front text : List ℕ) : Type 0 where
  pub left : Journaled
  pub answers : List Answer
  pub answered : AreAnswered manager left (lines_of lines) answers
  pub text_is : text ≡ front ++ texts_of answers

-- how many steps each task did, and then the text of each loaded object
abbrev pub IsShown : Journaled → Done → List ℕ → Type 0
IsShown manager done text = IsAnsweredBehind manager (asks_for_texts manager) (counts_text (length done.first.items) (length done.second.items)) text

-- this was appended to the output
abbrev pub IsShownOn : Journaled → Done → Option (List ℕ) → Option (List ℕ) → Type 0
IsShownOn manager done before after = (text : List ℕ) × IsShown manager done text × Appends before after text
