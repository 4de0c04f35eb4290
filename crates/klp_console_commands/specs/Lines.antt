-- The lines of the console, each given by its words.
use Rattle.std.specs.Prelude.{ℕ, ◌==◌, ◌&&◌, not, Bool, true, false, nat_eq, if◌then◌else◌, List, [], ◌∷◌, drop, codes, bytes_eq, Option, Some, None, ok_or, Result, Ok, Err}
use Rattle.std.specs.List.{starts_with, before_first, after_first}
use Rattle.klp_model.specs.declared.event.Event.TheVariants as event
use Rattle.klp_words.specs.Words.{spelling_of}
use Rattle.klp_words.specs.Steps.{◌>>=◌}
use Rattle.klp_types.specs.declared.shadow.ShadowKey.{ShadowKey}
use Rattle.klp_types.specs.World.{ShadowValue}
use Rattle.klp_console_commands.specs.declared.fault.LineFault.{LineFault}
use Rattle.klp_console_commands.specs.declared.fault.LineFault.TheVariants.{BadLine, BadValue}
use Rattle.klp_types.specs.declared.limits.TheConstants.{MAX_TASK_NUMBER, MAX_MARK}
use Rattle.klp_console_commands.specs.declared.request.Request.{Request}
use Rattle.klp_console_commands.specs.declared.request.Request.TheVariants.{Take, ForceNothing, Rewind, Seal, Ask}
use Rattle.klp_console_commands.specs.declared.request.Query.TheVariants as look
use Rattle.klp_console_commands.specs.declared.line.Keyword.{Keyword}
use Rattle.klp_console_commands.specs.declared.line.Keyword.TheVariants as keyword
use Rattle.klp_console_commands.specs.Words.{words_of, is_console_name, only_word, only_name, two_words, number_of, value_of, number_to}
use Rattle.klp_console_commands.specs.Names.{NameResolver, patch_of, object_of, task_of, site_of, versions_of, are_frames}

-- load PATCH
abbrev pub load_line : NameResolver → List (List ℕ) → Result Request LineFault
load_line names words = only_name words >>= λ patch. patch_of names patch >>= λ p. Ok (Take (event.Enable p))

-- insmod OBJECT
abbrev pub insmod_line : NameResolver → List (List ℕ) → Result Request LineFault
insmod_line names words = only_name words >>= λ object. object_of names object >>= λ o. Ok (Take (event.Coming o))

-- rmmod OBJECT
abbrev pub rmmod_line : NameResolver → List (List ℕ) → Result Request LineFault
rmmod_line names words = only_name words >>= λ object. object_of names object >>= λ o. Ok (Take (event.Going o))

-- a line that has no word behind the first one
abbrev pub alone : Request → List (List ℕ) → Result Request LineFault
alone request [] = Ok request
alone request words = Err BadLine

-- the value of the word 0 or 1
abbrev pub switch : List ℕ → Result Bool LineFault
switch value = if bytes_eq value (codes "0") then Ok false else if bytes_eq value (codes "1") then Ok true else Err BadValue

-- the value is checked before the patch is looked up
abbrev pub enabled_line : NameResolver → List ℕ → List ℕ → Result Request LineFault
enabled_line names value patch = switch value >>= λ v. patch_of names patch >>= λ p. Ok (Take (event.SetEnabled p v))

abbrev pub forced : Bool → ℕ → Request
forced true patch = Take (event.Force patch)
forced false patch = ForceNothing patch

abbrev pub force_line : NameResolver → List ℕ → List ℕ → Result Request LineFault
force_line names value patch = switch value >>= λ v. patch_of names patch >>= λ p. Ok (forced v p)

abbrev pub echo_to : NameResolver → List ℕ → List ℕ → List ℕ → Result Request LineFault
echo_to names value patch file =
    if not (is_console_name patch) then Err BadLine
    else if bytes_eq file (codes "enabled") then enabled_line names value patch
    else if bytes_eq file (codes "force") then force_line names value patch
    else Err BadLine

-- the file that is written: PATCH/FILE
abbrev pub echo_file : NameResolver → List ℕ → List ℕ → Result Request LineFault
echo_file names value file = echo_to names value (before_first (λ b. b == 47) file) (after_first (λ b. b == 47) file)

-- echo V > /sys/kernel/livepatch/PATCH/FILE
abbrev pub echo_line : NameResolver → List (List ℕ) → Result Request LineFault
echo_line names (value ∷ arrow ∷ file ∷ []) =
    if not (bytes_eq arrow (codes ">")) then Err BadLine
    else if starts_with nat_eq file (codes "/sys/kernel/livepatch/") then echo_file names value (drop 22 file)
    else Err BadLine
echo_line names words = Err BadLine

abbrev pub task_query : List ℕ → List ℕ → Result Request LineFault
task_query number file =
    if not (bytes_eq file (codes "patch_state")) then Err BadLine
    else (number_to MAX_TASK_NUMBER number >>= λ n. task_of n >>= λ t. Ok (Ask (look.PatchState t)))

-- the file of a task: T/patch_state
abbrev pub proc_query : List ℕ → Result Request LineFault
proc_query file = task_query (before_first (λ b. b == 47) file) (after_first (λ b. b == 47) file)

abbrev pub patch_file_query : NameResolver → List ℕ → List ℕ → Result Request LineFault
patch_file_query names patch file =
    if not (is_console_name patch) then Err BadLine
    else if bytes_eq file (codes "enabled") then (patch_of names patch >>= λ p. Ok (Ask (look.Enabled p)))
    else if bytes_eq file (codes "transition") then (patch_of names patch >>= λ p. Ok (Ask (look.Transition p)))
    else Err BadLine

-- the file that is read: PATCH/FILE
abbrev pub patch_query : NameResolver → List ℕ → Result Request LineFault
patch_query names file = patch_file_query names (before_first (λ b. b == 47) file) (after_first (λ b. b == 47) file)

abbrev pub cat_file : NameResolver → List ℕ → Result Request LineFault
cat_file names file =
    if starts_with nat_eq file (codes "/proc/") then proc_query (drop 6 file)
    else if starts_with nat_eq file (codes "/sys/kernel/livepatch/") then patch_query names (drop 22 file)
    else Err BadLine

-- cat /proc/T/patch_state, cat /sys/kernel/livepatch/PATCH/FILE
abbrev pub cat_line : NameResolver → List (List ℕ) → Result Request LineFault
cat_line names words = only_word words >>= cat_file names

abbrev pub object_query : NameResolver → List ℕ → List ℕ → Result Request LineFault
object_query names patch object =
    if is_console_name patch && is_console_name object
    then (patch_of names patch >>= λ p. object_of names object >>= λ o. Ok (Ask (look.Object p o)))
    else Err BadLine

-- the directory of a patch, PATCH, or of an object in it, PATCH/OBJECT
abbrev pub directory_query : NameResolver → List ℕ → Result Request LineFault
directory_query names directory =
    if is_console_name directory then (patch_of names directory >>= λ p. Ok (Ask (look.Patch p)))
    else object_query names (before_first (λ b. b == 47) directory) (after_first (λ b. b == 47) directory)

abbrev pub list_query : NameResolver → List ℕ → Result Request LineFault
list_query names directory =
    if bytes_eq directory (codes "/sys/kernel/livepatch") then Ok (Ask look.Patches)
    else if starts_with nat_eq directory (codes "/sys/kernel/livepatch/") then directory_query names (drop 22 directory)
    else Err BadLine

-- ls of /sys/kernel/livepatch, or of a directory below it
abbrev pub list_line : NameResolver → List (List ℕ) → Result Request LineFault
list_line names words = only_word words >>= list_query names

-- task sleep T FRAME..
abbrev pub sleep_line : NameResolver → ℕ → List (List ℕ) → Result Request LineFault
sleep_line names number words =
    if are_frames words then (task_of number >>= λ t. versions_of names words >>= λ vs. Ok (Take (event.Sleep t vs))) else Err BadLine

-- task fork T T
abbrev pub fork_line : ℕ → List (List ℕ) → Result Request LineFault
fork_line number words =
    only_word words >>= λ child. number_to MAX_TASK_NUMBER child
    >>= λ c. task_of number >>= λ t. task_of c >>= λ n. Ok (Take (event.Fork t n))

abbrev pub plain_event : List ℕ → ℕ → Result Request LineFault
plain_event verb number =
    if bytes_eq verb (codes "new") then (task_of number >>= λ t. Ok (Take (event.NewTask t)))
    else if bytes_eq verb (codes "end") then (task_of number >>= λ t. Ok (Take (event.EndTask t)))
    else if bytes_eq verb (codes "enter") then (task_of number >>= λ t. Ok (Take (event.EnterKernel t)))
    else if bytes_eq verb (codes "exit") then (task_of number >>= λ t. Ok (Take (event.ExitToUser t)))
    else if bytes_eq verb (codes "wake") then (task_of number >>= λ t. Ok (Take (event.Wake t)))
    else Err BadLine

-- a line with no word behind its task: task new T, and so on
abbrev pub plain_line : List ℕ → ℕ → List (List ℕ) → Result Request LineFault
plain_line verb number [] = plain_event verb number
plain_line verb number words = Err BadLine

abbrev pub verb_line : NameResolver → List ℕ → List (List ℕ) → ℕ → Result Request LineFault
verb_line names verb words number =
    if bytes_eq verb (codes "sleep") then sleep_line names number words
    else if bytes_eq verb (codes "fork") then fork_line number words
    else plain_line verb number words

-- the words after task: a verb, a task, and what the verb needs
abbrev pub task_line : NameResolver → List (List ℕ) → Result Request LineFault
task_line names (verb ∷ task ∷ words) = number_to MAX_TASK_NUMBER task >>= verb_line names verb words
task_line names words = Err BadLine

-- OBJ ID: the key of a variable
abbrev pub key_of : List (List ℕ) → Result ShadowKey LineFault
key_of words = two_words words >>= λ w. number_of w.0 >>= λ o. number_of w.1 >>= λ i. Ok (record { obj = o; id = i })

-- OBJ ID V: a key and a value
abbrev pub variable_of : List (List ℕ) → Result (ShadowKey × ShadowValue) LineFault
variable_of (obj ∷ id ∷ value ∷ []) = number_of obj >>= λ o. number_of id >>= λ i. value_of value >>= λ v. Ok (record { obj = o; id = i }, v)
variable_of words = Err BadLine

-- shadow alloc OBJ ID V
abbrev pub alloc_line : List (List ℕ) → Result Request LineFault
alloc_line words = variable_of words >>= λ v. Ok (Take (event.ShadowAlloc v.0 v.1))

-- shadow getalloc OBJ ID V
abbrev pub get_or_alloc_line : List (List ℕ) → Result Request LineFault
get_or_alloc_line words = variable_of words >>= λ v. Ok (Take (event.ShadowGetOrAlloc v.0 v.1))

-- shadow free OBJ ID
abbrev pub free_line : List (List ℕ) → Result Request LineFault
free_line words = key_of words >>= λ k. Ok (Take (event.ShadowFree k))

-- shadow freeall ID
abbrev pub free_all_line : List (List ℕ) → Result Request LineFault
free_all_line words = only_word words >>= λ id. number_of id >>= λ i. Ok (Take (event.ShadowFreeAll i))

-- shadow get OBJ ID
abbrev pub get_line : List (List ℕ) → Result Request LineFault
get_line words = key_of words >>= λ k. Ok (Ask (look.Variable k))

abbrev pub shadow_line : List (List ℕ) → Result Request LineFault
shadow_line [] = Err BadLine
shadow_line (verb ∷ words) =
    if bytes_eq verb (codes "alloc") then alloc_line words
    else if bytes_eq verb (codes "getalloc") then get_or_alloc_line words
    else if bytes_eq verb (codes "free") then free_line words
    else if bytes_eq verb (codes "freeall") then free_all_line words
    else if bytes_eq verb (codes "get") then get_line words
    else Err BadLine

-- text OBJECT
abbrev pub text_line : NameResolver → List (List ℕ) → Result Request LineFault
text_line names words = only_name words >>= λ object. object_of names object >>= λ o. Ok (Ask (look.Text o))

-- stack SYM
abbrev pub stack_line : NameResolver → List (List ℕ) → Result Request LineFault
stack_line names words =
    only_word words >>= λ symbol. ok_or (spelling_of symbol) BadLine
    >>= λ s. site_of names s >>= λ site. Ok (Ask (look.Stack site))

-- pick T SYM
abbrev pub pick_line : NameResolver → List (List ℕ) → Result Request LineFault
pick_line names words =
    two_words words >>= λ w. number_to MAX_TASK_NUMBER w.0 >>= λ n. ok_or (spelling_of w.1) BadLine
    >>= λ s. task_of n >>= λ t. site_of names s >>= λ site. Ok (Ask (look.Pick t site))

-- runs PATCH OBJECT
abbrev pub runs_line : NameResolver → List (List ℕ) → Result Request LineFault
runs_line names words =
    two_words words
    >>= λ w. if is_console_name w.0 && is_console_name w.1
    then (patch_of names w.0 >>= λ p. object_of names w.1 >>= λ o. Ok (Ask (look.Runs p o)))
    else Err BadLine

-- rewind K
abbrev pub rewind_line : List (List ℕ) → Result Request LineFault
rewind_line words = only_word words >>= λ mark. number_to MAX_MARK mark >>= λ k. Ok (Rewind k)

-- the keyword that the first word of a line spells
abbrev pub keyword_of : List ℕ → Option Keyword
keyword_of word =
    if bytes_eq word (codes "task") then Some keyword.Task
    else if bytes_eq word (codes "poll") then Some keyword.Poll
    else if bytes_eq word (codes "shadow") then Some keyword.Shadow
    else if bytes_eq word (codes "cat") then Some keyword.Cat
    else if bytes_eq word (codes "echo") then Some keyword.Echo
    else if bytes_eq word (codes "load") then Some keyword.Load
    else if bytes_eq word (codes "insmod") then Some keyword.Insmod
    else if bytes_eq word (codes "rmmod") then Some keyword.Rmmod
    else if bytes_eq word (codes "ls") then Some keyword.List
    else if bytes_eq word (codes "text") then Some keyword.Text
    else if bytes_eq word (codes "stack") then Some keyword.Stack
    else if bytes_eq word (codes "pick") then Some keyword.Pick
    else if bytes_eq word (codes "runs") then Some keyword.Runs
    else if bytes_eq word (codes "mark") then Some keyword.Mark
    else if bytes_eq word (codes "rewind") then Some keyword.Rewind
    else if bytes_eq word (codes "seal") then Some keyword.Seal
    else None

abbrev pub line_of : NameResolver → Option Keyword → List (List ℕ) → Result Request LineFault
line_of names (Some keyword.Load) words = load_line names words
line_of names (Some keyword.Insmod) words = insmod_line names words
line_of names (Some keyword.Rmmod) words = rmmod_line names words
line_of names (Some keyword.Poll) words = alone (Take event.Poll) words
line_of names (Some keyword.Echo) words = echo_line names words
line_of names (Some keyword.Cat) words = cat_line names words
line_of names (Some keyword.List) words = list_line names words
line_of names (Some keyword.Task) words = task_line names words
line_of names (Some keyword.Shadow) words = shadow_line words
line_of names (Some keyword.Text) words = text_line names words
line_of names (Some keyword.Stack) words = stack_line names words
line_of names (Some keyword.Pick) words = pick_line names words
line_of names (Some keyword.Runs) words = runs_line names words
line_of names (Some keyword.Mark) words = alone (Ask look.Mark) words
line_of names (Some keyword.Rewind) words = rewind_line words
line_of names (Some keyword.Seal) words = alone Seal words
line_of names None words = Err BadLine

abbrev pub request_of_words : NameResolver → List (List ℕ) → Option (Result Request LineFault)
request_of_words names [] = None
request_of_words names (first ∷ words) = Some (line_of names (keyword_of first) words)

-- what a line asks for, or its fault; a line without words asks for nothing and has no answer
abbrev pub request_of : NameResolver → List ℕ → Option (Result Request LineFault)
request_of names line = request_of_words names (words_of line)
