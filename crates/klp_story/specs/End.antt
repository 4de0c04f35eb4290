-- How a run ends, in words.
use Rattle.std.specs.Prelude.{ℕ, ◌-◌, ◌==◌, ◌&&◌, nat_lt, true, false, Bool, List, [], ◌∷◌, ◌++◌, codes, length, count_by, sum_by, Option, Some, None, is_some, if◌then◌else◌}
use Rattle.std.specs.Fmt.{decimal}
use Rattle.klp_types.specs.declared.task.Mode.{Mode}
use Rattle.klp_types.specs.declared.task.Mode.TheVariants.{User, Kernel, Asleep}
use Rattle.klp_types.specs.declared.version.Transition.{Transition}
use Rattle.klp_timeline.specs.declared.course.Since.{Since}
use Rattle.klp_timeline.specs.declared.course.Since.TheVariants.{Turned, Undone}
use Rattle.klp_timeline.specs.declared.course.Course.{Course}
use Rattle.klp_timeline.specs.declared.moment.Stay.{Stay}
use Rattle.klp_timeline.specs.declared.moment.Stay.TheVariants.{Holds, Outdated}
use Rattle.klp_timeline.specs.declared.moment.View.{View}
use Rattle.klp_timeline.specs.declared.moment.Said.{Said}
use Rattle.klp_timeline.specs.declared.moment.Said.TheVariants.{Did, Slept}
use Rattle.klp_timeline.specs.declared.moment.Sentence.{Sentence}
use Rattle.klp_timeline.specs.Course.{course_of}
use Rattle.klp_timeline.specs.Facts.{is_outdated}
use Rattle.klp_timeline.specs.Lagging.{lagging}
use Rattle.klp_timeline.specs.Shown.{is_lasting}
use Rattle.klp_catalog.specs.Catalog.{Catalog}
use Rattle.klp_names.specs.Names.{Names}
use Rattle.klp_markup.specs.Names.{version_text, is_of_kernel}
use Rattle.klp_markup.specs.Tasks.{plural, tasks_text}
use Rattle.klp_markup.specs.Times.{line_time}
use Rattle.klp_story.specs.declared.end.TheConstants.{MAX_HOLDERS}
use Rattle.klp_story.specs.Words.{counted_text, link_text, quoted_text, why}

abbrev pub way : Bool → List ℕ
way true = codes " is in transition, patching"
way false = codes " is in transition, unpatching"

abbrev pub since_text : Names → Option Since → List ℕ
since_text names None = []
since_text names (Some (Turned line)) = codes " since " ++ link_text (codes "line ") line ++ line_time names line
since_text names (Some (Undone line)) =
    codes " since " ++ link_text (codes "line ") line ++ line_time names line ++ codes " at least, where events were undone"

abbrev pub forced_text : Bool → List ℕ
forced_text is_forced = if is_forced then codes ", and was forced" else []

abbrev pub is_holding : Option Stay → Bool
is_holding (Some (Holds move version)) = true
is_holding other = false

abbrev pub held_text : ℕ → List ℕ
held_text count =
    if count == 0 then codes ". Nobody holds it up." else counted_text (codes ". ") count (codes " task holds it up.") (codes " tasks hold it up.")

-- patches behind others
abbrev pub also_text : Catalog → List ℕ → List ℕ
also_text catalog [] = []
also_text catalog (patch ∷ patches) = codes ", " ++ quoted_text catalog patch ++ also_text catalog patches

abbrev pub enabled_text : Catalog → List ℕ → List ℕ
enabled_text catalog [] = codes " No patch is enabled."
enabled_text catalog (patch ∷ patches) = codes " Enabled: " ++ quoted_text catalog patch ++ also_text catalog patches ++ codes "."

abbrev pub rest_text : Catalog → List ℕ → List ℕ
rest_text catalog patches = codes "No patch is in transition." ++ enabled_text catalog patches

-- what moves, or that nothing does
abbrev pub state_text : Names → Catalog → View → Course → Option Transition → List ℕ
state_text names catalog view course None = rest_text catalog view.installed.items
state_text names catalog view course (Some move) =
    quoted_text catalog move.patch ++ way move.target ++ since_text names course.since ++ forced_text course.is_forced ++ held_text (count_by is_holding view.stays)

abbrev pub outdated_text : ℕ → List ℕ
outdated_text count =
    if count == 0 then []
    else counted_text (codes " ") count (codes " task sleeps in code that isn't called now.") (codes " tasks sleep in code that isn't called now.")

-- the first so many sentences that last
abbrev pub first_lasting : ℕ → List Sentence → List Sentence
first_lasting room [] = []
first_lasting room (sentence ∷ rest) =
    if nat_lt 0 room && is_lasting sentence then sentence ∷ first_lasting (room - 1) rest else first_lasting room rest

-- the kernel itself is never unloaded
abbrev pub uncalled_text : Bool → List ℕ
uncalled_text true = codes ", which isn't called now.\n"
uncalled_text false = codes ", which isn't called now: the module or patch that has it mustn't be unloaded.\n"

abbrev pub reason_text : Catalog → Stay → List ℕ
reason_text catalog (Holds move version) = version_text catalog version ++ codes ", " ++ why move.target version ++ codes ".\n"
reason_text catalog (Outdated version) = version_text catalog version ++ uncalled_text (is_of_kernel catalog.names version)

-- who still sleeps there, since which line
abbrev pub sleeper_text : Names → Catalog → ℕ → Said → List ℕ
sleeper_text names catalog line (Did fact) = []
sleeper_text names catalog line (Slept sleepers) =
    codes "<li class=holds><b>" ++ tasks_text names sleepers.tasks ++ codes "</b>, in the way since " ++ link_text (codes "line ") line ++ line_time names line ++ codes ": asleep in "
    ++ reason_text catalog sleepers.stay

abbrev pub sleepers_text : Names → Catalog → List Sentence → List ℕ
sleepers_text names catalog [] = []
sleepers_text names catalog (sentence ∷ rest) = sleeper_text names catalog sentence.line sentence.said ++ sleepers_text names catalog rest

abbrev pub tasks_said : Said → ℕ
tasks_said (Did fact) = 0
tasks_said (Slept sleepers) = length sleepers.tasks

abbrev pub tasks_of : Sentence → ℕ
tasks_of sentence = tasks_said sentence.said

-- those that aren't told of here
abbrev pub others_text : ℕ → List ℕ
others_text count =
    if count == 0 then []
    else counted_text (codes "<li class=holds>") count (codes " task more, of which the sentences below tell.\n")
    (codes " tasks more, of which the sentences below tell.\n")

-- all who sleep where it matters: some by themselves, and how many others
abbrev pub all_sleepers_text : Names → Catalog → List (Option Stay) → List Sentence → List ℕ
all_sleepers_text names catalog stays sentences =
    let shown = first_lasting MAX_HOLDERS sentences in sleepers_text names catalog shown ++ others_text (count_by is_some stays - sum_by tasks_of shown)

-- where so many tasks are that merely lag, and when they switch
abbrev pub switching : Mode → ℕ → List ℕ
switching User count =
    plural count (codes " lags in user space: it switches once it has been in the kernel again.\n")
    (codes " lag in user space: each switches once it has been in the kernel again.\n")
switching Kernel count =
    plural count (codes " lags in the kernel: it switches as it leaves.\n") (codes " lag in the kernel: each switches as it leaves.\n")
switching Asleep count =
    plural count (codes " lags, asleep elsewhere: the next poll switches it.\n") (codes " lag, asleep elsewhere: the next poll switches them.\n")

abbrev pub item_text : Names → Mode → List ℕ → List ℕ
item_text names mode [] = []
item_text names mode (task ∷ tasks) =
    codes "<li><b>" ++ tasks_text names (task ∷ tasks) ++ codes "</b>" ++ switching mode (length (task ∷ tasks))

-- who lags there, if anybody does
abbrev pub lagging_text : Names → Mode → List (Option Mode) → List ℕ
lagging_text names mode waits = item_text names mode (lagging mode waits)

abbrev pub all_lagging_text : Names → List (Option Mode) → List ℕ
all_lagging_text names waits = lagging_text names User waits ++ lagging_text names Kernel waits ++ lagging_text names Asleep waits

-- where each of so many lines was refused
abbrev pub refused_text : Option ℕ → List ℕ
refused_text None = []
refused_text (Some lines) =
    if lines == 1 then codes "Nothing was done: the only line was refused. "
    else codes "Nothing was done: all " ++ decimal lines ++ codes " lines were refused. "

-- a page's first line; the number is that of the lines, where each was refused
unfoldable pub first_text : Names → Catalog → View → List Sentence → Option ℕ → List ℕ
first_text names catalog view sentences refused =
    codes "<h1>" ++ refused_text refused ++ codes "At the end: " ++ state_text names catalog view (course_of sentences) view.moving ++ outdated_text (count_by is_outdated view.stays) ++ codes "</h1>"

-- and what belongs to it
abbrev pub end_text : Names → Catalog → View → List Sentence → Option ℕ → List ℕ
end_text names catalog view sentences refused =
    first_text names catalog view sentences refused ++ codes "<ul class=story>\n" ++ all_sleepers_text names catalog view.stays sentences ++ all_lagging_text names view.waits ++ codes "</ul>\n"
