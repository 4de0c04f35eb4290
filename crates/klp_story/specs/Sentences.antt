-- A page's sentences, in words.
use Rattle.std.specs.Prelude.{ℕ, ◌-◌, ◌==◌, true, false, Bool, List, [], ◌∷◌, ◌++◌, codes, length, Option, Some, None, if◌then◌else◌}
use Rattle.std.specs.Fmt.{decimal, signed_decimal}
use Rattle.klp_timeline.specs.declared.moment.Stay.{Stay}
use Rattle.klp_timeline.specs.declared.moment.Stay.TheVariants.{Holds, Outdated}
use Rattle.klp_timeline.specs.declared.moment.Fact.{Fact}
use Rattle.klp_timeline.specs.declared.moment.Fact.TheVariants.{Forces, PreFailed, Comes, Goes, Undoes, Starts, Reverses, Completes, Leaves}
use Rattle.klp_timeline.specs.declared.moment.Said.{Said}
use Rattle.klp_timeline.specs.declared.moment.Said.TheVariants.{Did, Slept}
use Rattle.klp_timeline.specs.declared.moment.Sentence.{Sentence}
use Rattle.klp_timeline.specs.Shown.{shown, left_out}
use Rattle.klp_catalog.specs.Catalog.{Catalog}
use Rattle.klp_names.specs.Names.{Names}
use Rattle.klp_markup.specs.Escaped.{name_text}
use Rattle.klp_markup.specs.Names.{object_name, version_text, is_of_kernel}
use Rattle.klp_markup.specs.Tasks.{plural, tasks_text}
use Rattle.klp_markup.specs.Times.{line_time, span_time}
use Rattle.klp_story.specs.Words.{counted_text, link_text, quoted_text, why}

-- in the kernel's words
abbrev pub starting : Bool → List ℕ
starting true = codes ": starting patching transition."
starting false = codes ": starting unpatching transition."

abbrev pub reversing : Bool → List ℕ
reversing true = codes ": reversing transition from unpatching to patching."
reversing false = codes ": reversing transition from patching to unpatching."

abbrev pub completing : Bool → List ℕ
completing true = codes ": patching complete"
completing false = codes ": unpatching complete"

-- what it means that a transition is complete, where so many tasks sleep inside of code that isn't called now
abbrev pub meaning : Bool → ℕ → List ℕ
meaning target sleepers =
    if sleepers == 0 then (if target then codes ": each task calls its functions." else codes ": no task calls its functions.")
    else counted_text (codes ", but ") sleepers (codes " task slept on in code that wasn't called then.")
    (codes " tasks slept on in code that wasn't called then.")

abbrev pub undone_text : ℕ → List ℕ
undone_text count = counted_text [] count (codes " event is undone: all is as it was at mark ") (codes " events are undone: all is as it was at mark ")

abbrev pub fact_text : Catalog → Fact → List ℕ
fact_text catalog (Forces move) = quoted_text catalog move.patch ++ codes ": the transition is forced, so consistency isn't promised from here on."
fact_text catalog (PreFailed patch object status) =
    quoted_text catalog patch ++ codes ": its pre-patch callback for " ++ name_text (object_name catalog.names object) ++ codes " answered " ++ signed_decimal status ++ codes ", so nothing came of it."
fact_text catalog (Comes object) = name_text (object_name catalog.names object) ++ codes " is loaded."
fact_text catalog (Goes object) = name_text (object_name catalog.names object) ++ codes " is unloaded."
fact_text catalog (Undoes from to) = undone_text (from - to) ++ decimal to ++ codes "."
fact_text catalog (Starts move) = quoted_text catalog move.patch ++ starting move.target
fact_text catalog (Reverses move) = quoted_text catalog move.patch ++ reversing move.target
fact_text catalog (Completes move sleepers) = quoted_text catalog move.patch ++ completing move.target ++ meaning move.target sleepers
fact_text catalog (Leaves patch) = quoted_text catalog patch ++ codes " was replaced, and has left."

-- from which line to which a stay is seen that ended
abbrev pub lines_text : ℕ → ℕ → List ℕ
lines_text line to =
    if to == line then codes "<li>" ++ link_text (codes "Line ") line
    else codes "<li>" ++ link_text (codes "Lines ") line ++ codes " to " ++ decimal to

-- from which line to which a stay is seen, and how long it lasted; None where it still is
abbrev pub span_text : Names → ℕ → Option ℕ → List ℕ
span_text names line None = codes "<li class=holds>Since " ++ link_text (codes "line ") line ++ line_time names line ++ codes ", and still: "
span_text names line (Some to) = lines_text line to ++ span_time names line (Some to) ++ codes ": "

-- what the label of a drawing leads to
unfoldable pub anchor_text : ℕ → ℕ → List ℕ
anchor_text line task = codes "<i id=stay-" ++ decimal line ++ codes "-" ++ decimal task ++ codes "></i>"

abbrev pub anchors_text : ℕ → List ℕ → List ℕ
anchors_text line [] = []
anchors_text line (task ∷ tasks) = anchor_text line task ++ anchors_text line tasks

-- what so many tasks do, or did
abbrev pub holding : Option ℕ → ℕ → List ℕ
holding None count = plural count (codes " holds ") (codes " hold ")
holding (Some to) count = codes " held "

abbrev pub sleeping : Option ℕ → ℕ → List ℕ
sleeping None count = plural count (codes " sleeps in ") (codes " sleep in ")
sleeping (Some to) count = codes " slept in "

-- the kernel itself is never unloaded
abbrev pub warning : Bool → Option ℕ → List ℕ
warning true None = codes ", which isn't called now."
warning false None = codes ", which isn't called now: the module or patch that has it mustn't be unloaded."
warning is_of_kernel (Some to) = codes ", which wasn't called then."

abbrev pub stay_text : Catalog → Stay → Option ℕ → ℕ → List ℕ
stay_text catalog (Holds move version) to count =
    holding to count ++ quoted_text catalog move.patch ++ codes " up, asleep in " ++ version_text catalog version ++ codes ", " ++ why move.target version ++ codes "."
stay_text catalog (Outdated version) to count = sleeping to count ++ version_text catalog version ++ warning (is_of_kernel catalog.names version) to

abbrev pub said_text : Names → Catalog → ℕ → Said → List ℕ
said_text names catalog line (Did fact) = codes "<li>" ++ link_text (codes "Line ") line ++ line_time names line ++ codes ": " ++ fact_text catalog fact
said_text names catalog line (Slept sleepers) =
    span_text names line sleepers.to ++ anchors_text line sleepers.tasks ++ tasks_text names sleepers.tasks
    ++ stay_text catalog sleepers.stay sleepers.to (length sleepers.tasks)

abbrev pub sentence_text : Names → Catalog → Sentence → List ℕ
sentence_text names catalog sentence = said_text names catalog sentence.line sentence.said ++ codes "\n"

abbrev pub sentences_text : Names → Catalog → List Sentence → List ℕ
sentences_text names catalog [] = []
sentences_text names catalog (sentence ∷ rest) = sentence_text names catalog sentence ++ sentences_text names catalog rest

abbrev pub earlier_text : ℕ → List ℕ
earlier_text count = if count == 0 then [] else codes "<li>And " ++ decimal count ++ codes " earlier, which the lines below tell.\n"

-- the sentences that are told of, and how many aren't
abbrev pub story_text : Names → Catalog → List Sentence → List ℕ
story_text names catalog sentences = sentences_text names catalog (shown sentences) ++ earlier_text (left_out sentences)
