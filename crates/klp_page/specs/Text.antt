-- The text of a page.
use Rattle.std.specs.Prelude.{ℕ, ◌==◌, ◌&&◌, ◌+◌, ◌-◌, nat_lt, Bool, true, false, List, [], ◌∷◌, ◌++◌, codes, length, Option, Some, None, is_some, if◌then◌else◌}
use Rattle.std.specs.Fmt.{decimal}
use Rattle.klp_catalog.specs.Catalog.{Catalog}
use Rattle.klp_markup.specs.Escaped.{escaped}
use Rattle.klp_markup.specs.Tasks.{each_text}
use Rattle.klp_markup.specs.Times.{seconds_text, line_time}
use Rattle.klp_names.specs.Names.{Names, start_of, since_start}
use Rattle.klp_story.specs.End.{end_text}
use Rattle.klp_story.specs.Sentences.{story_text}
use Rattle.klp_timeline.specs.declared.moment.Fact.TheVariants.{Starts}
use Rattle.klp_timeline.specs.declared.moment.Said.{Said}
use Rattle.klp_timeline.specs.declared.moment.Said.TheVariants.{Did}
use Rattle.klp_timeline.specs.declared.moment.Sentence.{Sentence}
use Rattle.klp_timeline.specs.declared.moment.View.{View}
use Rattle.klp_drawing.specs.declared.style.TheConstants as drawing
use Rattle.klp_cards.specs.declared.style.TheConstants as cards
use Rattle.klp_page.specs.declared.head.Title.{Title}
use Rattle.klp_page.specs.declared.head.Differing.{Differing}
use Rattle.klp_page.specs.declared.row.Row.{Row}
use Rattle.klp_page.specs.declared.differences.TheConstants.{MAX_DIFFERENCES}
use Rattle.klp_page.specs.declared.style.TheConstants.{
  HEAD,
  STYLE,
  TIMED_STYLE,
  TRACE_STYLE,
  STYLE_END,
  COUNTS,
  AGREES,
  FIRST,
  FIRST_WORD,
  FIRST_END,
  STORY,
  RUN,
  LINES,
  FOOT,
  SET_UP,
  SET_UP_END,
  SET_UP_FOLDED,
  PLAIN_ROW,
  CARD_ROW,
  REFUSED,
  DIFFERING,
  SEEN,
  SEEN_END,
  DIFFERS_AT,
  DIFFERS_LINK,
  DIFFERS_LINE,
  RULES_SAY,
  KERNEL_SAYS,
  DIFFERS_END,
  DIFFERENCE,
  OPEN,
  ID,
  NUMBER,
  CARD_NUMBER,
  TIME,
  LINE,
  ANSWER,
  ANSWER_END,
  PLAIN_END,
  CARDS,
  CARDS_END,
  FOLD,
  FOLD_END,
  FOLDED,
  QUIET_ROWS,
  HELD,
  HELD_END,
}

-- the mark of a line after which these tasks hold the transition up, each of them; where there are none it has no mark
abbrev pub mark_text : Names → List ℕ → List ℕ
mark_text names [] = []
mark_text names (task ∷ tasks) = HELD.now ++ each_text names (task ∷ tasks) ++ HELD_END.now

abbrev pub refused_text : Bool → List ℕ
refused_text is_refused = if is_refused then REFUSED.now else []

abbrev pub open_text : Bool → List ℕ
open_text is_open = if is_open then OPEN.now else []

-- how long after the first time a line was, if that is known
abbrev pub time_text : Option ℕ → List ℕ
time_text None = []
time_text (Some time) = TIME.now ++ seconds_text time

-- the class of a row at which the kernel differs from the rules
abbrev pub differing_text : Bool → List ℕ
differing_text differs = if differs then DIFFERING.now else []

-- the kernel's answer, if a trace has it
abbrev pub kernel_answer : List ℕ → List ℕ
kernel_answer seen = if length seen == 0 then [] else SEEN.now ++ escaped seen ++ SEEN_END.now

-- the mark of a row at which the kernel differs from the rules
abbrev pub difference_text : Bool → List ℕ
difference_text differs = if differs then DIFFERENCE.now else []

-- what a trace says of the kernel beside the rules' answer
abbrev pub kernel_text : Row → List ℕ
kernel_text row = kernel_answer row.seen.items ++ difference_text row.differs

-- the line with its number and its time, its answer, the kernel's answer, and its mark
unfoldable pub shown_text : Names → ℕ → Row → List ℕ
shown_text names number row =
    decimal number ++ time_text (since_start names.timed number) ++ LINE.now ++ escaped row.line.items ++ ANSWER.now ++ escaped row.answer.items ++ ANSWER_END.now ++ kernel_text row ++ mark_text names row.holders.items

-- what stands in front of the number of a line
unfoldable pub start_text : List ℕ → ℕ → Row → List ℕ
start_text tag number row = tag ++ refused_text row.is_refused ++ differing_text row.differs ++ ID.now ++ decimal number

-- a row with cards opens, and shows them then
unfoldable pub row_text : Names → ℕ → Row → List ℕ
row_text names number row =
    if length row.cards.text == 0
    then start_text PLAIN_ROW.now number row ++ NUMBER.now ++ shown_text names number row ++ PLAIN_END.now
    else start_text CARD_ROW.now number row ++ open_text row.is_open ++ CARD_NUMBER.now ++ shown_text names number row ++ CARDS.now ++ row.cards.text ++ CARDS_END.now

-- of quiet lines in a row the first few are shown; then a fold begins
abbrev pub fold_start : ℕ → List ℕ
fold_start quiet = if quiet == QUIET_ROWS then FOLD.now else []

-- and ends with how many lines it has
abbrev pub fold_end : ℕ → List ℕ
fold_end quiet = if nat_lt QUIET_ROWS quiet then FOLD_END.now ++ decimal (quiet - QUIET_ROWS) ++ FOLDED.now else []

-- so many lines at a trace's beginning were made up; none of a script
abbrev pub set_up_of : Option Differing → ℕ
set_up_of None = 0
set_up_of (Some differing) = differing.set_up

-- these are folded away: the fold begins with the first line, if there are any
abbrev pub set_up_start : ℕ → List ℕ
set_up_start set_up = if set_up == 0 then [] else SET_UP.now

-- and ends in front of the line with this number, if that is the first behind them
abbrev pub set_up_end : ℕ → ℕ → List ℕ
set_up_end set_up number =
    if nat_lt 0 set_up && number == set_up + 1 then SET_UP_END.now ++ decimal set_up ++ SET_UP_FOLDED.now else []

-- rows, of which the first has this number, behind so many quiet ones: nothing else is folded away
abbrev pub rows_from : Names → ℕ → ℕ → ℕ → List Row → List ℕ
rows_from names set_up quiet number [] = set_up_end set_up number ++ fold_end quiet
rows_from names set_up quiet number (row ∷ rows) =
    if row.is_quiet && nat_lt set_up number
    then set_up_end set_up number ++ fold_start quiet ++ row_text names number row ++ rows_from names set_up (quiet + 1) (number + 1) rows
    else set_up_end set_up number ++ fold_end quiet ++ row_text names number row ++ rows_from names set_up 0 (number + 1) rows

abbrev pub rows_text : Names → ℕ → List Row → List ℕ
rows_text names set_up rows = set_up_start set_up ++ rows_from names set_up 0 1 rows

abbrev pub is_started : Said → Bool
is_started (Did (Starts moving)) = true
is_started other = false

abbrev pub is_start : Sentence → Bool
is_start sentence = is_started sentence.said

abbrev pub count_text : ℕ → List ℕ → List ℕ → List ℕ
count_text count one many = decimal count ++ (if count == 1 then one else many)

abbrev pub refusals_text : ℕ → List ℕ
refusals_text count = if count == 0 then [] else decimal count ++ codes " refused, "

-- what is shown, how much happened and was refused, and whether a transition still goes on
unfoldable pub title_text : Title → List ℕ
title_text title =
    escaped title.name.now ++ codes ": " ++ count_text title.lines (codes " line, ") (codes " lines, ") ++ refusals_text title.refused
    ++ count_text title.transitions (codes " transition") (codes " transitions") ++ (if title.is_moving then codes ", one still under way" else [])

-- what the style needs for times, if there are any
abbrev pub timed_style : Names → List ℕ
timed_style names = if is_some (start_of names.timed) then TIMED_STYLE.now else []

-- what the style needs for a trace
abbrev pub trace_style : Option Differing → List ℕ
trace_style differing = if is_some differing then TRACE_STYLE.now else []

-- what the style of a page is made of
abbrev pub style_text : Names → Option Differing → List ℕ
style_text names differing = STYLE.now ++ drawing.STYLE.now ++ cards.STYLE.now ++ timed_style names ++ trace_style differing

-- the number of the first row at which the kernel differs from the rules, with a link to it
abbrev pub first_text : ℕ → List ℕ
first_text first = FIRST.now ++ decimal first ++ FIRST_WORD.now ++ decimal first ++ FIRST_END.now

-- at how many rows the kernel differs from the rules, where there is one
abbrev pub different_text : Differing → List ℕ
different_text differing = codes ". <b class=holds>" ++ count_text differing.rows (codes " row differs") (codes " rows differ") ++ first_text differing.first

-- at how many rows of a trace the kernel differs from the rules, and the first of these; a page of a script says nothing of it
abbrev pub compared_text : Option Differing → List ℕ
compared_text None = []
compared_text (Some differing) =
    if differing.rows == 0 then AGREES.now
    else different_text differing

-- the document's beginning with its title and its style
unfoldable pub opening_text : Title → List ℕ
opening_text title =
    HEAD.now ++ title_text title ++ style_text title.names.now title.differing ++ STYLE_END.now

-- how many lines there are, where there is one and each was refused
abbrev pub all_refused : Title → Option ℕ
all_refused title = if nat_lt 0 title.refused && title.refused == title.lines then Some title.lines else None

-- how the run ends, below the document's beginning, and what happened above the sentences
unfoldable pub front_text : Title → Catalog → View → List Sentence → List ℕ
front_text title catalog view sentences = opening_text title ++ end_text title.names.now catalog view sentences (all_refused title) ++ COUNTS.now ++ title_text title ++ compared_text title.differing ++ STORY.now

-- where the kernel differs from the rules
unfoldable pub difference_place : Names → ℕ → List ℕ
difference_place names number =
    DIFFERS_AT.now ++ decimal number ++ DIFFERS_LINK.now ++ decimal number ++ DIFFERS_LINE.now ++ line_time names number

-- the sentence on a row at which the kernel differs from the rules: what they say, and what it answered or showed
unfoldable pub difference_sentence : Names → ℕ → Row → List ℕ
difference_sentence names number row =
    difference_place names number ++ RULES_SAY.now ++ escaped row.answer.items ++ KERNEL_SAYS.now ++ escaped row.seen.items ++ DIFFERS_END.now

-- a sentence on each of these rows that differs, of which the first has this number, and of at most so many
abbrev pub differences_from : Names → ℕ → ℕ → List Row → List ℕ
differences_from names number left [] = []
differences_from names number left (row ∷ rows) =
    if row.differs && nat_lt 0 left
    then difference_sentence names number row ++ differences_from names (number + 1) (left - 1) rows
    else differences_from names (number + 1) left rows

abbrev pub differences_text : Names → List Row → List ℕ
differences_text names rows = differences_from names 1 MAX_DIFFERENCES rows

-- the sentences, then those on what differs, and the drawing
unfoldable pub story_and_drawing : Names → Catalog → List Sentence → List Row → List ℕ → List ℕ
story_and_drawing names catalog sentences rows picture =
    story_text names catalog sentences ++ differences_text names rows ++ RUN.now ++ picture ++ LINES.now

-- the rows in order, below what stands above them
abbrev pub page_text : Title → Catalog → View → List Sentence → List ℕ → List Row → List ℕ
page_text title catalog view sentences picture rows =
    front_text title catalog view sentences ++ story_and_drawing title.names.now catalog sentences rows picture ++ rows_text title.names.now (set_up_of title.differing) rows ++ FOOT.now
