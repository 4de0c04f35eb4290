-- The sentences about a trace, over a catalog's text.
use Rattle.std.specs.Prelude.{◌≡◌, ℕ, List, Option, Ok}
use Rattle.std.specs.Str.Lines.{lines}
use Rattle.klp_catalog_text.specs.Plan.{Plan}
use Rattle.klp_catalog_text.specs.Text.{plan_of}
use Rattle.klp_manager_state.specs.Managed.{setting_of}
use Rattle.klp_core.specs.Journaled.{Journaled}
use Rattle.klp_boot.specs.Booted.{IsBootedOver}
use Rattle.klp_timeline.specs.declared.moment.Moment.{Moment}
use Rattle.klp_timeline.specs.declared.moment.Sentence.{Sentence}
use Rattle.klp_timeline.specs.declared.moment.View.{View}
use Rattle.klp_timeline.specs.Sentences.{sentences_of}
use Rattle.klp_trace.specs.Traces.{IsTraceOf}
use Rattle.klp_watch.specs.declared.observed.Observed.{Observed}
use Rattle.klp_page.specs.Views.{IsView}
use Rattle.klp_page.specs.declared.row.Row.{Row}
use Rattle.klp_trace_page.specs.Traced.{AreTraced}

-- these are the sentences about the moments of a trace, as its page has them; a booted manager plays the trace
pub record AreSentencesOf (booted : Journaled) (trace : List ℕ) (sentences : List Sentence) : Type 0 where
  pub items : List Observed
  pub times : List (Option ℕ)
  pub read : IsTraceOf booted trace items times
  pub opening : View
  pub run : List Moment
  pub rows : List Row
  pub left : Journaled
  pub begins : IsView (setting_of booted.managed) booted.managed.state opening
  pub traced : AreTraced booted left opening (lines trace) items rows run
  pub all_are : sentences ≡ sentences_of opening run

-- the same of a manager that is booted over a catalog's text
pub record AreSentencesOver (catalog trace : List ℕ) (sentences : List Sentence) : Type 0 where
  pub plan : Plan
  pub planned : plan_of catalog ≡ Ok plan
  pub booted : Journaled
  pub is_booted : IsBootedOver plan booted
  pub are_sentences : AreSentencesOf booted trace sentences
