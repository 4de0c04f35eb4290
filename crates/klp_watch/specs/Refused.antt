-- Which events of a trace the rules refuse, where the trace doesn't say what the kernel answered.
use Rattle.std.specs.Prelude.{ℕ, suc, ◌+◌, List, [], ◌∷◌, Option, Some, None, is_some}
use Rattle.std.specs.List.{count_by}
use Rattle.std.specs.Result.{result_err}
use Rattle.klp_types.specs.Setting.{Setting}
use Rattle.klp_model.specs.declared.event.Refusal.{Refusal}
use Rattle.klp_model.specs.declared.seen.Seen.{Seen}
use Rattle.klp_model.specs.declared.seen.Seen.TheVariants.{Event as Happens, Call as Calls, Return as Returns}
use Rattle.klp_model.specs.State.{State}
use Rattle.klp_model.specs.Run.{run}
use Rattle.klp_model.specs.Observed.{events_of}
use Rattle.klp_journal.specs.Journal.{Group}
use Rattle.klp_core.specs.Taking.{answer_in}
use Rattle.klp_watch.specs.declared.observed.Observed.{Observed}
use Rattle.klp_watch.specs.declared.observed.Observed.TheVariants.{Seen as Item}
use Rattle.klp_watch.specs.declared.refused.FirstRefused.{FirstRefused}
use Rattle.klp_watch.specs.declared.refused.RefusedEvents.{RefusedEvents}
use Rattle.klp_watch.specs.Compared.{taken_of}

-- why what happens is refused, where the state is this and the journal has these groups. Only events are refused
abbrev pub refusal_of : Setting → State → List Group → Seen → Option Refusal
refusal_of setting state groups (Happens event) = result_err (answer_in setting state groups event)
refusal_of setting state groups (Calls task site) = None
refusal_of setting state groups (Returns task) = None

-- the same of an observed item. An event with the kernel's answer isn't counted: the kernel refused it too
abbrev pub refusal_at : Setting → State → List Group → Observed → Option Refusal
refusal_at setting state groups (Item item) = refusal_of setting state groups item
refusal_at setting state groups other = None

-- why the rules refuse each item, in the state behind the events before it. No journal has a say in it: it might as well be empty
abbrev pub refusals : Setting → State → List Observed → List (Option Refusal)
refusals setting state [] = []
refusals setting state (item ∷ items) =
    refusal_at setting state [] item ∷ refusals setting (run setting state (events_of (taken_of item))) items

-- the first refusal of a list, whose first place has this number
abbrev pub first_refused : ℕ → List (Option Refusal) → Option FirstRefused
first_refused number [] = None
first_refused number (None ∷ later) = first_refused (suc number) later
first_refused number (Some refusal ∷ later) = Some (record { item = number; refusal = refusal })

-- the items that the rules refuse: how many they are, and the first, counted from 1
abbrev pub refused_in : Setting → State → List Observed → RefusedEvents
refused_in setting state items = record {
  count = count_by is_some (refusals setting state items);
  first = first_refused 1 (refusals setting state items);
}

abbrev pub no_refusal : RefusedEvents
no_refusal = record { count = 0; first = None }

-- the first of both
abbrev pub first_of : Option FirstRefused → Option FirstRefused → Option FirstRefused
first_of (Some first) later = Some first
first_of None later = later

-- what became of one more item, which has this number
abbrev pub with_refusal : RefusedEvents → ℕ → Option Refusal → RefusedEvents
with_refusal refused number None = refused
with_refusal refused number (Some refusal) = record {
  count = refused.count + 1;
  first = first_of refused.first (Some (record { item = number; refusal = refusal }));
}
