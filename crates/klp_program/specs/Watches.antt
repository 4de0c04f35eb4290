-- What a trace comes to over a catalog's text.
use Rattle.std.specs.Prelude.{◌≡◌, ℕ, Bool, true, false, List, Option, count_by, Result, Ok, Err}
use Rattle.std.specs.Str.Lines.{lines}
use Rattle.klp_model.specs.declared.seen.Seen.TheVariants.{Event as Happens, Call as Calls, Return as Returns}
use Rattle.klp_catalog_text.specs.Plan.{Plan}
use Rattle.klp_catalog_text.specs.Text.{plan_of, IsFaultOf}
use Rattle.klp_core.specs.Journaled.{Journaled}
use Rattle.klp_manager_state.specs.Managed.{Managed, setting_of}
use Rattle.klp_watch.specs.Watching.{IsConsistent}
use Rattle.klp_watch.specs.declared.difference.Difference.{Difference}
use Rattle.klp_watch.specs.declared.difference.Difference.TheVariants.{Premise}
use Rattle.klp_watch.specs.declared.difference.Differs.{Differs as FirstDifference}
use Rattle.klp_watch.specs.declared.observed.Observed.{Observed}
use Rattle.klp_watch.specs.declared.observed.Observed.TheVariants.{Seen as Item, Answered}
use Rattle.klp_watch.specs.Compared.{taken_from}
use Rattle.klp_watch.specs.Refused.{refused_in}
use Rattle.klp_watch.specs.declared.refused.RefusedEvents.{RefusedEvents}
use Rattle.klp_watch.specs.ComparedWhole.{AreAllSo, IsDifferenceOfWhole}
use Rattle.klp_trace.specs.Traces.{IsTraceOf, IsTraceFault}
use Rattle.klp_boot.specs.declared.fault.Fault.{Fault}
use Rattle.klp_boot.specs.declared.fault.Fault.TheVariants.{NoMemory, Text, Trace}
use Rattle.klp_program.specs.declared.verdict.Counts.{Counts}
use Rattle.klp_program.specs.declared.verdict.Verdict.{Verdict}
use Rattle.klp_program.specs.declared.verdict.Verdict.TheVariants.{Honest, Dishonest, Differs}
use Rattle.klp_boot.specs.Booted.{IsBootedOver, IsBootFault}

abbrev pub is_event : Observed → Bool
is_event (Item (Happens event)) = true
is_event (Answered event answer) = true
is_event other = false

abbrev pub is_call : Observed → Bool
is_call (Item (Calls task site)) = true
is_call other = false

abbrev pub is_return : Observed → Bool
is_return (Item (Returns task)) = true
is_return other = false

-- what is compared with the rules: an answer, or what was seen
abbrev pub is_compared : Observed → Bool
is_compared (Item item) = false
is_compared other = true

abbrev pub counted : List Observed → RefusedEvents → Counts
counted items refused = record {
  events = count_by is_event items;
  calls = count_by is_call items;
  returns = count_by is_return items;
  compared = count_by is_compared items;
  refused = refused;
}

-- what happens of the items is an honest run to their end, consistent at every moment; each item is as the rules say; so many are of
-- each kind; and these are refused
pub record IsHonestBy (before after : Managed) (items : List Observed) (counts : Counts) : Type 0 where
  pub so : AreAllSo before after items
  pub consistent : IsConsistent (setting_of before) before.state (taken_from items)
  pub counts_are : counts ≡ counted items (refused_in (setting_of before) before.state items)

-- an item that breaks a premise isn't honest, and any other differs
abbrev pub reported_as : ℕ → Difference → Verdict
reported_as item (Premise cause) = Dishonest (record { item = item; cause = cause })
reported_as item difference = Differs (record { item = item; cause = difference })

abbrev pub reported : FirstDifference → Verdict
reported differs = reported_as differs.item differs.cause

-- the manager was held beside the kernel over the items, all of them, however many they are
abbrev pub IsFound : Managed → Managed → List Observed → Verdict → Type 0
IsFound before after items (Honest counts) = IsHonestBy before after items counts
IsFound before after items (Dishonest fault) = IsDifferenceOfWhole before after items fault.item (Premise fault.cause)
IsFound before after items (Differs differs) = IsDifferenceOfWhole before after items differs.item differs.cause

-- it was over those of a trace
pub record IsVerdict (booted : Journaled) (trace : List ℕ) (verdict : Verdict) : Type 0 where
  pub items : List Observed
  pub times : List (Option ℕ)
  pub read : IsTraceOf booted trace items times
  pub left : Managed
  pub found : IsFound booted.managed left items verdict

abbrev pub IsTraceFaultIn : Journaled → List ℕ → Fault → Type 0
IsTraceFaultIn booted trace (Trace fault) = IsTraceFault booted (lines trace) fault.line fault.kind
IsTraceFaultIn booted trace other = ⊥

abbrev pub WatchesBy : Journaled → List ℕ → Result Verdict Fault → Type 0
WatchesBy booted trace (Ok verdict) = IsVerdict booted trace verdict
WatchesBy booted trace (Err fault) = IsTraceFaultIn booted trace fault

-- a manager was booted over a plan, and watched; or none was booted, or the trace wasn't read
abbrev pub WatchesPlan : Plan → List ℕ → Result Verdict Fault → Type 0
WatchesPlan plan trace (Ok verdict) = (booted : Journaled) × IsBootedOver plan booted × IsVerdict booted trace verdict
WatchesPlan plan trace (Err (Trace fault)) = (booted : Journaled) × IsBootedOver plan booted × IsTraceFaultIn booted trace (Trace fault)
WatchesPlan plan trace (Err fault) = IsBootFault plan fault

-- the same over a text
abbrev pub Watches : List ℕ → List ℕ → Result Verdict Fault → Type 0
Watches text trace (Err NoMemory) = Unit {0}
Watches text trace (Err (Text fault)) = IsFaultOf text fault.line fault.kind
Watches text trace result = (plan : Plan) × (plan_of text ≡ Ok plan) × WatchesPlan plan trace result
