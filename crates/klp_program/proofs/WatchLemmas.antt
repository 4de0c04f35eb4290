-- What a trace comes to, over a plan and over a text.
use Rattle.std.proofs.Common.{◌≡◌, ℕ, List, sym, ap, subst}
use Rattle.std.specs.Prelude.{Result, Ok, Err, IfOk, IfErr, MatchResult}
use Rattle.klp_catalog_text.specs.Plan.{Plan}
use Rattle.klp_catalog_text.specs.Text.{plan_of}
use Rattle.klp_core.specs.Journaled.{Journaled}
use Rattle.klp_watch.specs.declared.difference.Difference.{Difference}
use Rattle.klp_watch.specs.declared.difference.Difference.TheVariants.{Premise, Answer, State, Files, Version, Text as OtherText}
use Rattle.klp_watch.specs.declared.difference.Differs.{Differs as FirstDifference}
use Rattle.klp_watch.specs.declared.observed.Observed.{Observed}
use Rattle.klp_watch.specs.Compared.{taken_from}
use Rattle.klp_watch.specs.Refused.{refused_in}
use Rattle.klp_watch.specs.declared.refused.RefusedEvents.{RefusedEvents}
use Rattle.klp_watch.specs.ComparedWhole.{AreAllSo, IsDifferenceOfWhole}
use Rattle.klp_manager_state.specs.Managed.{Managed, setting_of}
use Rattle.klp_watch.specs.Watching.{IsConsistent}
use Rattle.klp_boot.specs.declared.fault.Fault.{Fault}
use Rattle.klp_boot.specs.declared.fault.Fault.TheVariants.{CannotRead, NoMemory, Text, Image, Assemble, Boot, Serve, Trace}
use Rattle.klp_program.specs.declared.verdict.Verdict.{Verdict}
use Rattle.klp_program.specs.declared.verdict.Verdict.TheVariants.{Honest}
use Rattle.klp_boot.specs.Booted.{IsBootedOver}
use Rattle.klp_boot.specs.Over.{IsBootFaultOf}
use Rattle.klp_program.specs.Watches.{counted, reported_as, reported, IsFound, WatchesBy, Watches}

-- what is told of the first item that isn't so is what was found
reported_so : (before after : Managed) (items : List Observed) (item : ℕ) (difference : Difference)
    → IsDifferenceOfWhole before after items item difference → IsFound before after items (reported_as item difference)
reported_so before after items item (Premise cause) is = is
reported_so before after items item Answer is = is
reported_so before after items item State is = is
reported_so before after items item Files is = is
reported_so before after items item Version is = is
reported_so before after items item OtherText is = is

-- the verdict is what comparing came to
pub found_by : (before after : Managed) (items : List Observed) (ended : Result RefusedEvents FirstDifference) (verdict : Verdict)
    → IfOk ended (λ _. AreAllSo before after items) → IfOk ended (λ _. IsConsistent (setting_of before) before.state (taken_from items))
    → IfErr ended (λ (differs : FirstDifference). IsDifferenceOfWhole before after items differs.item differs.cause)
    → IfOk ended (λ (refused : RefusedEvents). refused ≡ refused_in (setting_of before) before.state items)
    → MatchResult ended (λ refused. verdict ≡ Honest (counted items refused)) (λ differs. verdict ≡ reported differs) → IsFound before after items verdict
found_by before after items (Ok refused) verdict so consistent found are is =
    subst (IsFound before after items) (sym is) (record { so = so; consistent = consistent; counts_are = ap (counted items) are })
found_by before after items (Err differs) verdict so consistent found are is =
    subst (IsFound before after items) (sym is) (reported_so before after items differs.item differs.cause found)

-- what is watched by the manager of a text's plan is watched over the text
pub watches_booted : (text trace : List ℕ) (plan : Plan) (booted : Journaled) (result : Result Verdict Fault)
    → plan_of text ≡ Ok plan → IsBootedOver plan booted → WatchesBy booted trace result → Watches text trace result
watches_booted text trace plan booted (Ok verdict) planned is by = (plan, planned, (booted, is, by))
watches_booted text trace plan booted (Err (Trace fault)) planned is by = (plan, planned, (booted, is, by))
watches_booted text trace plan booted (Err NoMemory) planned is by = tt
watches_booted text trace plan booted (Err CannotRead) planned is by = absurd by
watches_booted text trace plan booted (Err (Text fault)) planned is by = absurd by
watches_booted text trace plan booted (Err (Image fault)) planned is by = absurd by
watches_booted text trace plan booted (Err (Assemble fault)) planned is by = absurd by
watches_booted text trace plan booted (Err (Boot fault)) planned is by = absurd by
watches_booted text trace plan booted (Err (Serve fault)) planned is by = absurd by

-- and where no manager was booted
pub watches_none : (text trace : List ℕ) (fault : Fault) → IsBootFaultOf text fault → Watches text trace (Err fault)
watches_none text trace (Trace fault) why = absurd why.2
watches_none text trace NoMemory why = why
watches_none text trace CannotRead why = why
watches_none text trace (Text fault) why = why
watches_none text trace (Image fault) why = why
watches_none text trace (Assemble fault) why = why
watches_none text trace (Boot fault) why = why
watches_none text trace (Serve fault) why = why
