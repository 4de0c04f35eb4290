-- A page of a booted manager, and where there is none.
use Rattle.std.proofs.Common.{◌≡◌, ℕ, List, Option, refl, inl, inr}
use Rattle.std.specs.Prelude.{Result, Ok, Err}
use Rattle.klp_catalog_text.specs.Plan.{Plan}
use Rattle.klp_catalog_text.specs.Text.{plan_of}
use Rattle.klp_core.specs.Journaled.{Journaled}
use Rattle.klp_console.specs.declared.served.ServeFault.TheVariants.{Read, Write, LineTooLong}
use Rattle.klp_boot.specs.declared.fault.Fault.{Fault}
use Rattle.klp_boot.specs.declared.fault.Fault.TheVariants as faults
use Rattle.klp_boot.specs.Booted.{IsBootedOver, IsBootFault}
use Rattle.klp_page.specs.declared.unshown.Unshown.{Unshown}
use Rattle.klp_page.specs.declared.unshown.Unshown.TheVariants.{NoMemory, LongLine, BadTrace}
use Rattle.klp_page.specs.Over.{fault_of, IsUnshownOver, IsFaultOver, WritesOver}

-- why no manager was booted over a text's plan is why there is no page
pub none_booted : (lacks : Journaled → Unshown → Type 0) (text : List ℕ) (plan : Plan) (fault : Fault) → plan_of text ≡ Ok plan → IsBootFault plan fault → IsFaultOver lacks text fault
none_booted lacks text plan faults.NoMemory planned why = tt
none_booted lacks text plan (faults.Text fault) planned why = absurd why
none_booted lacks text plan faults.CannotRead planned why = (plan, planned, inl why)
none_booted lacks text plan (faults.Image fault) planned why = (plan, planned, inl why)
none_booted lacks text plan (faults.Assemble fault) planned why = (plan, planned, inl why)
none_booted lacks text plan (faults.Boot fault) planned why = (plan, planned, inl why)
none_booted lacks text plan (faults.Serve fault) planned why = (plan, planned, inl why)
none_booted lacks text plan (faults.Trace fault) planned why = (plan, planned, inl why)

-- why a booted manager shows no page is why there is none over the text
pub none_shown : (lacks : Journaled → Unshown → Type 0) (text : List ℕ) (plan : Plan) (booted : Journaled) (why : Unshown) → plan_of text ≡ Ok plan → IsBootedOver plan booted → lacks booted why
    → IsFaultOver lacks text (fault_of why)
none_shown lacks text plan booted NoMemory planned is lacked = tt
none_shown lacks text plan booted LongLine planned is lacked =
    (plan, planned, inr (record { booted = booted; is_booted = is; why = LongLine; is_fault = refl; lacked = lacked }))
none_shown lacks text plan booted (BadTrace fault) planned is lacked =
    (plan, planned, inr (record { booted = booted; is_booted = is; why = BadTrace fault; is_fault = refl; lacked = lacked }))

-- no run lacks its page because it can't be written
never_write : (why : Unshown) → fault_of why ≡ faults.Serve Write → ⊥
never_write NoMemory is = cc
never_write LongLine is = cc
never_write (BadTrace fault) is = cc

-- where there is no page, nothing is written
pub writes_none : (A : Type 0) (shows : Journaled → List ℕ → Type 0) (lacks : Journaled → Unshown → Type 0) (text : List ℕ) (before : Option (List ℕ)) (fault : Fault)
    → IsFaultOver lacks text fault → WritesOver {A = A} shows lacks text before before (Err fault)
writes_none A shows lacks text before (faults.Serve Write) (plan, planned, why) = elim why [ inl never ↦ absurd never | inr unshown ↦ absurd (never_write unshown.why unshown.is_fault) ]
writes_none A shows lacks text before (faults.Serve Read) is = (is, refl)
writes_none A shows lacks text before (faults.Serve LineTooLong) is = (is, refl)
writes_none A shows lacks text before faults.NoMemory is = (is, refl)
writes_none A shows lacks text before faults.CannotRead is = (is, refl)
writes_none A shows lacks text before (faults.Text fault) is = (is, refl)
writes_none A shows lacks text before (faults.Image fault) is = (is, refl)
writes_none A shows lacks text before (faults.Assemble fault) is = (is, refl)
writes_none A shows lacks text before (faults.Boot fault) is = (is, refl)
writes_none A shows lacks text before (faults.Trace fault) is = (is, refl)
