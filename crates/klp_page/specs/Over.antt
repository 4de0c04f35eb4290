-- What the page of a run comes to over a catalog's text.
use Rattle.std.specs.Prelude.{◌≡◌, ℕ, List, ◌⊎◌, Option, Result, Ok, Err}
use Rattle.std.specs.Io.KnownBytes.{Appends}
use Rattle.klp_catalog_text.specs.Plan.{Plan}
use Rattle.klp_catalog_text.specs.Text.{plan_of, IsFaultOf}
use Rattle.klp_core.specs.Journaled.{Journaled}
use Rattle.klp_console.specs.declared.served.ServeFault.TheVariants.{LineTooLong, Write}
use Rattle.klp_boot.specs.declared.fault.Fault.{Fault}
use Rattle.klp_boot.specs.declared.fault.Fault.TheVariants as faults
use Rattle.klp_boot.specs.Booted.{IsBootedOver, IsBootFault}
use Rattle.klp_page.specs.declared.unshown.Unshown.{Unshown}
use Rattle.klp_page.specs.declared.unshown.Unshown.TheVariants.{NoMemory, LongLine, BadTrace}

-- the fault of a program that shows no page
abbrev pub fault_of : Unshown → Fault
fault_of NoMemory = faults.NoMemory
fault_of LongLine = faults.Serve LineTooLong
fault_of (BadTrace fault) = faults.Trace fault

-- a manager was booted over the plan of a text, and the page shows this of it
pub record IsShownOver (shows : Journaled → List ℕ → Type 0) (text page : List ℕ) : Type 0 where
  pub plan : Plan
  pub planned : plan_of text ≡ Ok plan
  pub booted : Journaled
  pub is_booted : IsBootedOver plan booted
  pub is_page : shows booted page

-- a manager was booted over a plan, and shows no page
pub record IsUnshownOver (lacks : Journaled → Unshown → Type 0) (plan : Plan) (fault : Fault) : Type 0 where
  pub booted : Journaled
  pub is_booted : IsBootedOver plan booted
  pub why : Unshown
  pub is_fault : fault_of why ≡ fault
  pub lacked : lacks booted why

-- why there is no page over a text: a fault of the text; or none was booted over its plan, or one was and shows none; or want of memory
abbrev pub IsFaultOver : (Journaled → Unshown → Type 0) → List ℕ → Fault → Type 0
IsFaultOver lacks text faults.NoMemory = Unit {0}
IsFaultOver lacks text (faults.Text fault) = IsFaultOf text fault.line fault.kind
IsFaultOver lacks text other = (plan : Plan) × (plan_of text ≡ Ok plan) × (IsBootFault plan other ⊎ IsUnshownOver lacks plan other)

-- The whole page was written behind what the output had; or that could not be written; or there is no page for this fault, and nothing was
-- written.
abbrev pub WritesOver : {A : Type 0} → (Journaled → List ℕ → Type 0) → (Journaled → Unshown → Type 0) → List ℕ → Option (List ℕ) → Option (List ℕ)
    → Result A Fault → Type 0
WritesOver shows lacks text before after (Ok done) = (page : List ℕ) × IsShownOver shows text page × Appends before after page
WritesOver shows lacks text before after (Err (faults.Serve Write)) = (page : List ℕ) × IsShownOver shows text page
WritesOver shows lacks text before after (Err fault) = IsFaultOver lacks text fault × (after ≡ before)
