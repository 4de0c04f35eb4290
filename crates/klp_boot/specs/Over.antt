-- What comes of a manager that is booted for something that uses it.
use Rattle.std.specs.Prelude.{◌≡◌, ℕ, List, Result, Ok, Err}
use Rattle.klp_catalog_text.specs.Plan.{Plan}
use Rattle.klp_catalog_text.specs.Text.{plan_of, IsFaultOf}
use Rattle.klp_core.specs.Journaled.{Journaled}
use Rattle.klp_boot.specs.declared.fault.Fault.{Fault}
use Rattle.klp_boot.specs.declared.fault.Fault.TheVariants.{NoMemory, Text}
use Rattle.klp_boot.specs.Booted.{IsBootedOver, IsBootFault}

-- why no manager was booted over a text: a fault of the text; or of its plan; or want of memory
abbrev pub IsBootFaultOf : List ℕ → Fault → Type 0
IsBootFaultOf text NoMemory = Unit {0}
IsBootFaultOf text (Text fault) = IsFaultOf text fault.line fault.kind
IsBootFaultOf text other = (plan : Plan) × (plan_of text ≡ Ok plan) × IsBootFault plan other

-- a manager was booted over a plan, and the use of it came to this
pub record IsUsedOver {Use Done : Type 0} (comes_to : Use → Use → Journaled → Done → Type 0) (plan : Plan) (before after : Use) (done : Done) : Type 0 where
  pub booted : Journaled
  pub is_booted : IsBootedOver plan booted
  pub came_to : comes_to before after booted done

-- a manager was booted over a plan and used; or none was, and what would have used it is unchanged
abbrev pub UsesOver : {Use Done : Type 0} → (Use → Use → Journaled → Done → Type 0) → Plan → Use → Use → Result Done Fault → Type 0
UsesOver comes_to plan before after (Ok done) = IsUsedOver comes_to plan before after done
UsesOver comes_to plan before after (Err fault) = (after ≡ before) × IsBootFault plan fault

-- the same over the plan of a text
pub record IsUsedOverText {Use Done : Type 0} (comes_to : Use → Use → Journaled → Done → Type 0) (text : List ℕ) (before after : Use) (done : Done) : Type 0 where
  pub plan : Plan
  pub planned : plan_of text ≡ Ok plan
  pub over : IsUsedOver comes_to plan before after done

abbrev pub UsesOverText : {Use Done : Type 0} → (Use → Use → Journaled → Done → Type 0) → List ℕ → Use → Use → Result Done Fault → Type 0
UsesOverText comes_to text before after (Ok done) = IsUsedOverText comes_to text before after done
UsesOverText comes_to text before after (Err fault) = (after ≡ before) × IsBootFaultOf text fault
