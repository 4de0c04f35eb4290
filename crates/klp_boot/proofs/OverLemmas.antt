-- What comes of a plan comes of the text that it was read from.
use Rattle.std.proofs.Common.{◌≡◌, ℕ, List, Result, Ok, Err}
use Rattle.klp_catalog_text.specs.Plan.{Plan}
use Rattle.klp_catalog_text.specs.Text.{plan_of}
use Rattle.klp_core.specs.Journaled.{Journaled}
use Rattle.klp_boot.specs.declared.fault.Fault.{Fault}
use Rattle.klp_boot.specs.declared.fault.Fault.TheVariants.{CannotRead, NoMemory, Text, Image, Assemble, Boot, Serve, Trace}
use Rattle.klp_boot.specs.Booted.{IsBootFault}
use Rattle.klp_boot.specs.Over.{UsesOver, UsesOverText, IsBootFaultOf}

-- why a text's plan isn't booted is why the text isn't
pub fault_of : (text : List ℕ) (plan : Plan) (fault : Fault) → plan_of text ≡ Ok plan → IsBootFault plan fault → IsBootFaultOf text fault
fault_of text plan NoMemory planned why = tt
fault_of text plan (Text fault) planned why = absurd why
fault_of text plan CannotRead planned why = (plan, planned, why)
fault_of text plan (Image fault) planned why = (plan, planned, why)
fault_of text plan (Assemble fault) planned why = (plan, planned, why)
fault_of text plan (Boot fault) planned why = (plan, planned, why)
fault_of text plan (Serve fault) planned why = (plan, planned, why)
fault_of text plan (Trace fault) planned why = (plan, planned, why)

pub over_text : {Use Done : Type 0} (comes_to : Use → Use → Journaled → Done → Type 0) (text : List ℕ) (plan : Plan) (before after : Use) (result : Result Done Fault)
    → plan_of text ≡ Ok plan → UsesOver comes_to plan before after result → UsesOverText comes_to text before after result
over_text comes_to text plan before after (Ok done) planned over = record { plan = plan; planned = planned; over = over }
over_text comes_to text plan before after (Err fault) planned over = (over.0, fault_of text plan fault planned over.1)
