-- Answers with numbers, computed.
use Rattle.std.proofs.Common.{◌≡◌, Some, None, Ok, refl}
use Rattle.std.specs.Prelude.{codes}
use Rattle.std.specs.Fmt.{digits}
use Rattle.klp_model.specs.declared.event.Event.TheVariants.{Poll}
use Rattle.klp_model.specs.declared.event.Reply.TheVariants.{Pending, Freed}
use Rattle.klp_watch.specs.declared.observed.Observed.TheVariants.{Answered}
use Rattle.klp_core.specs.Journaled.{Journaled}
use Rattle.klp_trace.specs.Answers.{answer_of}
use Rattle.klp_trace.specs.Items.{item_of}

pub read_number : (manager : Journaled) → answer_of manager (codes "pending 2") ≡ Some (Ok (Pending 2))
unfolding digits
read_number manager = refl

pub read_zero_in_front : (manager : Journaled) → answer_of manager (codes "pending 02") ≡ None
unfolding digits
read_zero_in_front manager = refl

pub read_freed : (manager : Journaled) → answer_of manager (codes "freed 0") ≡ Some (Ok (Freed 0))
unfolding digits
read_freed manager = refl

pub read_answered : (manager : Journaled) → item_of manager (codes "poll => pending 1") ≡ Some (Answered Poll (Ok (Pending 1)))
unfolding digits
read_answered manager = refl
