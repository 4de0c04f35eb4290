-- What an event that was admitted, or not, is to the pass that submitted it.
use Rattle.std.proofs.Common.{◌≡◌, [], ◌∷◌, length, ap, sym, subst, ◌∙◌, arith, length-append}
use Rattle.std.specs.Prelude.{Result, Ok, Err, MatchResult}
use mathlib.Core.List.{IsPrefix}
use Rattle.klp_types.specs.Setting.{Setting}
use Rattle.klp_model.specs.State.{State}
use Rattle.klp_model.specs.declared.event.Event.{Event}
use Rattle.klp_model.specs.Legal.{History, IsLegal, state_after_history}
use Rattle.klp_model.specs.Run.{answer}
use Rattle.klp_live.specs.Admitting.{Booked, IsAdmitted, IsRefused, FindsNoRoom}
use Rattle.klp_live.specs.Closing.{IsOutcome}
use Rattle.klp_live.specs.Seats.{Knows, ReceiptValue}
use Rattle.klp_live.specs.declared.refusal.LiveRefusal.{LiveRefusal}
use Rattle.klp_live.specs.declared.refusal.LiveRefusal.TheVariants.{Refused, NoMemory}

pub outcome : (setting : Setting) (base : State) (event : Event) (old new : Booked) (before after : Knows) (result : Result ReceiptValue LiveRefusal)
    → MatchResult result (λ receipt. IsAdmitted setting base event old new before after receipt) (λ fault. IsRefused setting base event old new before after fault)
    → IsOutcome setting base event before after result
outcome setting base event old new before after (Ok receipt) a = record {
  legal = subst (IsLegal setting base) (sym a.knows) a.legal;
  older = old.list;
  knew = a.knew;
  answered = a.answered;
  list = a.knows ∙ a.list;
  number = omega (arith, a.number, ap length (a.knows ∙ a.list), length-append old.list ((event, receipt.reply) ∷ []));
  event_is = a.event_is;
  receipt_list = a.receipt_list ∙ sym a.knows;
  counts = a.counts;
}
outcome setting base event old new before after (Err (Refused refusal)) a = record {
  legal = subst (IsLegal setting base) (ap (λ (b : Booked). b.list) a.same ∙ sym a.knows) a.legal;
  knew = subst (IsPrefix before.list) (sym a.knows) a.knew;
  answered = λ other. subst (λ (list : History). answer setting (state_after_history setting base list) event ≡ Err refusal) (sym a.knows) (a.answered other);
  full = λ full. subst (λ (list : History). FindsNoRoom setting base list event) (sym a.knows) (a.full full);
  counts = a.counts;
}
outcome setting base event old new before after (Err NoMemory) a = a.knows
