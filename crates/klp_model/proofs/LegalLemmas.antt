-- Histories grow at their end, are cut there, and are told by their events.
use Rattle.std.proofs.Common.{◌≡◌, List, [], ◌∷◌, ◌++◌, map, refl, sym, ap, ◌∙◌, subst, Result, Ok, Err}
use Rattle.klp_model.specs.declared.event.Event.{Event}
use Rattle.klp_model.specs.declared.event.Reply.{Reply}
use Rattle.klp_model.specs.declared.event.Refusal.{Refusal}
use Rattle.klp_types.specs.Setting.{Setting}
use Rattle.klp_model.specs.State.{State}
use Rattle.klp_model.specs.Step.{step}
use Rattle.klp_model.specs.Run.{answer, answer_of, state_after, next, run}
use Rattle.klp_model.specs.Legal.{History, IsLegal, state_after_history, entry_of, history_of}

pub legal_then_more : (setting : Setting) (base : State) (history : History) (event : Event) (reply : Reply)
    → IsLegal setting base history → answer setting (state_after_history setting base history) event ≡ Ok reply
    → IsLegal setting base (history ++ (event, reply) ∷ [])
legal_then_more setting base [] event reply legal accepted = (accepted, tt)
legal_then_more setting base (first ∷ history) event reply legal accepted =
    (legal.0, legal_then_more setting (next setting base first.0) history event reply legal.1 accepted)

pub legal_before : (setting : Setting) (base : State) (first second : History) → IsLegal setting base (first ++ second) → IsLegal setting base first
legal_before setting base [] second legal = tt
legal_before setting base (pair ∷ first) second legal = (legal.0, legal_before setting (next setting base pair.0) first second legal.1)

pub legal_behind : (setting : Setting) (base : State) (first second : History) → IsLegal setting base (first ++ second)
    → IsLegal setting (state_after_history setting base first) second
legal_behind setting base [] second legal = legal
legal_behind setting base (pair ∷ first) second legal = legal_behind setting (next setting base pair.0) first second legal.1

-- a refused event leaves the state
refused_leaves : (state : State) (outcome : Result (Reply × State) Refusal) (refusal : Refusal) → answer_of outcome ≡ Err refusal → state_after state outcome ≡ state
refused_leaves state (Ok outcome) refusal e = cc
refused_leaves state (Err other) refusal e = refl

pub history_is_legal : (setting : Setting) (state : State) (events : List Event)
    → IsLegal setting state (history_of setting state events) × (state_after_history setting state (history_of setting state events) ≡ run setting state events)
history_is_legal setting state [] = (tt, refl)
history_is_legal setting state (event ∷ events) = by (answer setting state event) refl (history_is_legal setting (next setting state event) events)
  where
    rest : History
    rest = history_of setting (next setting state event) events

    by : (known : Result Reply Refusal) → answer setting state event ≡ known
        → IsLegal setting (next setting state event) rest × (state_after_history setting (next setting state event) rest ≡ run setting (next setting state event) events)
        → IsLegal setting state (entry_of event known ++ rest)
        × (state_after_history setting state (entry_of event known ++ rest) ≡ run setting (next setting state event) events)
    by (Ok reply) is there = ((is, there.0), there.1)
    by (Err refusal) is there =
        let stays = refused_leaves state (step setting state event) refusal is in (
          subst (λ s. IsLegal setting s rest) stays there.0,
          ap (λ s. state_after_history setting s rest) (sym stays) ∙ there.1,
        )

same_reply : (a b : Reply) (known : Result Reply Refusal) → known ≡ Ok a → known ≡ Ok b → a ≡ b
same_reply a b (Ok reply) is is_too = cc
same_reply a b (Err refusal) is is_too = cc

pub known_by_events : (setting : Setting) (base : State) (one other : History) → IsLegal setting base one → IsLegal setting base other
    → map (λ (p : Event × Reply). p.0) one ≡ map (λ (p : Event × Reply). p.0) other → one ≡ other
known_by_events setting base [] [] legal legal_too same = refl
known_by_events setting base [] (b ∷ other) legal legal_too same = cc
known_by_events setting base (a ∷ one) [] legal legal_too same = cc
known_by_events setting base (a ∷ one) (b ∷ other) legal legal_too same =
    let event : a.0 ≡ b.0 = cc in
    let events : map (λ (p : Event × Reply). p.0) one ≡ map (λ (p : Event × Reply). p.0) other = cc in
    let reply = same_reply a.1 b.1 (answer setting base a.0) legal.0 (ap (answer setting base) event ∙ legal_too.0) in
    let rest = known_by_events setting (next setting base a.0) one other legal.1 (subst (λ e. IsLegal setting (next setting base e) other) (sym event) legal_too.1) events in
    λ i. (event i, reply i) ∷ rest i
