-- The lines of a script are done one after another.
use Rattle.std.proofs.Common.{◌≡◌, ◌⊎◌, ℕ, Bool, true, false, ◌||◌, List, [], ◌∷◌, ◌++◌, Option, Some, None, Result, Ok, Err, refl, sym, ap, subst, ◌∙◌, inl, inr, append_assoc, append-nil}
use Rattle.klp_model.specs.declared.event.Event.{Event}
use Rattle.klp_model.specs.declared.event.Reply.{Reply}
use Rattle.klp_model.specs.declared.event.Refusal.{Refusal}
use Rattle.klp_catalog.specs.Catalog.{patches_of}
use Rattle.klp_manager_state.specs.Managed.{Managed, setting_of}
use Rattle.klp_core.specs.Journaled.{Journaled}
use Rattle.klp_core.specs.Rewinding.{IsRewound}
use Rattle.klp_core.specs.Taking.{IsTaken}
use Rattle.klp_console_commands.specs.declared.fault.LineFault.{LineFault}
use Rattle.klp_console_commands.specs.declared.request.Request.{Request}
use Rattle.klp_console_commands.specs.declared.request.Request.TheVariants.{Take, ForceNothing, Rewind, Seal, Ask}
use Rattle.klp_console_commands.specs.Lines.{request_of}
use Rattle.klp_console.specs.Answered.{Answer, IsAnswered, IsDoneIf, IsRewoundAs, names_in}
use Rattle.klp_console.specs.Lines.{lines_of, AreAnswered}
use Rattle.klp_lint_findings.specs.declared.finding.Finding.TheVariants.{Line}
use Rattle.klp_lint_findings.specs.declared.finding.RefusedLine.{RefusedLine}
use Rattle.klp_lint_findings.specs.declared.findings.Findings.{Findings}
use Rattle.klp_lint_findings.specs.Saying.{Adds}
use Rattle.klp_lint_findings.specs.Sound.{one_decides, Grows}
use Rattle.klp_lint_findings.proofs.SayLemmas.{adds_as}
use Rattle.klp_lint_worlds.specs.Worlds.{one_is_refused, IsLine, IsLineReported, IsScripted}

same_setting : (before after : Journaled) → after ≡ before → setting_of after.managed ≡ setting_of before.managed
same_setting before after same = ap (λ (m : Journaled). setting_of m.managed) same

taken_setting : (before after : Journaled) (event : Event) (reply : Result Reply Refusal) → IsTaken before after event reply
    → setting_of after.managed ≡ setting_of before.managed
taken_setting before after event (Ok reply) taken = ap (λ (m : Managed). setting_of m) taken.accepted.left
taken_setting before after event (Err refusal) taken = same_setting before after taken.refused

rewound_setting : (before after : Journaled) (mark : ℕ) → IsRewound before after mark → setting_of after.managed ≡ setting_of before.managed
rewound_setting before after mark back = λ i. record { image = back.image i; patches = patches_of (back.catalog i) }

rewound_as_setting : (before after : Journaled) (mark : ℕ) (answer : Answer) → IsRewoundAs before after mark answer
    → setting_of after.managed ≡ setting_of before.managed
rewound_as_setting before after mark answer (inl done) = rewound_setting before after mark done.1
rewound_as_setting before after mark answer (inr not) = same_setting before after not.1

-- a line leaves image and patches
done_setting : (before after : Journaled) (request : Option (Result Request LineFault)) (answer : Answer) → IsDoneIf before after request answer
    → setting_of after.managed ≡ setting_of before.managed
done_setting before after None answer done = same_setting before after done.0
done_setting before after (Some (Err fault)) answer done = same_setting before after done.0
done_setting before after (Some (Ok (Take event))) answer done = taken_setting before after event done.reply done.taken
done_setting before after (Some (Ok (ForceNothing patch))) answer done = same_setting before after done.0
done_setting before after (Some (Ok (Rewind mark))) answer done = rewound_as_setting before after mark answer done
done_setting before after (Some (Ok Seal)) answer done = ap (λ (m : Journaled). setting_of m.managed) done.0
done_setting before after (Some (Ok (Ask query))) answer done = same_setting before after done.0

answered_on : (start now next : Journaled) (lines : List (List ℕ)) (answers : List Answer) (line : List ℕ) (answer : Answer)
    → AreAnswered start now lines answers → IsAnswered now next line answer
    → AreAnswered start next (lines ++ line ∷ []) (answers ++ answer ∷ [])
answered_on start now next [] [] line answer same one = (next, subst (λ (m : Journaled). IsAnswered m next line answer) same one, refl)
answered_on start now next [] (first ∷ answers) line answer wrong one = absurd wrong
answered_on start now next (first ∷ lines) [] line answer wrong one = absurd wrong
answered_on start now next (first ∷ lines) (sent ∷ answers) line answer (there, done, more) one =
    (there, done, answered_on there now next lines answers line answer more one)

-- a line that is refused is a finding about a line
pub line_added : (one two : Findings) (line : RefusedLine) → Adds (λ other. other ≡ Line line) one two → Adds IsLine one two
line_added one two line adds = adds_as {P = λ other. other ≡ Line line} {Q = IsLine} (λ other is. (line, is)) adds

last_alone : (last : Bool) → (last || false) ≡ true → last ≡ true
last_alone true h = refl
last_alone false h = absurd (cc)

one_or_last : (first early all last : Bool) → (all ≡ true → (early ≡ true) ⊎ (last ≡ true)) → (first || all) ≡ true
    → ((first || early) ≡ true) ⊎ (last ≡ true)
one_or_last true early all last more h = inl refl
one_or_last false early all last more h = more h

refused_on : (answers : List Answer) (answer : Answer) → one_is_refused (answers ++ answer ∷ []) ≡ true
    → (one_is_refused answers ≡ true) ⊎ (answer.is_refused ≡ true)
refused_on [] answer h = inr (last_alone answer.is_refused h)
refused_on (first ∷ answers) answer h =
    one_or_last first.is_refused (one_is_refused answers) (one_is_refused (answers ++ answer ∷ [])) answer.is_refused (refused_on answers answer) h

-- The first lines of a script were done, and the rest wasn't yet.
pub record IsDoneSoFar (start now : Journaled) (script rest : List ℕ) (found : Findings) : Type 0 where
  pub lines : List (List ℕ)
  pub answers : List Answer
  pub answered : AreAnswered start now lines answers
  pub cut : lines_of script ≡ lines ++ lines_of rest
  pub refused : one_is_refused answers ≡ true → one_decides found.said.items ≡ true
  pub setting : setting_of now.managed ≡ setting_of start.managed

pub none_so_far : (start : Journaled) (script : List ℕ) (found : Findings) → IsDoneSoFar start start script script found
none_so_far start script found = record { lines = []; answers = []; answered = refl; cut = refl; refused = λ h. absurd (cc); setting = refl }

-- one line more
pub one_more : (start now next : Journaled) (script rest line behind : List ℕ) (before after : Findings)
    → IsDoneSoFar start now script rest before → lines_of rest ≡ line ∷ lines_of behind → IsLineReported now next line after → Grows before after
    → IsDoneSoFar start next script behind after
one_more start now next script rest line behind before after so_far cut reported grows = let done = reported.done in record {
  lines = so_far.lines ++ line ∷ [];
  answers = so_far.answers ++ done.answer ∷ [];
  answered = answered_on start now next so_far.lines so_far.answers line done.answer so_far.answered done.answered;
  cut = so_far.cut ∙ ap (λ ls. so_far.lines ++ ls) cut ∙ sym (append_assoc so_far.lines (line ∷ []) (lines_of behind));
  refused = λ h. elim (refused_on so_far.answers done.answer h) as (λ _. one_decides after.said.items ≡ true) [
    | inl earlier ↦ grows.kept (so_far.refused earlier)
    | inr this ↦ reported.reported (sym done.is_refused ∙ this)
  ];
  setting = done_setting now next (request_of (names_in now) line) done.answer done.answered.done ∙ so_far.setting;
}

-- all lines were done
pub all_done : (start now : Journaled) (script rest : List ℕ) (found : Findings) → IsDoneSoFar start now script rest found → lines_of rest ≡ []
    → IsScripted start now script found
all_done start now script rest found so_far none = record {
  answers = so_far.answers;
  answered = subst (λ (ls : List (List ℕ)). AreAnswered start now ls so_far.answers)
      (sym (so_far.cut ∙ ap (λ ls. so_far.lines ++ ls) none ∙ append-nil so_far.lines)) so_far.answered;
  refused = so_far.refused;
}
