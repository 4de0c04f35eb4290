-- What is read as an answer, and what the console writes.
use Rattle.std.proofs.Common.{◌≡◌, ℕ, Bool, true, false, List, [], ◌∷◌, ◌++◌, codes, Option, Some, None, Result, Ok, Err, if◌then◌else◌, refl, sym, ap, ◌∙◌}
use Rattle.std.specs.List.{find}
use Rattle.std.specs.Str.{bytes_eq}
use Rattle.std.proofs.lemmas.Slice.Eq.{bytes_eq-Decides}
use Rattle.klp_model.specs.declared.event.Reply.{Reply}
use Rattle.klp_model.specs.declared.event.Refusal.{Refusal}
use Rattle.klp_model.specs.declared.event.Refusal.TheVariants.{NoPatch, Busy, AlreadyThere, Pinned, Incompatible, NoSymbol, NoModule, InUse, NoTask, TaskThere, WrongMode, BadFrame, Full, JournalFull, NotMoving, Exists, NotFound, SameValue}
use Rattle.klp_words.specs.Split.{separates, words_between}
use Rattle.klp_words.specs.declared.split.Separators.TheVariants.{Spaces}
use Rattle.klp_core.specs.Journaled.{Journaled}
use Rattle.klp_console.specs.Refusals.{refusals, refusal_text}
use Rattle.klp_console.specs.Replies.{answer_text, reply_text}
use Rattle.klp_trace.specs.Answers.{is_line_of, as_written, refusal_of, reply_in, answer_with, answer_of}

found_passes : (p : Refusal → Bool) (refusals : List Refusal) (refusal : Refusal) → find p refusals ≡ Some refusal → p refusal ≡ true
found_passes p [] refusal is = let none : ⊥ = cc in absurd none
found_passes p (first ∷ refusals) refusal is = by (p first) refl is (found_passes p refusals refusal)
  where
    by : (b : Bool) → p first ≡ b → (if b then Some first else find p refusals) ≡ Some refusal
        → (find p refusals ≡ Some refusal → p refusal ≡ true) → p refusal ≡ true
    by true passes here later = let same : first ≡ refusal = cc in ap p (sym same) ∙ passes
    by false fails here later = later here

written_so : (manager : Journaled) (text : List ℕ) (reply : Option Reply) (answer : Result Reply Refusal) → as_written manager text reply ≡ Some answer
    → answer_text manager.managed.catalog answer ≡ text ++ codes "\n"
written_so manager text None answer is = let no : ⊥ = cc in absurd no
written_so manager text (Some reply) answer is = by (is_line_of text (reply_text manager.managed.catalog reply)) refl is
  where
    by : (b : Bool) → is_line_of text (reply_text manager.managed.catalog reply) ≡ b
        → (if b then Some (Ok reply) else None) ≡ Some answer → answer_text manager.managed.catalog answer ≡ text ++ codes "\n"
    by true passes same =
        let own : Ok reply ≡ answer = cc in
        ap (answer_text manager.managed.catalog) (sym own) ∙ (bytes_eq-Decides (reply_text manager.managed.catalog reply) (text ++ codes "\n")).0 passes
    by false fails same = let no : ⊥ = cc in absurd no

pub answer_written : (manager : Journaled) (text : List ℕ) (answer : Result Reply Refusal) → answer_of manager text ≡ Some answer
    → answer_text manager.managed.catalog answer ≡ text ++ codes "\n"
answer_written manager text answer is = by (refusal_of text) refl is
  where
    by : (o : Option Refusal) → refusal_of text ≡ o → answer_with manager text o ≡ Some answer → answer_text manager.managed.catalog answer ≡ text ++ codes "\n"
    by None none same = written_so manager text (reply_in manager (words_between (separates Spaces) text)) answer same
    by (Some refusal) found same =
        let own : Err refusal ≡ answer = cc in
        ap (answer_text manager.managed.catalog) (sym own)
        ∙ (bytes_eq-Decides (refusal_text refusal) (text ++ codes "\n")).0 (found_passes (λ r. is_line_of text (refusal_text r)) refusals refusal found)

-- the refusal that a line of the console tells
abbrev refusal_in : List ℕ → Option Refusal
refusal_in line = find (λ refusal. bytes_eq (refusal_text refusal) line) refusals

refusal_in-text : (refusal : Refusal) → refusal_in (refusal_text refusal) ≡ Some refusal
refusal_in-text NoPatch = refl
refusal_in-text Busy = refl
refusal_in-text AlreadyThere = refl
refusal_in-text Pinned = refl
refusal_in-text Incompatible = refl
refusal_in-text NoSymbol = refl
refusal_in-text NoModule = refl
refusal_in-text InUse = refl
refusal_in-text NoTask = refl
refusal_in-text TaskThere = refl
refusal_in-text WrongMode = refl
refusal_in-text BadFrame = refl
refusal_in-text Full = refl
refusal_in-text JournalFull = refl
refusal_in-text NotMoving = refl
refusal_in-text Exists = refl
refusal_in-text NotFound = refl
refusal_in-text SameValue = refl

pub refusal_back : (manager : Journaled) (text : List ℕ) (refusal : Refusal) → refusal_text refusal ≡ text ++ codes "\n" → answer_of manager text ≡ Some (Err refusal)
refusal_back manager text refusal is =
    let found : refusal_of text ≡ Some refusal = ap refusal_in (sym is) ∙ refusal_in-text refusal in
    ap (answer_with manager text) found
