-- What a kernel answered to an event, spelled as the console writes its own answers.
use Rattle.std.specs.Prelude.{◌≡◌, ℕ, ◌^◌, Bool, List, [], ◌∷◌, ◌++◌, codes, bytes_eq, Option, Some, None, option_map, option_and_then, if◌then◌else◌, Result, Ok, Err}
use Rattle.std.specs.List.{find}
use Rattle.klp_model.specs.declared.event.Reply.{Reply}
use Rattle.klp_model.specs.declared.event.Reply.TheVariants.{Done, Started, Reversed, Pending, Completed, PreFailed, Value, Freed, Woken}
use Rattle.klp_model.specs.declared.event.Refusal.{Refusal}
use Rattle.klp_words.specs.Words.{decimal_of, status_of, shadow_value_of}
use Rattle.klp_words.specs.Split.{separates, words_between}
use Rattle.klp_words.specs.declared.split.Separators.TheVariants.{Spaces}
use Rattle.klp_core.specs.Journaled.{Journaled}
use Rattle.klp_console.specs.Replies.{reply_text}
use Rattle.klp_console.specs.Refusals.{refusals, refusal_text}
use Rattle.klp_trace.specs.Names.{patch_of, object_of, frames_of, flag_of}

-- a word behind the first one of a reply, as this is read
abbrev pub next_as : {A : Type 0} → (List ℕ → Option A) → List (List ℕ) → Option A
next_as read [] = None
next_as read (word ∷ words) = read word

-- PATCH OBJECT STATUS
abbrev pub pre_failed_of : Journaled → List (List ℕ) → Option Reply
pre_failed_of manager (patch ∷ object ∷ status ∷ words) =
    option_and_then (λ p. option_and_then (λ o. option_map (PreFailed p o) (status_of status)) (object_of manager object)) (patch_of manager patch)
pre_failed_of manager words = None

-- what a reply with this first word says. Words that are too many, and other spellings, are looked at once the reply is known
abbrev pub reply_with : Journaled → List ℕ → List (List ℕ) → Option Reply
reply_with manager first words =
    if bytes_eq first (codes "ok") then Some Done
    else if bytes_eq first (codes "started") then Some Started
    else if bytes_eq first (codes "reversed") then Some Reversed
    else if bytes_eq first (codes "pending") then option_map Pending (next_as (decimal_of (2 ^ 8)) words)
    else if bytes_eq first (codes "completed") then option_map Completed (next_as flag_of words)
    else if bytes_eq first (codes "prefailed") then pre_failed_of manager words
    else if bytes_eq first (codes "value") then option_map Value (next_as shadow_value_of words)
    else if bytes_eq first (codes "freed") then option_map Freed (next_as (decimal_of (2 ^ 16)) words)
    else if bytes_eq first (codes "woken") then option_map Woken (frames_of manager words)
    else None

abbrev pub reply_in : Journaled → List (List ℕ) → Option Reply
reply_in manager [] = None
reply_in manager (first ∷ words) = reply_with manager first words

-- the console writes this line of what is told
abbrev pub is_line_of : List ℕ → List ℕ → Bool
is_line_of text line = bytes_eq line (text ++ codes "\n")

-- a reply, where the text is the console's of it, byte by byte
abbrev pub as_written : Journaled → List ℕ → Option Reply → Option (Result Reply Refusal)
as_written manager text None = None
as_written manager text (Some reply) = if is_line_of text (reply_text manager.managed.catalog reply) then Some (Ok reply) else None

-- the refusal of which the console writes this text
abbrev pub refusal_of : List ℕ → Option Refusal
refusal_of text = find (λ refusal. is_line_of text (refusal_text refusal)) refusals

abbrev pub answer_with : Journaled → List ℕ → Option Refusal → Option (Result Reply Refusal)
answer_with manager text (Some refusal) = Some (Err refusal)
answer_with manager text None = as_written manager text (reply_in manager (words_between (separates Spaces) text))

-- the answer of which the console writes this text
abbrev pub answer_of : Journaled → List ℕ → Option (Result Reply Refusal)
answer_of manager text = answer_with manager text (refusal_of text)
