-- How many words a record has.
use Rattle.std.proofs.Common.{ℕ, ◌+◌, ◌/◌, ◌≤◌, [], ◌∷◌, length, Option, Some, None, arith, length-append}
use Rattle.std.proofs.lemmas.List.{length-map}
use Rattle.klp_types.specs.declared.record.Place.{Place}
use Rattle.klp_types.specs.declared.record.Record.{Record}
use Rattle.klp_types.specs.declared.record.Record.TheVariants.{TaskRow, NoTaskRow, ShadowVariable, NoShadowVariable, StateValue, StateRow, LoadedFlag, InstalledPatch, StackEntry, HookFlag, Moving, NothingMoving, PinnedFlag}
use Rattle.klp_types.specs.Padded.{padded}
use Rattle.klp_journal.specs.Words.{frame_word, number_words, place_words, words_before_tag, words_of, IsRecord}
use Rattle.klp_journal.proofs.WordLemmas.{length-byte_words, few_words}
use Rattle.klp_journal.proofs.BackLemmas.{tag_of}

-- a number that may be missing, and a place
few_numbers : (number : Option ℕ) → length (number_words number) ≤ 1
few_numbers None = omega arith
few_numbers (Some number) = omega arith

few_places : (was : Option Place) → length (place_words was) ≤ 2
few_places None = omega arith
few_places (Some place) = omega arith

few_before : (row : Record) → IsRecord row → length (words_before_tag row) ≤ 35
few_before (TaskRow task was) h = omega (arith, length-map was.frames frame_word, h.1.1)
few_before (NoTaskRow task) h = omega arith
few_before (ShadowVariable key was) h =
    omega (arith, length-byte_words ((length was + 7) / 8) (padded 64 0 was), few_words (length was) h.2.0)
few_before (NoShadowVariable key) h = omega arith
few_before (StateValue patch id was) h = omega arith
few_before (StateRow patch id was) h = omega (arith, few_numbers was)
few_before (LoadedFlag object was) h = omega arith
few_before (InstalledPatch patch place) h = omega (arith, few_numbers place)
few_before (StackEntry site patch was) h = omega (arith, few_places was)
few_before (HookFlag site was) h = omega arith
few_before (Moving was) h = omega arith
few_before NothingMoving h = omega arith
few_before (PinnedFlag patch was) h = omega arith

pub few : (row : Record) → IsRecord row → length (words_of row) ≤ 36
few row h = omega (arith, few_before row h, length-append (words_before_tag row) (tag_of row ∷ []))
