-- Words of frames that a table keeps.
use Rattle.std.proofs.Common.{◌≡◌, ℕ, ◌+◌, ◌<◌, ◌≤◌, List, length, map, take, get_or, Option, sym, ap, subst, ◌∙◌, arith}
use Rattle.std.proofs.lemmas.List.{take_more_same, get_or-map}
use Rattle.std.proofs.lemmas.Nat.{le_or_l, le_or_r}
use Rattle.std.specs.Int.Bits.{bit_or, bit_xor}
use Rattle.std.specs.List.{All}
use Rattle.klp_types.specs.declared.version.Version.{Version}
use Rattle.klp_types.specs.declared.task.Task.{Task}
use Rattle.klp_types.specs.Frames.{frames_of}
use Rattle.klp_journal.specs.Words.{frame_word, IsFrame, AreFramesOf}
use Rattle.klp_journal.specs.Decoded.{frame_of}
use Rattle.klp_journal.proofs.WordLemmas.{frames_back}
use lib.Bits.{xor_assoc, xor_self, xor_zero_r}

-- the words of frames are read as these frames
pub are_kept : (words : List ℕ) (frames : List Version) → words ≡ map frame_word frames → length frames ≤ 32 → All IsFrame frames
    → (map frame_of words ≡ frames) × AreFramesOf words (map frame_of words)
are_kept words frames is few range =
    let back = ap (map frame_of) is ∙ frames_back frames range in
    (back, subst (AreFramesOf words) (sym back) (sym is, few, range))

-- where no bit of two words differs, nor any of those before, these and they are the same
none_differ : (before word other : ℕ) → bit_or before (bit_xor word other) ≡ 0 → (before ≡ 0) × (word ≡ other)
none_differ before word other none =
    let same : bit_xor word other ≡ 0 = omega (arith, le_or_r before (bit_xor word other), none) in (
      omega (arith, le_or_l before (bit_xor word other), none),
      sym (xor_zero_r word) ∙ ap (bit_xor word) (sym (xor_self other)) ∙ sym (xor_assoc word other other) ∙ ap (λ n. bit_xor n other) same,
    )

-- one word more is the same
pub same_so_far : (words others : List ℕ) (k before : ℕ) → k < length words → k < length others → (before ≡ 0 → take k words ≡ take k others)
    → bit_or before (bit_xor (get_or words k 0) (get_or others k 0)) ≡ 0 → take (k + 1) words ≡ take (k + 1) others
same_so_far words others k before here there same none =
    let both = none_differ before (get_or words k 0) (get_or others k 0) none in
    take_more_same words others k 0 here there (same both.0) both.1

-- the frames that a table of tasks keeps beside a row
pub own_frames : (tasks : List (Option Task)) (kept : List (List Version)) (k : ℕ) (row : Option Task) (own : List Version) → kept ≡ map frames_of tasks → k < length tasks → row ≡ get_or tasks k row
    → own ≡ get_or kept k own → own ≡ frames_of row
own_frames tasks kept k row own same within is at =
    at ∙ ap (λ xs. get_or xs k own) same ∙ get_or-map frames_of tasks k row own within ∙ ap frames_of (sym is)
