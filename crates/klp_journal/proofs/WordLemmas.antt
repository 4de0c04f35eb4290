-- Words of records: each field is got back from its word, and so the record from its words.
use Rattle.std.proofs.Common.{◌≡◌, ℕ, zero, suc, ◌+◌, ◌-◌, ◌*◌, ◌/◌, ◌%◌, ◌^◌, ◌<◌, ◌≤◌, Bool, true, false, eqb, List, [], ◌∷◌, ◌++◌, map, length, get_or, take, drop, replicate, Option, Some, None, ◌⊎◌, inl, inr, refl, sym, ap, ◌∙◌, arith, length-append, length-drop, length-take-le, take-add, take-take, take_at}
use Rattle.std.proofs.lemmas.Bool.{lt-ltb, le-ltb, ne_eqb}
use Rattle.std.proofs.lemmas.List.{length-replicate}
use Rattle.std.proofs.lemmas.Nat.{le_bytes_8, from_le_bytes-to_le_bytes_8}
use Rattle.std.specs.Prelude.{ℤ, pos, negsuc, ◌==◌, nat_lt, if◌then◌else◌}
use Rattle.std.specs.List.{All}
use Rattle.std.specs.Int.{w64, to_le_bytes, from_le_bytes}
use Rattle.klp_types.specs.declared.version.Version.{Version}
use Rattle.klp_types.specs.declared.version.Version.TheVariants.{Original, New}
use Rattle.klp_types.specs.declared.task.Mode.{Mode}
use Rattle.klp_types.specs.declared.task.Mode.TheVariants.{User, Kernel, Asleep}
use Rattle.klp_types.specs.declared.task.Task.{Task}
use Rattle.klp_types.specs.declared.record.Place.{Place}
use Rattle.klp_types.specs.declared.record.Record.{Record}
use Rattle.klp_types.specs.declared.record.Record.TheVariants.{TaskRow, NoTaskRow, ShadowVariable, NoShadowVariable, StateValue, StateRow, LoadedFlag, InstalledPatch, StackEntry, HookFlag, Moving, NothingMoving, PinnedFlag}
use Rattle.klp_types.specs.Padded.{padded}
use Rattle.klp_types.specs.PatchStates.{IsPatchState}
use Rattle.klp_journal.specs.Words.{flag_word, state_word, mode_word, task_word, frame_word, byte_words, bytes_as_words, func_word, number_words, place_words, words_before_tag, kind_of, IsFrame, IsTask, IsValue, IsRecord}
use Rattle.klp_journal.specs.Decoded.{state_of, mode_of, frame_of, task_of, bytes_in, func_of, number_behind, place_behind, record_of}

-- a choice whose test is known
pub if_yes : {A : Type 0} (test : Bool) (x y : A) → test ≡ true → (if test then x else y) ≡ x
if_yes true x y h = refl
if_yes false x y h = cc

pub if_no : {A : Type 0} (test : Bool) (x y : A) → test ≡ false → (if test then x else y) ≡ y
if_no true x y h = cc
if_no false x y h = refl

pub chosen : {A : Type 0} (P : A → Type 0) (test : Bool) (x y : A) → P (if test then x else y) → ((test ≡ true) × P x) ⊎ ((test ≡ false) × P y)
chosen P true x y h = inl (refl, h)
chosen P false x y h = inr (refl, h)

-- flags
pub flag_back : (flag : Bool) → (flag_word flag == 1) ≡ flag
flag_back true = refl
flag_back false = refl

pub flag_small : (flag : Bool) → flag_word flag ≤ 1
flag_small true = omega arith
flag_small false = omega arith

pub flag_is : (word : ℕ) → word ≤ 1 → flag_word (word == 1) ≡ word
flag_is zero h = refl
flag_is (suc zero) h = refl
flag_is (suc (suc word)) h = absurd (omega (arith, h))

-- states
pub state_back : (state : ℤ) → IsPatchState state → state_of (state_word state) ≡ state
state_back (pos n) h = refl
state_back (negsuc n) h = ap negsuc (sym h)

pub state_small : (state : ℤ) → IsPatchState state → state_word state ≤ 2
state_small (pos n) h = omega (arith, h)
state_small (negsuc n) h = omega arith

-- modes
pub mode_back : (mode : Mode) → mode_of (mode_word mode) ≡ mode
mode_back User = refl
mode_back Kernel = refl
mode_back Asleep = refl

pub mode_small : (mode : Mode) → mode_word mode ≤ 2
mode_small User = omega arith
mode_small Kernel = omega arith
mode_small Asleep = omega arith

pub low_part : (a b : ℕ) → a ≤ 2 → (a + 4 * b) % 4 ≡ a
low_part a b h = omega arith

pub high_part : (a b : ℕ) → a ≤ 2 → (a + 4 * b) / 4 ≡ b
high_part a b h = omega arith

-- frames
above : (patch func : ℕ) → 65536 ≤ 65536 * (patch + 1) + func
above patch func = omega arith

new_patch : (patch func : ℕ) → func < 65536 → (65536 * (patch + 1) + func) / 65536 - 1 ≡ patch
new_patch patch func h = omega arith

new_func : (patch func : ℕ) → func < 65536 → (65536 * (patch + 1) + func) % 65536 ≡ func
new_func patch func h = omega arith

pub frame_back : (frame : Version) → IsFrame frame → frame_of (frame_word frame) ≡ frame
frame_back (Original site) h = if_yes (nat_lt site 65536) _ _ (lt-ltb site 65536 h)
frame_back (New patch func) h =
    if_no (nat_lt (65536 * (patch + 1) + func) 65536) _ _ (le-ltb _ 65536 (above patch func))
    ∙ ap (λ p. New p ((65536 * (patch + 1) + func) % 65536)) (new_patch patch func h.1)
    ∙ ap (New patch) (new_func patch func h.1)

-- each of a list
pub all_head : {A : Type 0} (P : A → Type 0) (x : A) (xs : List A) → All P (x ∷ xs) → P x
all_head P x xs h = h 0 x (omega arith)

pub all_tail : {A : Type 0} (P : A → Type 0) (x : A) (xs : List A) → All P (x ∷ xs) → All P xs
all_tail P x xs h = λ k d l. h (suc k) d (omega (arith, l))

pub all_nil : {A : Type 0} (P : A → Type 0) → All P []
all_nil P = λ k d l. absurd (omega (arith, l))

pub all_cons : {A : Type 0} (P : A → Type 0) (x : A) (xs : List A) → P x → All P xs → All P (x ∷ xs)
all_cons P x xs p h zero d l = p
all_cons P x xs p h (suc k) d l = h k d (omega (arith, l))

pub all_append : {A : Type 0} (P : A → Type 0) (xs ys : List A) → All P xs → All P ys → All P (xs ++ ys)
all_append P [] ys h k = k
all_append P (x ∷ xs) ys h k = all_cons P x (xs ++ ys) (all_head P x xs h) (all_append P xs ys (all_tail P x xs h) k)

pub all_same : {A : Type 0} (P : A → Type 0) (n : ℕ) (x : A) → P x → All P (replicate n x)
all_same P zero x p = all_nil P
all_same P (suc n) x p = all_cons P x (replicate n x) p (all_same P n x p)

pub all_take : {A : Type 0} (P : A → Type 0) (n : ℕ) (xs : List A) → All P xs → All P (take n xs)
all_take P zero xs h = all_nil P
all_take P (suc n) [] h = all_nil P
all_take P (suc n) (x ∷ xs) h = all_cons P x (take n xs) (all_head P x xs h) (all_take P n xs (all_tail P x xs h))

pub all_drop : {A : Type 0} (P : A → Type 0) (n : ℕ) (xs : List A) → All P xs → All P (drop n xs)
all_drop P zero xs h = h
all_drop P (suc n) [] h = all_nil P
all_drop P (suc n) (x ∷ xs) h = all_drop P n xs (all_tail P x xs h)

pub frames_back : (frames : List Version) → All IsFrame frames → map frame_of (map frame_word frames) ≡ frames
frames_back [] h = refl
frames_back (frame ∷ frames) h =
    ap (λ f. f ∷ map frame_of (map frame_word frames)) (frame_back frame (all_head IsFrame frame frames h))
    ∙ ap (λ fs. frame ∷ fs) (frames_back frames (all_tail IsFrame frame frames h))

-- tasks
same_task : (s t : ℤ) (m n : Mode) (f g : List Version) → s ≡ t → m ≡ n → f ≡ g → ◌≡◌ {A = Task} (record { state = s; mode = m; frames = f }) (record { state = t; mode = n; frames = g })
same_task s t m n f g a b c =
    ap (λ x. record { state = x; mode = m; frames = f }) a ∙ ap (λ x. record { state = t; mode = x; frames = f }) b
    ∙ ap (λ x. record { state = t; mode = n; frames = x }) c

pub task_back : (task : Task) → IsTask task → task_of (task_word task) (map frame_word task.frames) ≡ task
task_back task h =
    same_task _ _ _ _ _ _
    (ap state_of (low_part (state_word task.state) (mode_word task.mode) (state_small task.state h.0)) ∙ state_back task.state h.0)
    (ap mode_of (high_part (state_word task.state) (mode_word task.mode) (state_small task.state h.0)) ∙ mode_back task.mode)
    (frames_back task.frames h.2)

-- bytes
abbrev pub IsByte : ℕ → Type 0
IsByte b = b < 256

abbrev pub IsWord : ℕ → Type 0
IsWord w = w < 2 ^ 64

pub length-byte_words : (count : ℕ) (bytes : List ℕ) → length (byte_words count bytes) ≡ count
length-byte_words zero bytes = refl
length-byte_words (suc count) bytes = ap suc (length-byte_words count (drop 8 bytes))

byte_at_any : (bytes : List ℕ) → All IsByte bytes → (k : ℕ) → get_or bytes k 0 < 256
byte_at_any [] h k = lit k
  where
    lit : (k : ℕ) → get_or [] k 0 < 256
    lit k = omega arith
byte_at_any (b ∷ bytes) h zero = all_head IsByte b bytes h
byte_at_any (b ∷ bytes) h (suc k) = byte_at_any bytes (all_tail IsByte b bytes h) k

-- the bytes that words were made of
pub bytes_of_words : (count : ℕ) (bytes : List ℕ) → 8 * count ≤ length bytes → All IsByte bytes → bytes_in (byte_words count bytes) ≡ take (8 * count) bytes
bytes_of_words zero bytes fits h = refl
bytes_of_words (suc count) bytes fits h =
    ap (λ xs. xs ++ bytes_in (byte_words count (drop 8 bytes))) (le_bytes_8 (take 8 bytes) (from_le_bytes w64 (take 8 bytes)) first (byte_at_any (take 8 bytes) (all_take IsByte 8 bytes h)) refl)
    ∙ ap (λ xs. take 8 bytes ++ xs) (bytes_of_words count (drop 8 bytes) others (all_drop IsByte 8 bytes h))
    ∙ sym (take-add 8 (8 * count) bytes)
    ∙ ap (λ n. take n bytes) all
  where
    first : length (take 8 bytes) ≡ 8
    first = length-take-le 8 bytes (omega (arith, fits))

    others : 8 * count ≤ length (drop 8 bytes)
    others = rw length-drop (omega (arith, fits))

    all : 8 + 8 * count ≡ 8 * suc count
    all = omega arith

-- the words that bytes were made of
pub words_of_bytes : (words rest : List ℕ) → All IsWord words → byte_words (length words) (bytes_in words ++ rest) ≡ words
words_of_bytes [] rest h = refl
words_of_bytes (w ∷ words) rest h =
    ap (λ x. x ∷ byte_words (length words) (bytes_in words ++ rest)) (from_le_bytes-to_le_bytes_8 w (all_head IsWord w words h))
    ∙ ap (λ xs. w ∷ xs) (words_of_bytes words rest (all_tail IsWord w words h))

pub length-bytes_in : (words : List ℕ) → length (bytes_in words) ≡ 8 * length words
length-bytes_in [] = refl
length-bytes_in (w ∷ words) = length-append (to_le_bytes w64 w) (bytes_in words) ∙ omega (arith, length-bytes_in words)

pub length_padded : (bytes : List ℕ) → length bytes ≤ 64 → length (padded 64 0 bytes) ≡ 64
length_padded bytes h = length-append bytes (replicate (64 - length bytes) 0) ∙ omega (arith, length-replicate {A = ℕ} (64 - length bytes) 0)

pub all_padded : (bytes : List ℕ) → All IsByte bytes → All IsByte (padded 64 0 bytes)
all_padded bytes h = all_append IsByte bytes (replicate (64 - length bytes) 0) h (all_same IsByte (64 - length bytes) 0 (omega arith))

-- how many words a value has, in bytes
pub enough : (n : ℕ) → n ≤ 8 * ((n + 7) / 8)
enough n = omega arith

pub few_words : (n : ℕ) → n ≤ 64 → 8 * ((n + 7) / 8) ≤ 64
few_words n h = omega arith

pub value_bytes : (bytes : List ℕ) → IsValue bytes → bytes_in (bytes_as_words bytes) ≡ take (8 * ((length bytes + 7) / 8)) (padded 64 0 bytes)
value_bytes bytes h =
    bytes_of_words ((length bytes + 7) / 8) (padded 64 0 bytes) (omega (arith, length_padded bytes h.0, few_words (length bytes) h.0)) (all_padded bytes h.1)

pub value_back : (bytes : List ℕ) → IsValue bytes → take (length bytes) (bytes_in (bytes_as_words bytes)) ≡ bytes
value_back bytes h =
    ap (take (length bytes)) (value_bytes bytes h)
    ∙ take-take (length bytes) (8 * ((length bytes + 7) / 8)) (padded 64 0 bytes) (enough (length bytes))
    ∙ take_at bytes (replicate (64 - length bytes) 0) (length bytes) refl

-- entries
pub func_back : (func : Option ℕ) → func_of (func_word func) ≡ func
func_back None = refl
func_back (Some func) = refl

same_place : (index : ℕ) (f g : Option ℕ) → f ≡ g → ◌≡◌ {A = Option Place} (Some (record { index = index; func = f })) (Some (record { index = index; func = g }))
same_place index f g e = ap (λ x. Some (record { index = index; func = x })) e

number_back_1 : (first : ℕ) (number : Option ℕ) → number_behind 1 (first ∷ number_words number) ≡ number
number_back_1 first None = refl
number_back_1 first (Some number) = refl

number_back_2 : (first second : ℕ) (number : Option ℕ) → number_behind 2 (first ∷ second ∷ number_words number) ≡ number
number_back_2 first second None = refl
number_back_2 first second (Some number) = refl

place_back : (first second : ℕ) (was : Option Place) → place_behind (first ∷ second ∷ place_words was) ≡ was
place_back first second None = refl
place_back first second (Some place) = ap (λ f. Some (record { index = place.index; func = f })) (func_back place.func)

longer : (n k : ℕ) → n < k → eqb k n ≡ false
longer n k h = ne_eqb k n (λ e. omega (arith, e, h))

-- a record is got back from its kind and its words
pub record_back : (row : Record) → IsRecord row → record_of (kind_of row) (words_before_tag row) ≡ row
unfolding record_of
record_back (TaskRow task was) h =
    if_no (eqb (length (task ∷ task_word was ∷ map frame_word was.frames)) 1) _ _ (longer 1 _ (omega arith))
    ∙ ap (TaskRow task) (task_back was h.1)
record_back (NoTaskRow task) h = refl
record_back (ShadowVariable key was) h =
    if_no (eqb (length (key.obj ∷ key.id ∷ length was ∷ bytes_as_words was)) 2) _ _ (longer 2 _ (omega arith))
    ∙ ap (ShadowVariable key) (value_back was h.2)
record_back (NoShadowVariable key) h = refl
record_back (StateValue patch id was) h = refl
record_back (StateRow patch id was) h = ap (StateRow patch id) (number_back_2 patch id was)
record_back (LoadedFlag object was) h = ap (LoadedFlag object) (flag_back was)
record_back (InstalledPatch patch place) h = ap (InstalledPatch patch) (number_back_1 patch place)
record_back (StackEntry site patch was) h = ap (StackEntry site patch) (place_back site patch was)
record_back (HookFlag site was) h = ap (HookFlag site) (flag_back was)
record_back (Moving was) h = ap (λ f. Moving (record { patch = was.patch; target = f })) (flag_back was.target)
record_back NothingMoving h = refl
record_back (PinnedFlag patch was) h = ap (PinnedFlag patch) (flag_back was)

-- a task's record, where it has two words or more
pub task_read : (body : List ℕ) (state : ℤ) (mode : Mode) (frames : List Version) → 2 ≤ length body → state ≡ state_of (get_or body 1 0 % 4) → mode ≡ mode_of (get_or body 1 0 / 4)
    → map frame_of (drop 2 body) ≡ frames → TaskRow (get_or body 0 0) (record { state = state; mode = mode; frames = frames }) ≡ record_of 1 body
unfolding record_of
task_read body state mode frames long s m f =
    ap (TaskRow (get_or body 0 0)) (same_task _ _ _ _ _ _ s m (sym f))
    ∙ sym (if_no (eqb (length body) 1) _ _ (longer 1 (length body) (omega (arith, long))))
