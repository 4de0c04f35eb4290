-- The lines that ask for texts, object by object, and what they are answered.
use Rattle.std.proofs.Common.{◌≡◌, ℕ, zero, suc, ◌+◌, ◌<◌, Bool, true, false, List, [], ◌∷◌, ◌++◌, take, drop, Option, Some, None, refl, sym, ap, subst, ◌∙◌, arith, add-one, append_assoc, append-nil}
use Rattle.std.specs.List.{slice_get, slice_index_or}
use Rattle.std.specs.Io.KnownBytes.{Appends, Consumes, IsAtEnd}
use Rattle.klp_modules.specs.Names.{ObjectNames}
use Rattle.klp_console.specs.declared.served.Served.{Served}
use Rattle.klp_console.specs.Lines.{AreAnswered, lines_of, texts_of}
use Rattle.klp_console.specs.Served.{Console, IsServed}
use Rattle.klp_live_run.specs.Shown.{asks_for_all, asks_if, IsAnsweredBehind}

no_flags : (i : ℕ) → drop {A = Bool} i [] ≡ []
no_flags zero = refl
no_flags (suc i) = refl

asks_at : (objects : List ObjectNames) (loaded : List Bool) (i : ℕ)
    → asks_for_all (drop i objects) (drop i loaded)
    ≡ asks_if (slice_get objects i) (slice_index_or loaded i false) ++ asks_for_all (drop (suc i) objects) (drop (suc i) loaded)
asks_at [] loaded zero = refl
asks_at [] loaded (suc i) = refl
asks_at (object ∷ []) [] zero = refl
asks_at (object ∷ next ∷ objects) [] zero = refl
asks_at (object ∷ objects) (is_loaded ∷ loaded) zero = refl
asks_at (object ∷ objects) [] (suc i) = ap (λ (flags : List Bool). asks_for_all (drop i objects) flags) (sym (no_flags i)) ∙ asks_at objects [] i
asks_at (object ∷ objects) (is_loaded ∷ loaded) (suc i) = asks_at objects loaded i

within : (k : ℕ) (objects : List ObjectNames) (i : ℕ) → i < k → slice_get (take k objects) i ≡ slice_get objects i
within zero objects i below = absurd (omega arith)
within (suc k) [] i below = refl
within (suc k) (object ∷ objects) zero below = refl
within (suc k) (object ∷ objects) (suc i) below = within k objects i (omega arith)

gone : (k : ℕ) (objects : List ObjectNames) → drop k (take k objects) ≡ []
gone zero objects = refl
gone (suc k) [] = refl
gone (suc k) (object ∷ objects) = gone k objects

-- one object more of the first so many
pub asked_more : (k : ℕ) (objects : List ObjectNames) (loaded : List Bool) (i : ℕ) (lines more all : List ℕ) → i < k
    → lines ++ asks_for_all (drop i (take k objects)) (drop i loaded) ≡ all
    → more ≡ lines ++ asks_if (slice_get objects i) (slice_index_or loaded i false)
    → more ++ asks_for_all (drop (i + 1) (take k objects)) (drop (i + 1) loaded) ≡ all
asked_more k objects loaded i lines more all below so_far adds =
    let rest = asks_for_all (drop (suc i) (take k objects)) (drop (suc i) loaded) in
    rw add-one (ap (λ text. text ++ rest) adds
    ∙ append_assoc lines (asks_if (slice_get objects i) (slice_index_or loaded i false)) rest
    ∙ ap (λ (found : Option ObjectNames). lines ++ (asks_if found (slice_index_or loaded i false) ++ rest)) (sym (within k objects i below))
    ∙ ap (λ text. lines ++ text) (sym (asks_at (take k objects) loaded i)) ∙ so_far)

-- and at last all of them
pub asked_all : (k : ℕ) (objects : List ObjectNames) (loaded : List Bool) (lines all : List ℕ)
    → lines ++ asks_for_all (drop k (take k objects)) (drop k loaded) ≡ all → lines ≡ all
asked_all k objects loaded lines all so_far =
    sym (append-nil lines) ∙ ap (λ rest. lines ++ asks_for_all rest (drop k loaded)) (sym (gone k objects)) ∙ so_far

-- a source at its end has given all that it had
all_read : (lines bytes : List ℕ) (left : Option (List ℕ)) → Consumes (Some lines) left bytes → IsAtEnd left → lines ≡ bytes
all_read lines bytes None read ended = absurd read
all_read lines bytes (Some rest) read ended = read ∙ ap (λ more. bytes ++ more) ended ∙ append-nil bytes

-- what a console answers that was served these lines, and whose sink had a front
pub answered_behind : (before after : Console) (served : Served) (lines front text : List ℕ) → before.supply.left ≡ Some lines
    → before.written.taken ≡ Some front → after.written.taken ≡ Some text → IsServed before after served
    → IsAnsweredBehind before.manager lines front text
answered_behind before after served lines front text given had has is =
    let all : lines ≡ is.bytes =
    all_read lines is.bytes after.supply.left (subst (λ (left : Option (List ℕ)). Consumes left after.supply.left is.bytes) given is.reads.read) is.at_end in
    let appends : Appends (Some front) (Some text) (texts_of is.answers) =
    subst (λ (taken : Option (List ℕ)). Appends (Some front) taken (texts_of is.answers)) has
    (subst (λ (taken : Option (List ℕ)). Appends taken after.written.taken (texts_of is.answers)) had is.writes.written) in
    record {
      left = after.manager;
      answers = is.answers;
      answered = subst (λ (bytes : List ℕ). AreAnswered before.manager after.manager (lines_of bytes) is.answers) (sym all) is.reads.answered;
      text_is = appends;
    }
