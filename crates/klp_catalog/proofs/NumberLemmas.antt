-- The number of a callback among all of the catalog: its place in the order of the text.
use Rattle.std.proofs.Common.{◌≡◌, ℕ, zero, suc, ◌+◌, ◌<◌, ◌≤◌, Bool, true, false, cond, List, [], ◌∷◌, ◌++◌, length, length-append, map, slice_get, option_map, Some, None, Option, refl, sym, ap, subst, ◌∙◌, arith}
use Rattle.std.specs.Prelude.{◌==◌, ◌&&◌, ◌||◌, position, option_and_then}
use Rattle.std.specs.List.{AllByRecursion, list_any, position_from}
use Rattle.std.proofs.lemmas.Bool.{eqb-true, eq-eqb}
use Rattle.std.proofs.lemmas.Iterator.Adapters.{position_from-zero}
use Rattle.std.proofs.lemmas.List.{length-map}
use Rattle.std.proofs.Math.Bool.{and-false}
use Rattle.klp_types.specs.declared.callback.Which.{Which}
use Rattle.klp_types.specs.declared.callback.Which.TheVariants.{Pre, Post, PreUn, PostUn}
use Rattle.klp_types.specs.Setting.{Callback}
use Rattle.klp_types.specs.Callbacks.{is_kind}
use Rattle.klp_modules.specs.Names.{ObjectNames}
use Rattle.klp_catalog_text.specs.Plan.{PlanTarget, PlanPatch}
use Rattle.klp_catalog_text.specs.PlanParts.{which_number}
use Rattle.klp_catalog_text.specs.Limits.{has_same, callback_number}
use Rattle.klp_catalog_text.specs.Scripts.{scripts_of_target, scripts_of_targets, scripts_of}
use Rattle.klp_catalog.specs.Counts.{CallbackId, is_callback}
use Rattle.klp_catalog.specs.Runs.{by_number, target_ids, patch_ids, callback_ids}
use Rattle.klp_catalog.specs.Limits.{HasOneOfEach, IsWithin}
use Rattle.klp_catalog.specs.Stored.{StoredTarget, StoredPatch, placed, target_size, patch_size, stored_target, stored_patch, stored_patches, targets_at, number_in, number_of}

-- ---- kinds

pub same-kind : (a b : Which) → is_kind a b ≡ true → a ≡ b
same-kind Pre Pre h = refl
same-kind Post Post h = refl
same-kind PreUn PreUn h = refl
same-kind PostUn PostUn h = refl
same-kind Pre Post h = let no : ⊥ = cc in absurd no
same-kind Pre PreUn h = let no : ⊥ = cc in absurd no
same-kind Pre PostUn h = let no : ⊥ = cc in absurd no
same-kind Post Pre h = let no : ⊥ = cc in absurd no
same-kind Post PreUn h = let no : ⊥ = cc in absurd no
same-kind Post PostUn h = let no : ⊥ = cc in absurd no
same-kind PreUn Pre h = let no : ⊥ = cc in absurd no
same-kind PreUn Post h = let no : ⊥ = cc in absurd no
same-kind PreUn PostUn h = let no : ⊥ = cc in absurd no
same-kind PostUn Pre h = let no : ⊥ = cc in absurd no
same-kind PostUn Post h = let no : ⊥ = cc in absurd no
same-kind PostUn PreUn h = let no : ⊥ = cc in absurd no

kind-sym : (a b : Which) → is_kind a b ≡ is_kind b a
kind-sym Pre Pre = refl
kind-sym Post Post = refl
kind-sym PreUn PreUn = refl
kind-sym PostUn PostUn = refl
kind-sym Pre Post = refl
kind-sym Pre PreUn = refl
kind-sym Pre PostUn = refl
kind-sym Post Pre = refl
kind-sym Post PreUn = refl
kind-sym Post PostUn = refl
kind-sym PreUn Pre = refl
kind-sym PreUn Post = refl
kind-sym PreUn PostUn = refl
kind-sym PostUn Pre = refl
kind-sym PostUn Post = refl
kind-sym PostUn PreUn = refl

-- another number, another kind
kind-apart : (a b c : Which) → is_kind a b ≡ true → (which_number c == which_number b) ≡ false → is_kind a c ≡ false
kind-apart a b c same apart = by (is_kind a c) refl
  where
    by : (t : Bool) → is_kind a c ≡ t → t ≡ false
    by false e = refl
    by true e =
        let kinds : b ≡ c = sym (same-kind a b same) ∙ same-kind a c e in
        let numbers : (which_number c == which_number b) ≡ true = eq-eqb (which_number c) (which_number b) (ap which_number (sym kinds)) in
        sym numbers ∙ apart

-- ---- the only number at which a test passes

abbrev pub Case : Bool → Type 0 → Type 0 → Type 0
Case true P Q = P
Case false P Q = Q

abbrev pub Nowhere : {A : Type 0} → (A → Bool) → List A → Type 0
Nowhere test [] = Unit {0}
Nowhere test (x ∷ xs) = (test x ≡ false) × Nowhere test xs

-- the test passes at this number, in a list that begins at n, and nowhere else
abbrev pub IsOnly : {A : Type 0} → (A → Bool) → ℕ → List A → Option ℕ → Type 0
IsOnly test n [] found = found ≡ None
IsOnly test n (x ∷ xs) found = Case (test x) ((found ≡ Some n) × Nowhere test xs) (IsOnly test (n + 1) xs found)

module _ {A : Type 0} (test : A → Bool) where
  pub only-here : (n : ℕ) (x : A) (xs : List A) (found : Option ℕ) → test x ≡ true → found ≡ Some n → Nowhere test xs → IsOnly test n (x ∷ xs) found
  only-here n x xs found e is rest = subst (λ b. Case b ((found ≡ Some n) × Nowhere test xs) (IsOnly test (n + 1) xs found)) (sym e) (is, rest)

  pub only-later : (n : ℕ) (x : A) (xs : List A) (found : Option ℕ) → test x ≡ false → IsOnly test (n + 1) xs found → IsOnly test n (x ∷ xs) found
  only-later n x xs found e rest = subst (λ b. Case b ((found ≡ Some n) × Nowhere test xs) (IsOnly test (n + 1) xs found)) (sym e) rest

  pub nowhere-append : (xs ys : List A) → Nowhere test xs → Nowhere test ys → Nowhere test (xs ++ ys)
  nowhere-append [] ys none others = others
  nowhere-append (x ∷ xs) ys none others = (none.0, nowhere-append xs ys none.1 others)

  nowhere-only : (n : ℕ) (xs : List A) (found : Option ℕ) → found ≡ None → Nowhere test xs → IsOnly test n xs found
  nowhere-only n [] found is none = is
  nowhere-only n (x ∷ xs) found is none = only-later n x xs found none.0 (nowhere-only (n + 1) xs found is none.1)

  pub only-left : (n : ℕ) (xs ys : List A) (found : Option ℕ) → IsOnly test n xs found → Nowhere test ys → IsOnly test n (xs ++ ys) found
  only-left n [] ys found only none = nowhere-only n ys found only none
  only-left n (x ∷ xs) ys found only none = by (λ h. only-left (n + 1) xs ys found h none) (test x) refl only
    where
      by : (IsOnly test (n + 1) xs found → IsOnly test (n + 1) (xs ++ ys) found) → (b : Bool) → test x ≡ b
          → Case b ((found ≡ Some n) × Nowhere test xs) (IsOnly test (n + 1) xs found) → IsOnly test n (x ∷ (xs ++ ys)) found
      by later true e h = only-here n x (xs ++ ys) found e h.0 (nowhere-append xs ys h.1 none)
      by later false e h = only-later n x (xs ++ ys) found e (later h)

  pub only-right : (n : ℕ) (xs ys : List A) (found : Option ℕ) → Nowhere test xs → IsOnly test (n + length xs) ys found → IsOnly test n (xs ++ ys) found
  only-right n [] ys found none only = let same : n + 0 ≡ n = omega arith in subst (λ m. IsOnly test m ys found) same only
  only-right n (x ∷ xs) ys found none only =
      let same : n + suc (length xs) ≡ (n + 1) + length xs = omega arith in
      only-later n x (xs ++ ys) found none.0 (only-right (n + 1) xs ys found none.1 (subst (λ m. IsOnly test m ys found) same only))

  pub only-position : (n : ℕ) (xs : List A) (found : Option ℕ) → IsOnly test n xs found → found ≡ position_from test n xs
  only-position n [] found only = only
  only-position n (x ∷ xs) found only = by (only-position (n + 1) xs found) (test x) only
    where
      by : (IsOnly test (n + 1) xs found → found ≡ position_from test (n + 1) xs) → (b : Bool)
          → Case b ((found ≡ Some n) × Nowhere test xs) (IsOnly test (n + 1) xs found) → found ≡ cond b (Some n) (position_from test (n + 1) xs)
      by later true h = h.0
      by later false h = later h

  pub only-within : (n : ℕ) (xs : List A) (m : ℕ) → IsOnly test n xs (Some m) → (n ≤ m) × (m < n + length xs)
  only-within n [] m only = let no : ⊥ = cc in absurd no
  only-within n (x ∷ xs) m only = by (only-within (n + 1) xs m) (test x) only
    where
      by : (IsOnly test (n + 1) xs (Some m) → (n + 1 ≤ m) × (m < (n + 1) + length xs)) → (b : Bool)
          → Case b ((◌≡◌ {A = Option ℕ} (Some m) (Some n)) × Nowhere test xs) (IsOnly test (n + 1) xs (Some m)) → (n ≤ m) × (m < n + suc (length xs))
      by later true h =
          let first : ◌≡◌ {A = Option ℕ} (Some m) (Some n) = h.0 in
          let same : m ≡ n = cc in
          (omega arith, omega arith)
      by later false h = let rest = later h in (omega (arith, rest.0), omega (arith, rest.1))

pub position-is : {A : Type 0} (test : A → Bool) (xs : List A) → position test xs ≡ position_from test 0 xs
position-is test xs = position_from-zero test xs

-- numbers that begin higher
position-shift : {A : Type 0} (test : A → Bool) (n m : ℕ) (xs : List A) → position_from test (n + m) xs ≡ option_map (λ k. n + k) (position_from test m xs)
position-shift test n m [] = refl
position-shift test n m (x ∷ xs) = by (position-shift test n (m + 1) xs) (test x)
  where
    by : position_from test (n + (m + 1)) xs ≡ option_map (λ k. n + k) (position_from test (m + 1) xs) → (b : Bool) → cond b (Some (n + m)) (position_from test ((n + m) + 1) xs) ≡ option_map (λ k. n + k) (cond b (Some m) (position_from test (m + 1) xs))
    by later true = refl
    by later false = let same : (n + m) + 1 ≡ n + (m + 1) = omega arith in ap (λ k. position_from test k xs) same ∙ later

pub number-from : (which : Which) (target : StoredTarget) → number_in which target ≡ position_from (λ (w : Which). is_kind w which) target.first target.kinds
number-from which target =
    let same : target.first + 0 ≡ target.first = omega arith in
    ap (option_map (λ place. target.first + place)) (position-is (λ (w : Which). is_kind w which) target.kinds)
    ∙ sym (position-shift (λ (w : Which). is_kind w which) target.first 0 target.kinds) ∙ ap (λ k. position_from (λ (w : Which). is_kind w which) k target.kinds) same

-- ---- items that give parts one after another, and begin at their numbers

module _ {A B S : Type 0} (test : A → Bool) (gives : ℕ → B → List A) (make : ℕ → B → S) (size : B → ℕ) (answer : S → Option ℕ) (Fits : B → Type 0) (j : ℕ)
    (sized : (i : ℕ) (b : B) → length (gives i b) ≡ size b)
    (apart : (i : ℕ) (b : B) → (i ≡ j → ⊥) → Nowhere test (gives i b))
    (here : (n : ℕ) (b : B) → Fits b → IsOnly test n (gives j b) (answer (make n b))) where
  later : (i : ℕ) (bs : List B) → j < i → Nowhere test (by_number gives i bs)
  later i [] lt = tt
  later i (b ∷ bs) lt = nowhere-append test (gives i b) (by_number gives (i + 1) bs) (apart i b (λ e. omega arith)) (later (i + 1) bs (omega arith))

  pub only-at : (n i d : ℕ) (bs : List B) → j ≡ i + d → AllByRecursion Fits bs
      → IsOnly test n (by_number gives i bs) (option_and_then answer (slice_get (placed make size n bs) d))
  only-at n i d [] at fits = refl
  only-at n i zero (b ∷ bs) at fits =
      let same : j ≡ i = omega arith in
      only-left test n (gives i b) (by_number gives (i + 1) bs) (answer (make n b))
      (subst (λ k. IsOnly test n (gives k b) (answer (make n b))) same (here n b fits.0)) (later (i + 1) bs (omega arith))
  only-at n i (suc d) (b ∷ bs) at fits =
      only-right test n (gives i b) (by_number gives (i + 1) bs) (option_and_then answer (slice_get (placed make size (n + size b) bs) d)) (apart i b (λ e. omega arith))
      (subst (λ k. IsOnly test (n + k) (by_number gives (i + 1) bs) (option_and_then answer (slice_get (placed make size (n + size b) bs) d))) (sym (sized i b))
      (only-at (n + size b) (i + 1) d bs (omega arith) fits.1))

-- ---- callbacks

eqb-false : (m n : ℕ) → (n ≡ m → ⊥) → (m == n) ≡ false
eqb-false m n apart = by (m == n) refl
  where
    by : (b : Bool) → (m == n) ≡ b → b ≡ false
    by true e = absurd (apart (sym (eqb-true m n e)))
    by false e = refl

module _ (p o : ℕ) (which : Which) where
  ids_nowhere : (q i : ℕ) (callbacks : List Callback) → ((kind : Which) → ((p == q) && ((o == i) && is_kind which kind)) ≡ false)
      → Nowhere (is_callback p o which) (map (λ (c : Callback). record { patch = q; place = i; which = c.which }) callbacks)
  ids_nowhere q i [] none = tt
  ids_nowhere q i (c ∷ cs) none = (none c.which, ids_nowhere q i cs none)

  target_elsewhere : (i : ℕ) (target : PlanTarget) → (i ≡ o → ⊥) → Nowhere (is_callback p o which) (target_ids p i target)
  target_elsewhere i target apart =
      ids_nowhere p i target.callbacks (λ kind. ap (λ b. (p == p) && (b && is_kind which kind)) (eqb-false o i apart) ∙ and-false (p == p))

  targets_elsewhere : (q i : ℕ) (targets : List PlanTarget) → (q ≡ p → ⊥) → Nowhere (is_callback p o which) (by_number (target_ids q) i targets)
  targets_elsewhere q i [] apart = tt
  targets_elsewhere q i (target ∷ targets) apart =
      nowhere-append (is_callback p o which) (target_ids q i target) (by_number (target_ids q) (i + 1) targets)
      (ids_nowhere q i target.callbacks (λ kind. ap (λ b. b && ((o == i) && is_kind which kind)) (eqb-false p q apart))) (targets_elsewhere q (i + 1) targets apart)

  own_kind : (kind : Which) → ((p == p) && ((o == o) && is_kind which kind)) ≡ is_kind which kind
  own_kind kind = λ k. eq-eqb p p refl k && (eq-eqb o o refl k && is_kind which kind)

  others_nowhere : (callback : Callback) (callbacks : List Callback) → is_kind which callback.which ≡ true
      → list_any (λ (c : Callback). callback_number c == callback_number callback) callbacks ≡ false
      → Nowhere (is_callback p o which) (map (λ (c : Callback). record { patch = p; place = o; which = c.which }) callbacks)
  others_nowhere callback [] same distinct = tt
  others_nowhere callback (c ∷ cs) same distinct = by (others_nowhere callback cs same) (callback_number c == callback_number callback) refl distinct
    where
      by : (list_any (λ (d : Callback). callback_number d == callback_number callback) cs ≡ false
          → Nowhere (is_callback p o which) (map (λ (d : Callback). record { patch = p; place = o; which = d.which }) cs))
          → (b : Bool) → (callback_number c == callback_number callback) ≡ b → (b || list_any (λ (d : Callback). callback_number d == callback_number callback) cs) ≡ false
          → Nowhere (is_callback p o which) (map (λ (d : Callback). record { patch = p; place = o; which = d.which }) (c ∷ cs))
      by later true e none = let no : ⊥ = cc in absurd no
      by later false e none = (own_kind c.which ∙ kind-apart which callback.which c.which same e, later none)

  kinds_only : (n : ℕ) (callbacks : List Callback) → has_same callback_number callbacks ≡ false
      → IsOnly (is_callback p o which) n (map (λ (c : Callback). record { patch = p; place = o; which = c.which }) callbacks)
      (position_from (λ (w : Which). is_kind w which) n (map (λ (c : Callback). c.which) callbacks))
  kinds_only n [] distinct = refl
  kinds_only n (c ∷ cs) distinct = by (kinds_only (n + 1) cs) (list_any (λ (d : Callback). callback_number d == callback_number c) cs) refl distinct
    where
      ids : List CallbackId
      ids = map (λ (d : Callback). record { patch = p; place = o; which = d.which }) cs

      found : Option ℕ
      found = position_from (λ (w : Which). is_kind w which) n (map (λ (d : Callback). d.which) (c ∷ cs))

      split : IsOnly (is_callback p o which) (n + 1) ids (position_from (λ (w : Which). is_kind w which) (n + 1) (map (λ (d : Callback). d.which) cs))
          → (b : Bool) → is_kind which c.which ≡ b → list_any (λ (d : Callback). callback_number d == callback_number c) cs ≡ false
          → IsOnly (is_callback p o which) n (record { patch = p; place = o; which = c.which } ∷ ids) found
      split later true e apart =
          only-here (is_callback p o which) n (record { patch = p; place = o; which = c.which }) ids found (own_kind c.which ∙ e)
          (ap (λ b. cond b (Some n) (position_from (λ (w : Which). is_kind w which) (n + 1) (map (λ (d : Callback). d.which) cs))) (kind-sym c.which which ∙ e))
          (others_nowhere c cs e apart)
      split later false e apart =
          only-later (is_callback p o which) n (record { patch = p; place = o; which = c.which }) ids found (own_kind c.which ∙ e)
          (subst (IsOnly (is_callback p o which) (n + 1) ids)
          (sym (ap (λ b. cond b (Some n) (position_from (λ (w : Which). is_kind w which) (n + 1) (map (λ (d : Callback). d.which) cs))) (kind-sym c.which which ∙ e)))
          later)

      by : (has_same callback_number cs ≡ false → IsOnly (is_callback p o which) (n + 1) ids (position_from (λ (w : Which). is_kind w which) (n + 1) (map (λ (d : Callback). d.which) cs)))
          → (b : Bool) → list_any (λ (d : Callback). callback_number d == callback_number c) cs ≡ b → (b || has_same callback_number cs) ≡ false
          → IsOnly (is_callback p o which) n (record { patch = p; place = o; which = c.which } ∷ ids) found
      by later true e none = let no : ⊥ = cc in absurd no
      by later false e rest = split (later rest) (is_kind which c.which) refl e

  target_only : (n : ℕ) (target : PlanTarget) → HasOneOfEach target → IsOnly (is_callback p o which) n (target_ids p o target) (number_in which (stored_target n target))
  target_only n target one =
      subst (IsOnly (is_callback p o which) n (target_ids p o target)) (sym (number-from which (stored_target n target))) (kinds_only n target.callbacks one.distinct)

-- how many callbacks there are
target_sized : (q i : ℕ) (target : PlanTarget) → length (target_ids q i target) ≡ target_size target
target_sized q i target = length-map target.callbacks (λ (c : Callback). record { patch = q; place = i; which = c.which })

targets_sized : (q i : ℕ) (targets : List PlanTarget) → length (by_number (target_ids q) i targets) ≡ length (scripts_of_targets targets)
targets_sized q i [] = refl
targets_sized q i (target ∷ targets) =
    omega (
      arith,
      length-append (target_ids q i target) (by_number (target_ids q) (i + 1) targets),
      length-append (scripts_of_target target) (scripts_of_targets targets),
      length-map target.callbacks (λ (c : Callback). c.script),
      target_sized q i target,
      targets_sized q (i + 1) targets,
    )

patches_sized : (i : ℕ) (patches : List PlanPatch) → length (by_number patch_ids i patches) ≡ length (scripts_of patches)
patches_sized i [] = refl
patches_sized i (patch ∷ patches) =
    omega (
      arith,
      length-append (patch_ids i patch) (by_number patch_ids (i + 1) patches),
      length-append (scripts_of_targets patch.targets) (scripts_of patches),
      targets_sized i 0 patch.targets,
      patches_sized (i + 1) patches,
    )

pub ids_sized : (patches : List PlanPatch) → length (callback_ids patches) ≡ length (scripts_of patches)
ids_sized patches = patches_sized 0 patches

abbrev number_at : ℕ → Which → StoredPatch → Option ℕ
number_at place which patch = option_and_then (number_in which) (slice_get patch.targets place)

by_patch : (stored : List StoredPatch) (p o : ℕ) (which : Which) → option_and_then (number_at o which) (slice_get stored p) ≡ number_of stored p o which
by_patch stored p o which = by (slice_get stored p)
  where
    by : (found : Option StoredPatch) → option_and_then (number_at o which) found ≡ option_and_then (number_in which) (slice_get (targets_at found) o)
    by None = refl
    by (Some patch) = refl

-- the number that is kept of a callback is its place, and the only one
pub number_only : (names : List ObjectNames) (patches : List PlanPatch) (p o : ℕ) (which : Which) → AllByRecursion IsWithin patches
    → IsOnly (is_callback p o which) 0 (callback_ids patches) (number_of (stored_patches names 0 patches) p o which)
number_only names patches p o which within =
    subst (IsOnly (is_callback p o which) 0 (callback_ids patches)) (by_patch (stored_patches names 0 patches) p o which)
    (only-at (is_callback p o which) patch_ids (stored_patch names) patch_size (number_at o which) IsWithin p
    (λ i patch. targets_sized i 0 patch.targets) (λ i patch apart. targets_elsewhere p o which i 0 patch.targets apart)
    (λ n patch fits. only-at (is_callback p o which) (target_ids p) stored_target target_size (number_in which) HasOneOfEach o
    (target_sized p) (target_elsewhere p o which) (target_only p o which) n 0 o patch.targets (omega arith) fits.one_of_each)
    0 0 p patches (omega arith) within)
