-- Where a script stands among those of targets.
use Rattle.std.proofs.Common.{◌≡◌, ℕ, zero, suc, ◌+◌, ◌<◌, List, [], ◌∷◌, ◌++◌, length, drop, get_or, slice_get, Some, refl, sym, ap, ◌∙◌, arith}
use Rattle.std.proofs.lemmas.List.{length-map}
use Rattle.klp_types.specs.Script.{Script}
use Rattle.klp_catalog_text.specs.Plan.{PlanTarget}
use Rattle.klp_types.specs.Setting.{Callback as PlanCallback}
use Rattle.klp_catalog_text.specs.Scripts.{scripts_of_callbacks, scripts_of_targets}

slice_get-front : {A : Type 0} (xs ys : List A) (n : ℕ) → n < length xs → slice_get (xs ++ ys) n ≡ slice_get xs n
slice_get-front [] ys n h = absurd (omega arith)
slice_get-front (x ∷ xs) ys zero h = refl
slice_get-front (x ∷ xs) ys (suc n) h = slice_get-front xs ys n (omega arith)

slice_get-behind : {A : Type 0} (xs ys : List A) (n m : ℕ) → n ≡ length xs + m → slice_get (xs ++ ys) n ≡ slice_get ys m
slice_get-behind [] ys n m h = let same : n ≡ m = omega arith in ap (slice_get ys) same
slice_get-behind (x ∷ xs) ys zero m h = absurd (omega arith)
slice_get-behind (x ∷ xs) ys (suc n) m h = slice_get-behind xs ys n m (omega arith)

assoc : {A : Type 0} (xs ys zs : List A) → (xs ++ ys) ++ zs ≡ xs ++ (ys ++ zs)
assoc [] ys zs = refl
assoc (x ∷ xs) ys zs = ap (λ l. x ∷ l) (assoc xs ys zs)

scripts_from : (targets : List PlanTarget) (i : ℕ) (target : PlanTarget) → i < length targets → target ≡ get_or targets i target
    → scripts_of_targets (drop i targets) ≡ scripts_of_callbacks target.callbacks ++ scripts_of_targets (drop (suc i) targets)
scripts_from [] i target h at_i = absurd (omega arith)
scripts_from (t ∷ targets) zero target h at_i = ap (λ (u : PlanTarget). scripts_of_callbacks u.callbacks ++ scripts_of_targets targets) (sym at_i)
scripts_from (t ∷ targets) (suc i) target h at_i = scripts_from targets i target (omega arith) at_i

module _ (targets : List PlanTarget) (i : ℕ) (target : PlanTarget) (callbacks : List PlanCallback) (rest : List Script) (left : ℕ)
    (inside : i < length targets) (at_i : target ≡ get_or targets i target) (its : callbacks ≡ target.callbacks) where
  here : scripts_of_targets (drop i targets) ++ rest ≡ scripts_of_callbacks callbacks ++ (scripts_of_targets (drop (i + 1) targets) ++ rest)
  here =
      let next : suc i ≡ i + 1 = omega arith in
      ap (λ s. s ++ rest) (scripts_from targets i target inside at_i)
      ∙ assoc (scripts_of_callbacks target.callbacks) (scripts_of_targets (drop (suc i) targets)) rest
      ∙ ap (λ cs. scripts_of_callbacks cs ++ (scripts_of_targets (drop (suc i) targets) ++ rest)) (sym its)
      ∙ ap (λ n. scripts_of_callbacks callbacks ++ (scripts_of_targets (drop n targets) ++ rest)) next

  -- one of this target's
  pub found : (callback : PlanCallback) → left < length callbacks → callback ≡ get_or callbacks left callback
      → slice_get (scripts_of_targets (drop i targets) ++ rest) left ≡ Some callback.script
  found callback h at_left =
      let more : left < length (scripts_of_callbacks callbacks) = omega (arith, h, length-map callbacks (λ (c : PlanCallback). c.script)) in
      ap (λ s. slice_get s left) here ∙ slice_get-front (scripts_of_callbacks callbacks) (scripts_of_targets (drop (i + 1) targets) ++ rest) left more
      ∙ script_at callbacks left callback h at_left
    where
      script_at : (cs : List PlanCallback) (n : ℕ) (c : PlanCallback) → n < length cs → c ≡ get_or cs n c → slice_get (scripts_of_callbacks cs) n ≡ Some c.script
      script_at [] n c h e = absurd (omega arith)
      script_at (d ∷ cs) zero c h e = ap (λ (x : PlanCallback). Some x.script) (sym e)
      script_at (d ∷ cs) (suc n) c h e = script_at cs n c (omega arith) e

  -- one behind this target's
  pub passed : (next : ℕ) → left ≡ length callbacks + next
      → slice_get (scripts_of_targets (drop i targets) ++ rest) left ≡ slice_get (scripts_of_targets (drop (i + 1) targets) ++ rest) next
  passed next h =
      ap (λ s. slice_get s left) here
      ∙ slice_get-behind (scripts_of_callbacks callbacks) (scripts_of_targets (drop (i + 1) targets) ++ rest) left next
      (omega (arith, h, length-map callbacks (λ (c : PlanCallback). c.script)))
