-- Whether one script undoes another, at small worlds.
use Rattle.std.proofs.Common.{◌≡◌, Bool, true, false, List, [], ◌∷◌, Some, None, refl, sym, ap, ◌∙◌}
use Rattle.std.specs.Prelude.{unwrap_or, if◌then◌else◌}
use Rattle.std.proofs.lemmas.Option.{none-some}
use Rattle.std.specs.FinMap as finite
use Rattle.klp_types.specs.declared.shadow.ShadowKey.{ShadowKey}
use Rattle.klp_types.specs.declared.edit.Edit.{Edit}
use Rattle.klp_types.specs.declared.edit.Edit.TheVariants.{Alloc, Free}
use Rattle.klp_types.specs.World.{World, key_cmp, variable, with_variable}
use Rattle.klp_types.specs.Script.{is_key, effect, edited_by, made_of, Undoes}
use Rattle.klp_types.specs.Examples.{editing, key_of, world_of}
use Rattle.klp_types.proofs.KeyLemmas.{key_total}
use Rattle.klp_types.proofs.ScriptLemmas.{all_by_key}

abbrev k : ShadowKey
k = key_of 1 2

-- nothing is there, and the variable is there
abbrev w0 : World
w0 = world_of []

abbrev w1 : World
w1 = with_variable w0 k (5 ∷ [])

away : (key : ShadowKey) → variable w0 key ≡ None
away key = finite.get-empty key_cmp key

there : variable w1 k ≡ Some (5 ∷ [])
there = finite.get-insert key_total finite.empty k (5 ∷ []) k

-- what the second script makes of a variable, behind the first
both : (world : World) (first second : List Edit) (key : ShadowKey)
    → variable (effect 0 (effect 0 world (editing first)) (editing second)) key ≡ made_of key (made_of key (variable world key) first) second
both world first second key =
    all_by_key 0 (edited_by 0 world first) second key ∙ ap (λ was. made_of key was second) (all_by_key 0 world first key)

pub removed_again : Undoes 0 (editing (Free k ∷ [])) (editing (Alloc k [] ∷ [])) w0
removed_again key named = both w0 (Alloc k [] ∷ []) (Free k ∷ []) key ∙ by (is_key k key)
  where
    by : (t : Bool) → (if t then None else (if t then Some (unwrap_or (variable w0 key) []) else variable w0 key)) ≡ variable w0 key
    by true = sym (away key)
    by false = refl

pub there_before : Undoes 0 (editing (Free k ∷ [])) (editing (Alloc k [] ∷ [])) w1 → ⊥
there_before undone = none-some (5 ∷ []) (sym (both w1 (Alloc k [] ∷ []) (Free k ∷ []) k) ∙ undone k refl ∙ there)

pub left_behind : Undoes 0 (editing []) (editing (Alloc k [] ∷ [])) w0 → ⊥
left_behind undone =
    none-some (unwrap_or (variable w0 k) []) (sym (away k) ∙ sym (undone k refl) ∙ both w0 (Alloc k [] ∷ []) [] k)

pub taken_along : Undoes 0 (editing (Free k ∷ [])) (editing []) w1 → ⊥
taken_along undone = none-some (5 ∷ []) (sym (both w1 [] (Free k ∷ []) k) ∙ undone k refl ∙ there)
