-- What the callbacks of one patch do to the world: each variable by itself, and the values of their own patch's states.
use Rattle.std.proofs.Common.{◌≡◌, ℕ, Bool, true, false, ◌||◌, cond, List, [], ◌∷◌, ◌++◌, Option, Some, None, refl, sym, ap, ◌∙◌}
use Rattle.std.specs.Prelude.{◌==◌}
use Rattle.std.proofs.lemmas.Bool.{eq-eqb, or_parts}
use Rattle.std.proofs.Math.Bool.{or-true}
use Rattle.klp_types.specs.declared.shadow.ShadowKey.{ShadowKey}
use Rattle.klp_types.specs.declared.edit.Edit.{Edit}
use Rattle.klp_types.specs.declared.edit.Edit.TheVariants.{Alloc, Free, FreeAll, SetData, TakePrev}
use Rattle.klp_types.specs.World.{Installed, World, ShadowValue, variable, change_states, taken_out, set_among, previous_value}
use Rattle.klp_types.specs.Script.{Script, allocated, value_taken, edited, edited_by, made_of, edits_made, effect, touches, Undoes}
use Rattle.klp_model.specs.State.{is_among}
use Rattle.klp_types.specs.Callbacks.{Call, after_calls}
use Rattle.klp_types.proofs.ScriptLemmas.{all_by_key, all_left_alone}

-- what a script makes of one variable
abbrev pub script_at : ShadowKey → Option ShadowValue → Script → Option ShadowValue
script_at key was script = made_of key was (edits_made script)

pub effect_at : (patch : ℕ) (world : World) (script : Script) (key : ShadowKey) → variable (effect patch world script) key ≡ script_at key (variable world key) script
effect_at patch world script key = all_by_key patch world (edits_made script) key

-- a script that doesn't touch the variable leaves it
pub script_leaves : (script : Script) (key : ShadowKey) (was : Option ShadowValue) → touches script key ≡ false → script_at key was script ≡ was
script_leaves script key was e = all_left_alone (edits_made script) key was e

-- what undoes a script undoes it at every variable
pub undone_at : (patch : ℕ) (b a : Script) (world : World) → Undoes patch b a world → (key : ShadowKey)
    → script_at key (script_at key (variable world key) a) b ≡ variable world key
undone_at patch b a world undoes key = by (touches a key || touches b key) refl
  where
    by : (t : Bool) → (touches a key || touches b key) ≡ t → script_at key (script_at key (variable world key) a) b ≡ variable world key
    by true is =
        ap (λ was. script_at key was b) (sym (effect_at patch world a key)) ∙ sym (effect_at patch (effect patch world a) b key)
        ∙ undoes key is
    by false is =
        let parts = or_parts (touches a key) (touches b key) is in
        ap (λ was. script_at key was b) (script_leaves a key (variable world key) parts.0) ∙ script_leaves b key (variable world key) parts.1

-- what calls make of one variable
abbrev pub calls_at : ShadowKey → Option ShadowValue → List Call → Option ShadowValue
calls_at key was [] = was
calls_at key was (call ∷ calls) = calls_at key (script_at key was call.script) calls

pub after_calls_at : (world : World) (calls : List Call) (key : ShadowKey) → variable (after_calls world calls) key ≡ calls_at key (variable world key) calls
after_calls_at world [] key = refl
after_calls_at world (call ∷ calls) key =
    after_calls_at (effect call.patch world call.script) calls key ∙ ap (λ was. calls_at key was calls) (effect_at call.patch world call.script key)

pub calls_at-append : (key : ShadowKey) (was : Option ShadowValue) (first second : List Call) → calls_at key was (first ++ second) ≡ calls_at key (calls_at key was first) second
calls_at-append key was [] second = refl
calls_at-append key was (call ∷ first) second = calls_at-append key (script_at key was call.script) first second

-- Patches of which this one is the newest, and stands once.
abbrev pub last_of : ℕ → List (ℕ × ℕ) → List Installed
last_of patch values = record { patch = patch; values = values } ∷ []

pub record IsLast (patch : ℕ) (older : List Installed) (world : World) : Type 0 where
  pub values : List (ℕ × ℕ)
  pub is : world.installed ≡ older ++ last_of patch values

module _ (patch : ℕ) where
  change_last : (f : List (ℕ × ℕ) → List (ℕ × ℕ)) (older : List Installed) (values : List (ℕ × ℕ)) → is_among patch older ≡ false
      → change_states patch f (older ++ last_of patch values) ≡ older ++ last_of patch (f values)
  change_last f [] values away = ap (λ b. cond b (last_of patch (f values)) (record { patch = patch; values = values } ∷ [])) (eq-eqb patch patch refl)
  change_last f (first ∷ older) values away =
      let parts = or_parts (first.patch == patch) (is_among patch older) away in
      ap (λ b. cond b (record first { values = f first.values } ∷ older ++ last_of patch values) (first ∷ change_states patch f (older ++ last_of patch values))) parts.0
      ∙ ap (λ rest. first ∷ rest) (change_last f older values parts.1)

  pub take_last : (older : List Installed) (values : List (ℕ × ℕ)) → is_among patch older ≡ false → taken_out patch (older ++ last_of patch values) ≡ older
  take_last [] values away = ap (λ b. cond b [] (record { patch = patch; values = values } ∷ [])) (eq-eqb patch patch refl)
  take_last (first ∷ older) values away =
      let parts = or_parts (first.patch == patch) (is_among patch older) away in
      ap (λ b. cond b (older ++ last_of patch values) (first ∷ taken_out patch (older ++ last_of patch values))) parts.0
      ∙ ap (λ rest. first ∷ rest) (take_last older values parts.1)

  pub is_among-last : (older : List Installed) (values : List (ℕ × ℕ)) → is_among patch (older ++ last_of patch values) ≡ true
  is_among-last [] values = ap (λ b. b || false) (eq-eqb patch patch refl)
  is_among-last (first ∷ older) values = ap (λ b. first.patch == patch || b) (is_among-last older values) ∙ or-true (first.patch == patch)

  module _ (older : List Installed) (away : is_among patch older ≡ false) where
    changed_last : (f : List (ℕ × ℕ) → List (ℕ × ℕ)) (world : World) → IsLast patch older world
        → IsLast patch older (record world { installed = change_states patch f world.installed })
    changed_last f world last = record { values = f last.values; is = ap (change_states patch f) last.is ∙ change_last f older last.values away }

    same_last : (a b : World) → a.installed ≡ b.installed → IsLast patch older a → IsLast patch older b
    same_last a b e last = record { values = last.values; is = sym e ∙ last.is }

    allocated_last : (world : World) (key : ShadowKey) (value : ShadowValue) (o : Option ShadowValue) → IsLast patch older world → IsLast patch older (allocated world key value o)
    allocated_last world key value (Some there) last = last
    allocated_last world key value None last = record { values = last.values; is = last.is }

    taken_last : (world : World) (id : ℕ) (o : Option ℕ) → IsLast patch older world → IsLast patch older (value_taken world patch id o)
    taken_last world id None last = last
    taken_last world id (Some value) last = changed_last (set_among id value) world last

    edited_last : (world : World) (edit : Edit) → IsLast patch older world → IsLast patch older (edited patch world edit)
    edited_last world (Alloc key value) last = allocated_last world key value (variable world key) last
    edited_last world (Free key) last = record { values = last.values; is = last.is }
    edited_last world (FreeAll id) last = record { values = last.values; is = last.is }
    edited_last world (SetData id value) last = changed_last (set_among id value) world last
    edited_last world (TakePrev id) last = taken_last world id (previous_value world patch id) last

    edits_last : (world : World) (edits : List Edit) → IsLast patch older world → IsLast patch older (edited_by patch world edits)
    edits_last world [] last = last
    edits_last world (edit ∷ edits) last = edits_last (edited patch world edit) edits (edited_last world edit last)

    -- the patch's own scripts change no more of the list than its own values
    pub effect_last : (world : World) (script : Script) → IsLast patch older world → IsLast patch older (effect patch world script)
    effect_last world script last = edits_last world (edits_made script) last
