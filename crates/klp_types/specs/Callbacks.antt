-- Runs of callbacks, object by object: their order, and what they do to the world.
use Rattle.std.specs.Prelude.{ℕ, not, Bool, true, false, List, [], ◌∷◌, ◌++◌, find, Option, Some, None, option_map}
use Rattle.std.specs.List.{before_first, sum_by}
use Rattle.klp_types.specs.declared.callback.Which.{Which}
use Rattle.klp_types.specs.declared.callback.Which.TheVariants.{Pre, Post, PreUn, PostUn}
use Rattle.klp_types.specs.Setting.{PatchObject, Callback}
use Rattle.klp_types.specs.World.{World}
use Rattle.klp_types.specs.Script.{Script, is_success, alloc_count, effect}

-- a run of a callback: its patch, the index of its object in that patch, from 0, its kind, and its script
pub record Call : Type 0 where
  pub patch : ℕ
  pub place : ℕ
  pub which : Which
  pub script : Script

-- whether two kinds are the same
abbrev pub is_kind : Which → Which → Bool
is_kind Pre Pre = true
is_kind Post Post = true
is_kind PreUn PreUn = true
is_kind PostUn PostUn = true
is_kind own other = false

-- the script of an object's callback of this kind, if it has one
abbrev pub script_for : Which → List Callback → Option Script
script_for which callbacks = option_map (λ (c : Callback). c.script) (find (λ (c : Callback). is_kind c.which which) callbacks)

abbrev pub call_of : ℕ → ℕ → Which → Option Script → List Call
call_of patch place which None = []
call_of patch place which (Some script) = record { patch = patch; place = place; which = which; script = script } ∷ []

-- the runs of the callbacks of this kind for these objects, in their order
abbrev pub calls_of : ℕ → Which → List (ℕ × PatchObject) → List Call
calls_of patch which [] = []
calls_of patch which (object ∷ objects) = call_of patch object.0 which (script_for which object.1.callbacks) ++ calls_of patch which objects

-- whether a script refuses: its status isn't 0
abbrev pub is_refusing : Option Script → Bool
is_refusing None = false
is_refusing (Some script) = not (is_success script.status)

-- whether the pre-patch callback of an object refuses
abbrev pub refuses : ℕ × PatchObject → Bool
refuses object = is_refusing (script_for Pre object.1.callbacks)

-- the runs from the object that refuses on: its pre-patch, and then post-unpatch for the objects before it
abbrev pub refused_calls : ℕ → List (ℕ × PatchObject) → Option (ℕ × PatchObject) → List Call
refused_calls patch patched None = []
refused_calls patch patched (Some object) = call_of patch object.0 Pre (script_for Pre object.1.callbacks) ++ calls_of patch PostUn patched

-- the runs of an enabling: pre-patch object by object, up to the first that refuses; if one does, then post-unpatch
-- for the objects before it
abbrev pub enable_calls : ℕ → List (ℕ × PatchObject) → List Call
enable_calls patch objects =
    calls_of patch Pre (before_first refuses objects) ++ refused_calls patch (before_first refuses objects) (find refuses objects)

-- the kind of callback that runs when a transition to this target is complete
abbrev pub end_of : Bool → Which
end_of true = Post
end_of false = PostUn

-- how many shadow variables the scripts add at most
abbrev pub allocs_of : List Call → ℕ
allocs_of calls = sum_by (λ (c : Call). alloc_count c.script.edits) calls

-- the world after the callbacks ran, one after another
abbrev pub after_calls : World → List Call → World
after_calls world [] = world
after_calls world (call ∷ calls) = after_calls (effect call.patch world call.script) calls
