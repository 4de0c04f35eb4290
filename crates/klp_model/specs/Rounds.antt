-- Rounds: which callbacks of an object run from an enabling until the patch is gone again.
use Rattle.std.specs.Prelude.{◌≡◌, ℕ, zero, suc, ◌==◌, List, [], ◌∷◌, ◌++◌, map, length, Some, is_some, slice_get}
use Rattle.std.specs.List.{filter}
use Rattle.klp_types.specs.declared.callback.Which.{Which}
use Rattle.klp_types.specs.declared.callback.Which.TheVariants.{Pre, Post, PreUn, PostUn}
use Rattle.klp_model.specs.declared.event.Event.{Event}
use Rattle.klp_model.specs.declared.event.Event.TheVariants.{Enable}
use Rattle.klp_types.specs.Setting.{PatchObject}
use Rattle.klp_types.specs.Callbacks.{Call, script_for}

-- post-patch and pre-unpatch, this many times
abbrev pub turns : ℕ → List Which
turns zero = []
turns (suc n) = Post ∷ PreUn ∷ turns n

-- pre-patch, then post-patch and pre-unpatch this many times, then post-unpatch
abbrev pub round : ℕ → List Which
round n = Pre ∷ turns n ++ PostUn ∷ []

-- rounds one after another
abbrev pub rounds : List ℕ → List Which
rounds [] = []
rounds (n ∷ ns) = round n ++ rounds ns

-- the kinds of callback that the object has
abbrev pub those_there : ℕ × PatchObject → List Which → List Which
those_there object kinds = filter (λ which. is_some (script_for which object.1.callbacks)) kinds

-- the kinds of the callbacks that ran for the object at this index of the patch
abbrev pub kinds_for : ℕ → List Call → List Which
kinds_for place calls = map (λ (c : Call). c.which) (filter (λ (c : Call). c.place == place) calls)

-- these kinds, repeated this many times
abbrev pub repeated : ℕ → List Which → List Which
repeated zero kinds = []
repeated (suc n) kinds = kinds ++ repeated n kinds

-- how many of the events are enablings
abbrev pub enablings : List Event → ℕ
enablings [] = 0
enablings (Enable patch ∷ events) = suc (enablings events)
enablings (other ∷ events) = enablings events

-- the callbacks of each of these objects ran in `count` rounds; the list says how often each round turned
pub record RanInRounds (objects : List (ℕ × PatchObject)) (calls : List Call) (count : ℕ) : Type 0 where
  pub turns_of_each : List ℕ
  pub one_each : length turns_of_each ≡ count
  pub ran : (number : ℕ) (object : ℕ × PatchObject) → slice_get objects number ≡ Some object → kinds_for object.0 calls ≡ those_there object (rounds turns_of_each)

-- the callbacks of each of these objects ran in one round
pub record RanOneRound (objects : List (ℕ × PatchObject)) (calls : List Call) : Type 0 where
  pub turns_of_it : ℕ
  pub ran : (number : ℕ) (object : ℕ × PatchObject) → slice_get objects number ≡ Some object → kinds_for object.0 calls ≡ those_there object (round turns_of_it)
