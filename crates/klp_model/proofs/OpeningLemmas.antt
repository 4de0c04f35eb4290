-- The opening state is allowed.
use Rattle.std.proofs.Common.{◌≡◌, ℕ, zero, suc, true, false, List, [], ◌∷◌, length, Option, None, replicate, refl, ap, arith}
use Rattle.std.specs.Prelude.{slice_index_or, slice_set}
use Rattle.std.specs.FinMap as finite
use Rattle.klp_types.specs.Image.{Object}
use Rattle.klp_types.specs.World.{key_cmp, ShadowValue}
use Rattle.klp_types.specs.Setting.{Setting}
use Rattle.klp_types.specs.Entries.{is_empty}
use Rattle.klp_types.specs.declared.limits.TheConstants.{MAX_TASKS}
use Rattle.klp_types.specs.declared.task.Task.{Task}
use Rattle.klp_model.specs.Opening.{opening_state}
use Rattle.klp_model.specs.Allowed.{AreRight, Allowed}

length_replicated : {A : Type 0} (x : A) (n : ℕ) → length (replicate n x) ≡ n
length_replicated x zero = refl
length_replicated x (suc n) = ap suc (length_replicated x n)

kernel_loaded : (objects : List Object) → is_empty objects ≡ false → slice_index_or (slice_set (replicate (length objects) false) 0 true) 0 false ≡ true
kernel_loaded [] some = cc
kernel_loaded (object ∷ objects) some = refl

flags_stay : (objects : List Object) → is_empty objects ≡ false → length (slice_set (replicate (length objects) false) 0 true) ≡ length objects
flags_stay [] some = cc
flags_stay (object ∷ objects) some = ap suc (length_replicated false (length objects))

pub none_there : (setting : Setting) (n : ℕ) → AreRight setting None (replicate n None)
none_there setting zero = tt
none_there setting (suc n) = (refl, none_there setting n)

pub opening_allowed : (setting : Setting) → is_empty setting.image.objects ≡ false → Allowed setting (opening_state setting)
opening_allowed setting some = record {
  kernel = kernel_loaded setting.image.objects some;
  known = tt;
  distinct = tt;
  moving = tt;
  stacked = tt;
  symbols = tt;
  tasks = none_there setting MAX_TASKS;
  room = omega (arith, finite.len-empty key_cmp ShadowValue);
  objects = flags_stay setting.image.objects some;
  rows = length_replicated {A = Option Task} None MAX_TASKS;
  flags = length_replicated false (length setting.patches);
}
