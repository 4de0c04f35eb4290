-- States that are allowed, and states that aren't.
use Rattle.std.proofs.Common.{◌≡◌, ℕ, zero, suc, ◌<◌, ◌≤◌, pos, negsuc, true, false, List, [], ◌∷◌, Option, Some, None, replicate, refl, arith}
use Rattle.std.specs.FinMap as finite
use Rattle.klp_types.specs.World.{key_cmp, ShadowValue}
use Rattle.klp_types.specs.Setting.{Setting}
use Rattle.klp_types.specs.declared.task.Mode.TheVariants.{Kernel}
use Rattle.klp_types.specs.declared.version.Version.TheVariants.{Original, New}
use Rattle.klp_types.specs.declared.version.Transition.{Transition}
use Rattle.klp_model.specs.State.{State}
use Rattle.klp_model.specs.Allowed.{AreRight, Allowed}
use Rattle.klp_model.specs.Examples.{small_kernel, faulty, alone, move_of, installed, state_with, with_states, in_user, asleep_in}

others_right : (moving : Option Transition) (n : ℕ) → AreRight small_kernel moving (replicate n None)
others_right moving zero = tt
others_right moving (suc n) = (refl, others_right moving n)

not_so : false ≡ true → ⊥
not_so e = cc

so : true ≡ false → ⊥
so e = cc

not_empty : (patch : ℕ) (patches : List ℕ) → patch ∷ patches ≡ [] → ⊥
not_empty patch patches e = cc

too_few : (there wanted : ℕ) → there ≡ wanted → there < wanted → ⊥
too_few there wanted e less = omega (arith, e, less)

pub replacing : Allowed small_kernel (state_with false (0 ∷ 1 ∷ []) (move_of 1 true) (alone (asleep_in (pos 1) (New 1 0 ∷ Original 2 ∷ []))))
replacing = record {
  kernel = refl;
  known = (refl, (refl, tt));
  distinct = (refl, (refl, tt));
  moving = refl;
  stacked = (λ e. (refl, refl), tt);
  symbols = (refl, (refl, tt));
  tasks = (refl, others_right (move_of 1 true) 63);
  room = omega (arith, finite.len-empty key_cmp ShadowValue);
  objects = refl;
  rows = refl;
  flags = refl;
}

pub withdrawn : Allowed small_kernel (state_with true (0 ∷ 1 ∷ []) (move_of 1 false) (alone (asleep_in (pos 0) [])))
withdrawn = record {
  kernel = refl;
  known = (refl, (refl, tt));
  distinct = (refl, (refl, tt));
  moving = refl;
  stacked = (λ e. (refl, refl), tt);
  symbols = (refl, (refl, tt));
  tasks = (refl, others_right (move_of 1 false) 63);
  room = omega (arith, finite.len-empty key_cmp ShadowValue);
  objects = refl;
  rows = refl;
  flags = refl;
}

pub replaced : Allowed small_kernel (state_with true (1 ∷ 2 ∷ []) None (alone (in_user (negsuc 0))))
replaced = record {
  kernel = refl;
  known = (refl, (refl, tt));
  distinct = (refl, (refl, tt));
  moving = tt;
  stacked = (λ e. absurd (not_so e), tt);
  symbols = (refl, (refl, tt));
  tasks = (refl, others_right None 63);
  room = omega (arith, finite.len-empty key_cmp ShadowValue);
  objects = refl;
  rows = refl;
  flags = refl;
}

pub no_kernel : Allowed small_kernel (record (state_with true [] None (alone None)) { loaded = false ∷ true ∷ [] }) → ⊥
no_kernel allowed = not_so allowed.kernel

pub unknown : Allowed small_kernel (state_with true (0 ∷ 4 ∷ []) None (alone None)) → ⊥
unknown allowed = not_so allowed.known.1.0

pub twice : Allowed small_kernel (state_with true (2 ∷ 0 ∷ 0 ∷ []) None (alone None)) → ⊥
twice allowed = so allowed.distinct.1.0

pub twice_apart : Allowed small_kernel (state_with true (0 ∷ 2 ∷ 0 ∷ []) None (alone None)) → ⊥
twice_apart allowed = so allowed.distinct.0

pub moves_away : Allowed small_kernel (state_with true (0 ∷ []) (move_of 2 true) (alone None)) → ⊥
moves_away allowed = not_so allowed.moving

pub not_replaced : Allowed small_kernel (state_with true (0 ∷ 1 ∷ []) None (alone None)) → ⊥
not_replaced allowed = not_so (allowed.stacked.0 refl).1

pub under_another : Allowed small_kernel (state_with true (0 ∷ 1 ∷ 2 ∷ []) (move_of 1 true) (alone None)) → ⊥
under_another allowed = not_empty 2 [] (allowed.stacked.0 refl).0

pub above_another : Allowed small_kernel (state_with true (0 ∷ 2 ∷ 1 ∷ []) (move_of 2 true) (alone None)) → ⊥
above_another allowed = not_so (allowed.stacked.1.0 refl).1

pub lacks_symbol : Allowed (faulty 0) (record (with_states (installed 0 ∷ installed 1 ∷ []) (move_of 1 true)) { tasks = alone None }) → ⊥
lacks_symbol allowed = so allowed.symbols.1.0

pub moves_at_rest : Allowed small_kernel (state_with true [] None (alone (in_user (pos 1)))) → ⊥
moves_at_rest allowed = not_so allowed.tasks.0

pub below_rest : Allowed small_kernel (state_with true [] None (alone (in_user (negsuc 1)))) → ⊥
below_rest allowed = not_so allowed.tasks.0

pub rests_in_transition : Allowed small_kernel (state_with true (0 ∷ []) (move_of 0 true) (alone (in_user (negsuc 0)))) → ⊥
rests_in_transition allowed = not_so allowed.tasks.0

pub beyond_the_target : Allowed small_kernel (state_with true (0 ∷ []) (move_of 0 true) (alone (in_user (pos 2)))) → ⊥
beyond_the_target allowed = not_so allowed.tasks.0

pub frames_awake : Allowed small_kernel (state_with true [] None (alone (Some (record { state = negsuc 0; mode = Kernel; frames = Original 0 ∷ [] })))) → ⊥
frames_awake allowed = not_so allowed.tasks.0

pub no_such_frame : Allowed small_kernel (state_with true [] None (alone (asleep_in (negsuc 0) (Original 3 ∷ [])))) → ⊥
no_such_frame allowed = not_so allowed.tasks.0

pub second_task : Allowed small_kernel (state_with true [] None (None ∷ alone (in_user (pos 1)))) → ⊥
second_task allowed = not_so allowed.tasks.1.0

pub full : (setting : Setting) (state : State) → Allowed setting state → finite.len state.world.shadow ≤ 512
full setting state allowed = allowed.room

pub objects : Allowed small_kernel (record (state_with true [] None (alone None)) { loaded = true ∷ [] }) → ⊥
objects allowed = too_few 1 2 allowed.objects (omega arith)

pub rows : Allowed small_kernel (state_with true [] None []) → ⊥
rows allowed = too_few 0 64 allowed.rows (omega arith)

pub flags : Allowed small_kernel (record (state_with true [] None (alone None)) { pinned = [] }) → ⊥
flags allowed = too_few 0 4 allowed.flags (omega arith)
