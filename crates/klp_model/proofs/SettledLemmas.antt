-- Where no task lags, none is tried any more.
use Rattle.std.proofs.Common.{◌≡◌, ◌+◌, ℤ, pos, negsuc, Bool, true, false, not, ◌&&◌, cond, List, [], ◌∷◌, map, Some, None, refl, sym, ap, ◌∙◌, arith}
use Rattle.std.specs.Option.{option_map}
use Rattle.std.specs.List.{count_by}
use Rattle.std.proofs.lemmas.Bool.{eqb-true}
use Rattle.std.proofs.lemmas.List.Sums.{sum_by-cons}
use Rattle.klp_types.specs.declared.version.Version.{Version}
use Rattle.klp_types.specs.declared.task.Task.{Task}
use Rattle.klp_types.specs.declared.task.Mode.TheVariants.{Asleep}
use Rattle.klp_model.specs.Task.{Tasks, is_mode, is_at, at_target, in_state}
use Rattle.klp_model.specs.Blocked.{is_held, switched, lags}

target_there : (target : Bool) (state : ℤ) → is_at target state ≡ true → at_target target ≡ state
target_there true (pos n) e = ap pos (sym (eqb-true n 1 e))
target_there false (pos n) e = ap pos (sym (eqb-true n 0 e))
target_there true (negsuc n) e = cc
target_there false (negsuc n) e = cc

module _ (blocked : List Version) (target : Bool) where
  there_stays : (task : Task) → is_at target task.state ≡ true → switched blocked target task ≡ task
  there_stays task e = by (is_mode task.mode Asleep && not (is_held blocked task.frames))
    where
      by : (t : Bool) → cond t (in_state (at_target target) task) task ≡ task
      by true = ap (λ state. in_state state task) (target_there target task.state e)
      by false = refl

  pub none_switched : (tasks : Tasks) → count_by (lags target) tasks ≡ 0 → map (option_map (switched blocked target)) tasks ≡ tasks
  none_switched [] none = refl
  none_switched (None ∷ tasks) none = ap (λ rest. None ∷ rest) (none_switched tasks none)
  none_switched (Some task ∷ tasks) none =
      by (is_at target task.state) refl (sym (sum_by-cons (λ t. cond (lags target t) 1 0) (Some task) tasks) ∙ none) (λ rest. none_switched tasks rest)
    where
      by : (t : Bool) → is_at target task.state ≡ t → cond (not t) 1 0 + count_by (lags target) tasks ≡ 0
          → (count_by (lags target) tasks ≡ 0 → map (option_map (switched blocked target)) tasks ≡ tasks)
          → Some (switched blocked target task) ∷ map (option_map (switched blocked target)) tasks ≡ Some task ∷ tasks
      by true is none rest = ap (λ t. Some t ∷ map (option_map (switched blocked target)) tasks) (there_stays task is) ∙ ap (λ ts. Some task ∷ ts) (rest (omega arith))
      by false is none rest = absurd (omega (arith, none))
