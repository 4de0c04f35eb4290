use Rattle.std.proofs.Common.{◌≡◌, ℕ, ◌<◌, None, slice_index_or, length}
use Rattle.klp_live.specs.Dispatch.{own_state}
use Rattle.klp_live.proofs.change.fill_states.Given as goal

abbrev pub invariant-loop-task : goal.invariant-loop-task
invariant-loop-task g l = (length l.states ≡ 64) × ((task : ℕ) → task < l.task → slice_index_or l.states task None ≡ own_state (g.M.Machine.journaled l.machine).managed.state task)
