use Rattle.std.proofs.Common.{◌≡◌, ◌+◌, ◌≤◌, List, length, vec_len, vec_capacity}
use Rattle.klp_live_bodies.specs.declared.step.Outcome.{Outcome}
use Rattle.klp_live_bodies.proofs.Runs.{SoFar}
use Rattle.klp_live_bodies.proofs.run.run_steps.Given as goal

abbrev pub invariant-loop-number : goal.invariant-loop-number
invariant-loop-number g l =
    (outcomes : List Outcome)
    × (SoFar g.S.Start.setting g.S.Start.base (g.G.Gate.answers l.gate) l.fn.pass l.pass l.frames l.steps l.fn.out.items l.out.items outcomes
    × (length outcomes ≡ l.number)
    × (vec_len l.out + length l.steps ≤ vec_capacity l.out + l.number))
