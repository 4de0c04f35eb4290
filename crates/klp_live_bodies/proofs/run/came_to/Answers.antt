use Rattle.std.proofs.Common.{rules}
use Rattle.klp_live_bodies.proofs.run.came_to.Goals as goal

pub returns-in-Nap-clause-came : goal.returns-in-Nap-clause-came
returns-in-Nap-clause-came g c = search rules

pub returns-in-Return-clause-frames : goal.returns-in-Return-clause-frames
returns-in-Return-clause-frames g c = search rules
