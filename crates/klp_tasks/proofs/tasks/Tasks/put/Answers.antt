use Rattle.std.proofs.Common.{arith}
use Rattle.klp_tasks.proofs.FrameLemmas.{frames_put}
use Rattle.klp_tasks.proofs.NumberLemmas.{taken_put}
use Rattle.klp_tasks.proofs.tasks.Tasks.put.Goals as goal

pub invariant_of-self : goal.invariant_of-self
invariant_of-self c = (
  c.self.invariant.0,
  c.self.invariant.1,
  frames_put c.self.inside.rows.items c.self.inside.frames.items c.from-number.result c.args.row c.set_words.new.words c.self.invariant.2 c.set_words.ensures,
  taken_put c.self.inside.numbers.bits _ c.self.inside.rows.items c.from-number.result c.args.row (omega arith) c.self.invariant.3 (rw (c.from-number.ensures, ← c.is_some.ensures) c.set.ensures),
)
