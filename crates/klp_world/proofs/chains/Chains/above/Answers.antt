use Rattle.std.proofs.Common.{◌<◌, length, sym, ap, ◌∙◌, arith}
use Rattle.klp_world.specs.Chained.{is_in}
use Rattle.klp_world.proofs.ChainLemmas.{height, height_last, walked_to, walked_off, seen_last, older_read}
use Rattle.klp_world.proofs.chains.Chains.above.Goals as goal

pub returns-then-newer-slot : goal.returns-then-newer-slot
returns-then-newer-slot c =
    walked_to (is_in c.args.self.now.links.items c.args.bucket) c.args.slot (length c.args.self.now.links.items) c.loop-next.above c.loop-next.next c.in-Some.newer
    c.loop-next.invariant.over c.loop-next.invariant.next c.in-Some.is c.if-newer-slot.true

pub index-requires : goal.index-requires
index-requires c =
    let seen = seen_last (is_in c.args.self.now.links.items c.args.bucket) c.args.slot (length c.args.self.now.links.items) c.loop-next.above c.in-Some.newer
    c.loop-next.invariant.over (sym c.in-Some.is ∙ c.loop-next.invariant.next) in
    let within = seen.0 in
    omega (arith, c.from-in-Some.ensures, c.args.self.now.links.ok)

pub loop-next-smaller : goal.loop-next-smaller
loop-next-smaller c =
    let seen = seen_last (is_in c.args.self.now.links.items c.args.bucket) c.args.slot (length c.args.self.now.links.items) c.loop-next.above c.in-Some.newer
    c.loop-next.invariant.over (sym c.in-Some.is ∙ c.loop-next.invariant.next) in
    let read = older_read c.args.self.now.newest.items c.args.self.now.links.items c.requires.chained.linked c.args.bucket c.from-in-Some.result c.in-Some.newer c.from-in-Some.ensures seen.0 seen.1 c.index.result.now c.index.ensures in
    let low = height_last (is_in c.args.self.now.links.items c.args.bucket) c.in-Some.newer in
    let next = ap height read in
    let was = ap height c.in-Some.is in
    let smaller : height c.index.result.now.older < height c.loop-next.next = omega arith in
    smaller

pub loop-next-preserved : goal.loop-next-preserved
loop-next-preserved c =
    let seen = seen_last (is_in c.args.self.now.links.items c.args.bucket) c.args.slot (length c.args.self.now.links.items) c.loop-next.above c.in-Some.newer
    c.loop-next.invariant.over (sym c.in-Some.is ∙ c.loop-next.invariant.next) in
    record {
      over = (c.if-newer-slot.false, seen.0, seen.1);
      next = older_read c.args.self.now.newest.items c.args.self.now.links.items c.requires.chained.linked c.args.bucket c.from-in-Some.result c.in-Some.newer c.from-in-Some.ensures seen.0 seen.1 c.index.result.now c.index.ensures;
    }

pub returns : goal.returns
returns c =
    walked_off (is_in c.args.self.now.links.items c.args.bucket) c.args.slot (length c.args.self.now.links.items) c.loop-next.above c.loop-next.next
    c.loop-next.invariant.over c.loop-next.invariant.next c.in_default.is
