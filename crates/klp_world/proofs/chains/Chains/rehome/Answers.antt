use Rattle.std.proofs.Common.{Some, length, get_or, set, sym, ap, subst, ◌∙◌, arith}
use Rattle.std.proofs.lemmas.List.{get_or_read}
use Rattle.klp_world.specs.declared.chains.Link.{Link}
use Rattle.klp_world.specs.Chained.{IsLinked, no_link, link_at, with_newest, with_links}
use Rattle.klp_world.proofs.ChainLemmas.{linked_after, long_after, moved_after, others_after, pointed_is}
use Rattle.klp_world.proofs.chains.Chains.rehome.Goals as goal

pub returns-clause-chained : goal.returns-clause-chained
returns-clause-chained c =
    let heads = c.args.self.now.newest.items in
    let links = c.args.self.now.links.items in
    let linked = c.requires.chained.linked in
    let was = get_or_read links c.args.slot c.index.result.now c.requires.there (c.index.ensures ∙ ap (λ i. get_or links i c.index.result.now) c.from.ensures) no_link in
    let own = ap (λ (l : Link). l.bucket) (sym was) in
    let older = ap (λ (l : Link). l.older) was in
    let next = c.below-next.ensures ∙ pointed_is c.args.self.now linked c.args.to c.args.slot c.above-entered.result c.requires.bucket c.above-entered.ensures in
    let after = linked_after heads links linked c.args.slot c.requires.there c.index.result.now.bucket c.args.to own c.requires.bucket c.if-bucket-to.false
    c.above-left.result c.above-entered.result c.above-left.ensures c.above-entered.ensures c.index.result.now.older c.below-next.result older next in
    let long = long_after heads links linked c.args.slot c.requires.there c.index.result.now.bucket c.args.to own c.requires.bucket c.if-bucket-to.false
    c.above-left.result c.above-entered.result c.above-left.ensures c.above-entered.ensures c.index.result.now.older c.below-next.result older next in
    let link : Link = record { older = c.below-next.result; bucket = c.args.to } in
    let pointed = c.point-2.ensures.links ∙ ap (λ ls. with_links ls c.above-entered.result (Some c.args.slot)) c.point.ensures.links in
    let made = ap (λ ls. set ls c.from-2.result link) pointed
    ∙ ap (λ i. set (with_links (with_links links c.above-left.result c.index.result.now.older) c.above-entered.result (Some c.args.slot)) i link) c.from-2.ensures in
    let newest = c.point-2.ensures.newest ∙ ap (λ hs. with_newest hs c.args.to c.above-entered.result (Some c.args.slot)) c.point.ensures.newest in
    let same = ap length made in
    record {
      linked = subst (λ hs. IsLinked hs (set c.point-2.new.self.links.items c.from-2.result link)) (sym newest) (subst (IsLinked _) (sym made) after);
      few = omega (arith, c.requires.chained.few);
      room = omega (arith, c.requires.chained.room, c.point.ensures.room, c.point-2.ensures.room);
    }

pub returns-clause-rehomed : goal.returns-clause-rehomed
returns-clause-rehomed c =
    let heads = c.args.self.now.newest.items in
    let links = c.args.self.now.links.items in
    let linked = c.requires.chained.linked in
    let was = get_or_read links c.args.slot c.index.result.now c.requires.there (c.index.ensures ∙ ap (λ i. get_or links i c.index.result.now) c.from.ensures) no_link in
    let own = ap (λ (l : Link). l.bucket) (sym was) in
    let older = ap (λ (l : Link). l.older) was in
    let next = c.below-next.ensures ∙ pointed_is c.args.self.now linked c.args.to c.args.slot c.above-entered.result c.requires.bucket c.above-entered.ensures in
    let long = long_after heads links linked c.args.slot c.requires.there c.index.result.now.bucket c.args.to own c.requires.bucket c.if-bucket-to.false
    c.above-left.result c.above-entered.result c.above-left.ensures c.above-entered.ensures c.index.result.now.older c.below-next.result older next in
    let moved = moved_after heads links linked c.args.slot c.requires.there c.index.result.now.bucket c.args.to own c.requires.bucket c.if-bucket-to.false
    c.above-left.result c.above-entered.result c.above-left.ensures c.above-entered.ensures c.index.result.now.older c.below-next.result older next in
    let others = others_after heads links linked c.args.slot c.requires.there c.index.result.now.bucket c.args.to own c.requires.bucket c.if-bucket-to.false
    c.above-left.result c.above-entered.result c.above-left.ensures c.above-entered.ensures c.index.result.now.older c.below-next.result older next in
    let link : Link = record { older = c.below-next.result; bucket = c.args.to } in
    let pointed = c.point-2.ensures.links ∙ ap (λ ls. with_links ls c.above-entered.result (Some c.args.slot)) c.point.ensures.links in
    let made = ap (λ ls. set ls c.from-2.result link) pointed
    ∙ ap (λ i. set (with_links (with_links links c.above-left.result c.index.result.now.older) c.above-entered.result (Some c.args.slot)) i link) c.from-2.ensures in
    record {
      len = ap length made ∙ long;
      moved = ap (λ ls. (link_at ls c.args.slot).bucket) made ∙ moved;
      others = λ other apart. ap (λ ls. (link_at ls other).bucket) made ∙ others other apart;
    }
