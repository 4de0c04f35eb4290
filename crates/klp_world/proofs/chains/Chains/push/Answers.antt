use Rattle.std.proofs.Common.{◌≡◌, List, [], ◌∷◌, ◌++◌, Some, None, length, get_or, set, sym, ap, subst, ◌∙◌, arith}
use Rattle.std.proofs.lemmas.List.{get_or_read}
use Rattle.klp_world.specs.declared.chains.Link.{Link}
use Rattle.klp_world.specs.Chained.{IsLinked}
use Rattle.klp_world.proofs.ChainLemmas.{pushed_linked}
use Rattle.klp_world.proofs.chains.Chains.push.Goals as goal

pub returns-clause-chained : goal.returns-clause-chained
returns-clause-chained c =
    let heads = c.args.self.now.newest.items in
    let links = c.args.self.now.links.items in
    let done = c.push.ensures.succeeds (omega (arith, c.requires.few, c.requires.chained.room, c.args.self.now.links.ok)) in
    let items = c.push.ensures.items in
    let grown = rw done at c.push.ensures.len in
    let read = get_or_read heads c.from.result c.index-older.result.now (omega (arith, c.from.ensures, c.requires.bucket, c.requires.chained.linked.buckets)) c.index-older.ensures None
    ∙ ap (λ b. get_or heads b None) c.from.ensures in
    let linked = pushed_linked heads links c.requires.chained.linked c.args.bucket c.requires.bucket c.index-older.result.now read in
    let long : length links ≡ c.len.result = omega (arith, c.len.ensures, c.args.self.now.links.ok) in
    let more : List Link = links ++ record { older = c.index-older.result.now; bucket = c.args.bucket } ∷ [] in
    record {
      linked =
          subst (IsLinked (set heads c.from-2.result (Some c.len.result))) (sym (rw done at items))
          (subst (λ b. IsLinked (set heads b (Some c.len.result)) more) (sym c.from-2.ensures) (subst (λ n. IsLinked (set heads c.args.bucket (Some n)) more) long linked));
      few = omega (arith, c.requires.few, c.args.self.now.links.ok, c.push.new.self.ok);
      room = omega (arith, c.requires.chained.room, c.push.ensures.capacity);
    }
