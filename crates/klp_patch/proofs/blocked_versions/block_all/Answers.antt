use Rattle.std.proofs.Common.{◌≡◌, ◌+◌, ◌++◌, suc, take, length, sym, ap, subst, ◌∙◌, arith}
use Rattle.std.proofs.lemmas.List.{take_all}
use Rattle.klp_model.specs.Blocked.{blocked_among}
use Rattle.klp_stack.specs.Stack.{entries_at}
use Rattle.klp_sites.proofs.HookedLemmas.{hooked_there}
use Rattle.klp_tasks.specs.Members.{IsSetOf}
use Rattle.klp_patch.specs.Blocked.{blocked_at}
use Rattle.klp_patch.proofs.BlockLemmas.{blocked_more, blocked_past}
use Rattle.klp_patch.proofs.blocked_versions.block_all.Goals as goal

pub loop-site-preserved : goal.loop-site-preserved
loop-site-preserved c =
    let move = c.args.moving.now in
    let stacks = c.args.sites.now.stacks in
    let from = c.loop-site.from in
    let site = c.in-Some.site in
    let there = hooked_there stacks site c.in-Some.ensures.there in
    let here : site ≡ 0 + site = omega arith in
    let next : suc site ≡ site + 1 = omega arith in
    let at : c.from-from.result ≡ site = c.from-from.ensures ∙ c.site.view_is in
    rw at (record {
      within = omega (arith, there);
      set = subst (IsSetOf c.block_at.new.blocked)
          (ap (λ blocked. blocked ++ blocked_among site move (entries_at stacks site)) (blocked_past 0 move stacks from site c.in-Some.ensures.since c.in-Some.ensures.passed)
          ∙ ap (λ k. blocked_at 0 move (take site stacks) ++ blocked_among k move (entries_at stacks site)) here ∙ sym (blocked_more 0 move stacks site there)
          ∙ ap (λ n. blocked_at 0 move (take n stacks)) next)
          (c.block_at.ensures (blocked_at 0 move (take from stacks)) c.loop-site.invariant.set);
    })

pub returns : goal.returns
returns c =
    let move = c.args.moving.now in
    let stacks = c.args.sites.now.stacks in
    subst (IsSetOf c.loop-site.blocked)
    (blocked_past 0 move stacks c.loop-site.from (length stacks) c.loop-site.invariant.within (λ site since below. c.in_default.ensures site since) ∙ ap (blocked_at 0 move) (take_all (length stacks) stacks (omega arith)))
    c.loop-site.invariant.set
