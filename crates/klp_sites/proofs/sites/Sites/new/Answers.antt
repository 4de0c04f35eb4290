use Rattle.std.proofs.Common.{ap, ◌∙◌, arith, length, []}
use Rattle.std.proofs.lemmas.List.{length-replicate}
use Rattle.klp_sites.proofs.StepLemmas.{opened, none_stacked}
use Rattle.klp_sites.proofs.HookedLemmas.{none_hooked}
use Rattle.klp_sites.proofs.sites.Sites.new.Goals as goal

pub invariant_of-result : goal.invariant_of-result
invariant_of-result c =
    let stacks = c.in_ok-stacks.stacks in
    let count = ap length c.in_ok-stacks.ensures ∙ length-replicate c.count_sites.result [] in (
      opened c.args.image c.count_sites.result stacks c.count_sites.ensures.value c.requires c.in_ok-stacks.ensures,
      omega (arith, count, c.count_sites.ensures.few),
      none_hooked c.new-hooked.result.words stacks c.new-hooked.ensures (none_stacked c.count_sites.result stacks c.in_ok-stacks.ensures),
    )
