use Rattle.std.proofs.Common.{ap, get_or}
use Rattle.std.proofs.lemmas.List.{get_or_default}
use Rattle.klp_types.specs.declared.callback.Which.{Which}
use Rattle.klp_types.specs.declared.callback.Which.TheVariants.{Pre}
use Rattle.klp_catalog.specs.Runs.{callback_runs}
use Rattle.klp_console.specs.Queries.{count_text}
use Rattle.klp_console.proofs.LineLemmas.{said_item}
use Rattle.klp_console.proofs.runs.say_counts.Goals as goal

pub loop-which-preserved : goal.loop-which-preserved
loop-which-preserved g c =
    let kinds = c.args.kinds.now in
    let index = c.loop-which.which-index in
    let which = get_or kinds index Pre in
    said_item (λ (own : Which). count_text (callback_runs c.args.catalog.now c.args.patch c.args.object own)) kinds index which _ _ _ c.loop-which-test.true
    (get_or_default kinds index Pre which c.loop-which-test.true)
    (ap count_text c.callback_runs.ensures.runs)
    (c.what_is_said_adds_up.ensures.adds_up _ _ _ _ _ c.loop-which.invariant c.say_count.ensures)
