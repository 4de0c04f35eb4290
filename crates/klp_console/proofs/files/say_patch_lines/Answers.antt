use Rattle.std.proofs.Common.{◌++◌, codes, ap}
use Rattle.klp_console.specs.Queries.{patch_line}
use Rattle.klp_console.proofs.LineLemmas.{said_item}
use Rattle.klp_console.proofs.files.say_patch_lines.Goals as goal

pub loop-patch-preserved : goal.loop-patch-preserved
loop-patch-preserved g c =
    said_item (patch_line c.args.catalog.now) c.args.patches.now c.loop-patch.patch-index c.patch-item.result _ _ _ c.loop-patch-test.true c.patch-item.is
    (ap (λ name. name ++ codes "\n") c.patch_name.ensures)
    (c.what_is_said_adds_up.ensures.adds_up _ _ _ _ _ c.loop-patch.invariant c.say_line.ensures)
