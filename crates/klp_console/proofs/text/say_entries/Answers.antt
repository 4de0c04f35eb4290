use Rattle.std.proofs.Common.{refl}
use Rattle.klp_console.specs.Queries.{entry_text}
use Rattle.klp_console.proofs.LineLemmas.{said_item}
use Rattle.klp_console.proofs.text.say_entries.Goals as goal

pub loop-entry-preserved : goal.loop-entry-preserved
loop-entry-preserved g c =
    said_item (entry_text c.args.catalog.now) c.args.entries.now c.loop-entry.entry-index c.entry-item.result _ _ _ c.loop-entry-test.true c.entry-item.is
    refl
    (c.what_is_said_adds_up.ensures.adds_up _ _ _ _ _ c.loop-entry.invariant c.say_entry.ensures)
