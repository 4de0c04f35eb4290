use Rattle.std.proofs.Common.{ap, arith}
use Rattle.klp_sites.specs.Changes.{rows_of_take}
use Rattle.klp_sites.proofs.ExactLemmas.{take_effective}
use Rattle.klp_patch.specs.Changes.{hooked_count}
use Rattle.klp_patch.proofs.SiteLemmas.{take_few, take_of_sites}
use Rattle.klp_patch.proofs.site_entry.take.Goals as goal

pub returns-clause-notes : goal.returns-clause-notes
returns-clause-notes c =
    let before = c.args.sites.now in
    let change = c.take.ensures.changes in
    let few = take_few before c.args.site c.args.patch in
    record {
      rows = rows_of_take before c.args.site c.args.patch;
      logged = change.records;
      of_sites = take_of_sites before c.args.site c.args.patch;
      undo = change.undo;
      effective = take_effective before c.take.new.self c.args.log.now c.take.new.log c.args.site c.args.patch change;
      few = omega (arith, few, ap hooked_count change.table);
    }
