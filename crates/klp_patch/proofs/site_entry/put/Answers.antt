use Rattle.std.proofs.Common.{ap, arith}
use Rattle.klp_types.specs.Records.{spare_of}
use Rattle.klp_sites.specs.Changes.{rows_of_push}
use Rattle.klp_sites.proofs.ExactLemmas.{push_effective}
use Rattle.klp_patch.specs.Changes.{hooked_count}
use Rattle.klp_patch.proofs.SiteLemmas.{push_fits, push_few, push_of_sites}
use Rattle.klp_patch.proofs.site_entry.put.Goals as goal

pub push-requires-clause-records : goal.push-requires-clause-records
push-requires-clause-records c = push_fits c.args.sites.now c.args.site c.args.entry (spare_of c.args.log.now) c.requires.there c.requires.sites c.requires.records

pub returns-clause-notes : goal.returns-clause-notes
returns-clause-notes c =
    let before = c.args.sites.now in
    let change = c.push.ensures.changes in
    let few = push_few before c.args.site c.args.entry c.requires.there in
    record {
      rows = rows_of_push before c.args.site c.args.entry;
      logged = change.records;
      of_sites = push_of_sites before c.args.site c.args.entry;
      undo = change.undo;
      effective = push_effective before c.push.new.self c.args.log.now c.push.new.log c.args.site c.args.entry c.requires.there c.requires.fresh change;
      few = omega (arith, few, ap hooked_count change.table);
    }
