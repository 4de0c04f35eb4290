use Rattle.std.proofs.Common.{arith, subst}
use Rattle.klp_manager_state.specs.Managed.{setting_of}
use Rattle.klp_live.proofs.Changes.{AreFirst, site_from, one_more, all_in_object}
use Rattle.klp_live.proofs.change.rows_inside.Goals as goal

pub loop-place-preserved : goal.loop-place-preserved
loop-place-preserved g c =
    let m = (g.M.Machine.journaled c.args.machine.now).managed in
    let list = c.loop-place.rows.items in
    let before = c.loop-place.invariant in
    let added = c.add_row.ensures in (
      rw added.rows (one_more (setting_of m) m.state (site_from c.first_site-first.result) c.loop-place.place list before.0),
      omega (arith, before.1, added.one),
      omega (arith, before.2, added.room),
    )

pub returns-clause-all : goal.returns-clause-all
returns-clause-all g c =
    let m = (g.M.Machine.journaled c.args.machine.now).managed in
    all_in_object (setting_of m) m.state c.args.object c.loop-place.place c.loop-place.rows.items (omega (arith, c.sites_in-sites.ensures.count, c.loop-place-test.false))
    (subst (λ first. AreFirst (setting_of m) m.state (site_from first) c.loop-place.place c.loop-place.rows.items) c.first_site-first.ensures.site c.loop-place.invariant.0)
