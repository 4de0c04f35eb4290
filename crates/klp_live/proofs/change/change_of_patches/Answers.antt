use Rattle.std.proofs.Common.{arith, rules}
use Rattle.klp_manager_state.specs.Managed.{setting_of}
use Rattle.klp_live.proofs.Deltas.{moved_leads, patched_if_touched, inside_if_touched}
use Rattle.klp_live.proofs.change.change_of_patches.Goals as goal

pub returns-in_ok-moved-in-Some-2-clause-leads : goal.returns-in_ok-moved-in-Some-2-clause-leads
returns-in_ok-moved-in-Some-2-clause-leads g c =
    let m = (g.M.Machine.journaled c.args.machine.now).managed in
    let made = c.in_ok-moved-in-Some-2.field-0 in
    let receipt = c.in_ok-moved-in-Some-2.ensures in
    moved_leads
    (setting_of m)
    m.state
    c.args.moving
    c.args.event.now
    made
    (omega (arith, c.sites-sites.ensures.count, c.sites-sites.ensures.limit))
    (rw receipt.rows c.in_ok-rows-in-Some-2.ensures.rows)
    (λ site touched. rw receipt.rows (c.in_ok-rows-in-Some-2.ensures.all site (patched_if_touched (setting_of m) c.args.moving c.args.event.now c.in-Some-patch_moved.patch site (search rules) (search rules) (search rules) touched)))
    receipt.count
    receipt.states

pub returns-in-Some-clause-leads : goal.returns-in-Some-clause-leads
returns-in-Some-clause-leads g c =
    let m = (g.M.Machine.journaled c.args.machine.now).managed in
    let own = c.in_ok-own.ensures in
    let receipt = c.in_ok-moved.ensures in
    moved_leads
    (setting_of m)
    m.state
    c.args.moving
    c.args.event.now
    c.in_ok-moved.field-0
    (omega (arith, c.sites-sites.ensures.count, c.sites-sites.ensures.limit))
    (rw receipt.rows own.rows)
    (λ site touched. rw receipt.rows (own.all site (inside_if_touched (setting_of m) c.args.moving c.args.event.now c.in-Some.object site (search rules) (c.in-Some.ensures.patch c.args.moving) touched)))
    receipt.count
    receipt.states
