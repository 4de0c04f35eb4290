use Rattle.std.proofs.Common.{rules, ◌+◌, ◌++◌, arith, ap, sym, ◌∙◌, subst}
use Rattle.klp_types.specs.Setting.{functions_of}
use Rattle.klp_manager_state.specs.Managed.{setting_of}
use Rattle.klp_live.specs.Listed.{new_row}
use Rattle.klp_live.proofs.Changes.{AreFirst, site_at, one_more, all_listed}
use Rattle.klp_live.proofs.change.rows_of.Goals as goal

pub loop-number-preserved : goal.loop-number-preserved
loop-number-preserved g c =
    let m = (g.M.Machine.journaled c.args.machine.now).managed in
    let functions = functions_of (setting_of m) c.args.patch in
    let list = c.loop-number.rows.items in
    let before = c.loop-number.invariant in
    let added = c.add_row.ensures in (
      subst
          (AreFirst (setting_of m) m.state (site_at functions) (c.loop-number.number + 1))
          (sym (added.rows ∙ ap (λ site. list ++ new_row (setting_of m) m.state site) c.site_of.ensures))
          (one_more (setting_of m) m.state (site_at functions) c.loop-number.number list before.0),
      omega (arith, before.1, added.one),
      omega (arith, before.2, added.room),
    )

pub returns-clause-all : goal.returns-clause-all
returns-clause-all g c =
    let m = (g.M.Machine.journaled c.args.machine.now).managed in
    all_listed (setting_of m) m.state c.args.patch c.loop-number.number c.loop-number.rows.items (omega (arith, c.functions-functions.ensures, c.loop-number-test.false)) c.loop-number.invariant.0

pub loop-number-init : goal.loop-number-init
loop-number-init g c = search rules
