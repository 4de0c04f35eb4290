use Rattle.std.proofs.Common.{sym, ap, arith}
use Rattle.klp_types.specs.Callbacks.{allocs_of}
use Rattle.klp_patch.specs.Calls.{records_of}
use Rattle.klp_patch.proofs.SomeLemmas.{none_run}
use Rattle.klp_patch.proofs.patch_callbacks.allocs.Goals as goal

pub returns-then-not-has_callbacks-clause-value : goal.returns-then-not-has_callbacks-clause-value
returns-then-not-has_callbacks-clause-value g c =
    sym (ap allocs_of (none_run c.args.catalog.now c.args.modules.now c.args.patch c.args.which (sym c.if-not-has_callbacks.ensures)))

pub returns-then-not-has_callbacks-clause-records : goal.returns-then-not-has_callbacks-clause-records
returns-then-not-has_callbacks-clause-records g c =
    let none = ap records_of (none_run c.args.catalog.now c.args.modules.now c.args.patch c.args.which (sym c.if-not-has_callbacks.ensures)) in
    omega (arith, none)
