-- The object has a place in the patch, and the callback a number; or there is none.
use Rattle.std.proofs.Common.{Some, sym, ap, ◌∙◌, arith}
use Rattle.std.specs.Prelude.{option_and_then}
use Rattle.std.specs.Option.{is_some}
use Rattle.klp_catalog.specs.Runs.{runs_of, script_at}
use Rattle.klp_catalog.specs.Stored.{number_of}
use Rattle.klp_catalog.proofs.RunLemmas.{within, the_script, the_runs, no_script, no_runs}
use Rattle.klp_catalog.proofs.catalog.Catalog.callback_runs.Goals as goal

pub returns-in_err-number-clause-runs : goal.returns-in_err-number-clause-runs
returns-in_err-number-clause-runs g c =
    c.from_residual-in_err-number.ensures ∙ sym (ap (option_and_then (λ place. runs_of c.args.self.now c.args.patch place c.args.which))
    (sym c.in_ok-place.ensures.place)
    ∙ no_runs c.self.inside.patches.items c.self.inside.callbacks.items c.args.self.now c.self.view_is c.self.invariant c.args.patch c.in_ok-place.place c.args.which
    (c.in_err-number.ensures ∙ (λ i. number_of (c.deref.ensures.value i) c.args.patch (c.from.ensures i) c.args.which)))

pub returns-in_err-number-clause-there : goal.returns-in_err-number-clause-there
returns-in_err-number-clause-there g c =
    ap is_some c.from_residual-in_err-number.ensures ∙ sym (ap (λ found. is_some (option_and_then (λ place. script_at c.args.self.now c.args.patch place c.args.which) found))
    (sym c.in_ok-place.ensures.place)
    ∙ ap is_some (no_script c.self.inside.patches.items c.self.inside.callbacks.items c.args.self.now c.self.view_is c.self.invariant c.args.patch c.in_ok-place.place c.args.which
    (c.in_err-number.ensures ∙ (λ i. number_of (c.deref.ensures.value i) c.args.patch (c.from.ensures i) c.args.which))))

pub index-requires : goal.index-requires
index-requires g c =
    omega (
      arith,
      within c.self.inside.patches.items c.self.inside.callbacks.items c.args.self.now c.self.view_is c.self.invariant c.args.patch c.in_ok-place.place c.args.which c.in_ok-number.number
          (c.in_ok-number.ensures ∙ (λ i. number_of (c.deref.ensures.value i) c.args.patch (c.from.ensures i) c.args.which)),
    )

pub returns-clause-runs : goal.returns-clause-runs
returns-clause-runs g c =
    ap Some c.runs.ensures ∙ sym (ap (option_and_then (λ place. runs_of c.args.self.now c.args.patch place c.args.which))
    (sym c.in_ok-place.ensures.place)
    ∙ the_runs c.self.inside.patches.items c.self.inside.callbacks.items c.args.self.now c.self.view_is c.self.invariant c.args.patch c.in_ok-place.place c.args.which c.in_ok-number.number
    (c.in_ok-number.ensures ∙ (λ i. number_of (c.deref.ensures.value i) c.args.patch (c.from.ensures i) c.args.which)) c.index.result.now c.index.ensures)

pub returns-clause-there : goal.returns-clause-there
returns-clause-there g c =
    sym (ap (λ found. is_some (option_and_then (λ place. script_at c.args.self.now c.args.patch place c.args.which) found))
    (sym c.in_ok-place.ensures.place)
    ∙ ap is_some (the_script c.self.inside.patches.items c.self.inside.callbacks.items c.args.self.now c.self.view_is c.self.invariant c.args.patch c.in_ok-place.place c.args.which c.in_ok-number.number
    (c.in_ok-number.ensures ∙ (λ i. number_of (c.deref.ensures.value i) c.args.patch (c.from.ensures i) c.args.which)) c.index.result.now c.index.ensures))
