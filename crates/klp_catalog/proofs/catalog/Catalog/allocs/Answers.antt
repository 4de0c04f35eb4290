use Rattle.std.proofs.Common.{◌≤◌, length, sym, ap, subst, ◌∙◌, arith}
use Rattle.std.specs.Prelude.{IfSome}
use Rattle.klp_types.specs.Script.{Script}
use Rattle.klp_types.specs.declared.limits.TheConstants.{MAX_EDITS}
use Rattle.klp_catalog.specs.Runs.{allocs_if}
use Rattle.klp_catalog.specs.Stored.{number_of}
use Rattle.klp_catalog.proofs.RunLemmas.{within, the_script, no_script, few_allocs}
use Rattle.klp_catalog.proofs.catalog.Catalog.allocs.Goals as goal

pub index-requires : goal.index-requires
index-requires g c =
    omega (
      arith,
      within c.self.inside.patches.items c.self.inside.callbacks.items c.args.self.now c.self.view_is c.self.invariant c.args.patch c.args.place c.args.which c.in-Some.number
          (c.in-Some.ensures ∙ (λ i. number_of (c.deref.ensures.value i) c.args.patch (c.from.ensures i) c.args.which)),
    )

pub returns-in-Some-clause-value : goal.returns-in-Some-clause-value
returns-in-Some-clause-value g c =
    c.allocs.ensures.value
    ∙ sym (ap allocs_if (the_script c.self.inside.patches.items c.self.inside.callbacks.items c.args.self.now c.self.view_is c.self.invariant c.args.patch c.args.place c.args.which c.in-Some.number
    (c.in-Some.ensures ∙ (λ i. number_of (c.deref.ensures.value i) c.args.patch (c.from.ensures i) c.args.which)) c.index.result.now c.index.ensures))

pub returns-in-Some-clause-limit : goal.returns-in-Some-clause-limit
returns-in-Some-clause-limit g c = omega (arith, few_allocs c.index.result.now.script.edits, c.allocs.ensures.value, c.allocs.ensures.limit)

pub returns-in-Some-clause-edits : goal.returns-in-Some-clause-edits
returns-in-Some-clause-edits g c =
    subst (λ s. IfSome s (λ (script : Script). length script.edits ≤ MAX_EDITS))
    (sym (the_script c.self.inside.patches.items c.self.inside.callbacks.items c.args.self.now c.self.view_is c.self.invariant c.args.patch c.args.place c.args.which c.in-Some.number
    (c.in-Some.ensures ∙ (λ i. number_of (c.deref.ensures.value i) c.args.patch (c.from.ensures i) c.args.which)) c.index.result.now c.index.ensures))
    c.allocs.ensures.limit

pub returns-in-None-clause-value : goal.returns-in-None-clause-value
returns-in-None-clause-value g c =
    sym (ap allocs_if (no_script c.self.inside.patches.items c.self.inside.callbacks.items c.args.self.now c.self.view_is c.self.invariant c.args.patch c.args.place c.args.which
    (c.in-None.ensures ∙ (λ i. number_of (c.deref.ensures.value i) c.args.patch (c.from.ensures i) c.args.which))))

pub returns-in-None-clause-edits : goal.returns-in-None-clause-edits
returns-in-None-clause-edits g c =
    subst (λ s. IfSome s (λ (script : Script). length script.edits ≤ MAX_EDITS))
    (sym (no_script c.self.inside.patches.items c.self.inside.callbacks.items c.args.self.now c.self.view_is c.self.invariant c.args.patch c.args.place c.args.which
    (c.in-None.ensures ∙ (λ i. number_of (c.deref.ensures.value i) c.args.patch (c.from.ensures i) c.args.which)))) tt
