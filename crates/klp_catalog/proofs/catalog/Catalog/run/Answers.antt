-- Where the number of a callback is found, its script is the one that is asked for; where none is found there is none.
use Rattle.std.proofs.Common.{option_map, Some, Option, rules, sym, ap, subst, ◌∙◌, arith}
use Rattle.std.specs.Prelude.{IfSome}
use Rattle.std.specs.Int.{w32}
use mir.Val.{SFits}
use Rattle.std.proofs.lemmas.Int.{to_z-of_z}
use Rattle.klp_types.specs.Script.{Script, alloc_count}
use Rattle.klp_world.specs.Changes.{HasRoom}
use Rattle.klp_world.specs.StoredEvent.{rows_of_script}
use Rattle.klp_catalog.specs.Stored.{number_of}
use Rattle.klp_catalog.proofs.RunLemmas.{within, the_script, no_script, idle, has_run, kept_so, idle_changes, run_changes}
use Rattle.klp_catalog.proofs.catalog.Catalog.run.Goals as goal

pub returns-in_err-number-clause-status : goal.returns-in_err-number-clause-status
returns-in_err-number-clause-status g c =
    c.from_residual.ensures ∙ sym (ap (option_map (λ (s : Script). s.status))
    (no_script c.self.inside.patches.items c.self.inside.callbacks.items c.args.self.now c.self.view_is c.self.invariant c.args.patch c.args.place c.args.which
    (c.in_err-number.ensures ∙ (λ i. number_of (c.deref.ensures.value i) c.args.patch (c.from.ensures i) c.args.which))))

pub returns-in_err-number-clause-catalog : goal.returns-in_err-number-clause-catalog
returns-in_err-number-clause-catalog g c =
    idle c.self.inside.patches.items c.self.inside.callbacks.items c.args.self.now c.self.view_is c.self.invariant c.args.patch c.args.place c.args.which
    (c.in_err-number.ensures ∙ (λ i. number_of (c.deref.ensures.value i) c.args.patch (c.from.ensures i) c.args.which))

pub returns-in_err-number-clause-changes : goal.returns-in_err-number-clause-changes
returns-in_err-number-clause-changes g c =
    idle_changes c.args.patch c.args.place c.args.which c.args.world.now c.args.log.now _
    (no_script c.self.inside.patches.items c.self.inside.callbacks.items c.args.self.now c.self.view_is c.self.invariant c.args.patch c.args.place c.args.which
    (c.in_err-number.ensures ∙ (λ i. number_of (c.deref.ensures.value i) c.args.patch (c.from.ensures i) c.args.which)))

pub index_mut-requires : goal.index_mut-requires
index_mut-requires g c =
    omega (
      arith,
      within c.self.inside.patches.items c.self.inside.callbacks.items c.args.self.now c.self.view_is c.self.invariant c.args.patch c.args.place c.args.which c.in_ok-number.number
          (c.in_ok-number.ensures ∙ (λ i. number_of (c.deref.ensures.value i) c.args.patch (c.from.ensures i) c.args.which)),
    )

pub run-requires : goal.run-requires
run-requires g c =
    record {
      room = subst (λ (s : Option Script). IfSome s (λ script. HasRoom c.args.world.now c.args.log.now (alloc_count script.edits) (rows_of_script c.args.patch c.args.world.now script)))
          (the_script c.self.inside.patches.items c.self.inside.callbacks.items c.args.self.now c.self.view_is c.self.invariant c.args.patch c.args.place c.args.which c.in_ok-number.number
          (c.in_ok-number.ensures ∙ (λ i. number_of (c.deref.ensures.value i) c.args.patch (c.from.ensures i) c.args.which)) c.index_mut.result.now c.index_mut.ensures.value) c.requires.room;
    }

pub invariant_of-self : goal.invariant_of-self
invariant_of-self g c =
    kept_so c.self.inside.patches.items c.self.inside.callbacks.items c.args.self.now c.self.view_is c.self.invariant c.args.patch c.args.place c.args.which c.in_ok-number.number
    (c.in_ok-number.ensures ∙ (λ i. number_of (c.deref.ensures.value i) c.args.patch (c.from.ensures i) c.args.which))
    c.index_mut.result.now c.index_mut.ensures.value c.run.new.self c.run.ensures.lent

pub returns-clause-status : goal.returns-clause-status
returns-clause-status g c =
    let fits : SFits w32 c.run.result = search rules in
    ap Some (to_z-of_z w32 c.run.result fits ∙ c.run.ensures.status) ∙ sym (ap (option_map (λ (s : Script). s.status))
    (the_script c.self.inside.patches.items c.self.inside.callbacks.items c.args.self.now c.self.view_is c.self.invariant c.args.patch c.args.place c.args.which c.in_ok-number.number
    (c.in_ok-number.ensures ∙ (λ i. number_of (c.deref.ensures.value i) c.args.patch (c.from.ensures i) c.args.which)) c.index_mut.result.now c.index_mut.ensures.value))

pub returns-clause-catalog : goal.returns-clause-catalog
returns-clause-catalog g c =
    has_run c.self.inside.patches.items c.self.inside.callbacks.items c.args.self.now c.self.view_is c.self.invariant c.args.patch c.args.place c.args.which c.in_ok-number.number
    (c.in_ok-number.ensures ∙ (λ i. number_of (c.deref.ensures.value i) c.args.patch (c.from.ensures i) c.args.which))
    c.index_mut.result.now c.index_mut.ensures.value c.run.new.self c.run.ensures.lent

pub returns-clause-changes : goal.returns-clause-changes
returns-clause-changes g c =
    run_changes c.args.patch c.args.place c.args.which c.args.world.now c.run.new.world c.args.log.now c.run.new.log _ c.index_mut.result.now.script
    (the_script c.self.inside.patches.items c.self.inside.callbacks.items c.args.self.now c.self.view_is c.self.invariant c.args.patch c.args.place c.args.which c.in_ok-number.number
    (c.in_ok-number.ensures ∙ (λ i. number_of (c.deref.ensures.value i) c.args.patch (c.from.ensures i) c.args.which)) c.index_mut.result.now c.index_mut.ensures.value)
    c.run.ensures.changes
