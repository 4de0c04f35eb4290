-- One more object has its numbers and its functions.
use Rattle.std.proofs.Common.{◌++◌, length, append_assoc, sym, ap, ◌∙◌, arith}
use Rattle.klp_catalog_text.specs.Scripts.{scripts_of_targets}
use Rattle.klp_catalog.specs.declared.numbers.Numbers.{Numbers}
use Rattle.klp_catalog.specs.Catalog.{functions_of_target, functions_of_patch}
use Rattle.klp_catalog.specs.Stored.{stored_target, stored_targets, target_size}
use Rattle.klp_catalog.proofs.AssembleLemmas.{placed_next, targets_more}
use Rattle.klp_catalog.proofs.assemble.assemble_patch.Goals as goal

pub loop-target-preserved : goal.loop-target-preserved
loop-target-preserved c =
    let made = c.in_ok-assemble_target.field-0 in
    let done = c.loop-target.targets.items in
    let left = c.loop-target.target-iterator.rest.items in
    let rest = c.next.new.self.rest.items in
    let split = c.in-Some.ensures.steps.0 in
    let names = c.args.modules.now.names in
    let next = ap (λ (n : Numbers). n.next) c.in_ok-assemble_target.ensures.numbers in
    record {
      targets = placed_next stored_target target_size c.loop-target.numbers.next c.assemble_target.new.numbers.next done c.push.new.self.items
          (stored_targets c.args.numbers.now.next c.args.patch.targets) c.in-Some.target made left rest c.loop-target.invariant.targets split
          c.in_ok-push.ensures.ok c.in_ok-assemble_target.ensures.target next;
      functions = ap (λ fs. fs ++ functions_of_patch names rest) c.in_ok-assemble_target.ensures.functions
          ∙ append_assoc c.loop-target.functions.items (functions_of_target names c.in-Some.target) (functions_of_patch names rest)
          ∙ sym (ap (λ ts. c.loop-target.functions.items ++ functions_of_patch names ts) split) ∙ c.loop-target.invariant.functions;
      next = omega (
        arith,
        c.loop-target.invariant.next,
        next,
        targets_more c.in-Some.target rest,
        ap (λ ts. length (scripts_of_targets ts)) split,
      );
      within = c.in_ok-assemble_target.ensures.within;
      end = ap (λ (n : Numbers). n.end) c.in_ok-assemble_target.ensures.numbers ∙ c.loop-target.invariant.end;
    }
