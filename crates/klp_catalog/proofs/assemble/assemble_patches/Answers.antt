-- One more patch has its numbers and its functions.
use Rattle.std.proofs.Common.{◌≡◌, ◌||◌, length, sym, ap, ◌∙◌, arith}
use Rattle.std.proofs.lemmas.Grind.{common_steps}
use Rattle.klp_catalog_text.specs.Scripts.{scripts_of}
use Rattle.klp_catalog.specs.declared.numbers.Numbers.{Numbers}
use Rattle.klp_catalog.specs.Catalog.{has_same_site, some_same_site}
use Rattle.klp_catalog.specs.Stored.{StoredPatch, stored_patch, stored_patches, patch_size, functions_of_plan}
use Rattle.klp_catalog.proofs.AssembleLemmas.{placed_next, patches_more, or_made}
use Rattle.klp_catalog.proofs.assemble.assemble_patches.Goals as goal

pub loop-patch-preserved : goal.loop-patch-preserved
loop-patch-preserved c =
    let made = c.in_ok-assembled.assembled in
    let done = c.loop-patch.patches.items in
    let left = c.loop-patch.patch-iterator.rest.items in
    let rest = c.next.new.self.rest.items in
    let split = c.in-Some.ensures.steps.0 in
    let names = c.args.modules.now.names in
    let next = ap (λ (n : Numbers). n.next) c.in_ok-assembled.ensures.numbers in
    let here : c.has_same_site-same_site.result ≡ has_same_site (functions_of_plan names c.in-Some.patch) =
    c.has_same_site-same_site.ensures
    ∙ ap has_same_site (c.deref.ensures.value ∙ ap (λ (p : StoredPatch). p.functions) (c.assembled.view_is ∙ c.in_ok-assembled.ensures.patch)) in
    record {
      patches = placed_next (stored_patch names) patch_size c.loop-patch.numbers.next c.assemble_patch.new.numbers.next done c.push.new.self.items
          (stored_patches names 0 c.args.given.items) c.in-Some.patch made left rest c.loop-patch.invariant.patches split
          c.in_ok-push.ensures.items c.in_ok-assembled.ensures.patch next;
      next = omega (arith, c.loop-patch.invariant.next, next, patches_more c.in-Some.patch rest, ap (λ ps. length (scripts_of ps)) split);
      within = c.in_ok-assembled.ensures.within;
      end = ap (λ (n : Numbers). n.end) c.in_ok-assembled.ensures.numbers ∙ c.loop-patch.invariant.end;
      apart = ap (λ b. (c.loop-patch.same_site || b) || some_same_site names rest) here
          ∙ or_made c.loop-patch.same_site (has_same_site (functions_of_plan names c.in-Some.patch)) (some_same_site names rest)
          ∙ sym (ap (λ ps. c.loop-patch.same_site || some_same_site names ps) split) ∙ c.loop-patch.invariant.apart;
    }

pub returns-then-same_site-clause-fault : goal.returns-then-same_site-clause-fault
returns-then-same_site-clause-fault c = grind (arith, common_steps)
