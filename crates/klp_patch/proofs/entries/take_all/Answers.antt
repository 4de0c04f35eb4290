use Rattle.std.proofs.Common.{◌≡◌, ◌+◌, ℕ, List, length, sym, refl, ◌∙◌, arith}
use Rattle.klp_types.specs.declared.version.Entry.{Entry}
use Rattle.klp_stack.specs.Stack.{entries_of_others}
use Rattle.klp_sites.proofs.HookedLemmas.{hooked_there}
use Rattle.klp_patch.specs.Covered.{is_covered}
use Rattle.klp_patch.proofs.MadeLemmas.{sites_kept, same_covered, next_made, next_passed, next_skipped, all_skipped, notes_taken, notes_longer}
use Rattle.klp_patch.proofs.entries.take_all.Goals as goal
use Rattle.klp_patch.proofs.entries.take_all.Goals.{then-covers, else-covers}

pub loop-site-preserved : goal.loop-site-preserved
loop-site-preserved c =
    let before = c.args.sites.now in
    let now = c.loop-site.sites in
    let i = c.loop-site.from in
    let site = c.in-Some.site in
    let only = c.args.only.now in
    let covers = is_covered before only in
    let make : ℕ → List Entry → List Entry = λ site entries. entries_of_others c.args.patch entries in
    let so_far = next_skipped before now covers make i c.loop-site.invariant.entries (λ s. refl) site c.in-Some.ensures.since c.in-Some.ensures.passed in
    let flag = sym (same_covered before now _ make only c.loop-site.invariant.entries site) ∙ sym c.covers.ensures in
    let same = sites_kept before now c.args.log.now c.loop-site.log i _ _ c.loop-site.invariant.notes in
    let there = hooked_there now.stacks site c.in-Some.ensures.there in
    let at : c.from-from.result ≡ site = c.from-from.ensures ∙ c.site.view_is in
    elim c.if-covers.branch [
      | then-covers w ↦ rw (at, w.sites-is, w.log-is) (record {
        within = omega (arith, same, there);
        entries = next_made before now covers make site so_far w.take.new.sites (flag ∙ w.if-covers.true) w.take.ensures.entries;
        notes = notes_taken before now w.take.new.sites c.args.log.now c.loop-site.log w.take.new.log i 1 (site + 1) (omega (arith, c.in-Some.ensures.since)) c.loop-site.invariant.notes w.take.ensures.notes;
      })
      | else-covers w ↦ rw (at, w.sites-is, w.log-is) (record {
        within = omega (arith, same, there);
        entries = next_passed before now covers make site so_far (flag ∙ w.if-covers.false);
        notes = notes_longer before now c.args.log.now c.loop-site.log i (site + 1) _ _ (omega (arith, c.in-Some.ensures.since)) c.loop-site.invariant.notes;
      })
    ]

pub returns-clause-entries : goal.returns-clause-entries
returns-clause-entries c =
    let make : ℕ → List Entry → List Entry = λ site entries. entries_of_others c.args.patch entries in
    all_skipped c.args.sites.now c.loop-site.sites (is_covered c.args.sites.now c.args.only.now) make c.loop-site.from c.loop-site.invariant.entries (λ s. refl) c.in_default.ensures

pub returns-clause-notes : goal.returns-clause-notes
returns-clause-notes c =
    notes_longer c.args.sites.now c.loop-site.sites c.args.log.now c.loop-site.log c.loop-site.from (length c.args.sites.now.stacks) _ _ c.loop-site.invariant.within c.loop-site.invariant.notes
