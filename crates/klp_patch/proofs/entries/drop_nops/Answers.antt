use Rattle.std.proofs.Common.{◌≡◌, ◌+◌, ℕ, List, length, true, refl, ◌∙◌, arith}
use Rattle.klp_types.specs.declared.version.Entry.{Entry}
use Rattle.klp_sites.proofs.HookedLemmas.{hooked_there}
use Rattle.klp_patch.specs.Changes.{without_nop}
use Rattle.klp_patch.proofs.MadeLemmas.{sites_kept, next_made, next_skipped, all_skipped, notes_taken, notes_longer}
use Rattle.klp_patch.proofs.entries.drop_nops.Goals as goal

pub loop-site-preserved : goal.loop-site-preserved
loop-site-preserved c =
    let before = c.args.sites.now in
    let now = c.loop-site.sites in
    let i = c.loop-site.from in
    let site = c.in-Some.site in
    let make : ℕ → List Entry → List Entry = λ site entries. without_nop c.args.patch entries in
    let so_far = next_skipped before now (λ site. true) make i c.loop-site.invariant.entries (λ s. refl) site c.in-Some.ensures.since c.in-Some.ensures.passed in
    let same = sites_kept before now c.args.log.now c.loop-site.log i _ _ c.loop-site.invariant.notes in
    let there = hooked_there now.stacks site c.in-Some.ensures.there in
    let at : c.from-from.result ≡ site = c.from-from.ensures ∙ c.site.view_is in
    rw at (record {
      within = omega (arith, same, there);
      entries = next_made before now (λ site. true) make site so_far c.take_nop.new.sites refl c.take_nop.ensures.entries;
      notes = notes_taken before now c.take_nop.new.sites c.args.log.now c.loop-site.log c.take_nop.new.log i 1 (site + 1) (omega (arith, c.in-Some.ensures.since)) c.loop-site.invariant.notes c.take_nop.ensures.notes;
    })

pub returns-clause-entries : goal.returns-clause-entries
returns-clause-entries c =
    let make : ℕ → List Entry → List Entry = λ site entries. without_nop c.args.patch entries in
    all_skipped c.args.sites.now c.loop-site.sites (λ site. true) make c.loop-site.from c.loop-site.invariant.entries (λ s. refl) c.in_default.ensures

pub returns-clause-notes : goal.returns-clause-notes
returns-clause-notes c =
    notes_longer c.args.sites.now c.loop-site.sites c.args.log.now c.loop-site.log c.loop-site.from (length c.args.sites.now.stacks) _ _ c.loop-site.invariant.within c.loop-site.invariant.notes
