use Rattle.std.proofs.Common.{◌≡◌, ◌+◌, ℕ, List, length, sym, refl, ◌∙◌, arith}
use Rattle.klp_types.specs.declared.version.Entry.{Entry}
use Rattle.klp_sites.proofs.HookedLemmas.{hooked_there}
use Rattle.klp_patch.specs.Covered.{is_covered}
use Rattle.klp_patch.specs.Changes.{with_nop}
use Rattle.klp_patch.proofs.MadeLemmas.{sites_kept, same_covered, next_made, next_passed, next_skipped, all_skipped, notes_put, notes_longer}
use Rattle.klp_patch.proofs.RoomLemmas.{room_for_nop}
use Rattle.klp_patch.proofs.entries.put_nops.Goals as goal
use Rattle.klp_patch.proofs.entries.put_nops.Goals.{then-covers, else-covers}

pub put_nop-requires-clause-there : goal.put_nop-requires-clause-there
put_nop-requires-clause-there c = hooked_there c.loop-site.sites.stacks c.in-Some.site c.in-Some.ensures.there

pub put_nop-requires-clause-sites : goal.put_nop-requires-clause-sites
put_nop-requires-clause-sites c =
    let same = sites_kept c.args.sites.now c.loop-site.sites c.args.log.now c.loop-site.log c.loop-site.from _ _ c.loop-site.invariant.notes in
    omega (arith, same, c.requires.sites)

pub put_nop-requires-clause-room : goal.put_nop-requires-clause-room
put_nop-requires-clause-room c more =
    let before = c.args.sites.now in
    let now = c.loop-site.sites in
    let i = c.loop-site.from in
    let site = c.in-Some.site in
    let only = c.args.only.now in
    let make : ℕ → List Entry → List Entry = λ site entries. with_nop c.args.patch entries in
    let so_far = next_skipped before now (is_covered before only) make i c.loop-site.invariant.entries (λ s. refl) site c.in-Some.ensures.since c.in-Some.ensures.passed in
    let flag = sym (same_covered before now _ make only c.loop-site.invariant.entries site) ∙ sym c.covers.ensures ∙ c.if-covers.true in
    let same = sites_kept before now c.args.log.now c.loop-site.log i _ _ c.loop-site.invariant.notes in
    let there = hooked_there now.stacks site c.in-Some.ensures.there in
    room_for_nop before now (is_covered before only) c.args.patch site c.requires.room same so_far (omega (arith, same, there)) flag more

pub loop-site-preserved : goal.loop-site-preserved
loop-site-preserved c =
    let before = c.args.sites.now in
    let now = c.loop-site.sites in
    let i = c.loop-site.from in
    let site = c.in-Some.site in
    let only = c.args.only.now in
    let covers = is_covered before only in
    let make : ℕ → List Entry → List Entry = λ site entries. with_nop c.args.patch entries in
    let so_far = next_skipped before now covers make i c.loop-site.invariant.entries (λ s. refl) site c.in-Some.ensures.since c.in-Some.ensures.passed in
    let flag = sym (same_covered before now _ make only c.loop-site.invariant.entries site) ∙ sym c.covers.ensures in
    let same = sites_kept before now c.args.log.now c.loop-site.log i _ _ c.loop-site.invariant.notes in
    let there = hooked_there now.stacks site c.in-Some.ensures.there in
    let at : c.from-from.result ≡ site = c.from-from.ensures ∙ c.site.view_is in
    elim c.if-covers.branch [
      | then-covers w ↦ rw (at, w.sites-is, w.log-is) (record {
        within = omega (arith, same, there);
        entries = next_made before now covers make site so_far w.put_nop.new.sites (flag ∙ w.if-covers.true) w.put_nop.ensures.entries;
        notes = notes_put before now w.put_nop.new.sites c.args.log.now c.loop-site.log w.put_nop.new.log i 1 (site + 1) (omega (arith, c.in-Some.ensures.since)) c.loop-site.invariant.notes w.put_nop.ensures.notes;
      })
      | else-covers w ↦ rw (at, w.sites-is, w.log-is) (record {
        within = omega (arith, same, there);
        entries = next_passed before now covers make site so_far (flag ∙ w.if-covers.false);
        notes = notes_longer before now c.args.log.now c.loop-site.log i (site + 1) _ _ (omega (arith, c.in-Some.ensures.since)) c.loop-site.invariant.notes;
      })
    ]

pub returns-clause-entries : goal.returns-clause-entries
returns-clause-entries c =
    let make : ℕ → List Entry → List Entry = λ site entries. with_nop c.args.patch entries in
    all_skipped c.args.sites.now c.loop-site.sites (is_covered c.args.sites.now c.args.only.now) make c.loop-site.from c.loop-site.invariant.entries (λ s. refl) c.in_default.ensures

pub returns-clause-notes : goal.returns-clause-notes
returns-clause-notes c =
    notes_longer c.args.sites.now c.loop-site.sites c.args.log.now c.loop-site.log c.loop-site.from (length c.args.sites.now.stacks) _ _ c.loop-site.invariant.within c.loop-site.invariant.notes
