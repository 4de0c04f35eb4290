use Rattle.std.proofs.Common.{refl, length, ap, sym, ◌∙◌, arith, length-append}
use Rattle.klp_types.specs.Records.{RecordList}
use Rattle.klp_catalog.specs.States.{is_cumulative}
use Rattle.klp_text.specs.TextImage.{site_count}
use Rattle.klp_patch_events.proofs.BackLemmas.{patch_back}
use Rattle.klp_patch_events.proofs.ModuleLemmas.{none_came, still_fresh, one_came, one_fits, count_more}
use Rattle.klp_patch_events.proofs.module_sites.patch_object.Goals as goal

pub loop-patch-init : goal.loop-patch-init
loop-patch-init g c = record {
  come = none_came c.args.catalog.now c.args.object c.args.sites.now c.requires.bare;
  logged = omega arith;
  back = λ rows. refl;
  room = c.requires.room;
}

pub patch_sites-requires-clause-fresh : goal.patch_sites-requires-clause-fresh
patch_sites-requires-clause-fresh g c =
    still_fresh c.entries_are_of_their_patches.ensures.installed c.args.catalog.now c.args.patches.now c.loop-patch.patch-index c.patch-item.result c.args.object c.args.sites.now c.loop-patch.sites
    c.requires.installed.distinct c.loop-patch-test.true c.patch-item.is c.loop-patch.invariant.come

pub loop-patch-preserved : goal.loop-patch-preserved
loop-patch-preserved g c =
    let notes = c.patch_sites.ensures.notes in
    let grown = ap (λ (l : RecordList). length l.logged) notes.logged ∙ length-append c.loop-patch.log.logged notes.rows in
    let counted = count_more (is_cumulative c.args.catalog.now) c.args.patches.now c.loop-patch.patch-index c.patch-item.result c.loop-patch-test.true c.patch-item.is in
    record {
      come = one_came c.the_newest_entry_is_on_top.ensures c.args.catalog.now c.args.patches.now c.loop-patch.patch-index c.patch-item.result c.args.object c.args.sites.now c.loop-patch.sites c.patch_sites.new.sites
          c.loop-patch-test.true c.patch-item.is c.loop-patch.invariant.come c.patch_sites.ensures.entries;
      logged = omega (arith, grown, counted, notes.few, c.entries_are_few.ensures, c.loop-patch.invariant.logged);
      back = λ rows.
          patch_back c.loop-patch.sites c.patch_sites.new.sites c.loop-patch.log c.patch_sites.new.log _ _ _ notes rows ∙ c.loop-patch.invariant.back rows;
      room = ap (λ (l : RecordList). l.room) notes.logged ∙ c.loop-patch.invariant.room;
    }

pub returns-clause-logged : goal.returns-clause-logged
returns-clause-logged g c = c.loop-patch.invariant.back

pub patch_sites-requires-clause-room : goal.patch_sites-requires-clause-room
patch_sites-requires-clause-room g c =
    let come = c.loop-patch.invariant.come in
    one_fits c.the_newest_entry_is_on_top.ensures c.args.catalog.now c.args.patches.now c.loop-patch.patch-index c.patch-item.result c.args.object c.args.sites.now c.loop-patch.sites
    c.loop-patch-test.true c.patch-item.is come
    (c.stacks_are_few-in-loop-patch.ensures.count ∙ ap site_count come.image ∙ sym c.stacks_are_few.ensures.count) c.requires.fit
