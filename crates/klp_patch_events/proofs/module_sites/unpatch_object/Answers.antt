use Rattle.std.proofs.Common.{refl, ◌≡◌, length, take, subst, ap, ◌∙◌, arith, length-append}
use Rattle.std.proofs.lemmas.List.{take_all}
use Rattle.klp_types.specs.Records.{RecordList}
use Rattle.klp_catalog.specs.States.{is_cumulative}
use Rattle.klp_patch_events.proofs.BackLemmas.{patch_back}
use Rattle.klp_patch_events.proofs.ModuleLemmas.{HaveLeft, none_left_yet, own_entry, one_left, all_left, count_more}
use Rattle.klp_patch_events.proofs.module_sites.unpatch_object.Goals as goal

pub loop-patch-init : goal.loop-patch-init
loop-patch-init g c = record {
  left = none_left_yet c.args.object c.args.sites.now;
  logged = omega arith;
  back = λ rows. refl;
  room = c.requires.room;
}

pub loop-patch-preserved : goal.loop-patch-preserved
loop-patch-preserved g c =
    let notes = c.unpatch_sites.ensures.notes in
    let grown = ap (λ (l : RecordList). length l.logged) notes.logged ∙ length-append c.loop-patch.log.logged notes.rows in
    let counted = count_more (is_cumulative c.args.catalog.now) c.args.patches.now c.loop-patch.patch-index c.patch-item.result c.loop-patch-test.true c.patch-item.is in
    record {
      left = one_left c.args.patches.now c.loop-patch.patch-index c.patch-item.result c.args.object c.args.sites.now c.loop-patch.sites c.unpatch_sites.new.sites
          c.loop-patch-test.true c.patch-item.is c.loop-patch.invariant.left c.unpatch_sites.ensures.entries;
      logged = omega (arith, grown, counted, notes.few, c.entries_are_few.ensures, c.loop-patch.invariant.logged);
      back = λ rows.
          patch_back c.loop-patch.sites c.unpatch_sites.new.sites c.loop-patch.log c.unpatch_sites.new.log _ _ _ notes rows ∙ c.loop-patch.invariant.back rows;
      room = ap (λ (l : RecordList). l.room) notes.logged ∙ c.loop-patch.invariant.room;
    }

pub unpatch_sites-requires-clause-own : goal.unpatch_sites-requires-clause-own
unpatch_sites-requires-clause-own g c =
    own_entry c.entries_are_of_their_patches.ensures.own c.args.catalog.now c.args.patches.now (take c.loop-patch.patch-index c.args.patches.now) c.patch-item.result c.args.object c.args.sites.now c.loop-patch.sites
    c.requires.own c.loop-patch.invariant.left

pub returns-clause-entries : goal.returns-clause-entries
returns-clause-entries g c =
    let whole : take c.loop-patch.patch-index c.args.patches.now ≡ c.args.patches.now = take_all c.loop-patch.patch-index c.args.patches.now (omega arith) in
    all_left c.entries_are_of_their_patches.ensures.installed c.args.catalog.now c.args.patches.now c.args.object c.args.sites.now c.loop-patch.sites c.requires.own
    (subst (λ ps. HaveLeft ps c.args.object c.args.sites.now c.loop-patch.sites) whole c.loop-patch.invariant.left)

pub returns-clause-logged : goal.returns-clause-logged
returns-clause-logged g c = c.loop-patch.invariant.back
