-- No fault was found, so the tables are those of sound objects.
use Rattle.std.proofs.Common.{◌≡◌, ◌∙◌, true, List, length, None, ap, sym, subst, arith}
use Rattle.std.proofs.Math.ListN.{length-set}
use Rattle.std.specs.List.{All, AllZip}
use Rattle.klp_types.specs.Image.{Object, symbols_of}
use Rattle.klp_text.specs.Faults.{image_fault}
use Rattle.klp_text.specs.Kept.{IsInRange, IsLong, IsNear, IsResting, first_sites_from}
use Rattle.klp_text.proofs.SoundLaws.{sound_image}
use Rattle.klp_text.proofs.KeptLaws.{stored_from_resting, hooked_of-resting}
use Rattle.klp_text.proofs.image.Image.new.Goals as goal

pub stored_symbols-requires-clause-long : goal.stored_symbols-requires-clause-long
stored_symbols-requires-clause-long c =
    let none : image_fault c.args.handler c.args.objects.items ≡ None =
    ap (image_fault c.args.handler) (sym c.as_slice.ensures.value) ∙ sym c.in_default.ensures in
    subst (λ (objects : List Object). All IsLong (symbols_of objects)) (sym c.as_slice-3.ensures.value) (sound_image c.args.handler c.args.objects.items none).long

pub stored_symbols-requires-clause-near : goal.stored_symbols-requires-clause-near
stored_symbols-requires-clause-near c =
    let none : image_fault c.args.handler c.args.objects.items ≡ None =
    ap (image_fault c.args.handler) (sym c.as_slice.ensures.value) ∙ sym c.in_default.ensures in
    subst (λ (objects : List Object). All (IsNear c.args.handler) (symbols_of objects)) (sym c.as_slice-3.ensures.value) (sound_image c.args.handler c.args.objects.items none).near

pub stored_symbols-requires-clause-range : goal.stored_symbols-requires-clause-range
stored_symbols-requires-clause-range c =
    let none : image_fault c.args.handler c.args.objects.items ≡ None =
    ap (image_fault c.args.handler) (sym c.as_slice.ensures.value) ∙ sym c.in_default.ensures in
    subst (λ (objects : List Object). All IsInRange (symbols_of objects)) (sym c.as_slice-3.ensures.value) (sound_image c.args.handler c.args.objects.items none).in_range

pub invariant_of-result : goal.invariant_of-result
invariant_of-result c =
    let none : image_fault c.args.handler c.args.objects.items ≡ None =
    ap (image_fault c.args.handler) (sym c.as_slice.ensures.value) ∙ sym c.in_default.ensures in
    let sound = sound_image c.args.handler c.args.objects.items none in
    let resting : AllZip (IsResting c.args.handler) c.in_ok-sites.sites.items (symbols_of c.args.objects.items) =
    subst (λ (objects : List Object). AllZip (IsResting c.args.handler) c.in_ok-sites.sites.items (symbols_of objects)) c.as_slice-3.ensures.value c.in_ok-sites.ensures in
    record {
      limits = sound.limits;
      long = sound.long;
      near = sound.near;
      in_range = sound.in_range;
      each_loaded = omega (arith, length-set c.in_ok-loaded.loaded.items 0 true, c.in_ok-loaded.ensures.len, c.len.ensures);
      first_sites_are = c.in_ok-first_sites.ensures ∙ ap (first_sites_from 0) c.as_slice-2.ensures.value;
      stored_are = stored_from_resting c.args.handler _ _ resting;
    }

pub returns-clause-ok : goal.returns-clause-ok
returns-clause-ok c =
    let none : image_fault c.args.handler c.args.objects.items ≡ None =
    ap (image_fault c.args.handler) (sym c.as_slice.ensures.value) ∙ sym c.in_default.ensures in
    let resting : AllZip (IsResting c.args.handler) c.in_ok-sites.sites.items (symbols_of c.args.objects.items) =
    subst (λ (objects : List Object). AllZip (IsResting c.args.handler) c.in_ok-sites.sites.items (symbols_of objects)) c.as_slice-3.ensures.value c.in_ok-sites.ensures in
    let loaded = c.in_ok-loaded.ensures.items_if_clones_equal (λ y e. e) in
    let hooked = hooked_of-resting _ _ _ resting in
    let count : c.len.result ≡ length c.args.objects.items = c.len.ensures ∙ c.args.objects.ok.0 in
    (none, rw (loaded, hooked, count))
