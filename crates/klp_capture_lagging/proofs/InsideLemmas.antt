-- Nobody is inside by whose last readings nobody is.
use Rattle.std.proofs.Common.{◌≡◌, Bool, true, false, List, [], ◌∷◌, ◌++◌, refl, sym, ap, subst, ◌∙◌}
use Rattle.std.specs.Prelude.{◌↔◌, ◌&&◌, ◌||◌, not}
use Rattle.std.specs.List.{list_any}
use Rattle.klp_capture.specs.Shown.{span_of, is_settled}
use Rattle.klp_capture.specs.declared.capture.Capture.{Capture}
use Rattle.klp_capture.specs.declared.capture.Sample.{Sample}
use Rattle.klp_capture.specs.declared.capture.SeenTask.{SeenTask}
use Rattle.klp_capture_lagging.specs.Lagging.{is_last, IsLastSaid, end_of}
use Rattle.klp_capture_lagging.specs.Inside.{is_outside, is_unsure, any_unsure_of, any_unsure, lacks_some, counts_inside, NobodyInside}

settled : (outside last more : Bool) → ((not outside && last) || more) ≡ false → last ≡ true → outside ≡ true
settled true last more none is = refl
settled false true more none is = cc
settled false false more none is = cc

second_false : (a b : Bool) → (a || b) ≡ false → b ≡ false
second_false true b none = cc
second_false false b none = none

outside_by : (capture : Capture) (sample : Sample) (later : List Sample) (before : List SeenTask) (seen : SeenTask) (rest : List SeenTask)
    → any_unsure_of capture sample later (before ++ seen ∷ rest) ≡ false → is_last capture sample later seen rest ≡ true → is_outside capture seen ≡ true
outside_by capture sample later [] seen rest none last =
    settled (is_outside capture seen) (is_last capture sample later seen rest) (any_unsure_of capture sample later rest) none last
outside_by capture sample later (own ∷ before) seen rest none last =
    outside_by capture sample later before seen rest
    (second_false (is_unsure capture sample later own (before ++ seen ∷ rest)) (any_unsure_of capture sample later (before ++ seen ∷ rest)) none) last

of_sample : (capture : Capture) (earlier : List Sample) (sample : Sample) (later : List Sample) → any_unsure capture (earlier ++ sample ∷ later) ≡ false
    → any_unsure_of capture sample later (span_of sample.tasks capture.seen.items) ≡ false
of_sample capture [] sample later none = first_false (any_unsure_of capture sample later (span_of sample.tasks capture.seen.items)) (any_unsure capture later) none
  where
    first_false : (a b : Bool) → (a || b) ≡ false → a ≡ false
    first_false true b none = none
    first_false false b none = refl
of_sample capture (own ∷ earlier) sample later none =
    of_sample capture earlier sample later
    (second_false (any_unsure_of capture own (earlier ++ sample ∷ later) (span_of own.tasks capture.seen.items)) (any_unsure capture (earlier ++ sample ∷ later)) none)

all_outside : (capture : Capture) (samples : List Sample) → any_unsure capture samples ≡ false → (seen : SeenTask)
    → IsLastSaid capture samples seen → is_outside capture seen ≡ true
all_outside capture samples none seen said =
    outside_by capture said.sample said.later said.before seen said.rest
    (subst (λ (readings : List SeenTask). any_unsure_of capture said.sample said.later readings ≡ false) said.read
    (of_sample capture said.earlier said.sample said.later (subst (λ (list : List Sample). any_unsure capture list ≡ false) said.among none)))
    said.last

neither : (outside last more : Bool) → (last ≡ true → outside ≡ true) → more ≡ false → ((not outside && last) || more) ≡ false
neither true last more is none = none
neither false true more is none = let never = is refl in cc
neither false false more is none = none

none_of : (capture : Capture) (sample : Sample) (later : List Sample) (readings : List SeenTask)
    → ((before : List SeenTask) (seen : SeenTask) (rest : List SeenTask) → readings ≡ before ++ seen ∷ rest
    → is_last capture sample later seen rest ≡ true → is_outside capture seen ≡ true)
    → any_unsure_of capture sample later readings ≡ false
none_of capture sample later [] outside = refl
none_of capture sample later (own ∷ rest) outside =
    neither (is_outside capture own) (is_last capture sample later own rest) (any_unsure_of capture sample later rest) (outside [] own rest refl)
    (none_of capture sample later rest (λ before seen more read. outside (own ∷ before) seen more (ap (λ (list : List SeenTask). own ∷ list) read)))

both_false : (a b : Bool) → a ≡ false → b ≡ false → (a || b) ≡ false
both_false true b first second = first
both_false false b first second = second

none_in : (capture : Capture) (samples : List Sample) → ((seen : SeenTask) → IsLastSaid capture samples seen → is_outside capture seen ≡ true)
    → any_unsure capture samples ≡ false
none_in capture [] outside = refl
none_in capture (sample ∷ later) outside =
    both_false (any_unsure_of capture sample later (span_of sample.tasks capture.seen.items)) (any_unsure capture later)
    (none_of capture sample later (span_of sample.tasks capture.seen.items)
    (λ before seen rest read last. outside seen (record {
      earlier = [];
      sample = sample;
      later = later;
      among = refl;
      before = before;
      rest = rest;
      read = read;
      last = last;
    })))
    (none_in capture later (λ seen said. outside seen (record {
      earlier = sample ∷ said.earlier;
      sample = said.sample;
      later = said.later;
      among = ap (λ (list : List Sample). sample ∷ list) said.among;
      before = said.before;
      rest = said.rest;
      read = said.read;
      last = said.last;
    })))

-- five tests decide whether nobody is inside
pub nobody_by : (capture : Capture) (samples end : List Sample) (result all_read whole lacking unsure counted : Bool)
    → samples ≡ capture.samples.items → end ≡ end_of samples
    → ((all_read ≡ true) ↔ (capture.missing.items ≡ [])) → whole ≡ list_any is_settled samples → lacking ≡ lacks_some capture
    → unsure ≡ any_unsure capture samples → counted ≡ list_any counts_inside end
    → ((result ≡ true) ↔ ((all_read ≡ true) × (whole ≡ true) × (lacking ≡ false) × (unsure ≡ false) × (counted ≡ false)))
    → ((result ≡ true) ↔ NobodyInside capture)
nobody_by capture samples end result all_read whole lacking unsure counted all ends reads wholes lacks sure counts five = (forth, back)
  where
    forth : result ≡ true → NobodyInside capture
    forth is =
        let so = five.0 is in
        record {
          all_read = reads.0 so.0;
          some_whole = subst (λ (x : List Sample). list_any is_settled x ≡ true) all (sym wholes ∙ so.1);
          all_there = sym lacks ∙ so.2;
          outside = all_outside capture capture.samples.items (subst (λ (x : List Sample). any_unsure capture x ≡ false) all (sym sure ∙ so.3));
          counted = subst (λ (x : List Sample). list_any counts_inside x ≡ false) (ends ∙ ap end_of all) (sym counts ∙ so.4);
        }

    back : NobodyInside capture → result ≡ true
    back nobody = five.1 (
      reads.1 nobody.all_read,
      wholes ∙ subst (λ (x : List Sample). list_any is_settled x ≡ true) (sym all) nobody.some_whole,
      lacks ∙ nobody.all_there,
      sure ∙ subst (λ (x : List Sample). any_unsure capture x ≡ false) (sym all) (none_in capture capture.samples.items nobody.outside),
      counts ∙ subst (λ (x : List Sample). list_any counts_inside x ≡ false) (sym (ends ∙ ap end_of all)) nobody.counted,
    )
