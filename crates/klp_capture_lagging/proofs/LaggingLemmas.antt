-- Who lags is who was last said to be off the target.
use Rattle.std.proofs.Common.{◌≡◌, ℕ, zero, suc, Bool, true, false, ◌&&◌, List, [], ◌∷◌, ◌++◌, inl, inr, refl, sym, ap, subst, ◌∙◌, arith}
use Rattle.std.specs.Prelude.{◌↔◌, Contains, if◌then◌else◌}
use Rattle.std.specs.List.{list_any}
use Rattle.std.proofs.lemmas.Bool.{and_parts}
use Rattle.std.proofs.lemmas.List.Elements.{Contains-append_left, Contains-append_right, Contains-append_cases}
use Rattle.klp_capture.specs.Shown.{span_of}
use Rattle.klp_capture.specs.declared.capture.Capture.{Capture}
use Rattle.klp_capture.specs.declared.capture.Sample.{Sample}
use Rattle.klp_capture.specs.declared.capture.SeenTask.{SeenTask}
use Rattle.klp_capture_lagging.specs.Lagging.{is_off, is_last, IsLastSaid, lagging_at, lagging_of, lagging_in, counts_some, end_of, has_moving, NobodyLags}

none : {X : Type 0} (x : X) → Contains [] x → ⊥
none x (k, h, e) = omega arith

-- what stands in a list of at most one
one : {X : Type 0} (test : Bool) (x y : X) → Contains (if test then x ∷ [] else []) y → (test ≡ true) × (x ≡ y)
one true x y (zero, h, e) = (refl, e)
one true x y (suc k, h, e) = absurd (omega arith)
one false x y (k, h, e) = absurd (omega arith)

-- a reading that is the last that is said of its thread, among those of a sample and behind it
pub record IsLastOf (capture : Capture) (target : Bool) (sample : Sample) (later : List Sample) (readings : List SeenTask) (seen : SeenTask) : Type 0 where
  pub before : List SeenTask
  pub rest : List SeenTask
  pub read : readings ≡ before ++ seen ∷ rest
  pub last : is_last capture sample later seen rest ≡ true
  pub off : is_off target seen.task.state ≡ true

last_of : (capture : Capture) (target : Bool) (sample : Sample) (later : List Sample) (readings : List SeenTask) (seen : SeenTask)
    → Contains (lagging_of capture target sample later readings) seen → IsLastOf capture target sample later readings seen
last_of capture target sample later [] seen has = absurd (none seen has)
last_of capture target sample later (own ∷ rest) seen has =
    elim (Contains-append_cases (lagging_at capture target sample later own rest) (lagging_of capture target sample later rest) seen has) [
      | inl here ↦
          by (one (is_off target own.task.state && is_last capture sample later own rest) own seen here)
      | inr there ↦
          let found = last_of capture target sample later rest seen there in
          record {
            before = own ∷ found.before;
            rest = found.rest;
            read = ap (λ (more : List SeenTask). own ∷ more) found.read;
            last = found.last;
            off = found.off;
          }
    ]
  where
    by : ((is_off target own.task.state && is_last capture sample later own rest) ≡ true) × (own ≡ seen) → IsLastOf capture target sample later (own ∷ rest) seen
    by (holds, is) =
        let both = and_parts (is_off target own.task.state) (is_last capture sample later own rest) holds in
        record {
          before = [];
          rest = rest;
          read = ap (λ (x : SeenTask). x ∷ rest) is;
          last = subst (λ (x : SeenTask). is_last capture sample later x rest ≡ true) is both.1;
          off = subst (λ (x : SeenTask). is_off target x.task.state ≡ true) is both.0;
        }

was_last_said : (capture : Capture) (target : Bool) (samples : List Sample) (seen : SeenTask)
    → Contains (lagging_in capture target samples) seen → IsLastSaid capture samples seen × (is_off target seen.task.state ≡ true)
was_last_said capture target [] seen has = absurd (none seen has)
was_last_said capture target (sample ∷ later) seen has =
    elim (Contains-append_cases (lagging_of capture target sample later (span_of sample.tasks capture.seen.items)) (lagging_in capture target later) seen has) [
      | inl here ↦ first (last_of capture target sample later (span_of sample.tasks capture.seen.items) seen here)
      | inr there ↦ more (was_last_said capture target later seen there)
    ]
  where
    first : IsLastOf capture target sample later (span_of sample.tasks capture.seen.items) seen
        → IsLastSaid capture (sample ∷ later) seen × (is_off target seen.task.state ≡ true)
    first found = (
      record {
        earlier = [];
        sample = sample;
        later = later;
        among = refl;
        before = found.before;
        rest = found.rest;
        read = found.read;
        last = found.last;
      },
      found.off,
    )

    more : IsLastSaid capture later seen × (is_off target seen.task.state ≡ true) → IsLastSaid capture (sample ∷ later) seen × (is_off target seen.task.state ≡ true)
    more (said, off) = (
      record {
        earlier = sample ∷ said.earlier;
        sample = said.sample;
        later = said.later;
        among = ap (λ (list : List Sample). sample ∷ list) said.among;
        before = said.before;
        rest = said.rest;
        read = said.read;
        last = said.last;
      },
      off,
    )

-- the list of one has it
alone : {X : Type 0} (test : Bool) (x : X) → test ≡ true → Contains (if test then x ∷ [] else []) x
alone true x is = (0, omega arith, refl)
alone false x is = cc

both_true : (a b : Bool) → a ≡ true → b ≡ true → (a && b) ≡ true
both_true true b first second = second
both_true false b first second = cc

of_sample : (capture : Capture) (target : Bool) (sample : Sample) (later : List Sample) (before : List SeenTask) (seen : SeenTask) (rest : List SeenTask)
    → is_last capture sample later seen rest ≡ true → is_off target seen.task.state ≡ true → Contains (lagging_of capture target sample later (before ++ seen ∷ rest)) seen
of_sample capture target sample later [] seen rest last off =
    Contains-append_left (lagging_at capture target sample later seen rest) (lagging_of capture target sample later rest) seen
    (alone (is_off target seen.task.state && is_last capture sample later seen rest) seen
    (both_true (is_off target seen.task.state) (is_last capture sample later seen rest) off last))
of_sample capture target sample later (own ∷ before) seen rest last off =
    Contains-append_right (lagging_at capture target sample later own (before ++ seen ∷ rest)) (lagging_of capture target sample later (before ++ seen ∷ rest)) seen
    (of_sample capture target sample later before seen rest last off)

of_samples : (capture : Capture) (target : Bool) (earlier : List Sample) (sample : Sample) (later : List Sample) (seen : SeenTask)
    → Contains (lagging_of capture target sample later (span_of sample.tasks capture.seen.items)) seen
    → Contains (lagging_in capture target (earlier ++ sample ∷ later)) seen
of_samples capture target [] sample later seen has =
    Contains-append_left (lagging_of capture target sample later (span_of sample.tasks capture.seen.items)) (lagging_in capture target later) seen has
of_samples capture target (own ∷ earlier) sample later seen has =
    Contains-append_right (lagging_of capture target own (earlier ++ sample ∷ later) (span_of own.tasks capture.seen.items))
    (lagging_in capture target (earlier ++ sample ∷ later)) seen (of_samples capture target earlier sample later seen has)

lags : (capture : Capture) (target : Bool) (samples : List Sample) (seen : SeenTask)
    → IsLastSaid capture samples seen × (is_off target seen.task.state ≡ true) → Contains (lagging_in capture target samples) seen
lags capture target samples seen (said, off) =
    subst (λ (list : List Sample). Contains (lagging_in capture target list) seen) (sym said.among)
    (of_samples capture target said.earlier said.sample said.later seen
    (subst (λ (readings : List SeenTask). Contains (lagging_of capture target said.sample said.later readings) seen) (sym said.read)
    (of_sample capture target said.sample said.later said.before seen said.rest said.last off)))

pub lags_as_said : (capture : Capture) (target : Bool) (samples : List Sample) (seen : SeenTask)
    → (Contains (lagging_in capture target samples) seen ↔ (IsLastSaid capture samples seen × (is_off target seen.task.state ≡ true)))
lags_as_said capture target samples seen = (was_last_said capture target samples seen, lags capture target samples seen)

nothing : {X : Type 0} (list : List X) → ((x : X) → Contains list x → ⊥) → list ≡ []
nothing [] none = refl
nothing (x ∷ xs) none = absurd (none x (0, omega arith, refl))

not_true : (b : Bool) → (b ≡ true → ⊥) → b ≡ false
not_true true never = absurd (never refl)
not_true false never = refl

none_lags : (capture : Capture) (target : Bool) (samples : List Sample) → lagging_in capture target samples ≡ [] → (seen : SeenTask)
    → IsLastSaid capture samples seen → is_off target seen.task.state ≡ false
none_lags capture target samples empty seen said =
    not_true (is_off target seen.task.state)
    (λ off. none seen (subst (λ (list : List SeenTask). Contains list seen) empty (lags capture target samples seen (said, off))))

empty_as_said : (capture : Capture) (target : Bool) (samples : List Sample)
    → ((seen : SeenTask) → IsLastSaid capture samples seen → is_off target seen.task.state ≡ false) → lagging_in capture target samples ≡ []
empty_as_said capture target samples never = nothing (lagging_in capture target samples) refuse
  where
    refuse : (seen : SeenTask) → Contains (lagging_in capture target samples) seen → ⊥
    refuse seen has = let found = was_last_said capture target samples seen has in let is = never seen found.0 in let off = found.1 in cc

-- four tests decide whether nobody lags
pub nobody_by : (capture : Capture) (patch : List ℕ) (target : Bool) (end : List Sample) (named : List SeenTask) (result all_read moving none_named counted : Bool)
    → end ≡ end_of capture.samples.items → named ≡ lagging_in capture target capture.samples.items
    → ((all_read ≡ true) ↔ (capture.missing.items ≡ [])) → moving ≡ has_moving capture patch target end
    → ((none_named ≡ true) ↔ (named ≡ [])) → counted ≡ list_any counts_some end
    → ((result ≡ true) ↔ ((all_read ≡ true) × (moving ≡ true) × (none_named ≡ true) × (counted ≡ false)))
    → ((result ≡ true) ↔ NobodyLags capture patch target)
nobody_by capture patch target end named result all_read moving none_named counted ends lagging reads moves names counts four = (forth, back)
  where
    forth : result ≡ true → NobodyLags capture patch target
    forth is =
        let so = four.0 is in
        let empty : lagging_in capture target capture.samples.items ≡ [] = sym lagging ∙ names.0 so.2 in
        record {
          all_read = reads.0 so.0;
          moving = subst (λ (x : List Sample). has_moving capture patch target x ≡ true) ends (sym moves ∙ so.1);
          named = none_lags capture target capture.samples.items empty;
          counted = subst (λ (x : List Sample). list_any counts_some x ≡ false) ends (sym counts ∙ so.3);
        }

    back : NobodyLags capture patch target → result ≡ true
    back calm = four.1 (
      reads.1 calm.all_read,
      moves ∙ subst (λ (x : List Sample). has_moving capture patch target x ≡ true) (sym ends) calm.moving,
      names.1 (lagging ∙ empty_as_said capture target capture.samples.items calm.named),
      counts ∙ subst (λ (x : List Sample). list_any counts_some x ≡ false) (sym ends) calm.counted,
    )
