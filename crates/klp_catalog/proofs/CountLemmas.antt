-- The count of each callback after runs.
use Rattle.std.proofs.Common.{◌≡◌, ℕ, zero, suc, ◌+◌, ◌-◌, ◌<◌, Bool, true, false, cond, List, [], ◌∷◌, ◌++◌, length, slice_get, option_map, get_or, set, Some, None, Option, refl, sym, ap, ◌∙◌, arith, ltb}
use Rattle.std.specs.Prelude.{◌==◌, ◌&&◌, ◌^◌, min, option_and_then, position}
use Rattle.std.proofs.lemmas.Bool.{eqb-true, ltb-true, ltb-false}
use Rattle.std.proofs.Math.Nat.{min-eq_left, min-eq_right}
use Rattle.std.proofs.lemmas.List.Sums.{sum_by-append, sum_by-cons}
use Rattle.std.proofs.lemmas.List.Quantifiers.{position-Some}
use Rattle.klp_types.specs.declared.callback.Which.{Which}
use Rattle.klp_types.specs.Callbacks.{Call, is_kind}
use Rattle.klp_types.specs.Script.{Script}
use Rattle.klp_callback.specs.LentCallback.{LentCallback, counted}
use Rattle.klp_catalog.specs.Assembled.{lent_counts}
use Rattle.klp_catalog.specs.Catalog.{Catalog}
use Rattle.klp_catalog.specs.Runs.{callback_ids, objects_at, place_of, after_runs, runs_of, callback_runs, RunsAddUp}
use Rattle.klp_catalog.specs.Counts.{CallbackId, is_callback, times, grown, counts_after, runs_after}
use Rattle.klp_catalog.proofs.NumberLemmas.{Case, Nowhere, IsOnly, only-within, same-kind}

-- ---- runs that follow one another

min-again : (limit more runs : ℕ) → min (min runs limit + more) limit ≡ min (runs + more) limit
min-again limit more runs = by (ltb limit runs) refl
  where
    by : (b : Bool) → ltb limit runs ≡ b → min (min runs limit + more) limit ≡ min (runs + more) limit
    by true full =
        let above = ltb-true limit runs full in
        let stays : min runs limit ≡ limit = min-eq_right (omega arith) in
        ap (λ n. min (n + more) limit) stays ∙ min-eq_right (omega arith) ∙ sym (min-eq_right (omega arith))
    by false room =
        let below = ltb-false limit runs room in
        let same : min runs limit ≡ runs = min-eq_left (omega arith) in
        ap (λ n. min (n + more) limit) same

grown-twice : (more others runs : ℕ) → grown (more + others) runs ≡ grown others (grown more runs)
grown-twice zero others runs = let same : 0 + others ≡ others = omega arith in ap (λ n. grown n runs) same
grown-twice (suc more) zero runs = let same : suc more + 0 ≡ suc more = omega arith in ap (λ n. grown n runs) same
grown-twice (suc more) (suc others) runs =
    let both : suc more + suc others ≡ suc (more + suc others) = omega arith in
    let sums : runs + suc (more + suc others) ≡ (runs + suc more) + suc others = omega arith in
    ap (λ n. grown n runs) both ∙ ap (λ n. min n (2 ^ 64 - 1)) sums ∙ sym (min-again (2 ^ 64 - 1) (suc others) (runs + suc more))

times-append : (patch place : ℕ) (which : Which) (calls others : List Call)
    → times patch place which (calls ++ others) ≡ times patch place which calls + times patch place which others
times-append patch place which calls others =
    sum_by-append (λ (c : Call). cond ((c.patch == patch) && ((c.place == place) && is_kind c.which which)) 1 0) calls others

counts-none : (ids : List CallbackId) (counts : List ℕ) → counts_after [] ids counts ≡ counts
counts-none [] counts = refl
counts-none (id ∷ ids) [] = refl
counts-none (id ∷ ids) (count ∷ counts) = ap (count ∷◌) (counts-none ids counts)

counts-append : (calls others : List Call) (ids : List CallbackId) (counts : List ℕ)
    → counts_after (calls ++ others) ids counts ≡ counts_after others ids (counts_after calls ids counts)
counts-append calls others [] counts = refl
counts-append calls others (id ∷ ids) [] = refl
counts-append calls others (id ∷ ids) (count ∷ counts) =
    let more = times id.patch id.place id.which calls in
    let rest = times id.patch id.place id.which others in
    ap (λ n. grown n count ∷ counts_after (calls ++ others) ids counts) (times-append id.patch id.place id.which calls others)
    ∙ ap (λ n. n ∷ counts_after (calls ++ others) ids counts) (grown-twice more rest count)
    ∙ ap (grown rest (grown more count) ∷◌) (counts-append calls others ids counts)

as_counts : (calls : List Call) (ids : List CallbackId) (counts : List ℕ) → runs_after calls ids counts ≡ counts_after calls ids counts
as_counts [] ids counts = sym (counts-none ids counts)
as_counts (call ∷ calls) ids counts = refl

runs-append : (calls others : List Call) (ids : List CallbackId) (counts : List ℕ)
    → runs_after (calls ++ others) ids counts ≡ runs_after others ids (runs_after calls ids counts)
runs-append calls others ids counts =
    as_counts (calls ++ others) ids counts
    ∙ counts-append calls others ids counts
    ∙ ap (counts_after others ids) (sym (as_counts calls ids counts))
    ∙ sym (as_counts others ids (runs_after calls ids counts))

pub add_up : RunsAddUp
add_up = record {
  none = λ catalog. refl;
  more = λ catalog calls others.
      ap (λ (runs : List ℕ). record catalog { runs = runs }) (runs-append calls others (callback_ids catalog.patches) catalog.runs);
}

-- ---- the count of one callback

module _ (patch place : ℕ) (which : Which) (calls : List Call) where
  -- where the callback is the one that is asked for
  same_times : (id : CallbackId) → is_callback patch place which id ≡ true → times id.patch id.place id.which calls ≡ times patch place which calls
  same_times id is = in_patch (patch == id.patch) refl is
    where
      for_object : patch ≡ id.patch → (b : Bool) → (place == id.place) ≡ b → (b && is_kind which id.which) ≡ true
          → times id.patch id.place id.which calls ≡ times patch place which calls
      for_object patches true here kinds = λ i. times (sym patches i) (sym (eqb-true place id.place here) i) (sym (same-kind which id.which kinds) i) calls
      for_object patches false here kinds = let no : ⊥ = cc in absurd no

      in_patch : (b : Bool) → (patch == id.patch) ≡ b → (b && ((place == id.place) && is_kind which id.which)) ≡ true
          → times id.patch id.place id.which calls ≡ times patch place which calls
      in_patch true here rest = for_object (eqb-true patch id.patch here) (place == id.place) refl rest
      in_patch false here rest = let no : ⊥ = cc in absurd no

counts_at : (calls : List Call) (ids : List CallbackId) (counts : List ℕ) (n : ℕ) (d : CallbackId) → n < length ids
    → slice_get (counts_after calls ids counts) n
    ≡ option_map (grown (times (get_or ids n d).patch (get_or ids n d).place (get_or ids n d).which calls)) (slice_get counts n)
counts_at calls [] counts n d lt = absurd (omega arith)
counts_at calls (id ∷ ids) [] n d lt = refl
counts_at calls (id ∷ ids) (count ∷ counts) zero d lt = refl
counts_at calls (id ∷ ids) (count ∷ counts) (suc n) d lt = counts_at calls ids counts n d (omega arith)

pub counts_grow : (catalog : Catalog) (calls : List Call) (patch place : ℕ) (which : Which)
    → runs_of (after_runs catalog calls) patch place which ≡ option_map (grown (times patch place which calls)) (runs_of catalog patch place which)
counts_grow catalog calls patch place which =
    ap (λ counts. option_and_then (slice_get counts) (position (is_callback patch place which) ids)) (as_counts calls ids catalog.runs)
    ∙ by (position (is_callback patch place which) ids) refl
  where
    ids : List CallbackId
    ids = callback_ids catalog.patches

    by : (found : Option ℕ) → position (is_callback patch place which) ids ≡ found
        → option_and_then (slice_get (counts_after calls ids catalog.runs)) found ≡ option_map (grown (times patch place which calls)) (option_and_then (slice_get catalog.runs) found)
    by None at = refl
    by (Some n) at =
        let d : CallbackId = record { patch = patch; place = place; which = which } in
        let there = position-Some (is_callback patch place which) ids n d at in
        counts_at calls ids catalog.runs n d there.0
        ∙ ap (λ more. option_map (grown more) (slice_get catalog.runs n)) (same_times patch place which calls (get_or ids n d) there.1)

pub looks_grow : (catalog : Catalog) (calls : List Call) (patch object place : ℕ) (which : Which) → place_of object (objects_at catalog patch) ≡ Some place
    → callback_runs (after_runs catalog calls) patch object which ≡ option_map (grown (times patch place which calls)) (callback_runs catalog patch object which)
looks_grow catalog calls patch object place which at =
    ap (option_and_then (λ p. runs_of (after_runs catalog calls) patch p which)) at
    ∙ counts_grow catalog calls patch place which
    ∙ sym (ap (λ found. option_map (grown (times patch place which calls)) (option_and_then (λ p. runs_of catalog patch p which) found)) at)

-- ---- one run

none_ran : (patch place : ℕ) (which : Which) → times patch place which [] ≡ 0
none_ran patch place which = refl

module _ (patch place : ℕ) (which : Which) (script : Script) where
  abbrev call : List Call
  call = record { patch = patch; place = place; which = which; script = script } ∷ []

  one_ran : (id : CallbackId) → times id.patch id.place id.which call ≡ cond (is_callback patch place which id) 1 0
  one_ran id =
      let test : Call → ℕ = λ c. cond ((c.patch == id.patch) && ((c.place == id.place) && is_kind c.which id.which)) 1 0 in
      let none = none_ran id.patch id.place id.which in
      omega (arith, none, sum_by-cons test (record { patch = patch; place = place; which = which; script = script }) [])

  other_ran : (id : CallbackId) (count : ℕ) → is_callback patch place which id ≡ false → grown (times id.patch id.place id.which call) count ≡ count
  other_ran id count e = ap (λ n. grown n count) (one_ran id ∙ ap (λ b. cond b 1 0) e)

  this_ran : (id : CallbackId) (count : ℕ) → is_callback patch place which id ≡ true → grown (times id.patch id.place id.which call) count ≡ counted count
  this_ran id count e = ap (λ n. grown n count) (one_ran id ∙ ap (λ b. cond b 1 0) e)

  nothing_grows : (ids : List CallbackId) (counts : List ℕ) → Nowhere (is_callback patch place which) ids → counts_after call ids counts ≡ counts
  nothing_grows [] counts none = refl
  nothing_grows (id ∷ ids) [] none = refl
  nothing_grows (id ∷ ids) (count ∷ counts) none = λ i. other_ran id count none.0 i ∷ nothing_grows ids counts none.1 i

  -- the callback of a number ran
  pub one_grows : (n m k : ℕ) (ids : List CallbackId) (callbacks : List LentCallback) (item new : LentCallback)
      → IsOnly (is_callback patch place which) n ids (Some m) → m ≡ n + k → k < length callbacks → item ≡ get_or callbacks k item → new ≡ record item { runs = counted item.runs }
      → lent_counts (set callbacks k new) ≡ counts_after call ids (lent_counts callbacks)
  one_grows n m k [] callbacks item new only at below is ran = let no : ⊥ = cc in absurd no
  one_grows n m k (id ∷ ids) [] item new only at below is ran = absurd (omega arith)
  one_grows n m zero (id ∷ ids) (c ∷ cs) item new only at below is ran = by (is_callback patch place which id) refl only
    where
      by : (b : Bool) → is_callback patch place which id ≡ b → Case b ((◌≡◌ {A = Option ℕ} (Some m) (Some n)) × Nowhere (is_callback patch place which) ids) (IsOnly (is_callback patch place which) (n + 1) ids (Some m))
          → new.runs ∷ lent_counts cs ≡ grown (times id.patch id.place id.which call) c.runs ∷ counts_after call ids (lent_counts cs)
      by true e h =
          let first : new.runs ≡ grown (times id.patch id.place id.which call) c.runs =
          ap (λ (t : LentCallback). t.runs) ran ∙ ap (λ (t : LentCallback). counted t.runs) is ∙ sym (this_ran id c.runs e) in
          λ i. first i ∷ sym (nothing_grows ids (lent_counts cs) h.1) i
      by false e h = let later = only-within (is_callback patch place which) (n + 1) ids m h in absurd (omega (arith, later.0))
  one_grows n m (suc k) (id ∷ ids) (c ∷ cs) item new only at below is ran =
      by (λ h. one_grows (n + 1) m k ids cs item new h (omega arith) (omega arith) is ran) (is_callback patch place which id) refl only
    where
      by : (IsOnly (is_callback patch place which) (n + 1) ids (Some m) → lent_counts (set cs k new) ≡ counts_after call ids (lent_counts cs)) → (b : Bool) → is_callback patch place which id ≡ b → Case b ((◌≡◌ {A = Option ℕ} (Some m) (Some n)) × Nowhere (is_callback patch place which) ids) (IsOnly (is_callback patch place which) (n + 1) ids (Some m))
          → c.runs ∷ lent_counts (set cs k new) ≡ grown (times id.patch id.place id.which call) c.runs ∷ counts_after call ids (lent_counts cs)
      by later true e h =
          let first : ◌≡◌ {A = Option ℕ} (Some m) (Some n) = h.0 in
          let same : m ≡ n = cc in
          absurd (omega arith)
      by later false e h = λ i. sym (other_ran id c.runs e) i ∷ later h i
