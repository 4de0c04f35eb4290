-- Refused events, item by item.
use Rattle.std.proofs.Common.{◌≡◌, ℕ, suc, ◌+◌, List, [], ◌∷◌, ◌++◌, length, Option, Some, None, refl, sym, ap, ◌∙◌, arith, cond}
use Rattle.std.specs.Prelude.{is_some}
use Rattle.std.specs.List.{count_by}
use Rattle.std.proofs.lemmas.List.Sums.{sum_by-append}
use Rattle.klp_types.specs.Setting.{Setting}
use Rattle.klp_model.specs.declared.event.Event.{Event}
use Rattle.klp_model.specs.declared.event.Refusal.{Refusal}
use Rattle.klp_model.specs.State.{State}
use Rattle.klp_model.specs.Run.{next, run}
use Rattle.klp_model.specs.Observed.{events_of}
use Rattle.klp_watch.specs.declared.observed.Observed.{Observed}
use Rattle.klp_watch.specs.Compared.{taken_of, taken_from}
use Rattle.klp_watch.specs.Refused.{refusal_at, refusals, first_refused, first_of, refused_in, with_refusal}
use Rattle.klp_watch.proofs.RunLemmas.{events_more}

run_more : (setting : Setting) (state : State) (events more : List Event) → run setting state (events ++ more) ≡ run setting (run setting state events) more
run_more setting state [] more = refl
run_more setting state (event ∷ events) more = run_more setting (next setting state event) events more

refusals_more : (setting : Setting) (state : State) (items : List Observed) (item : Observed)
    → refusals setting state (items ++ item ∷ []) ≡ refusals setting state items ++ refusal_at setting (run setting state (events_of (taken_from items))) [] item ∷ []
refusals_more setting state [] item = refl
refusals_more setting state (first ∷ items) item =
    let after = run setting state (events_of (taken_of first)) in
    ap (λ found. refusal_at setting state [] first ∷ found)
    (refusals_more setting after items item
    ∙ ap (λ s. refusals setting after items ++ refusal_at setting s [] item ∷ [])
    (sym (run_more setting state (events_of (taken_of first)) (events_of (taken_from items)))
    ∙ ap (run setting state) (sym (events_more (taken_of first) (taken_from items)))))

length-refusals : (setting : Setting) (state : State) (items : List Observed) → length (refusals setting state items) ≡ length items
length-refusals setting state [] = refl
length-refusals setting state (item ∷ items) = ap suc (length-refusals setting (run setting state (events_of (taken_of item))) items)

first_none : (number : ℕ) (found : List (Option Refusal)) → first_refused number (found ++ None ∷ []) ≡ first_refused number found
first_none number [] = refl
first_none number (None ∷ found) = first_none (suc number) found
first_none number (Some refusal ∷ found) = refl

first_some : (number : ℕ) (found : List (Option Refusal)) (refusal : Refusal)
    → first_refused number (found ++ Some refusal ∷ []) ≡ first_of (first_refused number found) (Some (record { item = number + length found; refusal = refusal }))
first_some number [] refusal =
    let same : number ≡ number + 0 = omega arith in ap (λ n. Some (record { item = n; refusal = refusal })) same
first_some number (None ∷ found) refusal =
    let same : suc number + length found ≡ number + suc (length found) = omega arith in
    first_some (suc number) found refusal
    ∙ ap (λ n. first_of (first_refused (suc number) found) (Some (record { item = n; refusal = refusal }))) same
first_some number (Some first ∷ found) refusal = refl

count_more : (found : List (Option Refusal)) (refusal : Option Refusal)
    → count_by is_some (found ++ refusal ∷ []) ≡ count_by is_some found + count_by is_some (refusal ∷ [])
count_more found refusal = sum_by-append (λ r. cond (is_some r) 1 0) found (refusal ∷ [])

-- one more refusal, or none
added : (found : List (Option Refusal)) (number : ℕ) (refusal : Option Refusal) → number ≡ 1 + length found
    → with_refusal (record { count = count_by is_some found; first = first_refused 1 found }) number refusal
    ≡ record { count = count_by is_some (found ++ refusal ∷ []); first = first_refused 1 (found ++ refusal ∷ []) }
added found number None is = let none : count_by is_some found + 0 ≡ count_by is_some found = omega arith in rw (count_more found None, first_none 1 found, none) refl
added found number (Some refusal) is = rw (count_more found (Some refusal), first_some 1 found refusal, is) refl

pub one_more_refused : (setting : Setting) (state : State) (items : List Observed) (item : Observed) (number : ℕ) → number ≡ 1 + length items
    → with_refusal (refused_in setting state items) number (refusal_at setting (run setting state (events_of (taken_from items))) [] item)
    ≡ refused_in setting state (items ++ item ∷ [])
one_more_refused setting state items item number is =
    added (refusals setting state items) number (refusal_at setting (run setting state (events_of (taken_from items))) [] item)
    (is ∙ ap (λ n. 1 + n) (sym (length-refusals setting state items)))
    ∙ ap (λ found. record { count = count_by is_some found; first = first_refused 1 found }) (sym (refusals_more setting state items item))
