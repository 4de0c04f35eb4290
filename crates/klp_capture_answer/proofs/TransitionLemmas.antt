-- The last transition of a list has all holders.
use Rattle.std.proofs.Common.{◌≡◌, ◌-◌, ◌<◌, ℕ, List, [], ◌∷◌, ◌++◌, length, Some, None, refl, sym, ap, subst, ◌∙◌, arith, length-append}
use Rattle.std.specs.Prelude.{Option, slice_get}
use Rattle.std.proofs.lemmas.Option.{slice_get-get_or}
use Rattle.std.proofs.Math.Seq.{get_or-append_seam}
use Rattle.klp_capture_run.specs.Holders.{holders_in}
use Rattle.klp_capture_run.specs.declared.explained.Explained.{Explained}
use Rattle.klp_capture_run.specs.declared.holders.Holder.{Holder}
use Rattle.klp_capture_report.specs.declared.report.TransitionReport.{TransitionReport}
use Rattle.klp_capture_holders.specs.Holding.{still_held, threads_of, HasAllHolders}

the_same : {X : Type 0} (x y : X) → Some x ≡ Some y → x ≡ y
the_same x y e = cc

last_is : (earlier : List TransitionReport) (last own : TransitionReport)
    → slice_get (earlier ++ last ∷ []) (length (earlier ++ last ∷ []) - 1) ≡ Some own → last ≡ own
last_is earlier last own is =
    let all = earlier ++ last ∷ [] in
    let within : length earlier < length all = omega (arith, length-append earlier (last ∷ [])) in
    let place : length all - 1 ≡ length earlier = omega (arith, length-append earlier (last ∷ [])) in
    let found : slice_get all (length earlier) ≡ Some last =
    slice_get-get_or all (length earlier) last within ∙ ap (λ (x : TransitionReport). Some x) (get_or-append_seam earlier last [] last) in
    the_same last own (sym found ∙ subst (λ (k : ℕ). slice_get all k ≡ Some own) place is)

has_all : (found : Explained) (earlier : List TransitionReport) (last : TransitionReport)
    → (last.end ≡ None → still_held last.holders.items ≡ threads_of found.run.tasks.items (holders_in found.lags))
    → HasAllHolders found (earlier ++ last ∷ [])
has_all found earlier last holds = λ own is ends.
    let same = last_is earlier last own is in
    subst (λ (x : TransitionReport). still_held x.holders.items ≡ threads_of found.run.tasks.items (holders_in found.lags)) same
    (holds (ap (λ (x : TransitionReport). x.end) same ∙ ends))

-- where none is shown, none lacks a holder
pub none_has_all : (found : Explained) (transitions : List TransitionReport) → transitions ≡ [] → HasAllHolders found transitions
none_has_all found transitions none =
    subst (λ (list : List TransitionReport). HasAllHolders found list) (sym none) (λ own is ends. cc)

-- these hold the last one up, and they are those of the replay
pub last_has_all : (found : Explained) (holding : List Holder) (earlier transitions : List TransitionReport) (last : TransitionReport)
    → transitions ≡ earlier ++ last ∷ []
    → (last.end ≡ None → still_held last.holders.items ≡ threads_of found.run.tasks.items holding)
    → holding ≡ holders_in found.lags → HasAllHolders found transitions
last_has_all found holding earlier transitions last are holds same =
    subst (λ (list : List TransitionReport). HasAllHolders found list) (sym are)
    (has_all found earlier last (λ ends. holds ends ∙ ap (λ (list : List Holder). threads_of found.run.tasks.items list) same))
