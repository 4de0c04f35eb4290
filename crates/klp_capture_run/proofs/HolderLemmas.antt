-- Who holds a transition up, task by task; which samples are shown; and what is known of an option's value.
use Rattle.std.proofs.Common.{◌≡◌, ℕ, ◌+◌, ◌<◌, List, ◌++◌, length, get_or, drop, Option, Some, None, refl, subst, add-one}
use Rattle.std.specs.Prelude.{IfSome}
use Rattle.std.proofs.Math.Seq.{drop-cons}
use Rattle.klp_core.specs.declared.holders.Lag.{Lag}
use Rattle.klp_capture.specs.declared.capture.Capture.{Capture}
use Rattle.klp_capture.specs.declared.capture.Sample.{Sample}
use Rattle.klp_capture.specs.declared.thread.Thread.{Thread}
use Rattle.klp_capture.specs.declared.thread.PatchName.{PatchName}
use Rattle.klp_capture.specs.declared.time.BootTime.{BootTime}
use Rattle.klp_capture.specs.Shown.{ShowSamples, samples_before}
use Rattle.klp_capture_run.specs.Holders.{holder_at, holders_from}

pub holders_from-drop : (lags : List (Option Lag)) (i : ℕ) (d : Option Lag) → i < length lags
    → holders_from i (drop i lags) ≡ holder_at i (get_or lags i d) ++ holders_from (i + 1) (drop (i + 1) lags)
holders_from-drop lags i d h = rw (add-one, drop-cons lags i d h) refl

-- what follows from the fact about the value is a fact about it
pub if_some : {A : Type 0} (P Q : A → Type 0) (option : Option A) → ((value : A) → P value → Q value) → IfSome option P → IfSome option Q
if_some P Q None follows given = given
if_some P Q (Some value) follows given = follows value given

-- what is shown of the samples that are reached is shown of those before the first that fails
pub shown_of : {capture : Capture} {forced : Option BootTime} {patches : List PatchName} {threads : List Thread} {lines : List (List ℕ)}
    {own inner outer : List Sample} (unshown failed unjudged : Option ℕ) (all : List Sample) → outer ≡ samples_before failed inner
    → inner ≡ samples_before unjudged own → own ≡ all → ShowSamples capture forced patches threads (samples_before unshown outer) lines
    → ShowSamples capture forced patches threads (samples_before unshown (samples_before failed (samples_before unjudged all))) lines
shown_of {capture} {forced} {patches} {threads} {lines} {own} {inner} {outer} unshown failed unjudged all before within same shown =
    subst (λ (samples : List Sample). ShowSamples capture forced patches threads (samples_before unshown (samples_before failed (samples_before unjudged samples))) lines) same
    (subst (λ (samples : List Sample). ShowSamples capture forced patches threads (samples_before unshown (samples_before failed samples)) lines) within
    (subst (λ (samples : List Sample). ShowSamples capture forced patches threads (samples_before unshown samples) lines) before shown))
