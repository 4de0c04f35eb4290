-- When a log is explained.
use Rattle.std.proofs.Common.{◌≡◌, Bool, true, false, refl}
use Rattle.klp_contradictions.specs.Verdict.{verdict_of}
use Rattle.klp_contradictions.specs.declared.verdict.LogVerdict.TheVariants.{Explained}

pub explained_when : (is_seen is_broken is_explained : Bool) → verdict_of is_seen is_broken is_explained ≡ Explained
    → (is_seen ≡ true) × (is_broken ≡ false) × (is_explained ≡ true)
explained_when false is_broken is_explained e = cc
explained_when true true is_explained e = cc
explained_when true false true e = (refl, refl, refl)
explained_when true false false e = cc
