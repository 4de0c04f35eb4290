-- What becomes of a patch when another one is loaded over it.
use Rattle.std.specs.Prelude.{◌≡◌, ◌==◌, not, Bool, true, false, length, Some, None}
use Rattle.klp_tables.specs.declared.patch.Replaces.{Replaces}
use Rattle.klp_tables.specs.declared.patch.Replaces.TheVariants.{No, Yes, Unknown}
use Rattle.klp_module_matrix.specs.Changes.{lost_of, shared_of}
use Rattle.klp_module_matrix.specs.Matrix.{refusal_of}
use Rattle.klp_module_matrix.specs.declared.outcome.Side.{Side}
use Rattle.klp_module_matrix.specs.declared.outcome.Outcome.{Outcome}
use Rattle.klp_module_matrix.specs.declared.outcome.Outcome.TheVariants.{Refused, TakenOut, Beside}
use Rattle.klp_module_matrix.specs.declared.outcome.Judgement.{Judgement}
use Rattle.klp_module_matrix.specs.declared.outcome.Judgement.TheVariants.{Known, Unknown as NotKnown}

-- the newer patch is refused exactly if a state refuses it. Else it takes the older one out, if it replaces those before it, and loses
-- the functions that only that one changes; or it stands beside it, and both change some
abbrev pub IsOutcome : Side → Side → Bool → Outcome → Type 0
IsOutcome older newer replaces (Refused refusal) = refusal_of older.states.now newer.states.now replaces ≡ Some refusal
IsOutcome older newer replaces (TakenOut lost) =
    (refusal_of older.states.now newer.states.now replaces ≡ None) × (replaces ≡ true) × (lost.items ≡ lost_of older.changed.now newer.changed.now)
IsOutcome older newer replaces (Beside shared) =
    (refusal_of older.states.now newer.states.now replaces ≡ None) × (replaces ≡ false) × (shared.items ≡ shared_of older.changed.now newer.changed.now)

-- where it isn't known whether the newer patch replaces those before it, both are told
abbrev pub IsJudgement : Side → Side → Replaces → Judgement → Type 0
IsJudgement older newer No (Known outcome) = IsOutcome older newer false outcome
IsJudgement older newer Yes (Known outcome) = IsOutcome older newer true outcome
IsJudgement older newer Unknown (Known outcome) = ⊥
IsJudgement older newer replaces (NotKnown either other) =
    (replaces ≡ Unknown) × IsOutcome older newer true either × IsOutcome older newer false other

abbrev pub is_finding : Outcome → Bool
is_finding (Refused refusal) = true
is_finding (TakenOut lost) = not (length lost.items == 0)
is_finding (Beside shared) = not (length shared.items == 0)

abbrev pub says_something : Judgement → Bool
says_something (Known outcome) = is_finding outcome
says_something (NotKnown either other) = true
