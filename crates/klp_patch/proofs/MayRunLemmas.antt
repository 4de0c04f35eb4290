-- The callbacks that run, weighed against those that may.
use Rattle.std.proofs.Common.{◌≡◌, ℕ, ◌+◌, ◌≤◌, List, ◌++◌, Option, Some, None, length, refl, ap, arith}
use Rattle.std.specs.Prelude.{find}
use Rattle.std.specs.List.{before_first, flat_map}
use Rattle.std.proofs.lemmas.List.Sums.{sum_by-append}
use Rattle.klp_types.specs.declared.callback.Which.TheVariants.{Pre, PostUn}
use Rattle.klp_types.specs.declared.version.Transition.{Transition}
use Rattle.klp_types.specs.Setting.{PatchObject}
use Rattle.klp_types.specs.Script.{alloc_count}
use Rattle.klp_types.specs.Callbacks.{Call, calls_of, enable_calls, refuses}
use Rattle.klp_model.specs.ModuleCalls.{Part, part_refuses, parts_before, coming_calls, going_calls}
use Rattle.klp_model.specs.EventCalls.{coming_may_run, going_may_run}
use Rattle.klp_patch.specs.Calls.{records_of}
use Rattle.klp_patch.specs.Refusing.{pre_calls}
use Rattle.klp_patch.specs.UntilRefused.{calls_until_refused}
use Rattle.klp_patch.proofs.CallLemmas.{clean_calls, enable-parts, clean-few}
use Rattle.klp_patch.proofs.RanLemmas.{pre_notes_few}
use Rattle.klp_patch.proofs.ModulePartsLemmas.{coming-passed, coming-refused, coming-weight, going-weight}

-- how many records a callback notes at most, beside those of variables that are gone
abbrev notes_of : Call → ℕ
notes_of call = length call.script.edits + alloc_count call.script.edits

clean_few : (patch : ℕ) (objects : List (ℕ × PatchObject)) (found : Option (ℕ × PatchObject))
    → records_of (clean_calls patch (before_first refuses objects) found) ≤ records_of (calls_of patch PostUn objects)
clean_few patch objects None = omega arith
clean_few patch objects (Some object) = clean-few notes_of patch objects

pub enabling-few : (patch : ℕ) (objects : List (ℕ × PatchObject))
    → records_of (enable_calls patch objects) ≤ records_of (calls_of patch Pre objects ++ calls_of patch PostUn objects)
enabling-few patch objects =
    let clean = clean_calls patch (before_first refuses objects) (find refuses objects) in
    let whole = ap records_of (enable-parts patch objects) in
    let halves = sum_by-append notes_of (pre_calls patch objects) clean in
    let may = sum_by-append notes_of (calls_of patch Pre objects) (calls_of patch PostUn objects) in
    omega (arith, whole, halves, may, pre_notes_few patch objects, clean_few patch objects (find refuses objects))

coming_found : (moving : Option Transition) (parts : List Part) (found : Option Part) → find part_refuses parts ≡ found
    → records_of (coming_calls moving parts) ≤ records_of (flat_map (coming_may_run moving) parts)
coming_found moving parts None is =
    let whole = ap records_of (coming-passed moving parts is) in
    omega (arith, whole, coming-weight moving notes_of parts)
coming_found moving parts (Some part) is =
    let whole = ap records_of (coming-refused moving parts part is) in
    let halves = sum_by-append notes_of (calls_until_refused moving parts) (going_calls moving (parts_before parts)) in
    omega (arith, whole, halves, coming-weight moving notes_of parts)

pub coming-few : (moving : Option Transition) (parts : List Part) → records_of (coming_calls moving parts) ≤ records_of (flat_map (coming_may_run moving) parts)
coming-few moving parts = coming_found moving parts (find part_refuses parts) refl

pub going-few : (moving : Option Transition) (parts : List Part) → records_of (going_calls moving parts) ≤ records_of (flat_map (going_may_run moving) parts)
going-few moving parts = let same = going-weight moving notes_of parts in omega (arith, same)
