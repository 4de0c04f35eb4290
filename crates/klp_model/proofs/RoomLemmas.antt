-- There is room for what callbacks add.
use Rattle.std.proofs.Common.{◌≡◌, ℕ, zero, suc, ◌+◌, ◌≤◌, Bool, true, false, not, refl, sym, ap, subst, take, cond, List, [], ◌∷◌, ◌++◌, Option, Some, None, arith}
use Rattle.std.specs.List.{find, flat_map, before_first, position_or_len}
use Rattle.std.specs.FinMap as finite
use Rattle.std.proofs.lemmas.Bool.{ltb-false}
use Rattle.std.proofs.lemmas.List.Sums.{sum_by-append, sum_by-cons}
use Rattle.klp_types.specs.declared.limits.TheConstants.{MAX_VARIABLES}
use Rattle.klp_types.specs.declared.callback.Which.{Which}
use Rattle.klp_types.specs.declared.callback.Which.TheVariants.{Pre, Post, PreUn, PostUn}
use Rattle.klp_model.specs.declared.event.Event.{Event}
use Rattle.klp_types.specs.declared.version.Transition.{Transition}
use Rattle.klp_types.specs.Setting.{Setting, PatchObject}
use Rattle.klp_types.specs.World.{World}
use Rattle.klp_types.specs.Script.{alloc_count, effect}
use Rattle.klp_model.specs.State.{State}
use Rattle.klp_types.specs.Callbacks.{Call, call_of, calls_of, script_for, refuses, refused_calls, enable_calls, after_calls, allocs_of}
use Rattle.klp_model.specs.ModuleCalls.{Part, part_call, still_call, part_coming, part_going, part_refuses, parts_before, refused_parts, coming_calls, going_calls}
use Rattle.klp_model.specs.EventCalls.{once_done, coming_may_run, going_may_run, may_run, lacks_room}
use Rattle.klp_types.proofs.ScriptLemmas.{script_room}

abbrev Objects : Type 0
Objects = List (ℕ × PatchObject)

-- an item more
before_first-cons : {A : Type 0} (p : A → Bool) (x : A) (xs : List A) → before_first p (x ∷ xs) ≡ cond (p x) [] (x ∷ before_first p xs)
before_first-cons p x xs =
    elim (p x) as (λ b. take (cond (not b) (1 + position_or_len p xs) 0) (x ∷ xs) ≡ cond b [] (x ∷ before_first p xs)) [
      | true ↦ refl
      | false ↦ let next : 1 + position_or_len p xs ≡ suc (position_or_len p xs) = omega arith in ap (λ n. take n (x ∷ xs)) next
    ]

abbrev alloc_of : Call → ℕ
alloc_of c = alloc_count c.script.edits

allocs-append : (a b : List Call) → allocs_of (a ++ b) ≡ allocs_of a + allocs_of b
allocs-append a b = sum_by-append alloc_of a b

-- callbacks add no more than they have edits that add
pub few_calls : (world : World) (calls : List Call) → finite.len (after_calls world calls).shadow ≤ finite.len world.shadow + allocs_of calls
few_calls world [] = omega arith
few_calls world (call ∷ calls) =
    omega (arith, few_calls (effect call.patch world call.script) calls, script_room call.patch world call.script, sum_by-cons alloc_of call calls)

abbrev pre_call : ℕ → Option (ℕ × PatchObject) → List Call
pre_call patch None = []
pre_call patch (Some object) = call_of patch object.0 Pre (script_for Pre object.1.callbacks)

module _ (patch : ℕ) where
  abbrev own : Which → ℕ × PatchObject → List Call
  own which object = call_of patch object.0 which (script_for which object.1.callbacks)

  of_more : (which : Which) (object : ℕ × PatchObject) (objects : Objects)
      → allocs_of (calls_of patch which (object ∷ objects)) ≡ allocs_of (own which object) + allocs_of (calls_of patch which objects)
  of_more which object objects = allocs-append (own which object) (calls_of patch which objects)

  few_pre : (objects : Objects) → allocs_of (calls_of patch Pre (before_first refuses objects)) + allocs_of (pre_call patch (find refuses objects)) ≤ allocs_of (calls_of patch Pre objects)
  few_pre [] = omega arith
  few_pre (object ∷ objects) =
      subst (λ before. allocs_of (calls_of patch Pre before) + allocs_of (pre_call patch (find refuses (object ∷ objects))) ≤ allocs_of (calls_of patch Pre (object ∷ objects)))
      (sym (before_first-cons refuses object objects)) (by (refuses object) (few_pre objects))
    where
      by : (t : Bool) → allocs_of (calls_of patch Pre (before_first refuses objects)) + allocs_of (pre_call patch (find refuses objects)) ≤ allocs_of (calls_of patch Pre objects)
          → allocs_of (calls_of patch Pre (cond t [] (object ∷ before_first refuses objects))) + allocs_of (pre_call patch (cond t (Some object) (find refuses objects)))
          ≤ allocs_of (calls_of patch Pre (object ∷ objects))
      by true rest = omega (arith, of_more Pre object objects)
      by false rest = omega (arith, of_more Pre object objects, of_more Pre object (before_first refuses objects), rest)

  few_before : (which : Which) (objects : Objects) → allocs_of (calls_of patch which (before_first refuses objects)) ≤ allocs_of (calls_of patch which objects)
  few_before which [] = omega arith
  few_before which (object ∷ objects) =
      subst (λ before. allocs_of (calls_of patch which before) ≤ allocs_of (calls_of patch which (object ∷ objects)))
      (sym (before_first-cons refuses object objects)) (by (refuses object) (few_before which objects))
    where
      by : (t : Bool) → allocs_of (calls_of patch which (before_first refuses objects)) ≤ allocs_of (calls_of patch which objects)
          → allocs_of (calls_of patch which (cond t [] (object ∷ before_first refuses objects))) ≤ allocs_of (calls_of patch which (object ∷ objects))
      by true rest = omega arith
      by false rest = omega (arith, of_more which object objects, of_more which object (before_first refuses objects), rest)

  few_refused : (objects : Objects) (found : Option (ℕ × PatchObject))
      → allocs_of (refused_calls patch (before_first refuses objects) found) ≤ allocs_of (pre_call patch found) + allocs_of (calls_of patch PostUn objects)
  few_refused objects None = omega arith
  few_refused objects (Some object) = omega (arith, allocs-append (own Pre object) (calls_of patch PostUn (before_first refuses objects)), few_before PostUn objects)

  pub few_enabled : (objects : Objects) → allocs_of (enable_calls patch objects) ≤ allocs_of (calls_of patch Pre objects ++ calls_of patch PostUn objects)
  few_enabled objects =
      omega (
        arith,
        allocs-append (calls_of patch Pre (before_first refuses objects)) (refused_calls patch (before_first refuses objects) (find refuses objects)),
        allocs-append (calls_of patch Pre objects) (calls_of patch PostUn objects),
        few_pre objects,
        few_refused objects (find refuses objects),
      )

pub few_done : (left : ℕ) (calls : List Call) → allocs_of (once_done left calls) ≤ allocs_of calls
few_done zero calls = omega arith
few_done (suc left) calls = omega arith

abbrev part_pre : Option Part → List Call
part_pre None = []
part_pre (Some part) = part_call Pre part

module _ (moving : Option Transition) where
  more_parts : (f : Part → List Call) (part : Part) (parts : List Part) → allocs_of (flat_map f (part ∷ parts)) ≡ allocs_of (f part) + allocs_of (flat_map f parts)
  more_parts f part parts = allocs-append (f part) (flat_map f parts)

  of_part_coming : (part : Part) → allocs_of (part_coming moving part) ≡ allocs_of (part_call Pre part) + allocs_of (still_call moving Post part)
  of_part_coming part = allocs-append (part_call Pre part) (still_call moving Post part)

  of_part_going : (part : Part) → allocs_of (part_going moving part) ≡ allocs_of (still_call moving PreUn part) + allocs_of (part_call PostUn part)
  of_part_going part = allocs-append (still_call moving PreUn part) (part_call PostUn part)

  of_going : (part : Part) → allocs_of (going_may_run moving part) ≡ allocs_of (part_call PostUn part) + allocs_of (still_call moving PreUn part)
  of_going part = allocs-append (part_call PostUn part) (still_call moving PreUn part)

  of_coming : (part : Part) → allocs_of (coming_may_run moving part)
      ≡ allocs_of (part_call Pre part) + allocs_of (part_call PostUn part) + allocs_of (still_call moving Post part) + allocs_of (still_call moving PreUn part)
  of_coming part =
      omega (
        arith,
        allocs-append (part_call Pre part ++ part_call PostUn part ++ still_call moving Post part) (still_call moving PreUn part),
        allocs-append (part_call Pre part ++ part_call PostUn part) (still_call moving Post part),
        allocs-append (part_call Pre part) (part_call PostUn part),
      )

  few_parts : (parts : List Part) → allocs_of (flat_map (part_coming moving) (parts_before parts)) + allocs_of (flat_map (part_going moving) (parts_before parts)) + allocs_of (part_pre (find part_refuses parts))
      ≤ allocs_of (flat_map (coming_may_run moving) parts)
  few_parts [] = omega arith
  few_parts (part ∷ parts) = by (part_refuses part) (few_parts parts)
    where
      by : (t : Bool) → allocs_of (flat_map (part_coming moving) (parts_before parts)) + allocs_of (flat_map (part_going moving) (parts_before parts)) + allocs_of (part_pre (find part_refuses parts))
          ≤ allocs_of (flat_map (coming_may_run moving) parts)
          → allocs_of (flat_map (part_coming moving) (cond t [] (part ∷ parts_before parts))) + allocs_of (flat_map (part_going moving) (cond t [] (part ∷ parts_before parts)))
          + allocs_of (part_pre (cond t (Some part) (find part_refuses parts)))
          ≤ allocs_of (flat_map (coming_may_run moving) (part ∷ parts))
      by true rest = omega (arith, more_parts (coming_may_run moving) part parts, of_coming part)
      by false rest =
          omega (
            arith,
            more_parts (coming_may_run moving) part parts,
            of_coming part,
            more_parts (part_coming moving) part (parts_before parts),
            of_part_coming part,
            more_parts (part_going moving) part (parts_before parts),
            of_part_going part,
            rest,
          )

  few_refused_parts : (parts : List Part) (found : Option Part) → allocs_of (refused_parts moving parts found) ≤ allocs_of (part_pre found) + allocs_of (flat_map (part_going moving) parts)
  few_refused_parts parts None = omega arith
  few_refused_parts parts (Some part) = omega (arith, allocs-append (part_call Pre part) (flat_map (part_going moving) parts))

  pub few_coming : (parts : List Part) → allocs_of (coming_calls moving parts) ≤ allocs_of (flat_map (coming_may_run moving) parts)
  few_coming parts =
      omega (
        arith,
        few_parts parts,
        few_refused_parts (parts_before parts) (find part_refuses parts),
        allocs-append (flat_map (part_coming moving) (parts_before parts)) (refused_parts moving (parts_before parts) (find part_refuses parts)),
      )

  pub few_going : (parts : List Part) → allocs_of (going_calls moving parts) ≤ allocs_of (flat_map (going_may_run moving) parts)
  few_going [] = omega arith
  few_going (part ∷ parts) = omega (arith, few_going parts, more_parts (part_going moving) part parts, more_parts (going_may_run moving) part parts, of_part_going part, of_going part)

-- where room isn't lacking, there is room after callbacks that add no more
pub room_after : (setting : Setting) (state : State) (event : Event) (world : World) (calls : List Call) → lacks_room setting state event ≡ false
    → finite.len world.shadow ≡ finite.len state.world.shadow → allocs_of calls ≤ allocs_of (may_run setting state event)
    → finite.len (after_calls world calls).shadow ≤ MAX_VARIABLES
room_after setting state event world calls enough same few =
    omega (arith, few_calls world calls, ltb-false MAX_VARIABLES (finite.len state.world.shadow + allocs_of (may_run setting state event)) enough)
