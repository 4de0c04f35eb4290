-- What isn't honest, and what isn't consistent.
use Rattle.std.proofs.Common.{◌≡◌, true, false, [], Some, pos, refl, arith}
use Rattle.std.proofs.lemmas.Option.{same_Some}
use Rattle.klp_types.specs.declared.task.Mode.TheVariants.{User, Kernel}
use Rattle.klp_types.specs.declared.version.Version.TheVariants.{Original, New}
use Rattle.klp_model.specs.declared.event.Event.TheVariants.{EndTask}
use Rattle.klp_model.specs.declared.seen.Seen.TheVariants.{Event as Happens, Call as Calls, Return as Returns}
use Rattle.klp_model.specs.Refusals.{refusals}
use Rattle.klp_model.specs.Observed.{IsHonestItem, IsHonestRun}
use Rattle.klp_model.specs.InPlace.{IsInPlace}
use Rattle.klp_model.specs.Consistent.{AllCurrent, NoneLeft, NoneMixed, AllNamed}
use Rattle.klp_model.specs.ObservedExamples.{kernel, no_frames, inside, inside_both, moving_in, unpatched, stray_behind}
use Rattle.klp_model.proofs.ObservedExamples.{all_open, dishonest}

not_so : false ≡ true → ⊥
not_so e = cc

so : true ≡ false → ⊥
so e = cc

new_for_old : Some (New 0 1) ≡ Some (Original 1) → ⊥
new_for_old e = cc

two_for_one : {A : Type 0} → (a b : A) → (a ≡ b → ⊥) → Some a ≡ Some b → ⊥
two_for_one a b apart e = apart (same_Some a b e)

pub ends_inside : IsHonestItem kernel (unpatched Kernel (inside 0 (Original 0))) (Happens (EndTask 1)) → ⊥
ends_inside =
    let w = unpatched Kernel (inside 0 (Original 0)) in dishonest kernel w (EndTask 1) (all_open (refusals kernel w.state (EndTask 1)) (refl, (refl, tt))) (λ e. cc)

pub not_loaded : IsHonestItem kernel (unpatched Kernel no_frames) (Calls 1 2) → ⊥
not_loaded honest = not_so honest.1

pub called_outside : IsHonestItem kernel (unpatched User no_frames) (Calls 1 0) → ⊥
called_outside honest = not_so honest.0

pub no_frame : IsHonestItem kernel (unpatched Kernel no_frames) (Returns 1) → ⊥
no_frame honest = so honest.1

pub returned_outside : IsHonestItem kernel (unpatched User (inside 0 (Original 0))) (Returns 1) → ⊥
returned_outside honest = not_so honest.0

pub task_at_the_start : IsHonestRun kernel (unpatched User no_frames).state [] → ⊥
task_at_the_start honest = so (honest.no_task 1)

pub old_code : AllCurrent kernel (moving_in (pos 1) (inside_both (New 0 0) (Original 1))) → ⊥
old_code current = new_for_old (current 1).1.0

pub left : NoneLeft kernel (unpatched Kernel (inside_both (Original 0) (New 0 1))) → ⊥
left stand = not_so (stand 1).1.0

pub of_another_patch : NoneLeft kernel (moving_in (pos 1) (inside_both (New 0 0) (New 1 1))) → ⊥
of_another_patch stand = not_so (stand 1).1.0

pub of_another_function : NoneLeft kernel (moving_in (pos 1) (inside_both (New 0 0) (New 0 0))) → ⊥
of_another_function stand = not_so (stand 1).1.0

pub of_the_patch : NoneMixed kernel (moving_in (pos 0) (inside_both (Original 0) (New 0 1))) → ⊥
of_the_patch unmixed = so ((unmixed 1 _ refl _ refl).0 refl).1.0

pub below_the_patch : NoneMixed kernel (moving_in (pos 1) (inside_both (New 0 0) (Original 1))) → ⊥
below_the_patch unmixed = so (((unmixed 1 _ refl _ refl).1 refl).1.0 1)

pub misnamed : AllNamed kernel (unpatched Kernel (inside_both (Original 0) (Original 2))) → ⊥
misnamed named = two_for_one 2 1 (λ e. omega (arith, e)) (named 1).1.0

pub out_of_place : IsInPlace stray_behind → ⊥
out_of_place in_place = two_for_one 1 0 (λ e. omega (arith, e)) in_place.1.0.1.0.1.0
