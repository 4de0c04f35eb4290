-- Observed runs on a small catalog, computed: the premises can be met, and which of them are needed.
use Rattle.std.proofs.Common.{◌≡◌, ℕ, zero, suc, ◌+◌, pos, negsuc, Bool, true, false, List, [], ◌∷◌, Option, Some, None, is_some, is_none, length, refl, sym, ap, subst, ◌∙◌, arith}
use Rattle.std.specs.Prelude.{◌==◌, nat_lt, replicate, if◌then◌else◌}
use Rattle.std.specs.List.{list_any}
use Rattle.std.specs.FinMap as finite
use Rattle.klp_types.specs.declared.limits.TheConstants.{MAX_VARIABLES}
use Rattle.klp_types.specs.declared.version.Version.TheVariants.{Original, New}
use Rattle.klp_types.specs.declared.task.Mode.TheVariants.{User, Kernel, Asleep}
use Rattle.klp_model.specs.declared.event.Event.{Event}
use Rattle.klp_model.specs.declared.event.Event.TheVariants.{Enable, Poll, Coming, Going, NewTask, EnterKernel, ExitToUser, Sleep, Wake}
use Rattle.klp_model.specs.declared.event.Refusal.{Refusal}
use Rattle.klp_types.specs.FirstOf.{first_of}
use Rattle.klp_types.specs.Setting.{Setting}
use Rattle.klp_types.specs.World.{key_cmp, ShadowValue}
use Rattle.klp_types.specs.declared.task.Task.{Task}
use Rattle.klp_model.specs.Task.{task_at}
use Rattle.klp_model.specs.Step.{accepted}
use Rattle.klp_model.specs.Refusals.{refusals, accepts, is_there}
use Rattle.klp_model.specs.Allowed.{Allowed}
use Rattle.klp_model.specs.Refusals.{NoneHolds}
use Rattle.klp_model.proofs.RefusalLemmas.{next_accepted}
use Rattle.klp_model.specs.declared.seen.Seen.{Seen}
use Rattle.klp_model.specs.declared.seen.Seen.TheVariants.{Event as Happens, Call as Calls}
use Rattle.klp_model.specs.Observed.{Stacks, with_frames, Watched, begun, is_frame_in, seen_next, seen_run, IsHonestEvent, IsHonestItem, AreHonest, IsHonestRun, seen_from}
use Rattle.klp_model.specs.InPlace.{IsInPlace}
use Rattle.klp_model.specs.ObservedExamples.{kernel, stray_kernel, nobody, one_task, state_of, towards_1, no_frames, inside, watched, start, in_original, late, sleeper_run, stray_run, under_a_task}
use Rattle.klp_model.proofs.OpeningLemmas.{none_there}

-- from here to there by an honest run
record Leads (setting : Setting) (w : Watched) (items : List Seen) (end : Watched) : Type 0 where
  honest : AreHonest setting w items
  ends : seen_run setting w items ≡ end

on : (setting : Setting) (w next_ : Watched) (item : Seen) (items : List Seen) (end : Watched) → seen_next setting w item ≡ next_ → IsHonestItem setting w item → Leads setting next_ items end
    → Leads setting w (item ∷ items) end
on setting w next_ item items end e honest rest = record {
  honest = (honest, subst (λ w. AreHonest setting w items) (sym e) rest.honest);
  ends = ap (λ w. seen_run setting w items) e ∙ rest.ends;
}

done : (setting : Setting) (w : Watched) → Leads setting w [] w
done setting w = record { honest = tt; ends = refl }

pub all_open : (cases : List (Bool × Refusal)) → NoneHolds cases → is_none (first_of cases) ≡ true
all_open [] open_ = refl
all_open (case ∷ cases) open_ = ap (λ b. is_none (if b then Some case.1 else first_of cases)) open_.0 ∙ all_open cases open_.1

goes : (setting : Setting) (w : Watched) (event : Event) → NoneHolds (refusals setting w.state event)
    → seen_next setting w (Happens event) ≡ watched (accepted setting w.state event).1 (begun event w.stacks)
goes setting w event open_ =
    let e = all_open (refusals setting w.state event) open_ in
    ap (λ s. watched s (if accepts setting w.state event then begun event w.stacks else w.stacks)) (next_accepted setting w.state event e)
    ∙ ap (λ b. watched (accepted setting w.state event).1 (if b then begun event w.stacks else w.stacks)) e

room : nat_lt MAX_VARIABLES (finite.len (finite.empty {X = ShadowValue} {R = key_cmp}) + 0) ≡ false
room = ap (λ n. nat_lt MAX_VARIABLES (n + 0)) (finite.len-empty key_cmp ShadowValue)

abbrev s0 : Stacks
s0 = no_frames

abbrev s1 : Stacks
s1 = with_frames s0 1 []

abbrev s2 : Stacks
s2 = inside 0 (Original 0)

abbrev s3 : Stacks
s3 = with_frames s2 1 []

abbrev w0 : Watched
w0 = watched start s0

abbrev w1 : Watched
w1 = watched (state_of false [] None (one_task User (negsuc 0) [])) s1

abbrev w2 : Watched
w2 = watched (state_of false [] None (one_task Kernel (negsuc 0) [])) s1

abbrev w3 : Watched
w3 = watched (state_of false [] None (one_task Kernel (negsuc 0) [])) s2

abbrev w4 : Watched
w4 = watched (state_of false [] None (one_task Asleep (negsuc 0) in_original)) s2

abbrev w5 : Watched
w5 = watched (state_of false (0 ∷ []) towards_1 (one_task Asleep (pos 0) in_original)) s2

abbrev w8 : Watched
w8 = watched (state_of false (0 ∷ []) towards_1 (one_task Kernel (pos 0) [])) s3

abbrev w9 : Watched
w9 = watched (state_of false (0 ∷ []) towards_1 (one_task User (pos 1) [])) s3

abbrev pub w10 : Watched
w10 = watched (state_of false (0 ∷ []) None (one_task User (negsuc 0) [])) s3

sleeper_leads : Leads kernel w0 sleeper_run w10
sleeper_leads =
    on kernel w0 w1 _ _ w10 (goes kernel w0 (NewTask 1) (refl, (refl, tt))) (λ e. tt)
    (on kernel w1 w2 _ _ w10 (goes kernel w1 (EnterKernel 1) (refl, (refl, tt))) (λ e. tt)
    (on kernel w2 w3 _ _ w10 refl (refl, refl)
    (on kernel w3 w4 _ _ w10 (goes kernel w3 (Sleep 1 in_original) (refl, (refl, (refl, tt)))) (λ e. refl)
    (on kernel w4 w5 _ _ w10 (goes kernel w4 (Enable 0) (refl, (refl, (refl, (refl, (refl, (refl, (room, tt)))))))) (λ e. tt)
    (on kernel w5 w5 _ _ w10 (goes kernel w5 Poll (refl, (room, tt))) (λ e. tt)
    (on kernel w5 late _ _ w10 (goes kernel w5 (Wake 1) (refl, (refl, tt))) (λ e. tt)
    (on kernel late w8 _ _ w10 refl (refl, refl)
    (on kernel w8 w9 _ _ w10 (goes kernel w8 (ExitToUser 1) (refl, (refl, tt))) (λ e. refl)
    (on kernel w9 w10 _ _ w10 (goes kernel w9 Poll (refl, (room, tt))) (λ e. tt) (done kernel w10))))))))))

allowed_start : (setting : Setting) → length setting.patches ≡ 1 → length setting.image.objects ≡ 2 → Allowed setting start
allowed_start setting one two = record {
  kernel = refl;
  known = tt;
  distinct = tt;
  moving = tt;
  stacked = tt;
  symbols = tt;
  tasks = (refl, (refl, none_there setting 62));
  room = omega (arith, finite.len-empty key_cmp ShadowValue);
  objects = sym two;
  rows = refl;
  flags = sym one;
}

no_task : (number : ℕ) → is_there start number ≡ false
no_task number = none_in (nobody) (refl, (refl, right 62)) number
  where
    NoneIn : List (Option Task) → Type 0
    NoneIn [] = Unit {0}
    NoneIn (task ∷ tasks) = (is_some task ≡ false) × NoneIn tasks

    right : (n : ℕ) → NoneIn (replicate n None)
    right zero = tt
    right (suc n) = (refl, right n)

    none_in : (tasks : List (Option Task)) → NoneIn tasks → (number : ℕ) → is_some (task_at tasks number) ≡ false
    none_in [] none number = refl
    none_in (task ∷ tasks) none zero = none.0
    none_in (task ∷ tasks) none (suc number) = none_in tasks none.1 number

pub sleeper_honest : IsHonestRun kernel start sleeper_run
sleeper_honest = record { allowed = allowed_start kernel refl refl; no_task = no_task; honest = sleeper_leads.honest }

abbrev z5 : Stacks
z5 = inside 2 (New 0 0)

abbrev y1 : Watched
y1 = watched (state_of false (0 ∷ []) towards_1 nobody) s0

abbrev y2 : Watched
y2 = watched (state_of true (0 ∷ []) towards_1 nobody) s0

abbrev y3 : Watched
y3 = watched (state_of true (0 ∷ []) towards_1 (one_task User (pos 1) [])) s1

abbrev y4 : Watched
y4 = watched (state_of true (0 ∷ []) towards_1 (one_task Kernel (pos 1) [])) s1

abbrev y5 : Watched
y5 = watched (state_of true (0 ∷ []) towards_1 (one_task Kernel (pos 1) [])) z5

abbrev pub y6 : Watched
y6 = watched (state_of false (0 ∷ []) towards_1 (one_task Kernel (pos 1) [])) z5

nobody_in : (task : ℕ) → list_any (is_frame_in stray_kernel 1) (z5 task) ≡ false
nobody_in task = by (task == 1)
  where
    by : (t : Bool) → list_any (is_frame_in stray_kernel 1) (if t then record { site = 2; version = New 0 0 } ∷ [] else (if t then [] else [])) ≡ false
    by true = refl
    by false = refl

stray_leads : Leads stray_kernel w0 stray_run y6
stray_leads =
    on stray_kernel w0 y1 _ _ y6 (goes stray_kernel w0 (Enable 0) (refl, (refl, (refl, (refl, (refl, (refl, (room, tt)))))))) (λ e. tt)
    (on stray_kernel y1 y2 _ _ y6 (goes stray_kernel y1 (Coming 1) (refl, (refl, (refl, (room, tt))))) (λ e. tt)
    (on stray_kernel y2 y3 _ _ y6 (goes stray_kernel y2 (NewTask 1) (refl, (refl, tt))) (λ e. tt)
    (on stray_kernel y3 y4 _ _ y6 (goes stray_kernel y3 (EnterKernel 1) (refl, (refl, tt))) (λ e. tt)
    (on stray_kernel y4 y5 _ _ y6 refl (refl, refl)
    (on stray_kernel y5 y6 _ _ y6 (goes stray_kernel y5 (Going 1) (refl, (refl, (room, tt)))) (λ e. nobody_in) (done stray_kernel y6))))))

pub stray_honest : IsHonestRun stray_kernel start stray_run
stray_honest = record { allowed = allowed_start stray_kernel refl refl; no_task = no_task; honest = stray_leads.honest }

-- an event that nothing refuses, of which something else isn't honest
pub dishonest : (setting : Setting) (w : Watched) (event : Event) → accepts setting w.state event ≡ true → (IsHonestEvent setting w.stacks event → ⊥)
    → IsHonestItem setting w (Happens event) → ⊥
dishonest setting w event taken wrong honest = wrong (honest taken)

-- a sleeper that tells no frames, a task that leaves the kernel inside of a function, and a module that goes from under a task
pub no_frames_known : IsHonestItem kernel w3 (Happens (Sleep 1 [])) → ⊥
no_frames_known = dishonest kernel w3 (Sleep 1 []) (all_open (refusals kernel w3.state (Sleep 1 [])) (refl, (refl, (refl, tt)))) (λ e. cc)

pub still_inside : IsHonestItem kernel late (Happens (ExitToUser 1)) → ⊥
still_inside = dishonest kernel late (ExitToUser 1) (all_open (refusals kernel late.state (ExitToUser 1)) (refl, (refl, tt))) (λ e. cc)

pub gone_from_under : IsHonestItem kernel under_a_task (Happens (Going 1)) → ⊥
gone_from_under =
    dishonest kernel under_a_task (Going 1) (all_open (refusals kernel under_a_task.state (Going 1)) (refl, (refl, (room, tt))))
    (λ none. let no : true ≡ false = none 1 in cc)

pub called_by_nobody : IsHonestItem kernel (watched start no_frames) (Calls 1 0) → ⊥
called_by_nobody honest = let no : false ≡ true = honest.0 in cc

pub setting_in_place : IsInPlace kernel
setting_in_place = (((refl, (refl, tt)), ((refl, tt), tt)), tt)

pub sleeper_end : (seen_from kernel start sleeper_run).state ≡ w10.state
sleeper_end = ap (λ (w : Watched). w.state) sleeper_leads.ends

pub stray_end : seen_from stray_kernel start stray_run ≡ y6
stray_end = stray_leads.ends
