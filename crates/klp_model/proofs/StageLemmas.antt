-- A fair company that goes through every stage.
use Rattle.std.proofs.Common.{◌≡◌, ℕ, zero, suc, ◌+◌, ◌-◌, ◌≤◌, ℤ, pos, negsuc, Bool, true, false, cond, List, [], ◌∷◌, Option, Some, None, refl, sym, ap, subst, ◌∙◌, arith}
use Rattle.std.specs.Prelude.{◌==◌, unwrap_or, nat_lt, nat_le, replicate}
use Rattle.std.specs.FinMap as finite
use Rattle.std.proofs.lemmas.Bool.{le-ltb, lt-leb, eqb-true, and_parts}
use Rattle.klp_types.specs.declared.limits.TheConstants.{MAX_VARIABLES}
use Rattle.klp_types.specs.declared.shadow.ShadowKey.{ShadowKey}
use Rattle.klp_types.specs.declared.edit.Edit.{Edit}
use Rattle.klp_types.specs.declared.edit.Edit.TheVariants.{Alloc, Free}
use Rattle.klp_model.specs.declared.event.Event.{Event}
use Rattle.klp_model.specs.declared.event.Event.TheVariants.{Enable, SetEnabled, Poll, EnterKernel, ExitToUser, Wake, ShadowAlloc}
use Rattle.klp_types.specs.declared.version.Transition.{Transition}
use Rattle.klp_types.specs.Setting.{Setting}
use Rattle.klp_types.proofs.KeyLemmas.{key_total}
use Rattle.klp_types.specs.World.{key_cmp, ShadowValue, variable}
use Rattle.klp_types.specs.Script.{Script, is_key, effect}
use Rattle.klp_model.specs.RoundTripExamples.{key_of, value_of, adding, one_task, with_a_sleeper, every_stage, refusing_behind, both_loaded}
use Rattle.klp_types.specs.declared.version.Version.TheVariants.{Original}
use Rattle.klp_types.specs.declared.task.Mode.TheVariants.{User, Kernel, Asleep}
use Rattle.klp_model.specs.Task.{Tasks}
use Rattle.klp_model.specs.State.{State, is_installed}
use Rattle.klp_model.specs.Refusals.{accepts}
use Rattle.klp_model.specs.Step.{accepted}
use Rattle.klp_model.specs.Run.{run}
use Rattle.klp_model.specs.Allowed.{AreRight, Allowed}
use Rattle.klp_model.specs.Company.{company_keys, IsFairEvent, AreFair, IsFairStart, IsFairCompany}
use Rattle.klp_model.proofs.WorldLemmas.{effect_at}
use Rattle.klp_model.proofs.RefusalLemmas.{next_accepted}

abbrev pub k9 : ShadowKey
k9 = key_of 1 9

abbrev pub k10 : ShadowKey
k10 = key_of 1 10

abbrev k7 : ShadowKey
k7 = key_of 7 7

abbrev setting : Setting
setting = adding

abbrev start : State
start = with_a_sleeper

abbrev e12 : List Event
e12 = Poll ∷ []

abbrev e11 : List Event
e11 = ExitToUser 0 ∷ e12

abbrev e10 : List Event
e10 = EnterKernel 0 ∷ e11

abbrev e9 : List Event
e9 = Poll ∷ e10

abbrev e8 : List Event
e8 = SetEnabled 0 false ∷ e9

abbrev e7 : List Event
e7 = Poll ∷ e8

abbrev e6 : List Event
e6 = ExitToUser 0 ∷ e7

abbrev e5 : List Event
e5 = Wake 0 ∷ e6

abbrev e4 : List Event
e4 = ShadowAlloc k7 (value_of 1) ∷ e5

abbrev e3 : List Event
e3 = SetEnabled 0 true ∷ e4

abbrev e2 : List Event
e2 = SetEnabled 0 false ∷ e3

abbrev e1 : List Event
e1 = Poll ∷ e2

abbrev pub Map : Type 0
Map = finite.FinMap key_cmp ShadowValue

abbrev m1 : Map
m1 = finite.insert finite.empty k9 (value_of 5)

abbrev m2 : Map
m2 = finite.insert m1 (k7) (value_of 1)

abbrev m3 : Map
m3 = finite.insert m2 k10 (value_of 6)

abbrev m4 : Map
m4 = finite.remove m3 k10

abbrev pub with_patch : Map → Option Transition → Tasks → State
with_patch shadow moving tasks =
    record { loaded = true ∷ []; world = record { installed = record { patch = 0; values = [] } ∷ []; shadow = shadow }; moving = moving; pinned = false ∷ []; tasks = tasks }

-- the task asleep, awake in the kernel, and in user space
abbrev sleeper : Tasks
sleeper = one_task Asleep (pos 0) (Original 0 ∷ [])

abbrev awake : ℕ → Tasks
awake state = one_task Kernel (pos state) []

abbrev outside_in : ℤ → Tasks
outside_in state = one_task User state []

abbrev bare_with : Map → Tasks → State
bare_with shadow tasks = record { loaded = true ∷ []; world = record { installed = []; shadow = shadow }; moving = None; pinned = false ∷ []; tasks = tasks }

abbrev pub to : Bool → Option Transition
to target = Some (record { patch = 0; target = target })

pub inserted : (m : Map) (k : ShadowKey) (v : ShadowValue) (n : ℕ) → finite.len m ≤ n → finite.len (finite.insert m k v) ≤ n + 1
inserted m k v n le = by (finite.contains_key m k) (finite.len-insert key_total m k v)
  where
    by : (t : Bool) → finite.len (finite.insert m k v) ≡ cond t (finite.len m) (finite.len m + 1) → finite.len (finite.insert m k v) ≤ n + 1
    by true e = omega (arith, e, le)
    by false e = omega (arith, e, le)

pub removed : (m : Map) (k : ShadowKey) (n : ℕ) → finite.len m ≤ n → finite.len (finite.remove m k) ≤ n
removed m k n le = by (finite.contains_key m k) (finite.len-remove key_total m k)
  where
    by : (t : Bool) → finite.len (finite.remove m k) ≡ cond t (finite.len m - 1) (finite.len m) → finite.len (finite.remove m k) ≤ n
    by true e = omega (arith, e, le)
    by false e = omega (arith, e, le)

l1 : finite.len m1 ≤ 1
l1 = inserted finite.empty k9 (value_of 5) 0 (omega (arith, finite.len-empty key_cmp ShadowValue))

l2 : finite.len m2 ≤ 2
l2 = inserted m1 (k7) (value_of 1) 1 l1

l3 : finite.len m3 ≤ 3
l3 = inserted m2 k10 (value_of 6) 2 l2

l4 : finite.len m4 ≤ 3
l4 = removed m3 k10 3 l3

pub enough : (m : Map) (a : ℕ) → finite.len m ≤ 3 → a ≤ 3 → nat_lt MAX_VARIABLES (finite.len m + a) ≡ false
enough m a le few = le-ltb MAX_VARIABLES (finite.len m + a) (omega arith)

then : (patch : ℕ) (keys : ShadowKey → Bool) (state after : State) (event : Event) (events : List Event) → IsFairEvent setting patch keys state event
    → (accepted setting state event).1 ≡ after → AreFair setting patch keys after events → AreFair setting patch keys state (event ∷ events)
then patch keys state after event events is e rest = (is, subst (λ s. AreFair setting patch keys s events) (sym (next_accepted setting state event is.accepted ∙ e)) rest)

abbrev keys : ShadowKey → Bool
keys = company_keys setting start 0

first : (accepted setting start (Enable 0)).1 ≡ with_patch m1 (to true) sleeper
first = rw (finite.get-empty key_cmp k9) refl

k10_free : finite.get m2 k10 ≡ None
k10_free = finite.get-insert key_total m1 _ (value_of 1) k10 ∙ finite.get-insert key_total finite.empty k9 (value_of 5) k10 ∙ finite.get-empty key_cmp k10

k7_free : finite.get m1 (k7) ≡ None
k7_free = finite.get-insert key_total finite.empty k9 (value_of 5) _ ∙ finite.get-empty key_cmp _

settled : (accepted setting (with_patch m2 (to true) (outside_in (pos 1))) Poll).1 ≡ with_patch m3 None (outside_in (negsuc 0))
settled = rw k10_free refl

outside : (key : ShadowKey) → is_key k7 key ≡ true → keys key ≡ false
outside key e =
    let both = and_parts (7 == key.obj) (7 == key.id) e in
    let objs = eqb-true 7 key.obj both.0 in
    let ids = eqb-true 7 key.id both.1 in
    let same : k7 ≡ key = λ i. record { obj = objs i; id = ids i } in
    subst (λ k. keys k ≡ false) same refl

not_full : nat_le MAX_VARIABLES (finite.len m1) ≡ false
not_full = lt-leb MAX_VARIABLES (finite.len m1) (omega (arith, l1))

are_fair : AreFair setting 0 keys start every_stage
are_fair =
    then 0 keys start (with_patch m1 (to true) sleeper) (Enable 0) e1 (record { accepted = rw (finite.len-empty key_cmp ShadowValue) refl; of_company = refl; none_dropped = refl }) first
    (then 0 keys (with_patch m1 (to true) sleeper) (with_patch m1 (to true) sleeper) Poll e2 (record { accepted = rw (enough m1 1 (omega (arith, l1)) (omega arith)) refl; of_company = λ key e. cc; none_dropped = refl }) refl
    (then 0 keys (with_patch m1 (to true) sleeper) (with_patch m1 (to false) sleeper) (SetEnabled 0 false) e3 (record { accepted = rw (enough m1 0 (omega (arith, l1)) (omega arith)) refl; of_company = refl; none_dropped = refl }) refl
    (then 0 keys (with_patch m1 (to false) sleeper) (with_patch m1 (to true) sleeper) (SetEnabled 0 true) e4 (record { accepted = rw (enough m1 0 (omega (arith, l1)) (omega arith)) refl; of_company = refl; none_dropped = refl }) refl
    (then 0 keys (with_patch m1 (to true) sleeper) (with_patch m2 (to true) sleeper) (ShadowAlloc k7 (value_of 1)) e5 (record { accepted = rw (k7_free, not_full) refl; of_company = outside; none_dropped = refl }) refl
    (then 0 keys (with_patch m2 (to true) sleeper) (with_patch m2 (to true) (awake 0)) (Wake 0) e6 (record { accepted = refl; of_company = λ key e. cc; none_dropped = refl }) refl
    (then 0 keys (with_patch m2 (to true) (awake 0)) (with_patch m2 (to true) (outside_in (pos 1))) (ExitToUser 0) e7 (record { accepted = refl; of_company = λ key e. cc; none_dropped = refl }) refl
    (then 0 keys (with_patch m2 (to true) (outside_in (pos 1))) (with_patch m3 None (outside_in (negsuc 0))) Poll e8 (record { accepted = rw (enough m2 1 (omega (arith, l2)) (omega arith)) refl; of_company = λ key e. cc; none_dropped = refl }) settled
    (then 0 keys (with_patch m3 None (outside_in (negsuc 0))) (with_patch m4 (to false) (outside_in (pos 1))) (SetEnabled 0 false) e9 (record { accepted = rw (enough m3 0 l3 (omega arith)) refl; of_company = refl; none_dropped = refl }) refl
    (then 0 keys (with_patch m4 (to false) (outside_in (pos 1))) (with_patch m4 (to false) (outside_in (pos 1))) Poll e10 (record { accepted = rw (enough m4 0 l4 (omega arith)) refl; of_company = λ key e. cc; none_dropped = refl }) refl
    (then 0 keys (with_patch m4 (to false) (outside_in (pos 1))) (with_patch m4 (to false) (awake 1)) (EnterKernel 0) e11 (record { accepted = refl; of_company = λ key e. cc; none_dropped = refl }) refl
    (then 0 keys (with_patch m4 (to false) (awake 1)) (with_patch m4 (to false) (outside_in (pos 0))) (ExitToUser 0) e12 (record { accepted = refl; of_company = λ key e. cc; none_dropped = refl }) refl
    (then 0 keys (with_patch m4 (to false) (outside_in (pos 0))) (bare_with (finite.remove m4 k9) (outside_in (negsuc 0))) Poll [] (record { accepted = rw (enough m4 0 l4 (omega arith)) refl; of_company = λ key e. cc; none_dropped = refl }) refl tt))))))))))))

-- a script that adds what isn't there, and one that removes it
added_removed : (own key : ShadowKey) (value : ShadowValue) (was : Option ShadowValue) → (is_key own key ≡ true → was ≡ None)
    → cond (is_key own key) None (cond (is_key own key) (Some (unwrap_or was value)) was) ≡ was
added_removed own key value was none = by (is_key own key) refl
  where
    by : (t : Bool) → is_key own key ≡ t → cond t None (cond t (Some (unwrap_or was value)) was) ≡ was
    by true e = sym (none e)
    by false e = refl

abbrev pub script : List Edit → Script
script edits = record { edits = edits; status = pos 0 }

k10_then : (key : ShadowKey) → is_key k10 key ≡ true → variable (effect 0 start.world (script (Alloc k9 (value_of 5) ∷ []))) key ≡ None
k10_then key e =
    let both = and_parts (1 == key.obj) (10 == key.id) e in
    let objs = eqb-true 1 key.obj both.0 in
    let ids = eqb-true 10 key.id both.1 in
    let same : k10 ≡ key = λ i. record { obj = objs i; id = ids i } in
    subst (λ k. variable (effect 0 start.world (script (Alloc k9 (value_of 5) ∷ []))) k ≡ None) same
    (effect_at 0 start.world (script (Alloc k9 (value_of 5) ∷ [])) k10 ∙ finite.get-empty key_cmp k10)

fair_start : IsFairStart setting 0 start
fair_start = record {
  still = refl;
  away = refl;
  undone = (
    record {
      pre = λ key e.
          effect_at 0 (effect 0 start.world (script (Alloc k9 (value_of 5) ∷ []))) (script (Free k9 ∷ [])) key
          ∙ ap (λ was. cond (is_key k9 key) None was) (effect_at 0 start.world (script (Alloc k9 (value_of 5) ∷ [])) key)
          ∙ added_removed k9 key (value_of 5) (variable start.world key) (λ e. finite.get-empty key_cmp key);
      post = λ key e.
          let world = effect 0 start.world (script (Alloc k9 (value_of 5) ∷ [])) in
          effect_at 0 (effect 0 world (script (Alloc k10 (value_of 6) ∷ []))) (script (Free k10 ∷ [])) key
          ∙ ap (λ was. cond (is_key k10 key) None was) (effect_at 0 world (script (Alloc k10 (value_of 6) ∷ [])) key)
          ∙ added_removed k10 key (value_of 6) (variable world key) (k10_then key);
    },
    tt,
  );
  apart = (λ key e. refl, tt);
}

pub fair : IsFairCompany setting 0 start every_stage
fair = record { fair_start = fair_start; fair_events = are_fair }

-- an event is accepted, and leads there
pub on : (setting : Setting) (state after : State) (event : Event) (events : List Event) → accepts setting state event ≡ true → (accepted setting state event).1 ≡ after
    → run setting state (event ∷ events) ≡ run setting after events
on setting state after event events e is = ap (λ s. run setting s events) (next_accepted setting state event e ∙ is)

-- and the patch is gone in the end
pub gone : is_installed (run setting start every_stage) 0 ≡ false
gone =
    ap (λ s. is_installed s 0)
    (on setting start (with_patch m1 (to true) sleeper) (Enable 0) e1 (rw (finite.len-empty key_cmp ShadowValue) refl) first
    ∙ on setting (with_patch m1 (to true) sleeper) (with_patch m1 (to true) sleeper) Poll e2 (rw (enough m1 1 (omega (arith, l1)) (omega arith)) refl) refl
    ∙ on setting (with_patch m1 (to true) sleeper) (with_patch m1 (to false) sleeper) (SetEnabled 0 false) e3 (rw (enough m1 0 (omega (arith, l1)) (omega arith)) refl) refl
    ∙ on setting (with_patch m1 (to false) sleeper) (with_patch m1 (to true) sleeper) (SetEnabled 0 true) e4 (rw (enough m1 0 (omega (arith, l1)) (omega arith)) refl) refl
    ∙ on setting (with_patch m1 (to true) sleeper) (with_patch m2 (to true) sleeper) (ShadowAlloc k7 (value_of 1)) e5 (rw (k7_free, not_full) refl) refl
    ∙ on setting (with_patch m2 (to true) sleeper) (with_patch m2 (to true) (awake 0)) (Wake 0) e6 refl refl
    ∙ on setting (with_patch m2 (to true) (awake 0)) (with_patch m2 (to true) (outside_in (pos 1))) (ExitToUser 0) e7 refl refl
    ∙ on setting (with_patch m2 (to true) (outside_in (pos 1))) (with_patch m3 None (outside_in (negsuc 0))) Poll e8 (rw (enough m2 1 (omega (arith, l2)) (omega arith)) refl) settled
    ∙ on setting (with_patch m3 None (outside_in (negsuc 0))) (with_patch m4 (to false) (outside_in (pos 1))) (SetEnabled 0 false) e9 (rw (enough m3 0 l3 (omega arith)) refl) refl
    ∙ on setting (with_patch m4 (to false) (outside_in (pos 1))) (with_patch m4 (to false) (outside_in (pos 1))) Poll e10 (rw (enough m4 0 l4 (omega arith)) refl) refl
    ∙ on setting (with_patch m4 (to false) (outside_in (pos 1))) (with_patch m4 (to false) (awake 1)) (EnterKernel 0) e11 refl refl
    ∙ on setting (with_patch m4 (to false) (awake 1)) (with_patch m4 (to false) (outside_in (pos 0))) (ExitToUser 0) e12 refl refl
    ∙ on setting (with_patch m4 (to false) (outside_in (pos 0))) (bare_with (finite.remove m4 k9) (outside_in (negsuc 0))) Poll [] (rw (enough m4 0 l4 (omega arith)) refl) refl)

right_rows : (of_setting : Setting) (n : ℕ) → AreRight of_setting None (replicate n None)
right_rows of_setting zero = tt
right_rows of_setting (suc n) = (refl, right_rows of_setting n)

-- the start is a state that is reached
pub allowed : Allowed setting start
allowed = record {
  kernel = refl;
  known = tt;
  distinct = tt;
  moving = tt;
  stacked = tt;
  symbols = tt;
  tasks = (refl, right_rows setting 63);
  room = omega (arith, finite.len-empty key_cmp ShadowValue);
  objects = refl;
  rows = refl;
  flags = refl;
}

-- a patch whose second object refuses
pub refused_fair : IsFairCompany refusing_behind 0 both_loaded (Enable 0 ∷ [])
refused_fair = record {
  fair_start = record {
    still = refl;
    away = refl;
    undone = (
      record {
        pre = λ key e.
            effect_at 0 (effect 0 both_loaded.world (script (Alloc k9 (value_of 5) ∷ []))) (script (Free k9 ∷ [])) key
            ∙ ap (λ was. cond (is_key k9 key) None was) (effect_at 0 both_loaded.world (script (Alloc k9 (value_of 5) ∷ [])) key)
            ∙ added_removed k9 key (value_of 5) (variable both_loaded.world key) (λ e. finite.get-empty key_cmp key);
        post = λ key e. cc;
      },
      tt,
    );
    apart = (λ key e. refl, tt);
  };
  fair_events = (record { accepted = rw (finite.len-empty key_cmp ShadowValue) refl; of_company = refl; none_dropped = refl }, tt);
}

abbrev refused_state : State
refused_state = (accepted refusing_behind both_loaded (Enable 0)).1

pub refused_gone : is_installed (run refusing_behind both_loaded (Enable 0 ∷ [])) 0 ≡ false
refused_gone = ap (λ s. is_installed s 0) (on refusing_behind both_loaded refused_state (Enable 0) [] (rw (finite.len-empty key_cmp ShadowValue) refl) refl) ∙ rw (finite.get-empty key_cmp k9) refl
