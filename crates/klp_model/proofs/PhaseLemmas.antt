-- Each event of a fair company leads from phase to phase.
use Rattle.std.proofs.Common.{◌≡◌, ℕ, zero, suc, Bool, true, false, ◌&&◌, not, cond, List, [], ◌∷◌, ◌++◌, map, Option, Some, None, refl, sym, ap, subst, ◌∙◌}
use Rattle.std.specs.Prelude.{◌==◌, slice_index_or}
use Rattle.std.specs.List.{find, filter, enumerate_from}
use Rattle.std.proofs.lemmas.Bool.{eq-eqb, or_parts}
use Rattle.klp_types.specs.declared.shadow.ShadowKey.{ShadowKey}
use Rattle.klp_types.specs.declared.callback.Which.TheVariants.{Pre, Post, PreUn, PostUn}
use Rattle.klp_types.specs.Setting.{Setting, PatchObject, objects_of, replaces, state_ids}
use Rattle.klp_types.specs.World.{Installed, World, variable, installed_before, with_patch, without_patch, taken_out}
use Rattle.klp_types.specs.declared.task.Task.{Task}
use Rattle.klp_model.specs.Task.{Tasks, all_in, at_target, at_rest}
use Rattle.klp_model.specs.State.{State, is_among, with_tasks}
use Rattle.klp_types.specs.Entries.{is_empty}
use Rattle.klp_types.specs.Pick.{moves}
use Rattle.klp_types.specs.Callbacks.{refuses, enable_calls, calls_of, after_calls}
use Rattle.klp_model.specs.Callbacks.{loaded_objects, end_calls}
use Rattle.klp_model.specs.EventCalls.{disable_calls, once_done}
use Rattle.klp_model.specs.Enabling.{enabled, enabled_or_gone, turned, turned_or_started, move_to}
use Rattle.klp_model.specs.Completing.{from_patch, without_older, settled, completed, completed_or_pending}
use Rattle.klp_model.specs.TaskStep.{change_task}
use Rattle.klp_model.specs.Company.{taking_part, company_keys, has_older, is_none_left, IsFairStart}
use Rattle.klp_model.proofs.WorldLemmas.{after_calls_at, last_of, IsLast, take_last}
use Rattle.klp_model.proofs.ObjectLemmas.{Objects, objects_at, objects_leave, calls_of_at, all_pre_undone, all_post_undone, none_refuses, enabled_at, refused_at, calls_last, enable_last}
use Rattle.klp_model.proofs.PlaceLemmas.{ran_none, ran_calls, ran_enabled, ran_refused, rise_loaded, rise_taking}
use Rattle.klp_model.proofs.Phases.{IsSteady, IsGone, IsOnTheMove, IsSettled, PhaseAt, Stage, Onward, IsBase}
use Rattle.klp_model.proofs.Phases.Stage.{Away, Moving, Settled}
use Rattle.klp_model.proofs.Phases.Advance.{stays, enables, fails, settles, departs, begins_to_leave}

pub moves_same : (patch : ℕ) (target : Bool) → moves (Some (record { patch = patch; target = target })) patch ≡ true
moves_same patch target = eq-eqb patch patch refl

from_last : (patch : ℕ) (older : List Installed) (values : List (ℕ × ℕ)) → is_among patch older ≡ false
    → not (is_empty (installed_before patch (older ++ last_of patch values))) ≡ false → (others : List (ℕ × ℕ))
    → from_patch patch (older ++ last_of patch others) ≡ older ++ last_of patch others
from_last patch [] values away none others = ap (λ b. cond b (last_of patch others) []) (eq-eqb patch patch refl)
from_last patch (first ∷ older) values away none others =
    let parts = or_parts (first.patch == patch) (is_among patch older) away in
    let rest = older ++ last_of patch values in
    let no : true ≡ false = sym (ap (λ b. not (is_empty (cond b [] (first ∷ installed_before patch rest)))) parts.0) ∙ none in
    cc

module _ (setting : Setting) (patch : ℕ) (start : State) (fair : IsFairStart setting patch start) where
  abbrev taking : Objects
  taking = taking_part setting start patch

  abbrev older : List Installed
  older = start.world.installed

  pub loaded_same : (state : State) → IsSteady start state → loaded_objects setting state patch ≡ loaded_objects setting start patch
  loaded_same state steady =
      ap (λ flags. filter (λ (o : ℕ × PatchObject). slice_index_or flags o.1.object false) (enumerate_from 0 (objects_of setting patch))) steady.loaded

  module _ (base : World) (is_base : IsBase setting patch start base) where
    pre_undone : (key : ShadowKey) → objects_at key (objects_at key (variable base key) Pre taking) PostUn taking ≡ variable base key
    pre_undone key = by (company_keys setting start patch key) refl
      where
        by : (t : Bool) → company_keys setting start patch key ≡ t → objects_at key (objects_at key (variable base key) Pre taking) PostUn taking ≡ variable base key
        by true is =
            ap (λ was. objects_at key (objects_at key was Pre taking) PostUn taking) (is_base.same key is)
            ∙ all_pre_undone patch start.world key taking fair.undone fair.apart ∙ sym (is_base.same key is)
        by false is = objects_leave PostUn taking key _ is ∙ objects_leave Pre taking key _ is

    post_undone : (key : ShadowKey) → objects_at key (objects_at key (objects_at key (variable base key) Pre taking) Post taking) PreUn taking
        ≡ objects_at key (variable base key) Pre taking
    post_undone key = by (company_keys setting start patch key) refl
      where
        by : (t : Bool) → company_keys setting start patch key ≡ t
            → objects_at key (objects_at key (objects_at key (variable base key) Pre taking) Post taking) PreUn taking ≡ objects_at key (variable base key) Pre taking
        by true is =
            ap (λ was. objects_at key (objects_at key (objects_at key was Pre taking) Post taking) PreUn taking) (is_base.same key is)
            ∙ all_post_undone patch start.world key taking fair.undone fair.apart
            ∙ sym (ap (λ was. objects_at key was Pre taking) (is_base.same key is))
        by false is = objects_leave PreUn taking key _ is ∙ objects_leave Post taking key _ is

    -- the patch is enabled, or refused by a pre-patch
    pub enabled_from_gone : (state : State) → IsGone setting patch start base state
        → Onward setting patch start base Away (enable_calls patch (loaded_objects setting state patch)) 1 (enabled setting state patch).1
    enabled_from_gone state is =
        subst (λ objects. Onward setting patch start base Away (enable_calls patch objects) 1 (enabled_or_gone state patch (after_calls world (enable_calls patch objects)) (find refuses objects)).1)
        (sym (loaded_same state is.steady)) (by (find refuses objects) refl)
      where
        world : World
        world = with_patch state.world patch (state_ids setting patch)

        objects : Objects
        objects = loaded_objects setting start patch

        put_last : IsLast patch older world
        put_last = record { values = map (λ id. (id, 0)) (state_ids setting patch); is = ap (λ list. list ++ last_of patch (map (λ id. (id, 0)) (state_ids setting patch))) is.installed }

        last : IsLast patch older (after_calls world (enable_calls patch objects))
        last = enable_last patch older fair.away objects world put_last

        by : (found : Option (ℕ × PatchObject)) → find refuses objects ≡ found
            → Onward setting patch start base Away (enable_calls patch objects) 1 (enabled_or_gone state patch (after_calls world (enable_calls patch objects)) found).1
        by None none = record {
          reached = Moving;
          kinds = Pre ∷ [];
          advance = enables;
          ran = ran_enabled patch objects (rise_loaded setting start patch) none;
          phase = (
            true,
            record {
              steady = record { loaded = is.steady.loaded; pinned = is.steady.pinned };
              none_refuses = none;
              moving = refl;
              last = last;
              variables = λ key. after_calls_at world (enable_calls patch objects) key ∙ enabled_at patch objects key (variable world key) none
                  ∙ ap (λ was. objects_at key was Pre taking) (is.variables key);
            },
          );
        }
        by (Some object) some = record {
          reached = Away;
          kinds = Pre ∷ PostUn ∷ [];
          advance = fails;
          ran = ran_refused patch objects object (rise_loaded setting start patch) some;
          phase = record {
            steady = record { loaded = is.steady.loaded; pinned = is.steady.pinned };
            moving = is.moving;
            installed = ap (taken_out patch) last.is ∙ take_last patch older last.values fair.away;
            variables = λ key. after_calls_at world (enable_calls patch objects) key ∙ refused_at patch objects object key (variable world key) some
                ∙ ap (λ was. objects_at key (objects_at key was Pre taking) PostUn taking) (is.variables key) ∙ pre_undone key;
          };
        }

    -- calls of a kind for all objects that take part, where none refuses
    calls_same : (state : State) → IsSteady start state → find refuses (loaded_objects setting start patch) ≡ None → loaded_objects setting state patch ≡ taking
    calls_same state steady none = loaded_same state steady ∙ sym (none_refuses (loaded_objects setting start patch) none)

    -- a transition turns round
    pub turned_on_the_move : (state : State) (target value : Bool) → IsOnTheMove setting patch start base state target
        → Onward setting patch start base Moving (disable_calls setting state patch) 0 (turned setting state patch value).1
    turned_on_the_move state target value is =
        subst (λ m. Onward setting patch start base Moving (cond m [] (calls_of patch PreUn (loaded_objects setting state patch))) 0 (turned_or_started setting state patch value m).1)
        (sym (ap (λ m. moves m patch) is.moving ∙ moves_same patch target))
        (record {
          reached = Moving;
          kinds = [];
          advance = stays;
          ran = ran_none taking;
          phase = (
            value,
            record {
              steady = record { loaded = is.steady.loaded; pinned = is.steady.pinned };
              none_refuses = is.none_refuses;
              moving = refl;
              last = record { values = is.last.values; is = is.last.is };
              variables = is.variables;
            },
          );
        })

    -- a disabling starts
    pub turned_settled : (state : State) (value : Bool) → IsSettled setting patch start base state
        → Onward setting patch start base Settled (disable_calls setting state patch) 0 (turned setting state patch value).1
    turned_settled state value is =
        subst (λ m. Onward setting patch start base Settled (cond m [] (calls_of patch PreUn (loaded_objects setting state patch))) 0 (turned_or_started setting state patch value m).1)
        (sym (ap (λ m. moves m patch) is.moving))
        (subst (λ objects. Onward setting patch start base Settled (calls_of patch PreUn objects) 0 (record state { world = after_calls state.world (calls_of patch PreUn objects); moving = move_to patch false; tasks = all_in (at_target true) state.tasks }))
        (sym (calls_same state is.steady is.none_refuses))
        (record {
          reached = Moving;
          kinds = PreUn ∷ [];
          advance = begins_to_leave;
          ran = ran_calls patch PreUn 0 taking (rise_taking setting start patch);
          phase = (
            false,
            record {
              steady = record { loaded = is.steady.loaded; pinned = is.steady.pinned };
              none_refuses = is.none_refuses;
              moving = refl;
              last = calls_last patch older fair.away PreUn taking state.world is.last;
              variables = λ key. after_calls_at state.world (calls_of patch PreUn taking) key ∙ calls_of_at patch PreUn taking key (variable state.world key)
                  ∙ ap (λ was. objects_at key was PreUn taking) (is.variables key) ∙ post_undone key;
            },
          );
        }))

    -- a transition to 1 is complete
    completed_in_place : (state : State) → IsOnTheMove setting patch start base state true → (replaces setting patch && has_older patch state.world) ≡ false
        → Onward setting patch start base Moving (calls_of patch Post (loaded_objects setting state patch)) 0 (completed setting state (record { patch = patch; target = true })).1
    completed_in_place state is none_dropped =
        subst (λ objects. Onward setting patch start base Moving (calls_of patch Post objects) 0 (record state {
          world = settled setting (after_calls state.world (calls_of patch Post objects)) (record { patch = patch; target = true });
          moving = None;
          tasks = all_in at_rest state.tasks;
        })) (sym (calls_same state is.steady is.none_refuses)) (by (replaces setting patch) none_dropped)
      where
        world : World
        world = after_calls state.world (calls_of patch Post taking)

        last : IsLast patch older world
        last = calls_last patch older fair.away Post taking state.world is.last

        at_key : (key : ShadowKey) → variable world key ≡ objects_at key (objects_at key (variable base key) Pre taking) Post taking
        at_key key =
            after_calls_at state.world (calls_of patch Post taking) key ∙ calls_of_at patch Post taking key (variable state.world key)
            ∙ ap (λ was. objects_at key was Post taking) (is.variables key)

        by : (replace : Bool) → (replace && has_older patch state.world) ≡ false
            → Onward setting patch start base Moving (calls_of patch Post taking) 0 (record state { world = without_older replace world patch; moving = None; tasks = all_in at_rest state.tasks })
        by false none = record {
          reached = Settled;
          kinds = Post ∷ [];
          advance = settles;
          ran = ran_calls patch Post 0 taking (rise_taking setting start patch);
          phase = record {
            steady = record { loaded = is.steady.loaded; pinned = is.steady.pinned };
            none_refuses = is.none_refuses;
            moving = refl;
            last = last;
            variables = at_key;
          };
        }
        by true none = record {
          reached = Settled;
          kinds = Post ∷ [];
          advance = settles;
          ran = ran_calls patch Post 0 taking (rise_taking setting start patch);
          phase = record {
            steady = record { loaded = is.steady.loaded; pinned = is.steady.pinned };
            none_refuses = is.none_refuses;
            moving = refl;
            last = record {
              values = last.values;
              is = ap (from_patch patch) last.is
                  ∙ from_last patch older is.last.values fair.away (ap (λ list. not (is_empty (installed_before patch list))) (sym is.last.is) ∙ none) last.values;
            };
            variables = at_key;
          };
        }

    -- a transition to 0 is complete
    completed_away : (state : State) → IsOnTheMove setting patch start base state false
        → Onward setting patch start base Moving (calls_of patch PostUn (loaded_objects setting state patch)) 0 (completed setting state (record { patch = patch; target = false })).1
    completed_away state is =
        subst (λ objects. Onward setting patch start base Moving (calls_of patch PostUn objects) 0 (record state {
          world = without_patch (after_calls state.world (calls_of patch PostUn objects)) patch;
          moving = None;
          tasks = all_in at_rest state.tasks;
        })) (sym (calls_same state is.steady is.none_refuses))
        (record {
          reached = Away;
          kinds = PostUn ∷ [];
          advance = departs;
          ran = ran_calls patch PostUn 0 taking (rise_taking setting start patch);
          phase = record {
            steady = record { loaded = is.steady.loaded; pinned = is.steady.pinned };
            moving = refl;
            installed = ap (taken_out patch) last.is ∙ take_last patch older last.values fair.away;
            variables = λ key. after_calls_at state.world (calls_of patch PostUn taking) key ∙ calls_of_at patch PostUn taking key (variable state.world key)
                ∙ ap (λ was. objects_at key was PostUn taking) (is.variables key) ∙ pre_undone key;
          };
        })
      where
        last : IsLast patch older (after_calls state.world (calls_of patch PostUn taking))
        last = calls_last patch older fair.away PostUn taking state.world is.last

    -- other tasks
    other_tasks : (stage : Stage) (state : State) (tasks : Tasks) → PhaseAt setting patch start base stage state → PhaseAt setting patch start base stage (with_tasks state tasks)
    other_tasks Away state tasks is = record {
      steady = record { loaded = is.steady.loaded; pinned = is.steady.pinned };
      moving = is.moving;
      installed = is.installed;
      variables = is.variables;
    }
    other_tasks Moving state tasks phase = let (target, is) = phase in (
      target,
      record {
        steady = record { loaded = is.steady.loaded; pinned = is.steady.pinned };
        none_refuses = is.none_refuses;
        moving = is.moving;
        last = is.last;
        variables = is.variables;
      },
    )
    other_tasks Settled state tasks is = record {
      steady = record { loaded = is.steady.loaded; pinned = is.steady.pinned };
      none_refuses = is.none_refuses;
      moving = is.moving;
      last = is.last;
      variables = is.variables;
    }

    -- the stage stays, and nothing runs
    pub at_the_stage : (stage : Stage) (next : State) → PhaseAt setting patch start base stage next → Onward setting patch start base stage [] 0 next
    at_the_stage stage next phase = record { reached = stage; kinds = []; advance = stays; ran = ran_none taking; phase = phase }

    pub with_other_tasks : (stage : Stage) (state : State) (tasks : Tasks) → PhaseAt setting patch start base stage state → Onward setting patch start base stage [] 0 (with_tasks state tasks)
    with_other_tasks stage state tasks phase = at_the_stage stage (with_tasks state tasks) (other_tasks stage state tasks phase)

    pub with_task_changed : (stage : Stage) (state : State) (number : ℕ) (f : Task → Task) (task : Option Task) → PhaseAt setting patch start base stage state
        → Onward setting patch start base stage [] 0 (change_task state number f task)
    with_task_changed stage state number f None phase = at_the_stage stage state phase
    with_task_changed stage state number f (Some task) phase = with_other_tasks stage state _ phase

    -- a try, which completes or not
    pub polled_on_the_move : (state : State) (target : Bool) (tasks : Tasks) (left : ℕ) → IsOnTheMove setting patch start base state target
        → (is_none_left left && target && replaces setting patch && has_older patch state.world) ≡ false
        → Onward setting patch start base Moving (once_done left (end_calls setting state (Some (record { patch = patch; target = target })))) 0
        (completed_or_pending setting state (record { patch = patch; target = target }) tasks left).1
    polled_on_the_move state true tasks zero is none = completed_in_place state is none
    polled_on_the_move state false tasks zero is none = completed_away state is
    polled_on_the_move state target tasks (suc left) is none = with_other_tasks Moving state tasks (target, is)
