-- Runs of callbacks one after another, and the room for them.
use Rattle.std.proofs.Common.{◌≡◌, ℕ, ◌+◌, ◌≤◌, Bool, true, false, cond, List, [], ◌∷◌, ◌++◌, length, drop, Option, Some, None, refl, sym, ap, subst, ◌∙◌, append_assoc, arith}
use Rattle.std.specs.Prelude.{IfSome}
use Rattle.std.specs.List.{sum_by}
use Rattle.std.proofs.lemmas.List.{append-nil, length-append}
use Rattle.std.proofs.lemmas.List.Elements.{All-nil, All-append}
use Rattle.std.proofs.lemmas.List.Sums.{sum_by-append}
use Rattle.std.specs.FinMap as finite
use Rattle.klp_types.specs.declared.callback.Which.{Which}
use Rattle.klp_types.specs.declared.callback.Which.TheVariants.{Pre}
use Rattle.klp_types.specs.declared.record.Record.{Record}
use Rattle.klp_types.specs.Records.{RecordList}
use Rattle.klp_types.specs.Setting.{PatchObject}
use Rattle.klp_types.specs.World.{World}
use Rattle.klp_types.specs.Script.{Script, alloc_count, effect, is_success}
use Rattle.klp_types.specs.Callbacks.{Call, script_for, call_of, calls_of, refuses, allocs_of, after_calls}
use Rattle.klp_world.specs.StoredEvent.{noting, rows_of_script}
use Rattle.klp_world.specs.Changes.{HasRoom}
use Rattle.klp_world.specs.Undo.{undone, HaveEffects}
use Rattle.klp_world.proofs.EffectLemmas.{effective_both}
use Rattle.klp_catalog.specs.Catalog.{Catalog}
use Rattle.klp_catalog.specs.Runs.{after_runs, objects_at, rows_if, RunsAddUp}
use Rattle.klp_modules.specs.Names.{ModuleTable}
use Rattle.klp_patch.specs.Loaded.{is_loaded_in, patches_in, loaded_from}
use Rattle.klp_patch.specs.Refusing.{loaded_call, status_for, pre_calls}
use Rattle.klp_patch.specs.Calls.{records_of, HaveRun, HasRoomFor}
use Rattle.klp_patch.proofs.CallLemmas.{after_calls-append, allocs-append}
use Rattle.klp_patch.proofs.UndoLemmas.{OfWorld, undone-append, of_script}
use Rattle.klp_patch.proofs.LoopLemmas.{IsTurn, turn-goes_on, turn-stops}

pub records-append : (xs ys : List Call) → records_of (xs ++ ys) ≡ records_of xs + records_of ys
records-append xs ys = sum_by-append (λ (c : Call). length c.script.edits + alloc_count c.script.edits) xs ys

-- none ran
pub none_ran : (catalog : Catalog) (world : World) (log : RecordList) → HaveRun catalog catalog world world log log []
none_ran catalog world log = record {
  catalog = refl;
  world = refl;
  installed = refl;
  variables = omega arith;
  rows = [];
  logged = sym (ap (λ (rows : List Record). record log { logged = rows }) (append-nil log.logged));
  of_world = All-nil OfWorld;
  undo = refl;
  effective = tt;
  records = omega arith;
  room = refl;
}

-- some ran, and then others
pub then_ran : RunsAddUp → (first next last : Catalog) (w0 w1 w2 : World) (l0 l1 l2 : RecordList) (xs ys : List Call)
    → HaveRun first next w0 w1 l0 l1 xs → HaveRun next last w1 w2 l1 l2 ys → HaveRun first last w0 w2 l0 l2 (xs ++ ys)
then_ran adds first next last w0 w1 w2 l0 l1 l2 xs ys old new =
    let allocs = allocs-append xs ys in
    let records = records-append xs ys in
    record {
      catalog = new.catalog ∙ ap (λ k. after_runs k ys) old.catalog ∙ sym (adds.more first xs ys);
      world = new.world ∙ ap (λ w. after_calls w ys) old.world ∙ sym (after_calls-append w0 xs ys);
      installed = new.installed ∙ old.installed;
      variables = omega (arith, allocs, old.variables, new.variables);
      rows = old.rows ++ new.rows;
      logged = new.logged ∙ ap (λ (l : RecordList). noting l new.rows) old.logged ∙ ap (λ (rows : List Record). record l0 { logged = rows }) (append_assoc l0.logged old.rows new.rows);
      of_world = All-append OfWorld old.rows new.rows old.of_world new.of_world;
      undo = undone-append w2 old.rows new.rows ∙ ap (λ (w : World). undone w old.rows) new.undo ∙ old.undo;
      effective = effective_both w2 old.rows new.rows (subst (λ (w : World). HaveEffects w old.rows) (sym new.undo) old.effective) new.effective;
      records = omega (arith, records, old.records, new.records);
      room = new.room ∙ old.room;
    }

-- of all callbacks some have run, and these are left
pub record SoFar (first now : Catalog) (w0 w1 : World) (l0 l1 : RecordList) (left all : List Call) : Type 0 where
  pub done : List Call
  pub ran : HaveRun first now w0 w1 l0 l1 done
  pub whole : done ++ left ≡ all

pub begins : (catalog : Catalog) (world : World) (log : RecordList) (all : List Call) → SoFar catalog catalog world world log log all all
begins catalog world log all = record { done = []; ran = none_ran catalog world log; whole = refl }

pub goes_on : RunsAddUp → (first now later : Catalog) (w0 w1 w2 : World) (l0 l1 l2 : RecordList) (left all calls rest : List Call)
    → SoFar first now w0 w1 l0 l1 left all → left ≡ calls ++ rest → HaveRun now later w1 w2 l1 l2 calls
    → SoFar first later w0 w2 l0 l2 rest all
goes_on adds first now later w0 w1 w2 l0 l1 l2 left all calls rest far split new = record {
  done = far.done ++ calls;
  ran = then_ran adds first now later w0 w1 w2 l0 l1 l2 far.done calls far.ran new;
  whole = append_assoc far.done calls rest ∙ ap (λ more. far.done ++ more) (sym split) ∙ far.whole;
}

pub all_ran : (first now : Catalog) (w0 w1 : World) (l0 l1 : RecordList) (left all : List Call)
    → SoFar first now w0 w1 l0 l1 left all → left ≡ [] → HaveRun first now w0 w1 l0 l1 all
all_ran first now w0 w1 l0 l1 left all far none =
    subst (λ calls. HaveRun first now w0 w1 l0 l1 calls) (sym (append-nil far.done) ∙ ap (λ more. far.done ++ more) (sym none) ∙ far.whole) far.ran

-- the next ones have room where all had
pub room_for_next : (first now : Catalog) (w0 w1 : World) (l0 l1 : RecordList) (left all calls rest : List Call)
    → HasRoomFor w0 l0 all → SoFar first now w0 w1 l0 l1 left all → left ≡ calls ++ rest → HasRoomFor w1 l1 calls
room_for_next first now w0 w1 l0 l1 left all calls rest room far split =
    let parts : all ≡ far.done ++ (calls ++ rest) = sym far.whole ∙ ap (λ more. far.done ++ more) split in
    let allocs = ap allocs_of parts ∙ allocs-append far.done (calls ++ rest) in
    let more_allocs = allocs-append calls rest in
    let records = ap records_of parts ∙ records-append far.done (calls ++ rest) in
    let more_records = records-append calls rest in
    record {
      variables = omega (arith, allocs, more_allocs, room.variables, far.ran.variables);
      records = omega (arith, records, more_records, room.records, far.ran.records, far.ran.room);
    }

pub objects_so_far : (first now : Catalog) (w0 w1 : World) (l0 l1 : RecordList) (left all : List Call) (patch : ℕ)
    → SoFar first now w0 w1 l0 l1 left all → objects_at now patch ≡ objects_at first patch
objects_so_far first now w0 w1 l0 l1 left all patch far = ap (λ (k : Catalog). objects_at k patch) far.ran.catalog

-- one callback, of whatever script

abbrev pub VariablesAreFew : Type 0
VariablesAreFew = (patch : ℕ) (world : World) (script : Script) → finite.len (effect patch world script).shadow ≤ finite.len world.shadow + alloc_count script.edits

abbrev pub RecordsAreFew : Type 0
RecordsAreFew = (patch : ℕ) (world : World) (script : Script)
    → length (rows_of_script patch world script) + finite.len (effect patch world script).shadow ≤ finite.len world.shadow + length script.edits + alloc_count script.edits

abbrev pub PatchesStay : Type 0
PatchesStay = (patch : ℕ) (world : World) (script : Script) → patches_in (effect patch world script) ≡ patches_in world

-- a run adds and notes no more than there is room for
pub room_fits : RecordsAreFew → (patch place : ℕ) (which : Which) (world : World) (log : RecordList) (script : Option Script) (calls : List Call)
    → calls ≡ call_of patch place which script → HasRoomFor world log calls
    → IfSome script (λ (s : Script). HasRoom world log (alloc_count s.edits) (rows_of_script patch world s))
room_fits few patch place which world log None calls is room = tt
room_fits few patch place which world log (Some script) calls is room =
    let logged = ap records_of is in
    let added = ap allocs_of is in
    let own = few patch world script in
    record {
      variables = omega (arith, added, room.variables);
      records = omega (arith, logged, own, room.records);
    }

pub one_ran : VariablesAreFew → RecordsAreFew → PatchesStay → (before after : Catalog) (patch place : ℕ) (which : Which) (world changed : World) (log logged : RecordList)
    (script : Option Script)
    → after ≡ after_runs before (call_of patch place which script)
    → changed ≡ after_calls world (call_of patch place which script)
    → logged ≡ noting log (rows_if patch world script) → undone changed (rows_if patch world script) ≡ world → HaveEffects changed (rows_if patch world script)
    → HaveRun before after world changed log logged (call_of patch place which script)
one_ran few_variables few_records stay before after patch place which world changed log logged None counted did notes back effective =
    let same = ap (λ (w : World). finite.len w.shadow) did in
    let count = ap (λ (l : RecordList). length l.logged) notes ∙ ap length (append-nil log.logged) in
    record {
      catalog = counted;
      world = did;
      installed = ap patches_in did;
      variables = omega (arith, same);
      rows = [];
      logged = notes;
      of_world = of_script patch world None;
      undo = back;
      effective = effective;
      records = omega (arith, same, count);
      room = ap (λ (l : RecordList). l.room) notes;
    }
one_ran few_variables few_records stay before after patch place which world changed log logged (Some script) counted did notes back effective =
    let same = ap (λ (w : World). finite.len w.shadow) did in
    let count = ap (λ (l : RecordList). length l.logged) notes ∙ length-append log.logged (rows_of_script patch world script) in
    let variables = few_variables patch world script in
    let records = few_records patch world script in
    record {
      catalog = counted;
      world = did;
      installed = ap patches_in did ∙ stay patch world script;
      variables = omega (arith, same, variables);
      rows = rows_of_script patch world script;
      logged = notes;
      of_world = of_script patch world (Some script);
      undo = back;
      effective = effective;
      records = omega (arith, same, count, records);
      room = ap (λ (l : RecordList). l.room) notes;
    }

-- the callbacks of pre-patch up to a refusal are some of those of all objects

weight_of_pre : (weight : Call → ℕ) (patch : ℕ) (objects : List (ℕ × PatchObject)) → sum_by weight (pre_calls patch objects) ≤ sum_by weight (calls_of patch Pre objects)
weight_of_pre weight patch [] = omega arith
weight_of_pre weight patch (object ∷ objects) =
    let own = call_of patch object.0 Pre (script_for Pre object.1.callbacks) in
    let all = sum_by-append weight own (calls_of patch Pre objects) in
    elim (refuses object) as (λ b. sum_by weight (own ++ cond b [] (pre_calls patch objects)) ≤ sum_by weight (own ++ calls_of patch Pre objects)) [
      | true ↦ let first = sum_by-append weight own [] in omega (arith, first, all)
      | false ↦ let first = sum_by-append weight own (pre_calls patch objects) in let rest = weight_of_pre weight patch objects in omega (arith, first, all, rest)
    ]

pub pre_adds_few : (patch : ℕ) (objects : List (ℕ × PatchObject)) → allocs_of (pre_calls patch objects) ≤ allocs_of (calls_of patch Pre objects)
pre_adds_few patch objects = weight_of_pre (λ (c : Call). alloc_count c.script.edits) patch objects

pub pre_notes_few : (patch : ℕ) (objects : List (ℕ × PatchObject)) → records_of (pre_calls patch objects) ≤ records_of (calls_of patch Pre objects)
pre_notes_few patch objects = weight_of_pre (λ (c : Call). length c.script.edits + alloc_count c.script.edits) patch objects

-- the next callback of pre-patch, and what may be left behind it

next_by : (catalog first : Catalog) (modules : ModuleTable) (patch k : ℕ) (now : IsTurn catalog first modules patch k) (success : Bool)
    → is_success (status_for (is_loaded_in modules) Pre (Some now.object)) ≡ success
    → (rest : List Call) × (pre_calls patch (loaded_from (is_loaded_in modules) k (drop k (objects_at first patch))) ≡ loaded_call catalog modules patch Pre k ++ rest)
next_by catalog first modules patch k now true is =
    let rest = pre_calls patch (loaded_from (is_loaded_in modules) (k + 1) (drop (k + 1) (objects_at first patch))) in
    (rest, (turn-goes_on (is_loaded_in modules) patch (objects_at first patch) k now.object now.there is).calls ∙ ap (λ calls. calls ++ rest) (sym now.call))
next_by catalog first modules patch k now false is = (
  [],
  (turn-stops (is_loaded_in modules) patch (objects_at first patch) k now.object now.there is).calls ∙ sym now.call
      ∙ sym (append-nil (loaded_call catalog modules patch Pre k)),
)

pub next_pre : (catalog first : Catalog) (modules : ModuleTable) (patch k : ℕ) → IsTurn catalog first modules patch k
    → (rest : List Call) × (pre_calls patch (loaded_from (is_loaded_in modules) k (drop k (objects_at first patch))) ≡ loaded_call catalog modules patch Pre k ++ rest)
next_pre catalog first modules patch k now = next_by catalog first modules patch k now (is_success (status_for (is_loaded_in modules) Pre (Some now.object))) refl
