-- What a module's coming and going leave.
use Rattle.std.proofs.Common.{w32, to_z, of_z, ◌≡◌, ◌≢◌, ℕ, ℤ, ◌+◌, ◌<◌, ◌≤◌, Bool, true, false, List, [], ◌∷◌, ◌++◌, length, reverse, Option, Some, None, refl, sym, ap, ◌∙◌, arith, get_or-set_same, get_or-set_other}
use Rattle.std.specs.Prelude.{◌==◌, ◌&&◌, not, nat_lt, option_map, if◌then◌else◌, slice_index_or, slice_set}
use Rattle.std.specs.List.{All, find, list_any, flat_map}
use Rattle.std.proofs.lemmas.Bool.{eq-eqb, eqb-true, and_parts, not-false}
use Rattle.std.proofs.lemmas.List.{length-map}
use Rattle.std.proofs.lemmas.List.Elements.{All-nil, All-cons}
use Rattle.std.proofs.lemmas.List.Sums.{sum_by-append}
use borrow.Author.Tests.{ltb-true}
use Rattle.klp_types.specs.declared.limits.TheConstants.{MAX_PATCHES}
use Rattle.klp_types.specs.declared.callback.Which.TheVariants.{Pre, Post, PreUn, PostUn}
use Rattle.klp_types.specs.declared.version.Entry.{Entry}
use Rattle.klp_types.specs.declared.version.Transition.{Transition}
use Rattle.klp_types.specs.Callbacks.{Call, script_for}
use Rattle.klp_model.specs.Callbacks.{status_of}
use Rattle.klp_types.specs.Setting.{Setting}
use Rattle.klp_types.specs.Entries.{entries_from}
use Rattle.klp_types.specs.Image.{Image, object_of}
use Rattle.klp_types.specs.FirstOf.{first_of}
use Rattle.klp_types.specs.Script.{alloc_count}
use Rattle.klp_model.specs.Allowed.{AreKnown}
use Rattle.klp_model.specs.Entries.{is_object_loaded, entries_of}
use Rattle.klp_model.specs.EventCalls.{lacks_room, coming_may_run, going_may_run}
use Rattle.klp_model.specs.ModuleCalls.{Part, part_call, still_call, part_coming, part_going, part_refuses, parts_before, refused_parts, coming_calls, going_calls}
use Rattle.klp_model.specs.declared.event.Event.TheVariants.{Coming, Going}
use Rattle.klp_model.specs.declared.event.Reply.{Reply}
use Rattle.klp_model.specs.declared.event.Reply.TheVariants.{PreFailed}
use Rattle.klp_model.specs.declared.event.Refusal.{Refusal}
use Rattle.klp_model.specs.declared.event.Refusal.TheVariants.{NoModule, AlreadyThere, NoSymbol, InUse, Full}
use Rattle.klp_model.specs.Frames.{is_inside}
use Rattle.klp_model.specs.ModuleStep.{come_or_refused}
use Rattle.klp_model.specs.Refusals.{refusal, is_module, part_lacks_symbol}
use Rattle.klp_model.specs.State.{State, is_loaded, installed_patches}
use Rattle.klp_catalog.specs.Catalog.{Catalog, patches_of, setting_patch}
use Rattle.klp_patch.specs.Calls.{records_of}
use Rattle.klp_patch.specs.Covered.{is_object_in_scope}

-- patches that the catalog has have numbers that patches can have
pub known_few : (image : Image) (catalog : Catalog) (patches : List ℕ) → length catalog.patches ≤ MAX_PATCHES → AreKnown (record { image = image; patches = patches_of catalog }) patches
    → All (λ p. p < MAX_PATCHES) patches
known_few image catalog [] few known = All-nil (λ p. p < MAX_PATCHES)
known_few image catalog (patch ∷ patches) few known =
    let within = ltb-true patch (length (patches_of catalog)) known.0 in
    let count = length-map catalog.patches (setting_patch catalog.names) in
    All-cons (λ p. p < MAX_PATCHES) patch patches (omega (arith, within, count, few)) (known_few image catalog patches few known.1)

-- what speaks against an event, case by case
pub passed : {R : Type 0} (case : Bool × R) (cases : List (Bool × R)) → first_of (case ∷ cases) ≡ None → (case.0 ≡ false) × (first_of cases ≡ None)
passed case cases free =
    elim case.0 as (λ b. (if b then Some case.1 else first_of cases) ≡ None → (b ≡ false) × (first_of cases ≡ None)) [
      | true ↦ λ h. let no : ⊥ = cc in absurd no
      | false ↦ λ h. (refl, h)
    ] free

-- what a module that may come has
pub record MayCome (setting : Setting) (state : State) (object : ℕ) : Type 0 where
  pub within : object < length setting.image.objects
  pub absent : is_loaded state object ≡ false
  pub room : lacks_room setting state (Coming object) ≡ false

in_image : (setting : Setting) (object : ℕ) → is_module setting object ≡ true → object < length setting.image.objects
in_image setting object is = ltb-true object (length setting.image.objects) (and_parts (not (object == 0)) (nat_lt object (length setting.image.objects)) is).1

pub may_come : (setting : Setting) (state : State) (object : ℕ) → refusal setting state (Coming object) ≡ None → MayCome setting state object
may_come setting state object free =
    let full : Bool × Refusal = (lacks_room setting state (Coming object), Full) in
    let lacks : Bool × Refusal = (part_lacks_symbol setting state object, NoSymbol) in
    let there : Bool × Refusal = (is_loaded state object, AlreadyThere) in
    let one = passed (not (is_module setting object), NoModule) (there ∷ lacks ∷ full ∷ []) free in
    let two = passed there (lacks ∷ full ∷ []) one.1 in
    let three = passed lacks (full ∷ []) two.1 in
    let four = passed full [] three.1 in
    record { within = in_image setting object (not-false (is_module setting object) one.0); absent = two.0; room = four.0 }

pub record MayGo (setting : Setting) (state : State) (object : ℕ) : Type 0 where
  pub within : object < length setting.image.objects
  pub there : is_loaded state object ≡ true
  pub room : lacks_room setting state (Going object) ≡ false

pub may_go : (setting : Setting) (state : State) (object : ℕ) → refusal setting state (Going object) ≡ None → MayGo setting state object
may_go setting state object free =
    let full : Bool × Refusal = (lacks_room setting state (Going object), Full) in
    let used : Bool × Refusal = (list_any (is_inside setting object) state.tasks, InUse) in
    let one = passed (not (is_module setting object && is_loaded state object), NoModule) (used ∷ full ∷ []) free in
    let two = passed used (full ∷ []) one.1 in
    let three = passed full [] two.1 in
    record {
      within = in_image setting object (and_parts (is_module setting object) (is_loaded state object) (not-false (is_module setting object && is_loaded state object) one.0)).0;
      there = (and_parts (is_module setting object) (is_loaded state object) (not-false (is_module setting object && is_loaded state object) one.0)).1;
      room = three.0;
    }

-- how many records callbacks note

both : (one other : List Call) → records_of (one ++ other) ≡ records_of one + records_of other
both one other = sum_by-append (λ (c : Call). length c.script.edits + alloc_count c.script.edits) one other

part_coming_few : (moving : Option Transition) (parts : List Part) → records_of (flat_map (part_coming moving) (parts_before parts)) ≤ records_of (flat_map (coming_may_run moving) parts)
part_coming_few moving [] = omega arith
part_coming_few moving (part ∷ parts) =
    elim (part_refuses part) as (λ b. records_of (flat_map (part_coming moving) (if b then [] else part ∷ parts_before parts)) ≤ records_of (flat_map (coming_may_run moving) (part ∷ parts))) [
      | true ↦ omega arith
      | false ↦
          let own = both (part_coming moving part) (flat_map (part_coming moving) (parts_before parts)) in
          let all = both (coming_may_run moving part) (flat_map (coming_may_run moving) parts) in
          let ran = both (part_call Pre part) (still_call moving Post part) in
          let may = both (part_call Pre part ++ part_call PostUn part ++ still_call moving Post part) (still_call moving PreUn part) in
          let may_2 = both (part_call Pre part ++ part_call PostUn part) (still_call moving Post part) in
          let may_3 = both (part_call Pre part) (part_call PostUn part) in
          omega (arith, own, all, ran, may, may_2, may_3, part_coming_few moving parts)
    ]

-- where no pre-patch refuses
pub coming_few : (moving : Option Transition) (parts : List Part) → find part_refuses parts ≡ None → records_of (coming_calls moving parts) ≤ records_of (flat_map (coming_may_run moving) parts)
coming_few moving parts none =
    let all = both (flat_map (part_coming moving) (parts_before parts)) (refused_parts moving (parts_before parts) (find part_refuses parts)) in
    let last : records_of (refused_parts moving (parts_before parts) (find part_refuses parts)) ≡ 0 = ap (λ found. records_of (refused_parts moving (parts_before parts) found)) none in
    omega (arith, all, last, part_coming_few moving parts)

pub going_few : (moving : Option Transition) (parts : List Part) → records_of (going_calls moving parts) ≤ records_of (flat_map (going_may_run moving) parts)
going_few moving [] = omega arith
going_few moving (part ∷ parts) =
    let own = both (part_going moving part) (flat_map (part_going moving) parts) in
    let all = both (going_may_run moving part) (flat_map (going_may_run moving) parts) in
    let ran = both (still_call moving PreUn part) (part_call PostUn part) in
    let may = both (part_call PostUn part) (still_call moving PreUn part) in
    omega (arith, own, all, ran, may, going_few moving parts)

-- who refused

pub none_found : {A B : Type 0} (f : A → B) (found : Option A) → None ≡ option_map f found → found ≡ None
none_found f None is = refl
none_found f (Some x) is = let no : ⊥ = cc in absurd no

pub refused_by : (state : State) (object : ℕ) (effective : ℕ × ℤ) (found : Option Part)
    → (◌≡◌ {A = Option (ℕ × ℤ)} (Some effective) (option_map (λ (p : Part). (p.0, status_of (script_for Pre p.1.1.callbacks))) found))
    → (◌≡◌ {A = Reply × State} (come_or_refused state object found) (PreFailed effective.0 object effective.1, state))
refused_by state object effective None is = let no : ⊥ = cc in absurd no
refused_by state object effective (Some part) is =
    let own : ℕ × ℤ = (part.0, status_of (script_for Pre part.1.1.callbacks)) in
    let same : effective ≡ own = cc in
    ap (λ (p : ℕ × ℤ). (PreFailed p.0 object p.1, state)) (sym same)

-- a status is kept in 32 bits
pub effective_as : (object patch : ℕ) (status : ℤ) (effective : ℕ × ℤ) → (◌≡◌ {A = Option (ℕ × ℤ)} (Some effective) (Some (patch, status))) → to_z w32 (of_z w32 status) ≡ status
    → PreFailed effective.0 object (to_z w32 (of_z w32 effective.1)) ≡ PreFailed patch object status
effective_as object patch status effective is stored =
    let own : ℕ × ℤ = (patch, status) in
    let same : effective ≡ own = cc in
    ap (λ (p : ℕ × ℤ). PreFailed p.0 object (to_z w32 (of_z w32 p.1))) same ∙ ap (PreFailed patch object) stored

-- the entries of a site, by which objects are loaded

abbrev flag_at : List Bool → Option ℕ → Bool
flag_at loaded None = false
flag_at loaded (Some object) = slice_index_or loaded object false

loaded_by : (state : State) (place : Option ℕ) → is_object_loaded state place ≡ flag_at state.loaded place
loaded_by state None = refl
loaded_by state (Some object) = refl

came_at : (loaded flags : List Bool) (object : ℕ) (place : Option ℕ) (now was all : List Entry) → object < length loaded
    → was ≡ (if flag_at loaded place then all else []) → now ≡ (if is_object_in_scope (Some object) flags place then all else was)
    → now ≡ (if flag_at (slice_set loaded object true) place then all else [])
came_at loaded flags object None now was all within is made = made ∙ is
came_at loaded flags object (Some other) now was all within is made =
    elim (other == object) as (λ b. (other == object) ≡ b → now ≡ (if b then all else was) → now ≡ (if slice_index_or (slice_set loaded object true) other false then all else [])) [
      | true ↦ λ same so.
          let flag : slice_index_or (slice_set loaded object true) object false ≡ true = rw get_or-set_same refl in
          so ∙ sym (ap (λ n. if slice_index_or (slice_set loaded object true) n false then all else []) (eqb-true other object same) ∙ ap (λ b. if b then all else []) flag)
      | false ↦ λ apart so.
          let away : other ≢ object = λ same. let no : true ≡ false = sym (eq-eqb other object same) ∙ apart in let none : ⊥ = cc in none in
          let flag : slice_index_or (slice_set loaded object true) other false ≡ slice_index_or loaded other false = rw get_or-set_other refl in
          so ∙ is ∙ sym (ap (λ b. if b then all else []) flag)
    ] refl made

went_at : (loaded flags : List Bool) (object : ℕ) (place : Option ℕ) (now was all : List Entry) → object < length loaded
    → was ≡ (if flag_at loaded place then all else []) → now ≡ (if is_object_in_scope (Some object) flags place then [] else was)
    → now ≡ (if flag_at (slice_set loaded object false) place then all else [])
went_at loaded flags object None now was all within is made = made ∙ is
went_at loaded flags object (Some other) now was all within is made =
    elim (other == object) as (λ b. (other == object) ≡ b → now ≡ (if b then [] else was) → now ≡ (if slice_index_or (slice_set loaded object false) other false then all else [])) [
      | true ↦ λ same so.
          let flag : slice_index_or (slice_set loaded object false) object false ≡ false = rw get_or-set_same refl in
          so ∙ sym (ap (λ n. if slice_index_or (slice_set loaded object false) n false then all else []) (eqb-true other object same) ∙ ap (λ b. if b then all else []) flag)
      | false ↦ λ apart so.
          let away : other ≢ object = λ same. let no : true ≡ false = sym (eq-eqb other object same) ∙ apart in let none : ⊥ = cc in none in
          let flag : slice_index_or (slice_set loaded object false) other false ≡ slice_index_or loaded other false = rw get_or-set_other refl in
          so ∙ is ∙ sym (ap (λ b. if b then all else []) flag)
    ] refl made

as_loaded : (setting : Setting) (before after : State) (site : ℕ) (loaded : List Bool) → after.loaded ≡ loaded → installed_patches after ≡ installed_patches before
    → (if flag_at loaded (object_of setting.image.objects site) then entries_from setting site (reverse (installed_patches before)) else []) ≡ entries_of setting after site
as_loaded setting before after site loaded flags installed =
    let place = object_of setting.image.objects site in
    ap (λ l. if flag_at l place then entries_from setting site (reverse (installed_patches before)) else []) (sym flags)
    ∙ ap (λ b. if b then entries_from setting site (reverse (installed_patches before)) else []) (sym (loaded_by after place))
    ∙ ap (λ ps. if is_object_loaded after place then entries_from setting site (reverse ps) else []) (sym installed)

pub came : (setting : Setting) (before after : State) (object site : ℕ) (flags : List Bool) (now was : List Entry) → object < length before.loaded
    → after.loaded ≡ slice_set before.loaded object true → installed_patches after ≡ installed_patches before → was ≡ entries_of setting before site
    → now ≡ (if is_object_in_scope (Some object) flags (object_of setting.image.objects site) then entries_from setting site (reverse (installed_patches before)) else was)
    → now ≡ entries_of setting after site
came setting before after object site flags now was within loaded installed is made =
    let place = object_of setting.image.objects site in
    let all = entries_from setting site (reverse (installed_patches before)) in
    came_at before.loaded flags object place now was all within (is ∙ ap (λ b. if b then all else []) (loaded_by before place)) made
    ∙ as_loaded setting before after site (slice_set before.loaded object true) loaded installed

pub went : (setting : Setting) (before after : State) (object site : ℕ) (flags : List Bool) (now was : List Entry) → object < length before.loaded
    → after.loaded ≡ slice_set before.loaded object false → installed_patches after ≡ installed_patches before → was ≡ entries_of setting before site
    → now ≡ (if is_object_in_scope (Some object) flags (object_of setting.image.objects site) then [] else was)
    → now ≡ entries_of setting after site
went setting before after object site flags now was within loaded installed is made =
    let place = object_of setting.image.objects site in
    let all = entries_from setting site (reverse (installed_patches before)) in
    went_at before.loaded flags object place now was all within (is ∙ ap (λ b. if b then all else []) (loaded_by before place)) made
    ∙ as_loaded setting before after site (slice_set before.loaded object false) loaded installed
