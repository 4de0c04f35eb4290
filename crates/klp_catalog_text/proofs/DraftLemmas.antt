-- Facts of a draft: its last patch, its counts and its names.
use Rattle.std.proofs.Common.{◌≡◌, ℕ, suc, ◌+◌, ◌-◌, ◌<◌, ◌≤◌, Bool, false, List, [], ◌∷◌, ◌++◌, length, map, slice_get, option_map, Some, None, Option, refl, sym, subst, ap, ◌∙◌, arith, length-append}
use Rattle.std.proofs.lemmas.List.Sums.{sum_by-append, sum_by-cons}
use Rattle.klp_types.specs.Image.{Symbol, Object, symbols_of}
use Rattle.klp_catalog_text.specs.Plan.{PlanFunction, PlanTarget, PlanPatch}
use Rattle.klp_types.specs.Setting.{Callback as PlanCallback}
use Rattle.klp_catalog_text.specs.PlanParts.{last_of, on_last, targets_of, states_of, callbacks_of, has_which, names_state, function_count, with_symbol, with_target, with_function, with_function_in, with_callback, with_callback_in, with_state}
use Rattle.klp_catalog_text.specs.Kept.{IsKept}
use Rattle.klp_catalog_text.specs.Draft.{names_of, number_of}
use Rattle.klp_catalog_text.specs.Limits.{HasFewEdits, HasOneEach, IsSmall, has_same, target_number, state_number}
use Rattle.klp_catalog_text.proofs.LimitLemmas.{all-push, one_each-push, distinct-push}
use Rattle.klp_types.specs.Compatible.{SystemState}
use Rattle.std.specs.Prelude.{◌||◌, bytes_eq}
use Rattle.std.specs.List.{All, AllByRecursion, list_any}
use Rattle.std.specs.Bool.{◌==◌}
use Rattle.std.proofs.lemmas.List.{length-map}
use Rattle.std.proofs.lemmas.List.Quantifiers.{position-Some}
use Rattle.std.proofs.lemmas.List.Elements.{All-push, All-nil, All-weaker, All-from_recursion, recursion_from_All}
use Rattle.klp_catalog_text.specs.Within.{AreTargetsWithin}

-- a target stands in a patch
pub last_patch : (patches : List PlanPatch) → 0 < length (targets_of (last_of patches)) → 0 < length patches
last_patch [] h = absurd (omega arith)
last_patch (patch ∷ patches) h = omega arith

-- a symbol more
pub length-symbols_of-on_last : (symbol : Symbol) (objects : List Object) → 0 < length objects → length (symbols_of (on_last (with_symbol symbol) objects)) ≡ length (symbols_of objects) + 1
length-symbols_of-on_last symbol [] h = absurd (omega arith)
length-symbols_of-on_last symbol (object ∷ []) h =
    omega (arith, length-append (object.symbols ++ symbol ∷ []) [], length-append object.symbols (symbol ∷ []), length-append object.symbols [])
length-symbols_of-on_last symbol (object ∷ other ∷ objects) h =
    omega (
      arith,
      length-append object.symbols (symbols_of (on_last (with_symbol symbol) (other ∷ objects))),
      length-append object.symbols (symbols_of (other ∷ objects)),
      length-symbols_of-on_last symbol (other ∷ objects) (omega arith),
    )

-- an object without symbols
pub symbols_of-push : (objects : List Object) (name : List ℕ) → length (symbols_of (objects ++ record { name = name; symbols = [] } ∷ [])) ≡ length (symbols_of objects)
symbols_of-push [] name = refl
symbols_of-push (object ∷ objects) name =
    omega (arith, length-append object.symbols (symbols_of (objects ++ record { name = name; symbols = [] } ∷ [])), length-append object.symbols (symbols_of objects), symbols_of-push objects name)

pub length-on_last : {A : Type 0} (change : A → A) (xs : List A) → length (on_last change xs) ≡ length xs
length-on_last change [] = refl
length-on_last change (x ∷ []) = refl
length-on_last change (x ∷ y ∷ xs) = ap suc (length-on_last change (y ∷ xs))

last_of-cons : {A : Type 0} (x y : A) (xs : List A) → last_of (x ∷ y ∷ xs) ≡ last_of (y ∷ xs)
last_of-cons x y xs =
    let whole : suc (suc (length xs)) - 1 ≡ suc (length xs) = omega arith in
    let part : length xs ≡ suc (length xs) - 1 = omega arith in
    ap (slice_get (x ∷ y ∷ xs)) whole ∙ ap (slice_get (y ∷ xs)) part

last_of-longer : {A : Type 0} (x : A) (ys : List A) → 0 < length ys → last_of (x ∷ ys) ≡ last_of ys
last_of-longer x [] h = absurd (omega arith)
last_of-longer x (y ∷ ys) h = last_of-cons x y ys

pub last_of-on_last : {A : Type 0} (change : A → A) (xs : List A) → last_of (on_last change xs) ≡ option_map change (last_of xs)
last_of-on_last change [] = refl
last_of-on_last change (x ∷ []) = refl
last_of-on_last change (x ∷ y ∷ xs) =
    last_of-longer x (on_last change (y ∷ xs)) (omega (arith, length-on_last change (y ∷ xs)))
    ∙ last_of-on_last change (y ∷ xs) ∙ ap (option_map change) (sym (last_of-cons x y xs))

pub last_of-push : {A : Type 0} (xs : List A) (x : A) → last_of (xs ++ x ∷ []) ≡ Some x
last_of-push [] x = refl
last_of-push (y ∷ []) x = refl
last_of-push (y ∷ z ∷ xs) x = last_of-cons y z (xs ++ x ∷ []) ∙ last_of-push (z ∷ xs) x

last_some : {A : Type 0} (xs : List A) → 0 < length xs → (x : A) × (last_of xs ≡ Some x)
last_some [] h = absurd (omega arith)
last_some (x ∷ []) h = (x, refl)
last_some (x ∷ y ∷ xs) h = let rest = last_some (y ∷ xs) (omega arith) in (rest.0, last_of-cons x y xs ∙ rest.1)

-- an object more in the last patch has no functions
pub function_count-with_target : (object : ℕ) (patches : List PlanPatch) → 0 < length patches
    → function_count (targets_of (last_of (on_last (with_target (Some object)) patches))) ≡ function_count (targets_of (last_of patches))
function_count-with_target object patches h =
    let there = last_some patches h in
    let targets = there.0.targets in
    let more = sum_by-append (λ (t : PlanTarget). length t.functions) targets (record { object = object; functions = []; callbacks = [] } ∷ []) in
    let none = sum_by-cons (λ (t : PlanTarget). length t.functions) (record { object = object; functions = []; callbacks = [] }) [] in
    ap (λ p. function_count (targets_of p)) (last_of-on_last (with_target (Some object)) patches ∙ ap (option_map (with_target (Some object))) there.1)
    ∙ more ∙ omega arith ∙ ap (λ p. function_count (targets_of p)) (sym there.1)

-- a function more
count_more : (function : PlanFunction) (targets : List PlanTarget) → 0 < length targets → function_count (on_last (with_function function) targets) ≡ function_count targets + 1
count_more function [] h = absurd (omega arith)
count_more function (target ∷ []) h =
    omega (arith, sum_by-cons (λ (t : PlanTarget). length t.functions) (with_function function target) [], sum_by-cons (λ (t : PlanTarget). length t.functions) target [], length-append target.functions (function ∷ []))
count_more function (target ∷ other ∷ targets) h =
    omega (
      arith,
      sum_by-cons (λ (t : PlanTarget). length t.functions) target (on_last (with_function function) (other ∷ targets)),
      sum_by-cons (λ (t : PlanTarget). length t.functions) target (other ∷ targets),
      count_more function (other ∷ targets) (omega arith),
    )

pub function_count-with_function : (function : PlanFunction) (patches : List PlanPatch) → 0 < length (targets_of (last_of patches))
    → function_count (targets_of (last_of (on_last (with_function_in function) patches))) ≡ function_count (targets_of (last_of patches)) + 1
function_count-with_function function patches h =
    let there = last_some patches (last_patch patches h) in
    let some : 0 < length there.0.targets = omega (arith, ap (λ p. length (targets_of p)) there.1) in
    ap (λ p. function_count (targets_of p)) (last_of-on_last (with_function_in function) patches ∙ ap (option_map (with_function_in function)) there.1)
    ∙ count_more function there.0.targets some ∙ ap (λ p. function_count (targets_of p) + 1) (sym there.1)

-- what holds of each item, behind a change of the last
all-on_last : {A : Type 0} (P : A → Type 0) (change : A → A) (xs : List A) → AllByRecursion P xs → ((x : A) → last_of xs ≡ Some x → P x → P (change x)) → AllByRecursion P (on_last change xs)
all-on_last P change [] all more = tt
all-on_last P change (x ∷ []) all more = (more x refl all.0, tt)
all-on_last P change (x ∷ y ∷ xs) all more = (all.0, all-on_last P change (y ∷ xs) all.1 (λ z e h. more z (last_of-cons x y xs ∙ e) h))

-- what two lists of the same numbers have twice
any_number : {A : Type 0} (number : A → ℕ) (n : ℕ) (xs ys : List A) → map number xs ≡ map number ys → list_any (λ y. number y == n) xs ≡ list_any (λ y. number y == n) ys
any_number number n [] [] e = refl
any_number number n [] (y ∷ ys) e = cc
any_number number n (x ∷ xs) [] e = cc
any_number number n (x ∷ xs) (y ∷ ys) e =
    let first : number x ≡ number y = cc in
    let rest : map number xs ≡ map number ys = cc in
    λ i. (first i == n) || any_number number n xs ys rest i

pub same_numbers : {A : Type 0} (number : A → ℕ) (xs ys : List A) → map number xs ≡ map number ys → has_same number xs ≡ has_same number ys
same_numbers number [] [] e = refl
same_numbers number [] (y ∷ ys) e = cc
same_numbers number (x ∷ xs) [] e = cc
same_numbers number (x ∷ xs) (y ∷ ys) e =
    let first : number x ≡ number y = cc in
    let rest : map number xs ≡ map number ys = cc in
    ap (λ n. list_any (λ z. number z == n) xs || has_same number xs) first
    ∙ (λ i. any_number number (number y) xs ys rest i || same_numbers number xs ys rest i)

numbers-on_last : {A : Type 0} (number : A → ℕ) (change : A → A) → ((x : A) → number (change x) ≡ number x) → (xs : List A) → map number (on_last change xs) ≡ map number xs
numbers-on_last number change same [] = refl
numbers-on_last number change same (x ∷ []) = ap (λ n. n ∷ []) (same x)
numbers-on_last number change same (x ∷ y ∷ xs) = ap (number x ∷◌) (numbers-on_last number change same (y ∷ xs))

new_small : (name : List ℕ) (replace : Bool) → IsSmall (record { name = name; replace = replace; targets = []; states = [] })
new_small name replace = record { few_targets = omega arith; distinct_targets = refl; few_functions = omega arith; one_each = tt; few_states = omega arith; distinct_states = refl }

new_one_each : (object : ℕ) → HasOneEach (record { object = object; functions = []; callbacks = [] })
new_one_each object = record { few_callbacks = omega arith; distinct = refl; few_edits = tt }

small-with_target : (object : ℕ) (patch : PlanPatch) → list_any (λ (t : PlanTarget). t.object == object) patch.targets ≡ false → length patch.targets < 8 → IsSmall patch → IsSmall (with_target (Some object) patch)
small-with_target object patch new room small = record {
  distinct_targets = distinct-push target_number patch.targets (record { object = object; functions = []; callbacks = [] }) small.distinct_targets new;
  few_targets = omega (arith, length-append patch.targets (record { object = object; functions = []; callbacks = [] } ∷ []));
  few_functions = omega (
    arith,
    small.few_functions,
    sum_by-append (λ (t : PlanTarget). length t.functions) patch.targets (record { object = object; functions = []; callbacks = [] } ∷ []),
    sum_by-cons (λ (t : PlanTarget). length t.functions) (record { object = object; functions = []; callbacks = [] }) [],
  );
  one_each = all-push HasOneEach patch.targets (record { object = object; functions = []; callbacks = [] }) small.one_each (new_one_each object);
  few_states = small.few_states;
  distinct_states = small.distinct_states;
}

small-with_function : (function : PlanFunction) (patch : PlanPatch) → 0 < length patch.targets → function_count patch.targets < 64 → IsSmall patch → IsSmall (with_function_in function patch)
small-with_function function patch some room small = record {
  distinct_targets = same_numbers target_number (on_last (with_function function) patch.targets) patch.targets (numbers-on_last target_number (with_function function) (λ t. refl) patch.targets) ∙ small.distinct_targets;
  few_targets = omega (arith, small.few_targets, length-on_last (with_function function) patch.targets);
  few_functions = omega (arith, count_more function patch.targets some);
  one_each = all-on_last HasOneEach (with_function function) patch.targets small.one_each (λ target last one. record { few_callbacks = one.few_callbacks; distinct = one.distinct; few_edits = one.few_edits });
  few_states = small.few_states;
  distinct_states = small.distinct_states;
}

-- a callback more leaves the functions
count_same : (callback : PlanCallback) (targets : List PlanTarget) → function_count (on_last (with_callback callback) targets) ≡ function_count targets
count_same callback [] = refl
count_same callback (target ∷ []) =
    omega (arith, sum_by-cons (λ (t : PlanTarget). length t.functions) (with_callback callback target) [], sum_by-cons (λ (t : PlanTarget). length t.functions) target [])
count_same callback (target ∷ other ∷ targets) =
    omega (
      arith,
      sum_by-cons (λ (t : PlanTarget). length t.functions) target (on_last (with_callback callback) (other ∷ targets)),
      sum_by-cons (λ (t : PlanTarget). length t.functions) target (other ∷ targets),
      count_same callback (other ∷ targets),
    )

count_in : (callback : PlanCallback) (found : Option PlanPatch) → function_count (targets_of (option_map (with_callback_in callback) found)) ≡ function_count (targets_of found)
count_in callback None = refl
count_in callback (Some patch) = count_same callback patch.targets

function_count-with_callback : (callback : PlanCallback) (patches : List PlanPatch)
    → function_count (targets_of (last_of (on_last (with_callback_in callback) patches))) ≡ function_count (targets_of (last_of patches))
function_count-with_callback callback patches =
    ap (λ p. function_count (targets_of p)) (last_of-on_last (with_callback_in callback) patches) ∙ count_in callback (last_of patches)

state_in : (state : SystemState) (found : Option PlanPatch) → function_count (targets_of (option_map (with_state state) found)) ≡ function_count (targets_of found)
state_in state None = refl
state_in state (Some patch) = refl

function_count-with_state : (state : SystemState) (patches : List PlanPatch)
    → function_count (targets_of (last_of (on_last (with_state state) patches))) ≡ function_count (targets_of (last_of patches))
function_count-with_state state patches = ap (λ p. function_count (targets_of p)) (last_of-on_last (with_state state) patches) ∙ state_in state (last_of patches)

small-with_callback : (callback : PlanCallback) (patch : PlanPatch) → HasFewEdits callback → has_which callback.which (callbacks_of (last_of patch.targets)) ≡ false → IsSmall patch → IsSmall (with_callback_in callback patch)
small-with_callback callback patch few new small = record {
  distinct_targets = same_numbers target_number (on_last (with_callback callback) patch.targets) patch.targets (numbers-on_last target_number (with_callback callback) (λ t. refl) patch.targets) ∙ small.distinct_targets;
  few_targets = omega (arith, small.few_targets, length-on_last (with_callback callback) patch.targets);
  few_functions = omega (arith, small.few_functions, count_same callback patch.targets);
  one_each = all-on_last HasOneEach (with_callback callback) patch.targets small.one_each
      (λ target last one. one_each-push callback target few (sym (ap (λ t. has_which callback.which (callbacks_of t)) last) ∙ new) one);
  few_states = small.few_states;
  distinct_states = small.distinct_states;
}

small-with_state : (state : SystemState) (patch : PlanPatch) → names_state state.id patch.states ≡ false → length patch.states < 16 → IsSmall patch → IsSmall (with_state state patch)
small-with_state state patch new room small = record {
  distinct_targets = small.distinct_targets;
  few_targets = small.few_targets;
  few_functions = small.few_functions;
  one_each = small.one_each;
  few_states = omega (arith, length-append patch.states (state ∷ []));
  distinct_states = distinct-push state_number patch.states state small.distinct_states new;
}

abbrev IsTargetWithin : ℕ → PlanTarget → Type 0
IsTargetWithin objects target = target.object < objects

abbrev TargetsWithin : ℕ → PlanPatch → Type 0
TargetsWithin objects patch = All (IsTargetWithin objects) patch.targets

All-on_last : {A : Type 0} (P : A → Type 0) (change : A → A) (xs : List A) → All P xs → ((x : A) → P x → P (change x)) → All P (on_last change xs)
All-on_last P change xs all keeps =
    All-from_recursion P (on_last change xs) (all-on_last P change xs (recursion_from_All P xs all) (λ x last h. keeps x h))

-- a target of an object stays one when there are more
more_objects : (patches : List PlanPatch) (objects more : ℕ) → objects ≤ more → AreTargetsWithin objects patches → AreTargetsWithin more patches
more_objects patches objects more h within =
    All-weaker (TargetsWithin objects) (TargetsWithin more)
    (λ patch ts. All-weaker (IsTargetWithin objects) (IsTargetWithin more) (λ target there. omega arith) patch.targets ts) patches within

-- an object that is found by its name is there
pub found_within : (objects : List Object) (name : List ℕ) (number : ℕ) → number_of name (names_of objects) ≡ Some number → number < length objects
found_within objects name number found =
    let at = position-Some (bytes_eq name) (names_of objects) number [] found in
    omega (arith, at.0, length-map objects (λ (o : Object). o.name))

-- what a draft keeps, behind each kind of line
module _ {objects : List Object} {symbols : ℕ} {patches : List PlanPatch} {functions : ℕ}
    (kept : IsKept objects symbols patches functions) where
  pub kept-symbol : (symbol : Symbol) (next : List Object) → 0 < length objects → next ≡ on_last (with_symbol symbol) objects → IsKept next (symbols + 1) patches functions
  kept-symbol symbol next some e = record {
    symbol_count = omega (arith, kept.symbol_count, ap (λ o. length (symbols_of o)) e, length-symbols_of-on_last symbol objects some);
    count_of_functions = kept.count_of_functions;
    few_objects = omega (arith, kept.few_objects, ap length e, length-on_last (with_symbol symbol) objects);
    few_patches = kept.few_patches;
    targets_within = subst (λ n. AreTargetsWithin n patches) (sym (ap length e ∙ length-on_last (with_symbol symbol) objects)) kept.targets_within;
  }

  pub kept-object : (name : List ℕ) (next : List Object) → length objects < 17 → next ≡ objects ++ record { name = name; symbols = [] } ∷ []
      → IsKept next symbols patches functions
  kept-object name next few e = record {
    symbol_count = kept.symbol_count ∙ sym (ap (λ o. length (symbols_of o)) e ∙ symbols_of-push objects name);
    count_of_functions = kept.count_of_functions;
    few_objects = omega (arith, ap length e, length-append objects (record { name = name; symbols = [] } ∷ []));
    few_patches = kept.few_patches;
    targets_within = more_objects patches (length objects) (length next) (omega (arith, ap length e, length-append objects (record { name = name; symbols = [] } ∷ []))) kept.targets_within;
  }

  pub kept-patch : (name : List ℕ) (replace : Bool) (next : List PlanPatch) → length patches < 16 → next ≡ patches ++ record { name = name; replace = replace; targets = []; states = [] } ∷ []
      → IsKept objects symbols next 0
  kept-patch name replace next room e = record {
    symbol_count = kept.symbol_count;
    count_of_functions = sym (ap (λ p. function_count (targets_of (last_of p))) e ∙ ap (λ p. function_count (targets_of p)) (last_of-push patches (record { name = name; replace = replace; targets = []; states = [] })));
    few_objects = kept.few_objects;
    few_patches = record {
      few_patches = omega (arith, ap length e, length-append patches (record { name = name; replace = replace; targets = []; states = [] } ∷ []));
      each_small = subst (AllByRecursion IsSmall) (sym e) (all-push IsSmall patches (record { name = name; replace = replace; targets = []; states = [] }) kept.few_patches.each_small (new_small name replace));
    };
    targets_within = subst (AreTargetsWithin (length objects)) (sym e) (All-push (TargetsWithin (length objects)) patches _ kept.targets_within (All-nil (IsTargetWithin (length objects))));
  }

  pub kept-target : (object : ℕ) (next : List PlanPatch) → object < length objects → 0 < length patches → list_any (λ (t : PlanTarget). t.object == object) (targets_of (last_of patches)) ≡ false → length (targets_of (last_of patches)) < 8 → next ≡ on_last (with_target (Some object)) patches → IsKept objects symbols next functions
  kept-target object next there some fresh room e = record {
    symbol_count = kept.symbol_count;
    count_of_functions = kept.count_of_functions ∙ sym (ap (λ p. function_count (targets_of (last_of p))) e ∙ function_count-with_target object patches some);
    few_objects = kept.few_objects;
    few_patches = record {
      few_patches = omega (arith, kept.few_patches.few_patches, ap length e, length-on_last (with_target (Some object)) patches);
      each_small = subst (AllByRecursion IsSmall) (sym e)
          (all-on_last IsSmall (with_target (Some object)) patches kept.few_patches.each_small
          (λ patch last small. small-with_target object patch (sym (ap (λ p. list_any (λ (t : PlanTarget). t.object == object) (targets_of p)) last) ∙ fresh) (omega (arith, ap (λ p. length (targets_of p)) last)) small));
    };
    targets_within = subst (AreTargetsWithin (length objects)) (sym e)
        (All-on_last (TargetsWithin (length objects)) (with_target (Some object)) patches kept.targets_within
        (λ patch within. All-push (IsTargetWithin (length objects)) patch.targets (record { object = object; functions = []; callbacks = [] }) within there));
  }

  pub kept-function : (function : PlanFunction) (next : List PlanPatch) → 0 < length (targets_of (last_of patches)) → functions < 64 → next ≡ on_last (with_function_in function) patches
      → IsKept objects symbols next (functions + 1)
  kept-function function next some room e = record {
    symbol_count = kept.symbol_count;
    count_of_functions = ap (λ n. n + 1) kept.count_of_functions ∙ sym (ap (λ p. function_count (targets_of (last_of p))) e ∙ function_count-with_function function patches some);
    few_objects = kept.few_objects;
    few_patches = record {
      few_patches = omega (arith, kept.few_patches.few_patches, ap length e, length-on_last (with_function_in function) patches);
      each_small = subst (AllByRecursion IsSmall) (sym e)
          (all-on_last IsSmall (with_function_in function) patches kept.few_patches.each_small
          (λ patch last small. small-with_function function patch (omega (arith, ap (λ p. length (targets_of p)) last))
          (omega (arith, kept.count_of_functions, ap (λ p. function_count (targets_of p)) last)) small));
    };
    targets_within = subst (AreTargetsWithin (length objects)) (sym e)
        (All-on_last (TargetsWithin (length objects)) (with_function_in function) patches kept.targets_within
        (λ patch within. All-on_last (IsTargetWithin (length objects)) (with_function function) patch.targets within (λ target there. there)));
  }

  pub kept-callback : (callback : PlanCallback) (next : List PlanPatch) → HasFewEdits callback → has_which callback.which (callbacks_of (last_of (targets_of (last_of patches)))) ≡ false
      → next ≡ on_last (with_callback_in callback) patches → IsKept objects symbols next functions
  kept-callback callback next few new e = record {
    symbol_count = kept.symbol_count;
    count_of_functions = kept.count_of_functions ∙ sym (ap (λ p. function_count (targets_of (last_of p))) e ∙ function_count-with_callback callback patches);
    few_objects = kept.few_objects;
    few_patches = record {
      few_patches = omega (arith, kept.few_patches.few_patches, ap length e, length-on_last (with_callback_in callback) patches);
      each_small = subst (AllByRecursion IsSmall) (sym e)
          (all-on_last IsSmall (with_callback_in callback) patches kept.few_patches.each_small
          (λ patch last small. small-with_callback callback patch few (sym (ap (λ p. has_which callback.which (callbacks_of (last_of (targets_of p)))) last) ∙ new) small));
    };
    targets_within = subst (AreTargetsWithin (length objects)) (sym e)
        (All-on_last (TargetsWithin (length objects)) (with_callback_in callback) patches kept.targets_within
        (λ patch within. All-on_last (IsTargetWithin (length objects)) (with_callback callback) patch.targets within (λ target there. there)));
  }

  pub kept-state : (state : SystemState) (next : List PlanPatch) → names_state state.id (states_of (last_of patches)) ≡ false → length (states_of (last_of patches)) < 16
      → next ≡ on_last (with_state state) patches → IsKept objects symbols next functions
  kept-state state next new room e = record {
    symbol_count = kept.symbol_count;
    count_of_functions = kept.count_of_functions ∙ sym (ap (λ p. function_count (targets_of (last_of p))) e ∙ function_count-with_state state patches);
    few_objects = kept.few_objects;
    few_patches = record {
      few_patches = omega (arith, kept.few_patches.few_patches, ap length e, length-on_last (with_state state) patches);
      each_small = subst (AllByRecursion IsSmall) (sym e)
          (all-on_last IsSmall (with_state state) patches kept.few_patches.each_small
          (λ patch last small. small-with_state state patch (sym (ap (λ p. names_state state.id (states_of p)) last) ∙ new) (omega (arith, ap (λ p. length (states_of p)) last)) small));
    };
    targets_within = subst (AreTargetsWithin (length objects)) (sym e)
        (All-on_last (TargetsWithin (length objects)) (with_state state) patches kept.targets_within (λ patch within. within));
  }
