-- What doesn't depend on the scripts of a patch's callbacks, and what is kept of a patch.
use Rattle.std.proofs.Common.{◌≡◌, ℕ, zero, suc, ◌+◌, ◌≤◌, false, ◌||◌, List, [], ◌∷◌, ◌++◌, length, length-append, map, take, true, Bool, append_assoc, refl, sym, ap, subst, ◌∙◌, arith}
use Rattle.std.specs.List.{AllByRecursion}
use Rattle.std.proofs.lemmas.List.{length-map}
use Rattle.std.proofs.lemmas.List.Sums.{sum_by-cons}
use Rattle.klp_types.specs.declared.callback.Which.{Which}
use Rattle.klp_types.specs.Setting.{Callback}
use Rattle.klp_types.specs.Script.{Script}
use Rattle.klp_modules.specs.Names.{ObjectNames}
use Rattle.klp_callback.specs.LentCallback.{LentCallback}
use Rattle.klp_catalog_text.specs.Plan.{PlanTarget, PlanPatch}
use Rattle.klp_catalog_text.specs.PlanParts.{function_count}
use Rattle.klp_catalog_text.specs.Limits.{IsSmall, HasOneEach, AreFew, has_same, callback_number, target_number, state_number}
use Rattle.klp_catalog_text.specs.Scripts.{scripts_of_callbacks, scripts_of_target, scripts_of_targets, scripts_of}
use Rattle.klp_catalog.specs.Catalog.{functions_of_target, functions_of_patch, has_same_site, some_same_site}
use Rattle.klp_catalog.specs.Assembled.{without_script, target_without_scripts, without_scripts, lent_scripts, lent_counts, IsShort, IsAssembleFault}
use Rattle.klp_catalog.specs.declared.assemble.AssembleFault.{AssembleFault}
use Rattle.klp_catalog.specs.declared.assemble.AssembleFault.TheVariants.{WrongCallbacks, SameSite, NoMemory}
use Rattle.klp_catalog.specs.Limits.{HasOneOfEach, IsWithin, AreWithin}
use Rattle.klp_catalog.specs.Runs.{HasCounts}
use Rattle.klp_catalog.specs.Stored.{StoredPatch, script_number, callbacks_from, target_in, patches_in, placed, target_size, patch_size, stored_target, stored_targets, stored_patch, stored_patches, symbol_count, IsStored}
use Rattle.klp_catalog_text.proofs.DraftLemmas.{same_numbers}
use Rattle.klp_catalog.proofs.NumberLemmas.{ids_sized}

-- ---- what is the same without scripts

functions_alone : (names : List ObjectNames) (targets : List PlanTarget) → functions_of_patch names (map target_without_scripts targets) ≡ functions_of_patch names targets
functions_alone names [] = refl
functions_alone names (target ∷ targets) = ap (functions_of_target names target ++◌) (functions_alone names targets)

count_alone : (targets : List PlanTarget) → function_count (map target_without_scripts targets) ≡ function_count targets
count_alone [] = refl
count_alone (target ∷ targets) =
    omega (
      arith,
      count_alone targets,
      sum_by-cons (λ (t : PlanTarget). length t.functions) target targets,
      sum_by-cons (λ (t : PlanTarget). length t.functions) (target_without_scripts target) (map target_without_scripts targets),
    )

-- what the patches decide without scripts is the same where these are the same
site_alone : (names : List ObjectNames) (patches : List PlanPatch) → some_same_site names (map without_scripts patches) ≡ some_same_site names patches
site_alone names [] = refl
site_alone names (patch ∷ patches) = λ i. has_same_site (functions_alone names patch.targets i) || site_alone names patches i

same_sites : (names : List ObjectNames) (ps qs : List PlanPatch) → map without_scripts ps ≡ map without_scripts qs → some_same_site names ps ≡ some_same_site names qs
same_sites names ps qs e = sym (site_alone names ps) ∙ ap (some_same_site names) e ∙ site_alone names qs

-- ---- limits

targets_alone : (targets : List PlanTarget) → map target_number (map target_without_scripts targets) ≡ map target_number targets
targets_alone [] = refl
targets_alone (target ∷ targets) = ap (target.object ∷◌) (targets_alone targets)

numbers_alone : (callbacks : List Callback) → map callback_number (map without_script callbacks) ≡ map callback_number callbacks
numbers_alone [] = refl
numbers_alone (callback ∷ callbacks) = ap (callback_number callback ∷◌) (numbers_alone callbacks)

one_same : (t u : PlanTarget) → target_without_scripts t ≡ target_without_scripts u → HasOneEach u → HasOneOfEach t
one_same t u e one = record {
  few_callbacks = omega (
    arith,
    ap (λ (v : PlanTarget). length v.callbacks) e,
    length-map t.callbacks without_script,
    length-map u.callbacks without_script,
    one.few_callbacks,
  );
  distinct = same_numbers callback_number t.callbacks u.callbacks
      (sym (numbers_alone t.callbacks) ∙ ap (λ (v : PlanTarget). map callback_number v.callbacks) e ∙ numbers_alone u.callbacks) ∙ one.distinct;
}

ones_same : (ts us : List PlanTarget) → map target_without_scripts ts ≡ map target_without_scripts us → AllByRecursion HasOneEach us → AllByRecursion HasOneOfEach ts
ones_same [] us e ones = tt
ones_same (t ∷ ts) [] e ones = cc
ones_same (t ∷ ts) (u ∷ us) e ones =
    let first : target_without_scripts t ≡ target_without_scripts u = cc in
    let rest : map target_without_scripts ts ≡ map target_without_scripts us = cc in
    (one_same t u first ones.0, ones_same ts us rest ones.1)

small_same : (p q : PlanPatch) → without_scripts p ≡ without_scripts q → IsSmall q → IsWithin p
small_same p q e small =
    let targets = ap (λ (r : PlanPatch). length r.targets) e in
    let functions = ap (λ (r : PlanPatch). function_count r.targets) e in
    let states = ap (λ (r : PlanPatch). length r.states) e in
    record {
      few_targets = omega (arith, length-map p.targets target_without_scripts, length-map q.targets target_without_scripts, small.few_targets);
      distinct_targets = same_numbers target_number p.targets q.targets (sym (targets_alone p.targets) ∙ ap (λ (r : PlanPatch). map target_number r.targets) e ∙ targets_alone q.targets)
          ∙ small.distinct_targets;
      one_of_each = ones_same p.targets q.targets (ap (λ (r : PlanPatch). r.targets) e) small.one_each;
      few_functions = omega (arith, count_alone p.targets, count_alone q.targets, small.few_functions);
      few_states = omega (arith, small.few_states);
      distinct_states = ap (λ (r : PlanPatch). has_same state_number r.states) e ∙ small.distinct_states;
    }

each_same : (ps qs : List PlanPatch) → map without_scripts ps ≡ map without_scripts qs → AllByRecursion IsSmall qs → AllByRecursion IsWithin ps
each_same [] qs e small = tt
each_same (p ∷ ps) [] e small = cc
each_same (p ∷ ps) (q ∷ qs) e small =
    let first : without_scripts p ≡ without_scripts q = cc in
    let rest : map without_scripts ps ≡ map without_scripts qs = cc in
    (small_same p q first small.0, each_same ps qs rest small.1)

pub few_same : (ps qs : List PlanPatch) → map without_scripts ps ≡ map without_scripts qs → AreFew qs → AreWithin ps
few_same ps qs e few =
    record {
      few_patches = omega (arith, ap length e, length-map ps without_scripts, length-map qs without_scripts, few.few_patches);
      each_within = each_same ps qs e few.each_small;
    }

-- ---- what is kept

placed_same : {A S : Type 0} (make : ℕ → A → S) (size : A → ℕ) (alone : A → A) → ((n : ℕ) (x : A) → make n (alone x) ≡ make n x) → ((x : A) → size (alone x) ≡ size x)
    → (n : ℕ) (xs : List A) → placed make size n (map alone xs) ≡ placed make size n xs
placed_same make size alone made sized n [] = refl
placed_same make size alone made sized n (x ∷ xs) =
    ap (λ y. y ∷ placed make size (n + size (alone x)) (map alone xs)) (made n x)
    ∙ ap (λ m. make n x ∷ placed make size (n + m) (map alone xs)) (sized x)
    ∙ ap (make n x ∷◌) (placed_same make size alone made sized (n + size x) xs)

kinds_alone : (callbacks : List Callback) → map (λ (c : Callback). c.which) (map without_script callbacks) ≡ map (λ (c : Callback). c.which) callbacks
kinds_alone [] = refl
kinds_alone (callback ∷ callbacks) = ap (callback.which ∷◌) (kinds_alone callbacks)

stored_alone : (n : ℕ) (target : PlanTarget) → stored_target n (target_without_scripts target) ≡ stored_target n target
stored_alone n target = ap (λ (kinds : List Which). record { object = target.object; functions = target.functions; first = n; kinds = kinds }) (kinds_alone target.callbacks)

sizes_alone : (targets : List PlanTarget) → length (scripts_of_targets (map target_without_scripts targets)) ≡ length (scripts_of_targets targets)
sizes_alone [] = refl
sizes_alone (target ∷ targets) =
    omega (
      arith,
      sizes_alone targets,
      length-append (scripts_of_target target) (scripts_of_targets targets),
      length-append (scripts_of_target (target_without_scripts target)) (scripts_of_targets (map target_without_scripts targets)),
      length-map target.callbacks (λ (c : Callback). c.script),
      length-map (map without_script target.callbacks) (λ (c : Callback). c.script),
      length-map target.callbacks without_script,
    )

patch_alone : (names : List ObjectNames) (n : ℕ) (patch : PlanPatch) → stored_patch names n (without_scripts patch) ≡ stored_patch names n patch
patch_alone names n patch = λ i. record {
  name = patch.name;
  replace = patch.replace;
  targets = placed_same stored_target target_size target_without_scripts stored_alone (λ t. length-map t.callbacks without_script) n patch.targets i;
  functions = functions_alone names patch.targets i;
  states = patch.states;
}

stored_through : (names : List ObjectNames) (n : ℕ) (patches : List PlanPatch) → stored_patches names n (map without_scripts patches) ≡ stored_patches names n patches
stored_through names n patches = placed_same (stored_patch names) patch_size without_scripts (patch_alone names) (λ p. sizes_alone p.targets) n patches

same_stored : (names : List ObjectNames) (n : ℕ) (ps qs : List PlanPatch) → map without_scripts ps ≡ map without_scripts qs → stored_patches names n ps ≡ stored_patches names n qs
same_stored names n ps qs e = sym (stored_through names n ps) ∙ ap (stored_patches names n) e ∙ stored_through names n qs

-- with scripts, these are the patches again, but for their scripts
callbacks_again : (scripts : List Script) (n : ℕ) (callbacks : List Callback) → map without_script (callbacks_from scripts n (map (λ (c : Callback). c.which) callbacks)) ≡ map without_script callbacks
callbacks_again scripts n [] = refl
callbacks_again scripts n (callback ∷ callbacks) = ap (without_script callback ∷◌) (callbacks_again scripts (n + 1) callbacks)

targets_again : (scripts : List Script) (n : ℕ) (targets : List PlanTarget) → map target_without_scripts (map (target_in scripts) (stored_targets n targets)) ≡ map target_without_scripts targets
targets_again scripts n [] = refl
targets_again scripts n (target ∷ targets) =
    λ i. record { object = target.object; functions = target.functions; callbacks = callbacks_again scripts n target.callbacks i } ∷ targets_again scripts (n + target_size target) targets i

pub patches_again : (names : List ObjectNames) (scripts : List Script) (n : ℕ) (patches : List PlanPatch)
    → map without_scripts (patches_in scripts (stored_patches names n patches)) ≡ map without_scripts patches
patches_again names scripts n [] = refl
patches_again names scripts n (patch ∷ patches) =
    λ i. record { name = patch.name; replace = patch.replace; targets = targets_again scripts n patch.targets i; states = patch.states }
    ∷ patches_again names scripts (n + patch_size patch) patches i

-- ---- and their scripts are those that came in

-- so many scripts, from a number on
abbrev scripts_from : List Script → ℕ → ℕ → List Script
scripts_from scripts n zero = []
scripts_from scripts n (suc more) = script_number scripts n ∷ scripts_from scripts (n + 1) more

scripts_parted : (scripts : List Script) (n a b : ℕ) → scripts_from scripts n a ++ scripts_from scripts (n + a) b ≡ scripts_from scripts n (a + b)
scripts_parted scripts n zero b =
    let same : n + 0 ≡ n = omega arith in
    let all : b ≡ 0 + b = omega arith in
    ap (λ m. scripts_from scripts m b) same ∙ ap (scripts_from scripts n) all
scripts_parted scripts n (suc a) b =
    let same : n + suc a ≡ (n + 1) + a = omega arith in
    let all : suc (a + b) ≡ suc a + b = omega arith in
    ap (λ m. script_number scripts n ∷ (scripts_from scripts (n + 1) a ++ scripts_from scripts m b)) same
    ∙ ap (script_number scripts n ∷◌) (scripts_parted scripts (n + 1) a b) ∙ ap (scripts_from scripts n) all

callbacks_scripts : (scripts : List Script) (n : ℕ) (kinds : List Which) → scripts_of_callbacks (callbacks_from scripts n kinds) ≡ scripts_from scripts n (length kinds)
callbacks_scripts scripts n [] = refl
callbacks_scripts scripts n (which ∷ kinds) = ap (script_number scripts n ∷◌) (callbacks_scripts scripts (n + 1) kinds)

target_scripts : (scripts : List Script) (n : ℕ) (target : PlanTarget) → scripts_of_target (target_in scripts (stored_target n target)) ≡ scripts_from scripts n (target_size target)
target_scripts scripts n target =
    callbacks_scripts scripts n (map (λ (c : Callback). c.which) target.callbacks) ∙ ap (scripts_from scripts n) (length-map target.callbacks (λ (c : Callback). c.which))

pub targets_more : (target : PlanTarget) (targets : List PlanTarget) → target_size target + length (scripts_of_targets targets) ≡ length (scripts_of_targets (target ∷ targets))
targets_more target targets =
    omega (arith, length-append (scripts_of_target target) (scripts_of_targets targets), length-map target.callbacks (λ (c : Callback). c.script))

pub patches_more : (patch : PlanPatch) (patches : List PlanPatch) → patch_size patch + length (scripts_of patches) ≡ length (scripts_of (patch ∷ patches))
patches_more patch patches = omega (arith, length-append (scripts_of_targets patch.targets) (scripts_of patches))

targets_scripts : (scripts : List Script) (n : ℕ) (targets : List PlanTarget)
    → scripts_of_targets (map (target_in scripts) (stored_targets n targets)) ≡ scripts_from scripts n (length (scripts_of_targets targets))
targets_scripts scripts n [] = refl
targets_scripts scripts n (target ∷ targets) =
    ap (λ s. s ++ scripts_of_targets (map (target_in scripts) (stored_targets (n + target_size target) targets))) (target_scripts scripts n target)
    ∙ ap (scripts_from scripts n (target_size target) ++◌) (targets_scripts scripts (n + target_size target) targets)
    ∙ scripts_parted scripts n (target_size target) (length (scripts_of_targets targets)) ∙ ap (scripts_from scripts n) (targets_more target targets)

patches_scripts : (names : List ObjectNames) (scripts : List Script) (n : ℕ) (patches : List PlanPatch)
    → scripts_of (patches_in scripts (stored_patches names n patches)) ≡ scripts_from scripts n (length (scripts_of patches))
patches_scripts names scripts n [] = refl
patches_scripts names scripts n (patch ∷ patches) =
    ap (λ s. s ++ scripts_of (patches_in scripts (stored_patches names (n + patch_size patch) patches))) (targets_scripts scripts n patch.targets)
    ∙ ap (scripts_from scripts n (patch_size patch) ++◌) (patches_scripts names scripts (n + patch_size patch) patches)
    ∙ scripts_parted scripts n (patch_size patch) (length (scripts_of patches)) ∙ ap (scripts_from scripts n) (patches_more patch patches)

scripts_behind : (script : Script) (scripts : List Script) (n more : ℕ) → scripts_from (script ∷ scripts) (n + 1) more ≡ scripts_from scripts n more
scripts_behind script scripts n zero = refl
scripts_behind script scripts n (suc more) =
    let same : n + 1 ≡ suc n = omega arith in
    ap (λ m. script_number (script ∷ scripts) m ∷ scripts_from (script ∷ scripts) ((n + 1) + 1) more) same
    ∙ ap (script_number scripts n ∷◌) (scripts_behind script scripts (n + 1) more)

all_scripts : (scripts : List Script) → scripts_from scripts 0 (length scripts) ≡ scripts
all_scripts [] = refl
all_scripts (script ∷ scripts) = ap (script ∷◌) (scripts_behind script scripts 0 (length scripts) ∙ all_scripts scripts)

pub scripts_again : (names : List ObjectNames) (scripts : List Script) (patches : List PlanPatch) → length (scripts_of patches) ≡ length scripts
    → scripts_of (patches_in scripts (stored_patches names 0 patches)) ≡ scripts
scripts_again names scripts patches same = patches_scripts names scripts 0 patches ∙ ap (scripts_from scripts 0) same ∙ all_scripts scripts

-- there is a count for each callback
pub counted_each : (names : List ObjectNames) (callbacks : List LentCallback) (patches : List PlanPatch) → length (scripts_of patches) ≡ length callbacks
    → HasCounts (patches_in (lent_scripts callbacks) (stored_patches names 0 patches)) (lent_counts callbacks)
counted_each names callbacks patches same =
    let scripts : length (scripts_of patches) ≡ length (lent_scripts callbacks) = same ∙ sym (length-map callbacks (λ (t : LentCallback). t.script)) in
    omega (
      arith,
      ids_sized (patches_in (lent_scripts callbacks) (stored_patches names 0 patches)),
      ap length (scripts_again names (lent_scripts callbacks) patches scripts),
      length-map callbacks (λ (t : LentCallback). t.script),
      length-map callbacks (λ (t : LentCallback). t.runs),
    )

-- what is kept of a plan's patches, with callbacks that came in
pub stored_for : (names : List ObjectNames) (symbols : List ℕ) (stored : List StoredPatch) (callbacks : List LentCallback) (patches : List PlanPatch)
    → symbols ≡ take 256 (map symbol_count names) → stored ≡ stored_patches names 0 patches
    → length (scripts_of patches) ≡ length callbacks → AreFew patches → some_same_site names patches ≡ false
    → IsStored names symbols stored (lent_scripts callbacks) (lent_counts callbacks)
stored_for names symbols stored callbacks patches sizes kept number few apart =
    let scripts = lent_scripts callbacks in
    let again : map without_scripts (patches_in scripts stored) ≡ map without_scripts patches =
    ap (λ s. map without_scripts (patches_in scripts s)) kept ∙ patches_again names scripts 0 patches in
    record {
      sizes = sizes;
      kept = kept ∙ sym (same_stored names 0 (patches_in scripts stored) patches again);
      few = few_same (patches_in scripts stored) patches again few;
      apart = same_sites names (patches_in scripts stored) patches again ∙ apart;
      counted = subst (λ s. HasCounts (patches_in scripts s) (lent_counts callbacks)) (sym kept) (counted_each names callbacks patches number);
    }

-- ---- the loops: one more is made of the first that is left

pub placed_next : {A S : Type 0} (make : ℕ → A → S) (size : A → ℕ) (n next : ℕ) (done pushed all : List S) (x : A) (made : S) (left rest : List A)
    → done ++ placed make size n left ≡ all → left ≡ x ∷ rest → pushed ≡ done ++ made ∷ [] → made ≡ make n x → next ≡ n + size x
    → pushed ++ placed make size next rest ≡ all
placed_next make size n next done pushed all x made left rest so_far split is same goes_on =
    ap (λ m. m ++ placed make size next rest) is ∙ append_assoc done (made ∷ []) (placed make size next rest)
    ∙ (λ i. done ++ same i ∷ placed make size (goes_on i) rest)
    ∙ sym (ap (λ l. done ++ placed make size n l) split) ∙ so_far

pub or_made : (so_far here later : Bool) → ((so_far || here) || later) ≡ (so_far || (here || later))
or_made true here later = refl
or_made false here later = refl

-- fewer callbacks than these scripts are fewer than all
pub short_more : (scripts all callbacks end : ℕ) (fault : AssembleFault) → scripts ≤ all → callbacks ≡ end → IsShort scripts callbacks fault → IsShort all end fault
short_more scripts all callbacks end WrongCallbacks more same short = omega (arith, more, same, short)
short_more scripts all callbacks end SameSite more same short = short
short_more scripts all callbacks end NoMemory more same short = short

pub short_fault : (names : List ObjectNames) (patches : List PlanPatch) (scripts callbacks end : ℕ) (fault : AssembleFault) → scripts ≤ length (scripts_of patches) → callbacks ≡ end
    → IsShort scripts callbacks fault → IsAssembleFault names patches end fault
short_fault names patches scripts callbacks end WrongCallbacks more same short = λ all. omega (arith, more, same, short, all)
short_fault names patches scripts callbacks end SameSite more same short = absurd short
short_fault names patches scripts callbacks end NoMemory more same short = short

-- what is told of a catalog that is made of a plan's patches
pub record IsMade (callbacks : List LentCallback) (stored : List StoredPatch) (given : List PlanPatch) : Type 0 where
  pub patches : map without_scripts (patches_in (lent_scripts callbacks) stored) ≡ map without_scripts given
  pub scripts : scripts_of (patches_in (lent_scripts callbacks) stored) ≡ lent_scripts callbacks
  pub shape : HasCounts (patches_in (lent_scripts callbacks) stored) (lent_counts callbacks)
  pub limits : AreWithin (patches_in (lent_scripts callbacks) stored)

pub stored_again : (names : List ObjectNames) (stored : List StoredPatch) (callbacks : List LentCallback) (patches : List PlanPatch)
    → stored ≡ stored_patches names 0 patches → length (scripts_of patches) ≡ length callbacks → AreFew patches → IsMade callbacks stored patches
stored_again names stored callbacks patches kept number few =
    let scripts : length (scripts_of patches) ≡ length (lent_scripts callbacks) = number ∙ sym (length-map callbacks (λ (t : LentCallback). t.script)) in
    let again = patches_again names (lent_scripts callbacks) 0 patches in
    subst (λ s. IsMade callbacks s patches) (sym kept)
    (record {
      patches = again;
      scripts = scripts_again names (lent_scripts callbacks) patches scripts;
      shape = counted_each names callbacks patches number;
      limits = few_same (patches_in (lent_scripts callbacks) (stored_patches names 0 patches)) patches again few;
    })
