-- What the list assures is so of the text.
use Rattle.std.proofs.Common.{◌≡◌, ℕ, ◌-◌, ◌≤◌, Bool, true, false, not, ◌&&◌, List, length, map, Option, Some, None, Ok, refl, sym, ap, subst, ◌∙◌, arith}
use Rattle.std.specs.List.{list_any}
use Rattle.klp_types.specs.declared.limits.TheConstants.{MAX_PATCHES}
use Rattle.klp_types.specs.Image.{Image, Object}
use Rattle.klp_types.specs.Setting.{Setting}
use Rattle.klp_modules.specs.Names.{names_of}
use Rattle.klp_catalog_text.specs.Plan.{Plan, PlanPatch}
use Rattle.klp_catalog_text.specs.Text.{plan_of}
use Rattle.klp_catalog.specs.Catalog.{setting_patch, patches_of}
use Rattle.klp_catalog.specs.Assembled.{without_scripts}
use Rattle.klp_catalog_text.specs.Scripts.{scripts_of}
use Rattle.klp_model.specs.State.{State}
use Rattle.klp_model.specs.Opening.{opening_state}
use Rattle.klp_manager_state.specs.Managed.{Managed, setting_of}
use Rattle.klp_core.specs.Journaled.{Journaled}
use Rattle.klp_boot.specs.Booted.{IsBootedOver}
use Rattle.klp_lint.specs.Premises.{ArePatchesOf}
use Rattle.klp_lint_findings.specs.declared.linted.NamedText.{NamedText}
use Rattle.klp_lint_findings.specs.declared.linted.LintInput.{LintInput}
use Rattle.klp_lint_findings.specs.declared.linted.Linted.{Linted}
use Rattle.klp_lint_worlds.specs.declared.lint_plan.LintPlan.{LintPlan}
use Rattle.klp_lint_findings.specs.declared.findings.Findings.{Findings}
use Rattle.klp_lint_findings.specs.Deciding.{is_unknown, is_clean}
use Rattle.klp_lint_findings.specs.Marking.{has_unknown}
use Rattle.klp_lint_findings.specs.Sound.{one_decides}
use Rattle.klp_lint_worlds.specs.Worlds.{with_modules, world_state, one_is_refused, IsReady, Assures, AssuresAll, AreAllTrue, AllListed}
use Rattle.klp_lint_worlds.specs.Whole.{setting_of_plan, modules_in, AreReady, IsClean, IsCleanText, IsReadFrom, AreSo, AreSoOver, AreSoOfText, AreListedOver, AreListedOfText}
use Rattle.klp_lint_findings.specs.Listed.{IsFairOrListed}
use Rattle.klp_lint_findings.specs.Standing.{sealed}
use Rattle.klp_lint_worlds.proofs.TruthLemmas.{so_of}

-- what a booted manager has is what its plan says
setting_is : (plan : Plan) (booted : Journaled) → IsBootedOver plan booted → ArePatchesOf (setting_of booted.managed) plan.patches
    → setting_of booted.managed ≡ setting_of_plan plan
setting_is plan booted is patches =
    let over : patches_of booted.managed.catalog ≡ map (setting_patch (names_of plan.objects)) plan.patches =
    patches ∙ ap (λ (i : Image). map (setting_patch (names_of i.objects)) plan.patches) is.image in
    λ i. record { image = is.image i; patches = over i }

-- a list that makes the status 0 has no finding that decides
calm : (said : Bool) (unknown : Bool) (refused : Bool) → (refused ≡ true → said ≡ true)
    → (not said && not unknown) ≡ true → refused ≡ false
calm said unknown false reported clean = refl
calm true unknown true reported clean = absurd (cc)
calm false unknown true reported clean = let no = reported refl in absurd (cc)

-- nor does a mark say that something isn't known
none_unknown : (said : Bool) (unknown : Bool) → (not said && not unknown) ≡ true → unknown ≡ false
none_unknown true unknown clean = absurd (cc)
none_unknown false true clean = absurd (cc)
none_unknown false false clean = refl

-- a list assures that each patch is ready in a state
ready_in : (plan : Plan) (booted : Journaled) (state : State) (found : Findings) → setting_of booted.managed ≡ setting_of_plan plan
    → ArePatchesOf (setting_of booted.managed) found.linted.patches.now
    → is_clean found.said.items found.linted.marks.now ≡ true
    → Assures (setting_of booted.managed) state (length plan.patches) found → AreReady plan state
ready_in plan booted state found same patches clean vouches = λ patch below.
    subst (λ (s : Setting). IsReady s state patch) same (vouches.ready patches clean patch below)

clean_over : (plan : Plan) (booted : Journaled) (script : Option NamedText) (found : Findings) → IsBootedOver plan booted
    → setting_of booted.managed ≡ setting_of_plan plan
    → ArePatchesOf (setting_of booted.managed) found.linted.patches.now
    → is_clean found.said.items found.linted.marks.now ≡ true
    → AssuresAll booted script (modules_in plan) (length plan.patches) found → IsClean plan script
clean_over plan booted None found is same patches clean vouches =
    let first : booted.managed.state ≡ opening_state (setting_of_plan plan) = is.state ∙ ap opening_state same in (
      subst (AreReady plan) first (ready_in plan booted booted.managed.state found same patches clean vouches.0),
      subst (λ (s : State). AreReady plan (with_modules (setting_of_plan plan) s (modules_in plan))) first
          (subst (λ (s : Setting). AreReady plan (with_modules s booted.managed.state (modules_in plan))) same
          (ready_in plan booted (with_modules (setting_of booted.managed) booted.managed.state (modules_in plan)) found same patches clean vouches.1)),
    )
clean_over plan booted (Some script) found is same patches clean (there, scripted, kept, vouches) = (
  there.managed.state,
  record {
    booted = booted;
    is_booted = is;
    there = there;
    answers = scripted.answers;
    answered = scripted.answered;
    none_refused = calm (one_decides found.said.items) (list_any is_unknown found.linted.marks.now) (one_is_refused scripted.answers) scripted.refused clean;
    is_state = refl;
  },
  ready_in plan booted there.managed.state found same patches clean vouches,
)

-- the whole: what was read is what was booted
pub clean_text : (text : List ℕ) (script : Option NamedText) (plan : Plan) (booted : Journaled) (modules : ℕ) (patches : List PlanPatch) (found : Findings)
    → plan_of text ≡ Ok plan → IsBootedOver plan booted → ArePatchesOf (setting_of booted.managed) plan.patches
    → patches ≡ plan.patches → found.linted.patches.now ≡ patches → length plan.patches ≤ MAX_PATCHES → modules ≡ modules_in plan
    → list_any is_unknown found.linted.marks.now ≡ has_unknown text
    → (length patches ≤ 256 → AssuresAll booted script modules (length patches) found)
    → is_clean found.said.items found.linted.marks.now ≡ true → IsCleanText text script
clean_text text script plan booted modules patches found planned is over read linted few counted marked vouches clean =
    let fits : length patches ≤ 256 = omega (arith, few, ap length read) in
    let own : ArePatchesOf (setting_of booted.managed) found.linted.patches.now = subst (ArePatchesOf (setting_of booted.managed)) (sym (linted ∙ read)) over in
    record {
      plan = plan;
      is_plan = planned;
      clean = clean_over plan booted script found is (setting_is plan booted is over) own clean
          (subst (λ (m : ℕ). AssuresAll booted script m (length plan.patches) found) counted
          (subst (λ (ps : List PlanPatch). AssuresAll booted script modules (length ps) found) read (vouches fits)));
      all_known = sym marked ∙ none_unknown (one_decides found.said.items) (list_any is_unknown found.linted.marks.now) clean;
    }

same_plan : (text : List ℕ) (one two : Plan) → plan_of text ≡ Ok one → plan_of text ≡ Ok two → one ≡ two
same_plan text one two first second = let both : Ok one ≡ plan_of text = sym first in cc

-- what a manager was booted for, over the text that was read
pub found_clean : (input : LintInput) (read : LintPlan) (linted : Linted) (modules : ℕ) (plan : Plan) (booted : Journaled) (found : Findings)
    → ((managed : Managed) (patches : List PlanPatch) → managed.catalog.names ≡ names_of managed.image.objects
    → map without_scripts managed.catalog.patches ≡ map without_scripts patches
    → scripts_of managed.catalog.patches ≡ scripts_of patches → ArePatchesOf (setting_of managed) patches)
    → linted.input ≡ input → linted.patches.now ≡ read.patches.items → linted.marks.now ≡ read.marks.items → modules ≡ length read.objects.items - 1
    → plan_of input.catalog.bytes.now ≡ Ok plan → IsBootedOver plan booted
    → found.linted ≡ linted
    → (length linted.patches.now ≤ 256 → AssuresAll booted linted.input.script modules (length linted.patches.now) found)
    → IsReadFrom input.catalog.bytes.now read → is_clean found.said.items found.linted.marks.now ≡ true
    → IsCleanText input.catalog.bytes.now input.script
found_clean input read linted modules plan booted found law given patches marks counted planned is same assures from clean =
    let text = input.catalog.bytes.now in
    let one : from.plan ≡ plan = same_plan text from.plan plan from.is_plan planned in
    let over = law booted.managed plan.patches (is.names ∙ sym (ap (λ (i : Image). names_of i.objects) is.image)) is.patches is.scripts in
    clean_text text input.script plan booted modules linted.patches.now found planned is over
    (patches ∙ from.patches ∙ ap (λ (p : Plan). p.patches) one)
    (ap (λ (l : Linted). l.patches.now) same)
    (subst (λ (p : Plan). length p.patches ≤ MAX_PATCHES) one from.few)
    (counted ∙ ap (λ (os : List Object). length os - 1) (from.objects ∙ ap (λ (p : Plan). p.objects) one))
    (ap (λ (l : Linted). list_any is_unknown l.marks.now) same ∙ ap (list_any is_unknown) marks ∙ from.unknown)
    (λ few. subst (λ (i : LintInput). AssuresAll booted i.script modules (length linted.patches.now) found) given (assures few))
    clean

-- each finding is so of the text, if it is true of the manager that was booted over the text
so_over : (plan : Plan) (booted : Journaled) (script : Option NamedText) (found : Findings) → IsBootedOver plan booted
    → setting_of booted.managed ≡ setting_of_plan plan
    → ArePatchesOf (setting_of booted.managed) found.linted.patches.now
    → AreAllTrue booted script (modules_in plan) found → AreSoOver plan script found
so_over plan booted None found is same patches truth =
    let modules = modules_in plan in
    let first : booted.managed.state ≡ opening_state (setting_of_plan plan) = is.state ∙ ap opening_state same in
    subst (λ (s : State). AreSo (λ full. sealed (setting_of_plan plan) (world_state (setting_of_plan plan) s modules full)) found) first
    (subst (λ (s : Setting). AreSo (λ full. sealed s (world_state s booted.managed.state modules full)) found) same
    (so_of (λ full. sealed (setting_of booted.managed) (world_state (setting_of booted.managed) booted.managed.state modules full)) found
    (λ full. patches) truth))
so_over plan booted (Some script) found is same patches (there, scripted, kept, truth) = (
  there.managed.state,
  record {
    booted = booted;
    is_booted = is;
    there = there;
    answers = scripted.answers;
    answered = scripted.answered;
    is_state = refl;
  },
  subst (λ (s : Setting). AreSo (λ full. sealed s there.managed.state) found) same
      (so_of (λ full. sealed (setting_of booted.managed) there.managed.state) found (λ full. patches) truth),
)

-- the same of a manager that was booted for it, over the text that was read
pub found_so : (input : LintInput) (read : LintPlan) (linted : Linted) (modules : ℕ) (plan : Plan) (booted : Journaled) (found : Findings)
    → ((managed : Managed) (patches : List PlanPatch) → managed.catalog.names ≡ names_of managed.image.objects
    → map without_scripts managed.catalog.patches ≡ map without_scripts patches
    → scripts_of managed.catalog.patches ≡ scripts_of patches → ArePatchesOf (setting_of managed) patches)
    → linted.input ≡ input → linted.patches.now ≡ read.patches.items → modules ≡ length read.objects.items - 1
    → plan_of input.catalog.bytes.now ≡ Ok plan → IsBootedOver plan booted → found.linted ≡ linted
    → AreAllTrue booted linted.input.script modules found
    → IsReadFrom input.catalog.bytes.now read → AreSoOfText input.catalog.bytes.now input.script found
found_so input read linted modules plan booted found law given patches counted planned is same truth from =
    let text = input.catalog.bytes.now in
    let one : from.plan ≡ plan = same_plan text from.plan plan from.is_plan planned in
    let over = law booted.managed plan.patches (is.names ∙ sym (ap (λ (i : Image). names_of i.objects) is.image)) is.patches is.scripts in
    let read_as : found.linted.patches.now ≡ plan.patches =
    ap (λ (l : Linted). l.patches.now) same ∙ patches ∙ from.patches ∙ ap (λ (p : Plan). p.patches) one in
    let own : ArePatchesOf (setting_of booted.managed) found.linted.patches.now = subst (ArePatchesOf (setting_of booted.managed)) (sym read_as) over in
    let many : modules ≡ modules_in plan =
    counted ∙ ap (λ (os : List Object). length os - 1) (from.objects ∙ ap (λ (p : Plan). p.objects) one) in
    record {
      plan = plan;
      is_plan = planned;
      so = so_over plan booted input.script found is (setting_is plan booted is over) own
          (subst (λ (m : ℕ). AreAllTrue booted input.script m found) many
          (subst (λ (i : LintInput). AreAllTrue booted i.script modules found) given truth));
    }

-- the list says of each patch of the text what it says of those of the manager that was booted over the text
listed_over : (plan : Plan) (booted : Journaled) (script : Option NamedText) (found : Findings) → IsBootedOver plan booted
    → setting_of booted.managed ≡ setting_of_plan plan
    → ArePatchesOf (setting_of booted.managed) found.linted.patches.now
    → AllListed booted script (modules_in plan) (length plan.patches) found → AreListedOver plan script found
listed_over plan booted None found is same patches lists =
    let modules = modules_in plan in
    let first : booted.managed.state ≡ opening_state (setting_of_plan plan) = is.state ∙ ap opening_state same in
    λ full patch below.
    subst (λ (s : State). IsFairOrListed (setting_of_plan plan) (world_state (setting_of_plan plan) s modules full) patch full found) first
    (subst (λ (s : Setting). IsFairOrListed s (world_state s booted.managed.state modules full) patch full found) same
    ((lists full patch below).listed patches))
listed_over plan booted (Some script) found is same patches (there, scripted, kept, lists) = (
  there.managed.state,
  record {
    booted = booted;
    is_booted = is;
    there = there;
    answers = scripted.answers;
    answered = scripted.answered;
    is_state = refl;
  },
  λ full patch below.
      subst (λ (s : Setting). IsFairOrListed s there.managed.state patch full found) same ((lists full patch below).listed patches),
)

pub found_listed : (input : LintInput) (read : LintPlan) (linted : Linted) (modules : ℕ) (plan : Plan) (booted : Journaled) (found : Findings)
    → ((managed : Managed) (patches : List PlanPatch) → managed.catalog.names ≡ names_of managed.image.objects
    → map without_scripts managed.catalog.patches ≡ map without_scripts patches
    → scripts_of managed.catalog.patches ≡ scripts_of patches → ArePatchesOf (setting_of managed) patches)
    → linted.input ≡ input → linted.patches.now ≡ read.patches.items → modules ≡ length read.objects.items - 1
    → plan_of input.catalog.bytes.now ≡ Ok plan → IsBootedOver plan booted → found.linted ≡ linted
    → (length linted.patches.now ≤ 256 → AllListed booted linted.input.script modules (length linted.patches.now) found)
    → IsReadFrom input.catalog.bytes.now read → AreListedOfText input.catalog.bytes.now input.script found
found_listed input read linted modules plan booted found law given patches counted planned is same lists from =
    let text = input.catalog.bytes.now in
    let one : from.plan ≡ plan = same_plan text from.plan plan from.is_plan planned in
    let over = law booted.managed plan.patches (is.names ∙ sym (ap (λ (i : Image). names_of i.objects) is.image)) is.patches is.scripts in
    let read_as : linted.patches.now ≡ plan.patches = patches ∙ from.patches ∙ ap (λ (p : Plan). p.patches) one in
    let own : ArePatchesOf (setting_of booted.managed) found.linted.patches.now =
    subst (ArePatchesOf (setting_of booted.managed)) (sym (ap (λ (l : Linted). l.patches.now) same ∙ read_as)) over in
    let many : modules ≡ modules_in plan =
    counted ∙ ap (λ (os : List Object). length os - 1) (from.objects ∙ ap (λ (p : Plan). p.objects) one) in
    let few : length plan.patches ≤ MAX_PATCHES = subst (λ (p : Plan). length p.patches ≤ MAX_PATCHES) one from.few in
    let fits : length linted.patches.now ≤ 256 = omega (arith, few, ap length read_as) in
    record {
      plan = plan;
      is_plan = planned;
      listed = listed_over plan booted input.script found is (setting_is plan booted is over) own
          (subst (λ (m : ℕ). AllListed booted input.script m (length plan.patches) found) many
          (subst (λ (ps : List PlanPatch). AllListed booted input.script modules (length ps) found) read_as
          (subst (λ (i : LintInput). AllListed booted i.script modules (length linted.patches.now) found) given (lists fits))));
    }
