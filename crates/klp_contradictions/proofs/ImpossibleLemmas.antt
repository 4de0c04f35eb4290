-- No honest run shows what the laws of consistency exclude.
use Rattle.std.proofs.Common.{◌≡◌, ℕ, ℤ, pos, negsuc, Bool, true, false, not, ◌&&◌, ◌||◌, List, [], ◌∷◌, ◌++◌, map, reverse, Option, Some, None, is_some, refl, sym, ap, subst, ◌∙◌}
use Rattle.std.specs.Prelude.{◌==◌, if◌then◌else◌, option_map}
use Rattle.std.specs.List.{list_any}
use Rattle.std.proofs.lemmas.Bool.{eq-eqb, eqb-true, or_parts, and_parts, both_ways}
use Rattle.klp_types.specs.declared.version.Version.TheVariants.{Original, New}
use Rattle.klp_types.specs.declared.version.Entry.{Entry}
use Rattle.klp_types.specs.declared.version.Target.{Target}
use Rattle.klp_types.specs.declared.version.Transition.{Transition}
use Rattle.klp_types.specs.Setting.{Setting, functions_of, function_for, replaces}
use Rattle.klp_types.specs.World.{Installed}
use Rattle.klp_types.specs.Entries.{entry_of, patches_site, entries_from}
use Rattle.klp_types.specs.Pick.{moves, is_unpatched, entries_for, version_of, newest_version}
use Rattle.klp_types.proofs.EntryLemmas.{has_entry, list_any-reverse, entries-of_patches}
use Rattle.klp_model.specs.State.{State, installed_patches, is_installed, is_moving}
use Rattle.klp_model.specs.Entries.{entries_of, is_site_loaded}
use Rattle.klp_model.specs.Pick.{pick_by}
use Rattle.klp_model.specs.Blocked.{is_version}
use Rattle.klp_model.specs.Refusals.{enabled_value}
use Rattle.klp_model.specs.Allowed.{Allowed, AreAbove, AreStacked, is_one_of, is_right_state, are_right_frames, is_right_task}
use Rattle.klp_model.specs.Refusals.{accepts}
use Rattle.klp_model.specs.declared.event.Event.{Event}
use Rattle.klp_model.specs.declared.event.Event.TheVariants.{NewTask, Fork}
use Rattle.klp_model.specs.declared.seen.Seen.{Seen}
use Rattle.klp_model.specs.declared.seen.Seen.TheVariants.{Event as Happens, Call as Calls, Return as Returns}
use Rattle.klp_model.specs.Observed.{Frame, Stacks, Watched, versions, with_frames, begun, seen_next, seen_run}
use Rattle.klp_model.specs.Consistent.{AreCurrent, AllCurrent, is_number, HasEntryIn, AllHaveEntries, NoneLeft, is_of_patch, NoneOfPatch, NoneMixed, site_of, AreNamed, AllNamed}
use Rattle.klp_model.proofs.OrderLemmas.{equal_either_way}
use Rattle.klp_model.proofs.TaskLemmas.{right_at}
use Rattle.klp_model.proofs.VersionLemmas.{version_for}
use Rattle.klp_model.proofs.PickLemmas.{now, current}
use Rattle.klp_model.proofs.ObservedLemmas.{kept_from, are_current}
use Rattle.klp_model.proofs.LeftLemmas.{none_left, is_version-true}
use Rattle.klp_model.proofs.MixedLemmas.{none_mixed, versions_named}
use Rattle.klp_capture.specs.declared.line.PatchedState.{PatchedState}
use Rattle.klp_capture.specs.declared.line.PatchedState.TheVariants.{Undefined, Unpatched, Patched}
use Rattle.klp_contradictions.specs.Impossible.{files_of, number_of, IsMoment, HasTask, IsInside, GivesNoneBack, NeverInNew, NeverInOriginal, NeverWhile, NeverAboveOlder, is_by}

-- what the files of a patch say of the state
absent : (there : Bool) (read : Bool × Bool) → there ≡ true → (if there then Some read else None) ≡ None → ⊥
absent true read is e = cc
absent false read is e = cc

read_is : (there : Bool) (read files : Bool × Bool) → (if there then Some read else None) ≡ Some files → (there ≡ true) × (read ≡ files)
read_is true read files e = let same : read ≡ files = cc in (refl, same)
read_is false read files e = cc

pub moving_by : (state : State) (patch : ℕ) (enabled moving : Bool) → files_of state patch ≡ Some (enabled, moving) → moves state.moving patch ≡ moving
moving_by state patch enabled moving e =
    ap (λ p. p.1) (read_is (is_installed state patch) (enabled_value state patch, moves state.moving patch) (enabled, moving) e).1

-- an installed patch is one of the list of numbers
any_of : (patch : ℕ) (installed : List Installed) → list_any (λ (i : Installed). i.patch == patch) installed ≡ is_one_of patch (map (λ (i : Installed). i.patch) installed)
any_of patch [] = refl
any_of patch (i ∷ installed) = ap (λ b. (i.patch == patch) || b) (any_of patch installed)

installed_by : (state : State) (patch : ℕ) (files : Bool × Bool) → files_of state patch ≡ Some files → is_one_of patch (installed_patches state) ≡ true
installed_by state patch files e =
    sym (any_of patch state.world.installed) ∙ (read_is (is_installed state patch) (enabled_value state patch, moves state.moving patch) files e).0

pub not_true : (b : Bool) → not b ≡ true → b ≡ false
not_true true e = cc
not_true false e = refl

or_right : (a b : Bool) → b ≡ true → (a || b) ≡ true
or_right true b e = refl
or_right false b e = e

or_left : (a b : Bool) → a ≡ true → (a || b) ≡ true
or_left true b e = refl
or_left false b e = cc

left_of : (a b : Bool) → b ≡ false → (a || b) ≡ true → a ≡ true
left_of true b is e = refl
left_of false b is e = sym is ∙ e

and_false : (b : Bool) → (b && false) ≡ false
and_false true = refl
and_false false = refl

-- an entry of a function is an entry of its patch
of_patch : (patch function : ℕ) (entries : List Entry) → list_any (λ (e : Entry). e.patch == patch && is_number e.func function) entries ≡ true → has_entry patch entries ≡ true
of_patch patch function [] e = e
of_patch patch function (entry ∷ entries) e = by (entry.patch == patch) e (of_patch patch function entries)
  where
    by : (t : Bool) → ((t && is_number entry.func function) || list_any (λ (e : Entry). e.patch == patch && is_number e.func function) entries) ≡ true
        → (list_any (λ (e : Entry). e.patch == patch && is_number e.func function) entries ≡ true → has_entry patch entries ≡ true)
        → (t || has_entry patch entries) ≡ true
    by true e rest = refl
    by false e rest = rest e

-- a patch that isn't installed has no entry
installed_of : (setting : Setting) (state : State) (site patch function : ℕ) → HasEntryIn (entries_of setting state site) (New patch function)
    → is_one_of patch (installed_patches state) ≡ true
installed_of setting state site patch function has = by (is_site_loaded setting state site) has
  where
    by : (t : Bool) → HasEntryIn (if t then entries_from setting site (reverse (installed_patches state)) else []) (New patch function)
        → is_one_of patch (installed_patches state) ≡ true
    by true has =
        sym (list_any-reverse (λ p. p == patch) (installed_patches state))
        ∙ entries-of_patches setting site patch (reverse (installed_patches state)) (of_patch patch function (entries_from setting site (reverse (installed_patches state))) has)
    by false has = cc

inside_installed : (setting : Setting) (state : State) (patch function : ℕ) (frames : List Frame) → AllHaveEntries setting state frames
    → list_any (is_version (New patch function)) (versions frames) ≡ true → is_one_of patch (installed_patches state) ≡ true
inside_installed setting state patch function [] all e = cc
inside_installed setting state patch function (frame ∷ frames) all e =
    by (is_version (New patch function) frame.version) refl e (inside_installed setting state patch function frames all.1)
  where
    by : (t : Bool) → is_version (New patch function) frame.version ≡ t → (t || list_any (is_version (New patch function)) (versions frames)) ≡ true
        → (list_any (is_version (New patch function)) (versions frames) ≡ true → is_one_of patch (installed_patches state) ≡ true)
        → is_one_of patch (installed_patches state) ≡ true
    by true is e rest =
        installed_of setting state frame.site patch function
        (subst (HasEntryIn (entries_of setting state frame.site)) (sym (is_version-true (New patch function) frame.version is)) all.0)
    by false is e rest = rest e

inside_none : (moving patch function : ℕ) (frames : List Frame) → moving ≡ patch → NoneOfPatch moving frames
    → list_any (is_version (New patch function)) (versions frames) ≡ true → ⊥
inside_none moving patch function [] same none e = cc
inside_none moving patch function (frame ∷ frames) same none e =
    by (is_version (New patch function) frame.version) refl e (inside_none moving patch function frames same none.1)
  where
    by : (t : Bool) → is_version (New patch function) frame.version ≡ t → (t || list_any (is_version (New patch function)) (versions frames)) ≡ true
        → (list_any (is_version (New patch function)) (versions frames) ≡ true → ⊥) → ⊥
    by true is e rest =
        both_ways (patch == moving) (ap (is_of_patch moving) (is_version-true (New patch function) frame.version is) ∙ none.0) (eq-eqb patch moving (sym same))
    by false is e rest = rest e

-- an installed patch with a function for a site has an entry there
own_entry : (own patch : ℕ) (function : Option ℕ) (undoes : Bool) (older : List Entry) → (own == patch) ≡ true → is_some function ≡ true
    → has_entry patch (entry_of own function undoes ++ older) ≡ true
own_entry own patch (Some f) undoes older same some = or_left (own == patch) (has_entry patch older) same
own_entry own patch None undoes older same some = cc

older_entry : (own patch : ℕ) (function : Option ℕ) (undoes : Bool) (older : List Entry) → has_entry patch older ≡ true
    → has_entry patch (entry_of own function undoes ++ older) ≡ true
older_entry own patch (Some f) undoes older e = or_right (own == patch) (has_entry patch older) e
older_entry own patch None true older e = or_right (own == patch) (has_entry patch older) e
older_entry own patch None false older e = e

has_own : (setting : Setting) (site patch : ℕ) (patches : List ℕ) → patches_site setting site patch ≡ true → is_one_of patch patches ≡ true
    → has_entry patch (entries_from setting site patches) ≡ true
has_own setting site patch [] has e = cc
has_own setting site patch (own ∷ older) has e = by (own == patch) refl e (has_own setting site patch older has)
  where
    undoes : Bool
    undoes = replaces setting own && list_any (patches_site setting site) older

    by : (t : Bool) → (own == patch) ≡ t → (t || is_one_of patch older) ≡ true
        → (is_one_of patch older ≡ true → has_entry patch (entries_from setting site older) ≡ true)
        → has_entry patch (entries_from setting site (own ∷ older)) ≡ true
    by true is e rest =
        own_entry own patch (function_for (functions_of setting own) site) undoes (entries_from setting site older) is
        (subst (λ p. patches_site setting site p ≡ true) (sym (eqb-true own patch is)) has)
    by false is e rest = older_entry own patch (function_for (functions_of setting own) site) undoes (entries_from setting site older) (rest e)

-- an entry with a function isn't the original
abbrev is_nop : Entry → Bool
is_nop e = not (is_some e.func)

new_entry : (site : ℕ) (entry : Entry) → is_nop entry ≡ false → version_of site entry.func entry.patch ≡ Original site → ⊥
new_entry site entry = by entry.func
  where
    by : (function : Option ℕ) → not (is_some function) ≡ false → version_of site function entry.patch ≡ Original site → ⊥
    by None none e = cc
    by (Some function) none e = cc

-- over a patch's own function that isn't passed over, and without nops, the newest entry isn't the original
never_original : (site patch : ℕ) (moving : Option Transition) (own : ℤ) (entries : List Entry) → has_entry patch entries ≡ true → list_any is_nop entries ≡ false
    → (moves moving patch && is_unpatched own) ≡ false → newest_version site (entries_for moving own entries) ≡ Original site → ⊥
never_original site patch moving own [] has none still e = cc
never_original site patch moving own (newest ∷ older) has none still e = by (moves moving newest.patch && is_unpatched own) refl e
  where
    behind : (others : List Entry) → ((newest.patch == patch) || has_entry patch others) ≡ true → list_any is_nop others ≡ false
        → (moves moving newest.patch && is_unpatched own) ≡ true → newest_version site others ≡ Original site → ⊥
    behind [] has none is e =
        both_ways (moves moving patch && is_unpatched own) still
        (subst (λ p. (moves moving p && is_unpatched own) ≡ true) (eqb-true newest.patch patch (left_of (newest.patch == patch) false refl has)) is)
    behind (second ∷ rest) has none is e = new_entry site second (or_parts (is_nop second) (list_any is_nop rest) none).0 e

    by : (t : Bool) → (moves moving newest.patch && is_unpatched own) ≡ t → newest_version site (if t then older else newest ∷ older) ≡ Original site → ⊥
    by true is e = behind older has (or_parts (is_nop newest) (list_any is_nop older) none).1 is e
    by false is e = new_entry site newest (or_parts (is_nop newest) (list_any is_nop older) none).0 e

-- a task inside of the original runs the original at this site
inside_original : (setting : Setting) (state : State) (own : ℤ) (site : ℕ) (frames : List Frame) → AreCurrent (now setting state own) frames → AreNamed setting frames
    → list_any (is_version (Original site)) (versions frames) ≡ true
    → (is_site_loaded setting state site ≡ true) × (version_for setting state.moving (installed_patches state) own site ≡ Original site)
inside_original setting state own site [] are named e = cc
inside_original setting state own site (frame ∷ frames) are named e =
    by (is_version (Original site) frame.version) refl e (inside_original setting state own site frames are.1 named.1)
  where
    Runs : Type 0
    Runs = (is_site_loaded setting state site ≡ true) × (version_for setting state.moving (installed_patches state) own site ≡ Original site)

    by : (t : Bool) → is_version (Original site) frame.version ≡ t → (t || list_any (is_version (Original site)) (versions frames)) ≡ true
        → (list_any (is_version (Original site)) (versions frames) ≡ true → Runs) → Runs
    by true is e rest =
        let version = is_version-true (Original site) frame.version is in
        let both : Some site ≡ Some frame.site = ap (site_of setting) version ∙ named.0 in
        let at : site ≡ frame.site = cc in
        let found = current setting (is_site_loaded setting state frame.site) state.moving (installed_patches state) own frame.site frame.version are.0 in
        subst (λ s. (is_site_loaded setting state s ≡ true) × (version_for setting state.moving (installed_patches state) own s ≡ Original site)) (sym at) (found.0, found.1 ∙ sym version)
    by false is e rest = rest e

-- of patches that have older ones, a cumulative one is in transition
moves_above : (setting : Setting) (moving : Option Transition) (patch : ℕ) (between newest : List ℕ) → AreAbove setting moving (between ++ patch ∷ newest)
    → replaces setting patch ≡ true → moves moving patch ≡ true
moves_above setting moving patch [] newest above replaces_all = (above.0 replaces_all).1
moves_above setting moving patch (other ∷ between) newest above replaces_all = moves_above setting moving patch between newest above.1 replaces_all

behind_above : (setting : Setting) (moving : Option Transition) (older : ℕ) (below rest : List ℕ) → AreAbove setting moving (below ++ older ∷ rest)
    → AreAbove setting moving rest
behind_above setting moving older [] rest above = above.1
behind_above setting moving older (other ∷ below) rest above = behind_above setting moving older below rest above.1

-- the patches above an older one are such patches
above_oldest : (setting : Setting) (moving : Option Transition) (older : ℕ) (oldest rest : List ℕ) → AreStacked setting moving (oldest ++ older ∷ rest)
    → AreAbove setting moving rest
above_oldest setting moving older [] rest stacked = stacked
above_oldest setting moving older (first ∷ below) rest stacked = behind_above setting moving older below rest stacked

module _ (setting : Setting) (w : Watched) (moment : IsMoment setting w) where
  allowed : Allowed setting w.state
  allowed = subst (λ (v : Watched). Allowed setting v.state) moment.then_is (kept_from setting moment.start moment.before moment.after moment.in_place moment.honest).0

  left : NoneLeft setting w
  left = subst (NoneLeft setting) moment.then_is (none_left setting moment.start moment.before moment.after moment.in_place moment.honest)

  mixed : NoneMixed setting w
  mixed = subst (NoneMixed setting) moment.then_is (none_mixed setting moment.start moment.before moment.after moment.in_place moment.honest)

  all_current : AllCurrent setting w
  all_current = subst (AllCurrent setting) moment.then_is (are_current setting moment.start moment.before moment.after moment.in_place moment.honest)

  all_named : AllNamed setting w
  all_named = subst (AllNamed setting) moment.then_is (versions_named setting moment.start moment.before moment.after moment.in_place moment.honest)

  pub never_in_absent : (patch function : ℕ) (own : ℤ) (it : HasTask w own) → IsInside w own it (New patch function) → files_of w.state patch ≡ None → ⊥
  never_in_absent patch function own it inside none =
      absent (is_installed w.state patch) (enabled_value w.state patch, moves w.state.moving patch)
      (any_of patch w.state.world.installed ∙ inside_installed setting w.state patch function (w.stacks it.number) (left it.number) inside) none

  pub never_too_new : (patch function : ℕ) (it : HasTask w (pos 0)) → IsInside w (pos 0) it (New patch function) → moves w.state.moving patch ≡ true → ⊥
  never_too_new patch function it inside moving = by w.state.moving refl moving
    where
      by : (o : Option Transition) → w.state.moving ≡ o → moves o patch ≡ true → ⊥
      by None is e = cc
      by (Some move) is e =
          inside_none move.patch patch function (w.stacks it.number) (eqb-true move.patch patch e) ((mixed it.number it.task it.there move is).0 it.state_is) inside

  current_in : (own : ℤ) (it : HasTask w own) → AreCurrent (now setting w.state own) (w.stacks it.number)
  current_in own it =
      subst (λ s. AreCurrent (now setting w.state s) (w.stacks it.number)) it.state_is
      (subst (λ o. AreCurrent (λ site. option_map (λ (t : Target). t.version) (pick_by setting w.state site o)) (w.stacks it.number)) it.there (all_current it.number))

  pub never_replaced : (patch site : ℕ) (own : ℤ) (it : HasTask w own) → IsInside w own it (Original site) → patches_site setting site patch ≡ true
      → GivesNoneBack setting w.state site → (files : Bool × Bool) → files_of w.state patch ≡ Some files
      → (moves w.state.moving patch && is_unpatched own) ≡ false → ⊥
  never_replaced patch site own it inside has none files read still =
      let found = inside_original setting w.state own site (w.stacks it.number) (current_in own it) (all_named it.number) inside in
      never_original site patch w.state.moving own (entries_from setting site (reverse (installed_patches w.state)))
      (has_own setting site patch (reverse (installed_patches w.state)) has
      (list_any-reverse (λ p. p == patch) (installed_patches w.state) ∙ installed_by w.state patch files read))
      (ap (λ l. list_any is_nop (if l then entries_from setting site (reverse (installed_patches w.state)) else [])) (sym found.0) ∙ none)
      still found.1

  state_right : (own : ℤ) → HasTask w own → is_right_state w.state.moving own ≡ true
  state_right own it =
      ap (is_right_state w.state.moving) (sym it.state_is)
      ∙ (and_parts (is_right_state w.state.moving it.task.state) (are_right_frames setting it.task)
      (ap (is_right_task setting w.state.moving) (sym it.there) ∙ right_at setting w.state.moving w.state.tasks it.number allowed.tasks)).0

  pub never_undefined : HasTask w (negsuc 0) → is_moving w.state ≡ true → ⊥
  never_undefined it moving = by w.state.moving moving (state_right (negsuc 0) it)
    where
      by : (o : Option Transition) → is_some o ≡ true → is_right_state o (negsuc 0) ≡ true → ⊥
      by None is e = cc
      by (Some move) is e = cc

  pub never_at_rest : (n : ℕ) → HasTask w (pos n) → is_moving w.state ≡ false → ⊥
  never_at_rest n it moving = by w.state.moving moving (state_right (pos n) it)
    where
      by : (o : Option Transition) → is_some o ≡ false → is_right_state o (pos n) ≡ true → ⊥
      by None is e = cc
      by (Some move) is e = cc

  pub never_above_older : (older patch : ℕ) (oldest between newest : List ℕ) → installed_patches w.state ≡ oldest ++ older ∷ (between ++ patch ∷ newest)
      → replaces setting patch ≡ true → moves w.state.moving patch ≡ false → ⊥
  never_above_older older patch oldest between newest are replaces_all settled =
      both_ways (moves w.state.moving patch) settled
      (moves_above setting w.state.moving patch between newest
      (above_oldest setting w.state.moving older oldest (between ++ patch ∷ newest) (subst (AreStacked setting w.state.moving) are allowed.stacked)) replaces_all)

-- the same as the contracts have it
pub in_new_absent : (own : PatchedState) → NeverInNew None own
in_new_absent own setting w patch function moment it inside read = never_in_absent setting w moment patch function (number_of own) it inside read

pub in_new_moving : (enabled : Bool) → NeverInNew (Some (enabled, true)) Unpatched
in_new_moving enabled setting w patch function moment it inside read = never_too_new setting w moment patch function it inside (moving_by w.state patch enabled true read)

pub in_original_installed : (enabled moving : Bool) (own : PatchedState) → (moving && is_unpatched (number_of own)) ≡ false → NeverInOriginal (Some (enabled, moving)) own
in_original_installed enabled moving own still setting w patch site moment it inside has none read =
    never_replaced setting w moment patch site (number_of own) it inside has none (enabled, moving) read
    (ap (λ b. b && is_unpatched (number_of own)) (moving_by w.state patch enabled moving read) ∙ still)

pub in_original_patched : (enabled moving : Bool) → NeverInOriginal (Some (enabled, moving)) Patched
in_original_patched enabled moving = in_original_installed enabled moving Patched (and_false moving)

pub in_original_settled : (enabled moving : Bool) (own : PatchedState) → not moving ≡ true → NeverInOriginal (Some (enabled, moving)) own
in_original_settled enabled true own settled = cc
in_original_settled enabled false own settled = in_original_installed enabled false own refl

pub while_moving : NeverWhile true Undefined
while_moving setting w moment it moving = never_undefined setting w moment it moving

pub while_none_moves : (own : PatchedState) (n : ℕ) → number_of own ≡ pos n → NeverWhile false own
while_none_moves own n is setting w moment it moving = never_at_rest setting w moment n (subst (HasTask w) is it) moving

pub above_older_settled : (enabled : Bool) → NeverAboveOlder (Some (enabled, false))
above_older_settled enabled setting w older patch oldest between newest moment are replaces_all read =
    never_above_older setting w moment older patch oldest between newest are replaces_all (moving_by w.state patch enabled false read)

-- what another task does leaves a task's frames
others_frames : (stacks : Stacks) (number : ℕ) (frames : List Frame) (task : ℕ) → (number == task) ≡ false → with_frames stacks number frames task ≡ stacks task
others_frames stacks number frames task other = ap (λ t. if t then frames else stacks task) (equal_either_way task number ∙ other)

begun_stays : (event : Event) (stacks : Stacks) (task : ℕ) → is_by task (Happens event) ≡ false → begun event stacks task ≡ stacks task
begun_stays (NewTask number) stacks task other = others_frames stacks number [] task other
begun_stays (Fork parent child) stacks task other = others_frames stacks child [] task other
begun_stays event stacks task other = refl

next_stays : (setting : Setting) (w : Watched) (item : Seen) (task : ℕ) → is_by task item ≡ false → (seen_next setting w item).stacks task ≡ w.stacks task
next_stays setting w (Happens event) task other = by (accepts setting w.state event)
  where
    by : (t : Bool) → (if t then begun event w.stacks else w.stacks) task ≡ w.stacks task
    by true = begun_stays event w.stacks task other
    by false = refl
next_stays setting w (Calls number site) task other = others_frames w.stacks number _ task other
next_stays setting w (Returns number) task other = others_frames w.stacks number _ task other

pub frames_stay : (setting : Setting) (w : Watched) (items : List Seen) (task : ℕ) → list_any (is_by task) items ≡ false
    → (seen_run setting w items).stacks task ≡ w.stacks task
frames_stay setting w [] task none = refl
frames_stay setting w (item ∷ items) task none =
    let parts = or_parts (is_by task item) (list_any (is_by task) items) none in
    frames_stay setting (seen_next setting w item) items task parts.1 ∙ next_stays setting w item task parts.0
