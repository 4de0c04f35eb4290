-- The round trip: over a fair company, at every moment at which the patch isn't installed.
use Rattle.std.proofs.Common.{◌≡◌, ℕ, Bool, true, false, List, [], ◌∷◌, ◌++◌, map, reverse, Option, Some, None, refl, sym, ap, subst, ◌∙◌}
use Rattle.std.specs.Prelude.{slice_index_or, if◌then◌else◌}
use Rattle.std.specs.List.{list_any}
use Rattle.std.proofs.lemmas.Bool.{both_ways}
use Rattle.klp_types.specs.declared.shadow.ShadowKey.{ShadowKey}
use Rattle.klp_types.specs.declared.callback.Which.TheVariants.{Pre, Post}
use Rattle.klp_model.specs.declared.event.Event.{Event}
use Rattle.klp_model.specs.declared.event.Event.TheVariants.{Enable, SetEnabled, Force, Coming, Going}
use Rattle.klp_types.specs.Image.{object_of}
use Rattle.klp_types.specs.Setting.{Setting}
use Rattle.klp_types.specs.World.{Installed, World, variable}
use Rattle.klp_model.specs.State.{State, is_installed, installed_patches}
use Rattle.klp_types.specs.Entries.{patches_site, entries_from}
use Rattle.klp_model.specs.Entries.{is_object_loaded, is_site_loaded, entries_of}
use Rattle.klp_model.specs.Bytes.{text_of}
use Rattle.klp_model.specs.ShadowStep.{shadow_changed, shadow_changes, concerns}
use Rattle.klp_model.specs.EventCalls.{calls}
use Rattle.klp_model.specs.Rounds.{enablings}
use Rattle.klp_model.specs.Refusals.{refusals}
use Rattle.klp_model.specs.Run.{next, run}
use Rattle.klp_model.specs.Footprint.{SameFootprint}
use Rattle.klp_model.specs.Company.{taking_part, company_keys, IsOfCompany, IsFairEvent, AreFair, IsFairStart, IsFairCompany}
use Rattle.klp_model.proofs.ObjectLemmas.{objects_leave}
use Rattle.klp_model.proofs.ShadowEventLemmas.{shadow_changed_at, shadow_leaves, shadow_installed}
use Rattle.std.specs.FinMap as finite
use Rattle.klp_types.proofs.KeyLemmas.{key_total, key_antisymmetric}
use Rattle.klp_model.proofs.RefusalLemmas.{none_holds, next_accepted}
use Rattle.klp_model.proofs.TextLemmas.{text_of-same}
use Rattle.klp_model.proofs.Phases.{IsGone, PhaseAt, Stage, Onward, IsBase}
use Rattle.klp_model.proofs.Phases.Stage.{Away, Moving, Settled}
use Rattle.klp_model.proofs.CompanyLemmas as company

-- a prefix of a fair company is one
pub fair-prefix : (setting : Setting) (patch : ℕ) (keys : ShadowKey → Bool) (state : State) (first second : List Event)
    → AreFair setting patch keys state (first ++ second) → AreFair setting patch keys state first
fair-prefix setting patch keys state [] second fair = tt
fair-prefix setting patch keys state (event ∷ first) second fair = (fair.0, fair-prefix setting patch keys (next setting state event) first second fair.1)

pub fair-rest : (setting : Setting) (patch : ℕ) (keys : ShadowKey → Bool) (state : State) (first second : List Event)
    → AreFair setting patch keys state (first ++ second) → AreFair setting patch keys (run setting state first) second
fair-rest setting patch keys state [] second fair = fair
fair-rest setting patch keys state (event ∷ first) second fair = fair-rest setting patch keys (next setting state event) first second fair.1

-- the entries of a site depend on what is loaded and who is installed
pub entries-same : (setting : Setting) (a b : State) (site : ℕ) → a.loaded ≡ b.loaded → a.world.installed ≡ b.world.installed
    → entries_of setting a site ≡ entries_of setting b site
entries-same setting a b site loaded installed =
    ap (λ flag. if flag then entries_from setting site (reverse (installed_patches a)) else []) (site_loaded (object_of setting.image.objects site))
    ∙ ap (λ list. if is_site_loaded setting b site then entries_from setting site (reverse (map (λ (i : Installed). i.patch) list)) else []) installed
  where
    site_loaded : (object : Option ℕ) → is_object_loaded a object ≡ is_object_loaded b object
    site_loaded None = refl
    site_loaded (Some object) = ap (λ flags. slice_index_or flags object false) loaded

pub text-same : (setting : Setting) (a b : State) (object : ℕ) → a.loaded ≡ b.loaded → a.world.installed ≡ b.world.installed
    → text_of setting a object ≡ text_of setting b object
text-same setting a b object loaded installed =
    text_of-same setting a b object loaded (λ site. ap (λ list. list_any (patches_site setting site) (map (λ (i : Installed). i.patch) list)) installed)

module _ (setting : Setting) (patch : ℕ) (start : State) (fair : IsFairStart setting patch start) where
  abbrev keys : ShadowKey → Bool
  keys = company_keys setting start patch

  -- an event of the company concerns none of its variables
  outside : (event : Event) → IsOfCompany patch keys event → (key : ShadowKey) → keys key ≡ true → concerns event key ≡ false
  outside (Enable other) of key inside = refl
  outside (SetEnabled other value) of key inside = refl
  outside (Force other) of key inside = refl
  outside (Coming object) of key inside = refl
  outside (Going object) of key inside = refl
  outside event of key inside = not_concerned (concerns event key) (of key)
    where
      not_concerned : (b : Bool) → (b ≡ true → keys key ≡ false) → b ≡ false
      not_concerned true h = absurd (both_ways (keys key) (h refl) inside)
      not_concerned false h = refl

  pub base_kept : (base : World) (event : Event) → IsOfCompany patch keys event → IsBase setting patch start base → IsBase setting patch start (shadow_changed base event)
  base_kept base event of is = record {
    same = λ key inside. shadow_changed_at base event key ∙ shadow_leaves key (variable base key) event (outside event of key inside) ∙ is.same key inside;
  }

  -- one event on
  pub onward : (event : Event) (base : World) (state : State) → IsBase setting patch start base → IsFairEvent setting patch keys state event
      → (stage : Stage) → PhaseAt setting patch start base stage state
      → Onward setting patch start (shadow_changed base event) stage (calls setting state event) (enablings (event ∷ [])) (next setting state event)
  onward event base state is_base is_fair stage phase =
      subst (Onward setting patch start (shadow_changed base event) stage (calls setting state event) (enablings (event ∷ []))) (sym (next_accepted setting state event is_fair.accepted))
      (company.kept setting patch start fair base is_base state event (none_holds (refusals setting state event) is_fair.accepted)
      is_fair.of_company is_fair.none_dropped stage phase)

  -- at some stage
  pub record Phase (base : World) (state : State) : Type 0 where
    pub stage : Stage
    pub holds : PhaseAt setting patch start base stage state

  -- over the whole company
  pub phase_after : (events : List Event) (base : World) (state : State) → IsBase setting patch start base → AreFair setting patch keys state events
      → Phase base state → Phase (shadow_changes base events) (run setting state events)
  phase_after [] base state is_base are_fair phase = phase
  phase_after (event ∷ events) base state is_base are_fair phase =
      let on = onward event base state is_base are_fair.0 phase.stage phase.holds in
      phase_after events (shadow_changed base event) (next setting state event) (base_kept base event are_fair.0.of_company is_base) are_fair.1
      (record { stage = on.reached; holds = on.phase })

  pub base_after : (events : List Event) (base : World) (state : State) → IsBase setting patch start base → AreFair setting patch keys state events
      → IsBase setting patch start (shadow_changes base events)
  base_after [] base state is_base are_fair = is_base
  base_after (event ∷ events) base state is_base are_fair =
      base_after events (shadow_changed base event) (next setting state event) (base_kept base event are_fair.0.of_company is_base) are_fair.1

  pub at_start : Phase start.world start
  at_start = record {
    stage = Away;
    holds = record {
      steady = record { loaded = refl; pinned = refl };
      moving = fair.still;
      installed = refl;
      variables = λ key. refl;
    };
  }

  pub start_base : IsBase setting patch start start.world
  start_base = record { same = λ key inside. refl }

  -- a stage at which the patch isn't installed
  pub phase_away : (base : World) (state : State) → IsBase setting patch start base → (stage : Stage) → PhaseAt setting patch start base stage state → is_installed state patch ≡ false
      → IsGone setting patch start base state
  phase_away base state is_base Away is away = is
  phase_away base state is_base Moving phase away = absurd (both_ways _ away (company.installed_moving setting patch start fair base is_base state phase.0 phase.1))
  phase_away base state is_base Settled is away = absurd (both_ways _ away (company.installed_settled setting patch start fair base is_base state is))

  pub installed_at_moving : (base : World) (state : State) → IsBase setting patch start base → PhaseAt setting patch start base Moving state → is_installed state patch ≡ true
  installed_at_moving base state is_base phase = company.installed_moving setting patch start fair base is_base state phase.0 phase.1

  pub installed_at_settled : (base : World) (state : State) → IsBase setting patch start base → PhaseAt setting patch start base Settled state → is_installed state patch ≡ true
  installed_at_settled base state is_base is = company.installed_settled setting patch start fair base is_base state is

  pub gone_footprint : (base : World) (state : State) → IsBase setting patch start base → IsGone setting patch start base state → SameFootprint setting keys state start
  gone_footprint base state is_base is = record {
    loaded = is.steady.loaded;
    bytes = λ object. text-same setting state start object is.steady.loaded is.installed;
    entries = λ site. entries-same setting state start site is.steady.loaded is.installed;
    installed = is.installed;
    pinned = is.steady.pinned;
    variables = λ key inside. is.variables key ∙ is_base.same key inside;
  }

  -- outside of the company's variables
  pub outside_same : (base : World) (state : State) (stage : Stage) → PhaseAt setting patch start base stage state → (key : ShadowKey) → keys key ≡ false → variable state.world key ≡ variable base key
  outside_same base state Away is key out = is.variables key
  outside_same base state Moving phase key out = phase.1.variables key ∙ objects_leave Pre (taking_part setting start patch) key _ out
  outside_same base state Settled is key out =
      is.variables key ∙ objects_leave Post (taking_part setting start patch) key _ out ∙ objects_leave Pre (taking_part setting start patch) key _ out

pub changes_installed : (events : List Event) (world : World) → (shadow_changes world events).installed ≡ world.installed
changes_installed [] world = refl
changes_installed (event ∷ events) world = changes_installed events (shadow_changed world event) ∙ shadow_installed world event

-- the round trip
pub round_trip : (setting : Setting) (patch : ℕ) (start : State) (first second : List Event) → IsFairCompany setting patch start (first ++ second)
    → is_installed (run setting start first) patch ≡ false
    → SameFootprint setting (company_keys setting start patch) (run setting start first) start
round_trip setting patch start first second fair away =
    let are_fair = fair-prefix setting patch (company_keys setting start patch) start first second fair.fair_events in
    let is_base = start_base setting patch start fair.fair_start in
    let after = base_after setting patch start fair.fair_start first start.world start is_base are_fair in
    let phase = phase_after setting patch start fair.fair_start first start.world start is_base are_fair (at_start setting patch start fair.fair_start) in
    gone_footprint setting patch start fair.fair_start (shadow_changes start.world first) (run setting start first) after
    (phase_away setting patch start fair.fair_start (shadow_changes start.world first) (run setting start first) after phase.stage phase.holds away)

-- when the patch isn't installed, the world is as if it had never been
pub world_back : (setting : Setting) (patch : ℕ) (start : State) (first second : List Event) → IsFairCompany setting patch start (first ++ second)
    → is_installed (run setting start first) patch ≡ false → (run setting start first).world ≡ shadow_changes start.world first
world_back setting patch start first second fair away =
    let are_fair = fair-prefix setting patch (company_keys setting start patch) start first second fair.fair_events in
    let is_base = start_base setting patch start fair.fair_start in
    let after = base_after setting patch start fair.fair_start first start.world start is_base are_fair in
    let phase = phase_after setting patch start fair.fair_start first start.world start is_base are_fair (at_start setting patch start fair.fair_start) in
    let is = phase_away setting patch start fair.fair_start (shadow_changes start.world first) (run setting start first) after phase.stage phase.holds away in
    let list = is.installed ∙ sym (changes_installed first start.world) in
    let map = finite.same_map key_total key_antisymmetric (run setting start first).world.shadow (shadow_changes start.world first).shadow is.variables in
    λ i. record { installed = list i; shadow = map i }

-- outside of the company's variables the shadow events alone make changes
pub shadow_outside : (setting : Setting) (patch : ℕ) (start : State) (first second : List Event) → IsFairCompany setting patch start (first ++ second)
    → (key : ShadowKey) → company_keys setting start patch key ≡ false
    → variable (run setting start first).world key ≡ variable (shadow_changes start.world first) key
shadow_outside setting patch start first second fair key out =
    let are_fair = fair-prefix setting patch (company_keys setting start patch) start first second fair.fair_events in
    let phase = phase_after setting patch start fair.fair_start first start.world start (start_base setting patch start fair.fair_start) are_fair (at_start setting patch start fair.fair_start) in
    outside_same setting patch start fair.fair_start (shadow_changes start.world first) (run setting start first) phase.stage phase.holds key out
