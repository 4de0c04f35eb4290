-- Each finding is true of the world of which it is said.
use Rattle.std.proofs.Common.{◌≡◌, ℕ, Bool, true, false, List, [], Option, Some, None, refl, sym, ap, subst, inl, inr, arith}
use Rattle.klp_types.specs.Setting.{Setting}
use Rattle.klp_lint.specs.Premises.{ArePatchesOf}
use Rattle.klp_lint_findings.specs.declared.finding.Finding.{Finding}
use Rattle.klp_lint_findings.specs.declared.findings.Findings.{Findings}
use Rattle.klp_lint_findings.specs.declared.findings.Said.{Said}
use Rattle.klp_lint_findings.specs.declared.findings.World.{World}
use Rattle.klp_lint_findings.specs.declared.findings.World.TheVariants.{WithoutModules, WithModules}
use Rattle.klp_lint_findings.specs.declared.linted.Linted.{Linted}
use Rattle.klp_lint_findings.specs.declared.linted.NamedText.{NamedText}
use Rattle.klp_lint_findings.specs.Claims.{IsTrue, AddsTrue}
use Rattle.klp_lint_findings.specs.Saying.{is_said_of, Says, Adds}
use Rattle.klp_lint_findings.specs.Standing.{Standing, sealed}
use Rattle.klp_lint_findings.proofs.ClaimLemmas.{line_true}
use Rattle.klp_model.specs.State.{State}
use Rattle.klp_manager_state.specs.Managed.{setting_of}
use Rattle.klp_core.specs.Journaled.{Journaled}
use Rattle.klp_lint_worlds.specs.Worlds.{with_modules, world_state, AddsIn, AreTrue, AreAllTrue, IsLine, IsScripted}
use Rattle.klp_lint_worlds.specs.Whole.{AreSo}
use Rattle.klp_lint_worlds.proofs.ReadyLemmas.{scripted_on}

-- the list goes on in a world of which all is true that it says more
pub true_in : (world : Bool → Standing) (this : World) (here : Standing) (one two : Findings) → AddsIn this here one two
    → ((full : Bool) → is_said_of this full ≡ true → world full ≡ here) → AreTrue world one → AreTrue world two
true_in world this here one two adds same early full finding said =
    subst (λ (l : Linted). IsTrue l (world full) finding) (sym adds.linted)
    (elim (adds.more full finding said) as (λ _. IsTrue one.linted (world full) finding) [
      | inl earlier ↦ early full finding earlier
      | inr new ↦ subst (λ (s : Standing). IsTrue one.linted s finding) (sym (same full new.0)) new.1
    ])

-- the same, where one world is judged
pub now_in : (here : Standing) (one two : Findings) → AddsTrue here one two → AddsIn one.world here one two
now_in here one two adds = record { linted = adds.grows.linted; kept = adds.grows.kept; still = adds.kept; more = adds.more }

pub true_now : (here : Standing) (world : Bool → Standing) (one two : Findings) → AddsTrue here one two → ((full : Bool) → world full ≡ here)
    → AreTrue world one → AreTrue world two
true_now here world one two adds same early =
    true_in world one.world here one two (now_in here one two adds) (λ full of. same full) early

bare_only : (setting : Setting) (state : State) (modules : ℕ) (full : Bool) → is_said_of WithoutModules full ≡ true
    → sealed setting (world_state setting state modules full) ≡ sealed setting state
bare_only setting state modules true of = absurd (cc)
bare_only setting state modules false of = refl

full_only : (setting : Setting) (state : State) (modules : ℕ) (full : Bool) → is_said_of WithModules full ≡ true
    → sealed setting (world_state setting state modules full) ≡ sealed setting (with_modules setting state modules)
full_only setting state modules true of = refl
full_only setting state modules false of = absurd (cc)

same_sealed : (one two : Setting) (first second : State) → two ≡ one → second ≡ first → sealed two second ≡ sealed one first
same_sealed one two first second setting state = λ i. record { setting = setting i; state = state i; groups = [] }

-- the world without modules is judged, then all modules are loaded, and the world with them is judged
pub both_true : (setting later : Setting) (state loaded : State) (modules : ℕ) (zero one two : Findings)
    → later ≡ setting → loaded ≡ with_modules setting state modules
    → AddsIn WithoutModules (sealed setting state) zero one → AddsIn WithModules (sealed later loaded) one two
    → AreTrue (λ full. sealed setting (world_state setting state modules full)) zero
    → AreTrue (λ full. sealed setting (world_state setting state modules full)) two
both_true setting later state loaded modules zero one two same at first second early =
    let world : Bool → Standing = λ full. sealed setting (world_state setting state modules full) in
    true_in world WithModules (sealed setting (with_modules setting state modules)) one two
    (subst (λ (s : Standing). AddsIn WithModules s one two) (same_sealed setting later (with_modules setting state modules) loaded same at) second)
    (full_only setting state modules)
    (true_in world WithoutModules (sealed setting state) zero one first (bare_only setting state modules) early)

none_loaded : (setting : Setting) (state : State) (modules : ℕ) → modules ≡ 0 → (full : Bool)
    → sealed setting (world_state setting state modules full) ≡ sealed setting state
none_loaded setting state modules none true = ap (λ n. sealed setting (with_modules setting state n)) none
none_loaded setting state modules none false = refl

-- there is one world alone
pub one_true : (setting : Setting) (state : State) (modules : ℕ) (one two : Findings) → modules ≡ 0 → AddsTrue (sealed setting state) one two
    → AreTrue (λ full. sealed setting (world_state setting state modules full)) one
    → AreTrue (λ full. sealed setting (world_state setting state modules full)) two
one_true setting state modules one two none adds early =
    true_now (sealed setting state) (λ full. sealed setting (world_state setting state modules full)) one two adds (none_loaded setting state modules none) early

none_said : (full : Bool) (finding : Finding) → Says [] full finding → ⊥
unfolding Says
none_said full finding (s, (k, below, is), same, of) = absurd (omega (arith, below))

-- an empty list says nothing
pub nothing_true : (world : Bool → Standing) (found : Findings) → found.said.items ≡ [] → AreTrue world found
nothing_true world found empty full finding said =
    absurd (none_said full finding (subst (λ (items : List Said). Says items full finding) empty said))

-- so far there are lines alone
lines_true : (world : Bool → Standing) (zero one : Findings) → zero.said.items ≡ [] → Adds IsLine zero one → AreTrue world one
lines_true world zero one empty adds full finding said =
    elim (adds.more full finding said) as (λ _. IsTrue one.linted (world full) finding) [
      | inl earlier ↦ absurd (none_said full finding (subst (λ (items : List Said). Says items full finding) empty earlier))
      | inr new ↦ subst (IsTrue one.linted (world full)) (sym new.1.1) (line_true one.linted (world full) new.1.0)
    ]

-- a script was done, and the patches are judged then
pub script_true : (start there : Journaled) (script : NamedText) (modules : ℕ) (zero one two : Findings) → zero.said.items ≡ []
    → IsScripted start there script.bytes.now one → setting_of there.managed ≡ setting_of start.managed → Adds IsLine zero one
    → AddsTrue (sealed (setting_of there.managed) there.managed.state) one two → AreAllTrue start (Some script) modules two
script_true start there script modules zero one two empty scripted same lines adds =
    let here = sealed (setting_of start.managed) there.managed.state in
    let world : Bool → Standing = λ full. here in
    let now = subst (λ (s : Standing). AddsTrue s one two)
    (same_sealed (setting_of start.managed) (setting_of there.managed) there.managed.state there.managed.state same refl) adds in (
      there,
      scripted_on start there script.bytes.now one two adds.grows.kept scripted,
      same,
      true_now here world one two now (λ full. refl) (lines_true world zero one empty lines),
    )

-- what is added is true of each world
any_true : (world : Bool → Standing) (one two : Findings) → ((here : Standing) → AddsTrue here one two) → AreTrue world one → AreTrue world two
any_true world one two adds early full finding said =
    let new = adds (world full) in
    subst (λ (l : Linted). IsTrue l (world full) finding) (sym new.grows.linted)
    (elim (new.more full finding said) as (λ _. IsTrue one.linted (world full) finding) [
      | inl earlier ↦ early full finding earlier
      | inr this ↦ this.1
    ])

pub all_true_on : (start : Journaled) (script : Option NamedText) (modules : ℕ) (one two : Findings) → ((here : Standing) → AddsTrue here one two)
    → AreAllTrue start script modules one → AreAllTrue start script modules two
all_true_on start None modules one two adds early =
    any_true (λ full. sealed (setting_of start.managed) (world_state (setting_of start.managed) start.managed.state modules full)) one two adds early
all_true_on start (Some script) modules one two adds (there, scripted, same, early) = (
  there,
  scripted_on start there script.bytes.now one two (adds (sealed (setting_of start.managed) there.managed.state)).grows.kept scripted,
  same,
  any_true (λ full. sealed (setting_of start.managed) there.managed.state) one two adds early,
)

-- what is true of a manager that was booted over the catalog is so
pub so_of : (world : Bool → Standing) (found : Findings) → ((full : Bool) → ArePatchesOf (world full).setting found.linted.patches.now)
    → AreTrue world found → AreSo world found
unfolding IsTrue
so_of world found own truth full finding said = truth full finding said (own full)
