-- What the list says of each patch, in each world.
use Rattle.std.proofs.Common.{◌≡◌, ℕ, ◌<◌, ◌≤◌, Bool, true, false, Option, Some, None, length, refl, sym, ap, subst}
use Rattle.klp_types.specs.Setting.{Setting}
use Rattle.klp_model.specs.State.{State}
use Rattle.klp_manager_state.specs.Managed.{setting_of}
use Rattle.klp_core.specs.Journaled.{Journaled}
use Rattle.klp_lint_findings.specs.declared.findings.Findings.{Findings}
use Rattle.klp_lint_findings.specs.declared.findings.World.{World}
use Rattle.klp_lint_findings.specs.declared.findings.World.TheVariants.{Each, WithoutModules, WithModules}
use Rattle.klp_lint_findings.specs.declared.linted.Linted.{Linted}
use Rattle.klp_lint_findings.specs.declared.linted.NamedText.{NamedText}
use Rattle.klp_lint_findings.specs.Claims.{AddsTrue}
use Rattle.klp_lint_findings.specs.Listed.{Lists}
use Rattle.klp_lint_findings.specs.Saying.{is_said_of, Adds}
use Rattle.klp_lint_findings.specs.Standing.{Standing}
use Rattle.klp_lint_findings.proofs.ListedLemmas.{lists_later, lists_on}
use Rattle.klp_lint_worlds.specs.Worlds.{with_modules, world_state, AddsIn, AllListed, IsLine, IsScripted}
use Rattle.klp_lint_worlds.proofs.ReadyLemmas.{scripted_on}

-- the list is about each world
of_each : (world : World) (full : Bool) → world ≡ Each → is_said_of world full ≡ true
of_each world full each = subst (λ (w : World). is_said_of w full ≡ true) (sym each) refl

bare_state : (setting : Setting) (state : State) (modules : ℕ) (full : Bool) → modules ≡ 0 → state ≡ world_state setting state modules full
bare_state setting state modules true none = ap (λ n. with_modules setting state n) (sym none)
bare_state setting state modules false none = refl

-- there is one world alone
pub one_listed : (setting : Setting) (state : State) (modules patches : ℕ) (one two : Findings) → modules ≡ 0 → one.world ≡ Each
    → ((full : Bool) → is_said_of one.world full ≡ true → (patch : ℕ) → patch < patches → Lists setting state patch full two)
    → (full : Bool) (patch : ℕ) → patch < patches → Lists setting (world_state setting state modules full) patch full two
one_listed setting state modules patches one two none each lists full patch below =
    subst (λ (s : State). Lists setting s patch full two) (bare_state setting state modules full none)
    (lists full (of_each one.world full each) patch below)

-- the world without modules is judged, then all modules are loaded, and the world with them is judged
pub both_listed : (setting later : Setting) (state loaded : State) (modules : ℕ) (here : Standing) (zero one two : Findings)
    → later ≡ setting → loaded ≡ with_modules setting state modules → one.linted ≡ zero.linted → AddsIn WithModules here one two
    → (length zero.linted.patches.now ≤ 256 → (full : Bool) → is_said_of WithoutModules full ≡ true
    → (patch : ℕ) → patch < length zero.linted.patches.now → Lists setting state patch full one)
    → (length one.linted.patches.now ≤ 256 → (full : Bool) → is_said_of WithModules full ≡ true
    → (patch : ℕ) → patch < length one.linted.patches.now → Lists later loaded patch full two)
    → length zero.linted.patches.now ≤ 256
    → (full : Bool) (patch : ℕ) → patch < length zero.linted.patches.now
    → Lists setting (world_state setting state modules full) patch full two
both_listed setting later state loaded modules here zero one two same at linted adds first second few true patch below =
    let counted : length zero.linted.patches.now ≡ length one.linted.patches.now = ap (λ (l : Linted). length l.patches.now) (sym linted) in
    subst (λ (s : State). Lists setting s patch true two) at
    (subst (λ (s : Setting). Lists s loaded patch true two) same
    (second (subst (λ (n : ℕ). n ≤ 256) counted few) true refl patch (subst (λ (n : ℕ). patch < n) counted below)))
both_listed setting later state loaded modules here zero one two same at linted adds first second few false patch below =
    lists_later adds.linted (adds.still false) (first few false refl patch below)

-- a script was done, and the patches are judged then
pub script_listed : (start there : Journaled) (script : NamedText) (modules : ℕ) (here : Standing) (zero one two : Findings)
    → IsScripted start there script.bytes.now one → setting_of there.managed ≡ setting_of start.managed → Adds IsLine zero one
    → AddsTrue here one two
    → (length one.linted.patches.now ≤ 256 → (full : Bool) → is_said_of one.world full ≡ true
    → (patch : ℕ) → patch < length one.linted.patches.now → Lists (setting_of there.managed) there.managed.state patch full two)
    → zero.world ≡ Each → length zero.linted.patches.now ≤ 256
    → AllListed start (Some script) modules (length zero.linted.patches.now) two
script_listed start there script modules here zero one two scripted same lines adds lists each few =
    let counted : length zero.linted.patches.now ≡ length one.linted.patches.now =
    ap (λ (l : Linted). length l.patches.now) (sym lines.grows.linted) in (
      there,
      scripted_on start there script.bytes.now one two adds.grows.kept scripted,
      same,
      λ full patch below.
          subst (λ (s : Setting). Lists s there.managed.state patch full two) same
          (lists (subst (λ (n : ℕ). n ≤ 256) counted few) full
          (subst (λ (w : World). is_said_of w full ≡ true) (sym lines.grows.world) (of_each zero.world full each)) patch
          (subst (λ (n : ℕ). patch < n) counted below)),
    )

-- what the list says, a later one does
pub all_listed_on : (start : Journaled) (script : Option NamedText) (modules patches : ℕ) (here : Standing) (one two : Findings) → AddsTrue here one two
    → AllListed start script modules patches one → AllListed start script modules patches two
all_listed_on start None modules patches here one two adds lists = λ full patch below. lists_on (lists full patch below) adds
all_listed_on start (Some script) modules patches here one two adds (there, scripted, same, lists) = (
  there,
  scripted_on start there script.bytes.now one two adds.grows.kept scripted,
  same,
  λ full patch below. lists_on (lists full patch below) adds,
)
