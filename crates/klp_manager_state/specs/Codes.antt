-- Codes of rows, by which rows are compared: two rows are the same if their codes are.
use Rattle.std.specs.Prelude.{◌≡◌, ℕ, zero, suc, ℤ, ◌==◌, Bool, true, false, ◌&&◌, ◌⊎◌, List, Option, refl}
use Rattle.std.specs.Coded.{Coded, code_by, coded_ℕ, coded_ℤ, coded_bool, coded_list, coded_option, coded×, coded⊎}
use base.Stored.{Gv, gnil, gnum, gcons}
use mathlib.Core.Logic.{inl, inr}
use Rattle.klp_types.specs.declared.task.Mode.{Mode}
use Rattle.klp_types.specs.declared.task.Mode.TheVariants.{User, Kernel, Asleep}
use Rattle.klp_types.specs.declared.task.Task.{Task}
use Rattle.klp_types.specs.declared.version.Entry.{Entry}
use Rattle.klp_types.specs.declared.version.Transition.{Transition}
use Rattle.klp_types.specs.declared.version.Version.{Version}
use Rattle.klp_types.specs.declared.version.Version.TheVariants.{Original, New}
use Rattle.klp_model.specs.Task.{Tasks}

-- whether two codes are the same; a code is a tree of numbers
abbrev pub is_same_code : Gv → Gv → Bool
is_same_code gnil gnil = true
is_same_code (gnum m) (gnum n) = m == n
is_same_code (gcons a b) (gcons c d) = is_same_code a c && is_same_code b d
is_same_code one other = false

-- whether two values have the same code
unfoldable pub is_same : {A : Type 0} → Coded A → A → A → Bool
is_same coded one other = is_same_code (coded.code one) (coded.code other)

abbrev pub flags_code : Coded (List Bool)
flags_code = coded_list coded_bool

abbrev pub entry_code : Coded Entry
entry_code = code_by (ℕ × Option ℕ) (coded× coded_ℕ (coded_option coded_ℕ)) (λ e. (e.patch, e.func)) (λ p. record { patch = p.0; func = p.1 }) (λ _. refl)

abbrev pub stacks_code : Coded (List (List Entry))
stacks_code = coded_list (coded_list entry_code)

abbrev pub moving_code : Coded (Option Transition)
moving_code = coded_option (code_by (ℕ × Bool) (coded× coded_ℕ coded_bool) (λ t. (t.patch, t.target)) (λ p. record { patch = p.0; target = p.1 }) (λ _. refl))

abbrev pub mode_number : Mode → ℕ
mode_number User = 0
mode_number Kernel = 1
mode_number Asleep = 2

abbrev pub mode_of : ℕ → Mode
mode_of zero = User
mode_of (suc zero) = Kernel
mode_of other = Asleep

pub mode_back : (mode : Mode) → mode_of (mode_number mode) ≡ mode
mode_back User = refl
mode_back Kernel = refl
mode_back Asleep = refl

abbrev pub version_parts : Version → ℕ ⊎ (ℕ × ℕ)
version_parts (Original site) = inl site
version_parts (New patch function) = inr (patch, function)

abbrev pub version_of : ℕ ⊎ (ℕ × ℕ) → Version
version_of (inl site) = Original site
version_of (inr function) = New function.0 function.1

pub version_back : (version : Version) → version_of (version_parts version) ≡ version
version_back (Original site) = refl
version_back (New patch function) = refl

abbrev pub version_code : Coded Version
version_code = code_by (ℕ ⊎ (ℕ × ℕ)) (coded⊎ coded_ℕ (coded× coded_ℕ coded_ℕ)) version_parts version_of version_back

abbrev pub task_code : Coded Task
task_code =
    code_by (ℤ × (ℕ × List Version)) (coded× coded_ℤ (coded× coded_ℕ (coded_list version_code))) (λ t. (t.state, (mode_number t.mode, t.frames)))
    (λ p. record { state = p.0; mode = mode_of p.1.0; frames = p.1.1 }) (λ t i. record { state = t.state; mode = mode_back t.mode i; frames = t.frames })

abbrev pub tasks_code : Coded Tasks
tasks_code = coded_list (coded_option task_code)
