-- What the tables of a livepatch say.
use Rattle.std.specs.Prelude.{ℕ, ◌≡◌, ◌==◌, if◌then◌else◌, Bool, true, false, List, [], map, Result, Ok, Err}
use Rattle.klp_elf.specs.Looks.{pointer_at}
use Rattle.klp_elf.specs.declared.elf.Elf.{Elf}
use Rattle.klp_elf.specs.declared.fault.LookFault.{LookFault}
use Rattle.klp_elf.specs.declared.look.Place.{Place}
use Rattle.klp_elf.specs.declared.look.Pointer.{Pointer}
use Rattle.klp_elf.specs.declared.look.Pointer.TheVariants.{Null, To}
use Rattle.klp_tables.specs.Counted.{TargetFacts, target_meaning}
use Rattle.klp_tables.specs.Finding.{is_changed}
use Rattle.klp_tables.specs.Forms.{form_of}
use Rattle.klp_tables.specs.KlpBuild.{built_targets}
use Rattle.klp_tables.specs.Kpatch.{kpatch_targets}
use Rattle.klp_tables.specs.Rows.{moved, number_in, IsObjectTable, IsStateTable}
use Rattle.klp_tables.specs.Steps.{◌>>=◌}
use Rattle.klp_tables.specs.declared.fault.TableFault.{TableFault}
use Rattle.klp_tables.specs.declared.finding.Form.{Form}
use Rattle.klp_tables.specs.declared.finding.Form.TheVariants.{Static, Kpatch, KlpBuild}
use Rattle.klp_tables.specs.declared.layout.Layout.{Layout}
use Rattle.klp_tables.specs.declared.layout.PatchLayout.{PatchLayout}
use Rattle.klp_tables.specs.declared.layout.StateLayout.{StateLayout}
use Rattle.klp_tables.specs.declared.patch.Patch.{Patch}
use Rattle.klp_tables.specs.declared.patch.Replaces.{Replaces}
use Rattle.klp_tables.specs.declared.patch.Replaces.TheVariants.{No, Yes, Unknown}
use Rattle.klp_tables.specs.declared.patch.State.{State}

-- a bool of C, unless code changes the struct
abbrev pub replaces_by : ℕ → Bool → Replaces
replaces_by byte true = Unknown
replaces_by byte false = if byte == 0 then No else Yes

-- `replace` is a byte of a struct klp_patch
abbrev pub replaces_of : Elf → PatchLayout → Place → Result Replaces TableFault
replaces_of elf layout patch = number_in 1 elf (moved patch layout.replace) >>= λ byte. Ok (replaces_by byte (is_changed elf layout patch))

-- the states to which a pointer points, if it points to some
abbrev pub IsStates : Elf → StateLayout → Result Pointer LookFault → List State → Type 0
IsStates elf layout (Ok (To table)) states = IsStateTable elf layout table states
IsStates elf layout other states = (other ≡ Ok Null) × (states ≡ [])

-- a patch is what its struct and the tables say to which it points
pub record IsStaticPatch (elf : Elf) (layout : Layout) (place : Place) (patch : Patch) : Type 0 where
  pub table : Place
  pub points : pointer_at elf (moved place layout.patch.objects) ≡ Ok (To table)
  pub objects : IsObjectTable elf layout table patch.objects.items
  pub states : IsStates elf layout.state (pointer_at elf (moved place layout.patch.states)) patch.states.items
  pub replaces : replaces_of elf layout.patch place ≡ Ok patch.replaces

-- a patch whose struct init makes has these objects. The tables have no states, and init sets whether it replaces others
pub record IsMadeByInit (targets : Result (List TargetFacts) TableFault) (patch : Patch) : Type 0 where
  pub objects : targets ≡ Ok (map target_meaning patch.objects.items)
  pub states : patch.states.items ≡ []
  pub replaces : patch.replaces ≡ Unknown

-- a patch is what the tables say, in the form in which they are
abbrev pub IsPatchIn : Elf → Layout → Form → Patch → Type 0
IsPatchIn elf layout (Static place) patch = IsStaticPatch elf layout place patch
IsPatchIn elf layout (Kpatch table) patch = IsMadeByInit (kpatch_targets elf table) patch
IsPatchIn elf layout (KlpBuild table) patch = IsMadeByInit (built_targets elf table) patch

-- the patch of a file
pub record IsPatch (elf : Elf) (layout : Layout) (patch : Patch) : Type 0 where
  pub form : Form
  pub found : form_of elf layout.patch ≡ Ok form
  pub is : IsPatchIn elf layout form patch
