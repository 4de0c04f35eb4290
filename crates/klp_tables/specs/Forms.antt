-- In which form the tables of a livepatch are.
use Rattle.std.specs.Prelude.{codes, Option, Some, None, Result, Ok, Err}
use Rattle.klp_elf.specs.declared.elf.Elf.{Elf}
use Rattle.klp_elf.specs.declared.look.Place.{Place}
use Rattle.klp_tables.specs.Counted.{section_place}
use Rattle.klp_tables.specs.Finding.{patch_of}
use Rattle.klp_tables.specs.declared.fault.TableFault.{TableFault}
use Rattle.klp_tables.specs.declared.fault.TableFault.TheVariants.{NoPatch}
use Rattle.klp_tables.specs.declared.finding.Form.{Form}
use Rattle.klp_tables.specs.declared.finding.Form.TheVariants.{Static, Kpatch, KlpBuild}
use Rattle.klp_tables.specs.declared.layout.PatchLayout.{PatchLayout}

abbrev pub built_form : Option Place → Result Form TableFault
built_form None = Err NoPatch
built_form (Some table) = Ok (KlpBuild table)

abbrev pub kpatch_form : Elf → Option Place → Result Form TableFault
kpatch_form elf None = built_form (section_place elf (codes ".init.klp_objects"))
kpatch_form elf (Some table) = Ok (Kpatch table)

abbrev pub form_by : Elf → Result Place TableFault → Result Form TableFault
form_by elf (Ok place) = Ok (Static place)
form_by elf (Err NoPatch) = kpatch_form elf (section_place elf (codes ".kpatch.funcs"))
form_by elf (Err fault) = Err fault

-- a struct klp_patch, if the file has one, or else the section of one of the tools
abbrev pub form_of : Elf → PatchLayout → Result Form TableFault
form_of elf layout = form_by elf (patch_of elf layout)
