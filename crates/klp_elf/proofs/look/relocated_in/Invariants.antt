use Rattle.std.proofs.Common.{◌≡◌, filter, take}
use Rattle.klp_elf.specs.Looks.{is_at, relocated_by}
use Rattle.klp_elf.proofs.look.relocated_in.Given as goal

abbrev pub invariant-loop-relocation : goal.invariant-loop-relocation
invariant-loop-relocation l = l.found ≡ relocated_by (filter (is_at l.place) (take l.relocation-index l.relocations))
