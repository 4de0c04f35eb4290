-- The records of callbacks are of the world, and give it back.
use Rattle.std.proofs.Common.{◌≡◌, ℕ, true, List, [], ◌∷◌, ◌++◌, Option, Some, None, refl, ap}
use Rattle.std.specs.List.{All}
use Rattle.std.proofs.lemmas.List.Elements.{All-nil}
use Rattle.klp_types.specs.declared.record.Record.{Record}
use Rattle.klp_types.specs.World.{World}
use Rattle.klp_types.specs.Script.{Script}
use Rattle.klp_world.specs.Undo.{put_back, undone, is_of_world}
use Rattle.klp_world.proofs.KindLemmas as of_changes
use Rattle.klp_catalog.specs.Runs.{rows_if}

-- the newest are put back first
pub undone-append : (world : World) (older newer : List Record) → undone world (older ++ newer) ≡ undone (undone world newer) older
undone-append world [] newer = refl
undone-append world (row ∷ older) newer = ap (λ (w : World). put_back w row) (undone-append world older newer)

-- a row of the world
abbrev pub OfWorld : Record → Type 0
OfWorld row = is_of_world row ≡ true

-- a script's rows are of the world
pub of_script : (patch : ℕ) (world : World) (script : Option Script) → All OfWorld (rows_if patch world script)
of_script patch world None = All-nil OfWorld
of_script patch world (Some script) = of_changes.of_script patch world script
