use Rattle.std.proofs.Common.{ℕ, ◌++◌, codes, length, ◌∙◌, sym, ap, arith}
use Rattle.std.specs.Prelude.{slice_get, option_map}
use Rattle.klp_types.specs.Setting.{PatchObject}
use Rattle.klp_modules.specs.Names.{ModuleTable}
use Rattle.klp_catalog.specs.Catalog.{Catalog}
use Rattle.klp_catalog.specs.Runs.{objects_at}
use Rattle.klp_console.specs.Names.{object_name}
use Rattle.klp_console.proofs.LineLemmas.{said_view, found_within}
use Rattle.klp_console.proofs.files.say_object_lines.Goals as goal
use Rattle.klp_console.proofs.files.say_object_lines.Goals.{in-Some, in_default}

pub loop-place-preserved : goal.loop-place-preserved
loop-place-preserved g c =
    let catalog = c.args.manager.now.managed.catalog in
    let objects = objects_at catalog c.args.patch in
    let object = λ (target : PatchObject). target.object in
    let line = λ (number : ℕ). object_name catalog.names number ++ codes "\n" in
    let at = λ (own : Catalog). option_map object (slice_get (objects_at own c.args.patch) c.loop-place.place) in
    let same = ap at c.catalog-catalog.ensures.catalog in
    let count = ap (λ (own : Catalog). length (objects_at own c.args.patch)) c.catalog-catalog.ensures.catalog in
    elim c.match-target.branch [
      | in-Some w ↦
          let names = ap (λ (modules : ModuleTable). modules.names) w.modules.ensures ∙ sym c.catalog-catalog.ensures.names in
          rw (w.answers-is, w.writer-is) (
          said_view object line objects c.loop-place.place w.in-Some.object _ _ _
          (w.in-Some.ensures ∙ same)
          (ap (λ name. name ++ codes "\n") (w.object_name.ensures ∙ ap (λ own. object_name own w.in-Some.object) names))
          (c.what_is_said_adds_up.ensures.adds_up _ _ _ _ _ c.loop-place.invariant w.say_line.ensures))
      | in_default w ↦ absurd (found_within object objects c.loop-place.place (omega (arith, count)) (w.in_default.ensures ∙ same))
    ]
