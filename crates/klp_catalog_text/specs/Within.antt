-- Which objects the targets of a plan may be.
use Rattle.std.specs.Prelude.{ℕ, ◌<◌, List}
use Rattle.std.specs.List.{All}
use Rattle.klp_catalog_text.specs.Plan.{PlanTarget, PlanPatch}

-- each target's number is less than the number of objects
abbrev pub AreTargetsWithin : ℕ → List PlanPatch → Type 0
AreTargetsWithin objects patches = All (λ (p : PlanPatch). All (λ (t : PlanTarget). t.object < objects) p.targets) patches
