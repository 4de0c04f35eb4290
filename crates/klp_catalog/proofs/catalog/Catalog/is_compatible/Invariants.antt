use Rattle.std.specs.Prelude.{◌≡◌, drop}
use Rattle.klp_catalog.specs.States as states
use Rattle.klp_catalog.proofs.catalog.Catalog.is_compatible.Given as goal

-- the patch can live with those so far
abbrev pub invariant-loop-other : goal.invariant-loop-other
invariant-loop-other g l = states.is_compatible l.self l.fn.patch (drop l.other-index l.installed) ≡ states.is_compatible l.self l.fn.patch l.installed
