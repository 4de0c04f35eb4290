use Rattle.std.proofs.Common.{◌≡◌, ◌++◌, take, drop}
use Rattle.klp_types.specs.declared.limits.TheConstants.{MAX_OBJECTS}
use Rattle.klp_modules.specs.Names.{names_of}
use Rattle.klp_live_run.specs.Shown.{asks_for_all, asks_for_texts}
use Rattle.klp_live_run.proofs.running.texts.Given as goal

-- the lines so far, and those for the objects that are left
abbrev pub invariant-loop-number : goal.invariant-loop-number
invariant-loop-number g l =
    l.lines.items ++ asks_for_all (drop l.number (take MAX_OBJECTS (names_of l.manager.managed.image.objects))) (drop l.number l.manager.managed.state.loaded)
    ≡ asks_for_texts l.manager
