use Rattle.std.proofs.Common.{◌≡◌, drop}
use Rattle.klp_names.specs.Names.{name_of}
use Rattle.klp_names.proofs.names.Names.name.Given as goal

-- what is still to be looked through decides
abbrev pub invariant-loop-named : goal.invariant-loop-named
invariant-loop-named l = name_of (drop l.named-index l.named-items) l.task ≡ name_of l.self.named l.task
