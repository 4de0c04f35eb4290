-- What is claimed of a log.
use Rattle.std.specs.Prelude.{Bool, true, false}
use Rattle.klp_program.specs.declared.verdict.Verdict.{Verdict}
use Rattle.klp_program.specs.declared.verdict.Verdict.TheVariants.{Honest}

-- whether a trace is as the rules say, all of it
abbrev pub is_honest : Verdict → Bool
is_honest (Honest counts) = true
is_honest verdict = false
