-- Cases that are checked in order: the first that holds decides.
use Rattle.std.specs.Prelude.{Bool, List, [], ◌∷◌, Option, Some, None, Result, Ok, Err, if◌then◌else◌}

-- the reason of the first case that holds
abbrev pub first_of : {R : Type 0} → List (Bool × R) → Option R
first_of [] = None
first_of (case ∷ cases) = if case.0 then Some case.1 else first_of cases

-- the reason, if there is one, else the outcome
abbrev pub unless : {A R : Type 0} → Option R → A → Result A R
unless None outcome = Ok outcome
unless (Some reason) outcome = Err reason
