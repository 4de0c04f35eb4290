-- The one call that fails, given by how many calls come before it.
use Rattle.std.specs.Prelude.{ℕ, ◌-◌, cond, nat_eq, Option, None, Some}

-- how many calls come before it after one more call; none fails any more once it has failed
abbrev pub one_sooner : Option ℕ → Option ℕ
one_sooner None = None
one_sooner (Some n) = cond (nat_eq n 0) None (Some (n - 1))
