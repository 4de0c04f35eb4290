-- The patch states of a task, numbered as in the kernel.
use Rattle.std.specs.Prelude.{◌≡◌, ◌≤◌, ℤ, pos, negsuc}

-- -1, 0 or 1
abbrev pub IsPatchState : ℤ → Type 0
IsPatchState (pos n) = n ≤ 1
IsPatchState (negsuc n) = n ≡ 0
