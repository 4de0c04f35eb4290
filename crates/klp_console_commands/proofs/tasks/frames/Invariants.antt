use Rattle.std.proofs.Common.{◌≡◌, ◌≤◌, ◌+◌, ◌++◌, length, Ok}
use Rattle.klp_words.specs.Steps.{◌>>=◌}
use Rattle.klp_console_commands.specs.Names.{versions_of}
use Rattle.klp_console_commands.proofs.tasks.frames.Given as goal

-- the functions so far stand before those that are left, and there is room for all
abbrev pub invariant-loop-word : goal.invariant-loop-word
invariant-loop-word g l =
    (length l.frames + length l.left ≤ 32) × (versions_of l.names l.words ≡ (versions_of l.names l.left >>= λ vs. Ok (l.frames ++ vs)))

abbrev pub decreases-loop-word : goal.decreases-loop-word
decreases-loop-word g l = length l.left
