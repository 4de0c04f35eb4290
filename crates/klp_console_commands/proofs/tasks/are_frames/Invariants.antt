use Rattle.std.proofs.Common.{◌≡◌, ◌≤◌, ◌+◌, ◌&&◌, nat_le, length}
use Rattle.std.specs.List.{list_all}
use Rattle.klp_console_commands.specs.Names.{is_frame, are_frames}
use Rattle.klp_console_commands.proofs.tasks.are_frames.Given as goal

-- the frames so far are frames, and those that are left decide
abbrev pub invariant-loop-word : goal.invariant-loop-word
invariant-loop-word l = (l.count ≤ 32) × (are_frames l.words ≡ (nat_le (l.count + length l.left) 32 && list_all is_frame l.left))

abbrev pub decreases-loop-word : goal.decreases-loop-word
decreases-loop-word l = length l.left
