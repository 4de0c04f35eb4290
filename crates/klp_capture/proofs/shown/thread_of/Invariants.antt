use Rattle.std.proofs.Common.{◌≡◌, drop}
use Rattle.std.specs.List.{find}
use Rattle.klp_capture.specs.Shown.{is_thread}
use Rattle.klp_capture.proofs.shown.thread_of.Given as goal

-- the threads so far are others
abbrev pub invariant-loop-thread : goal.invariant-loop-thread
invariant-loop-thread l = find (is_thread l.seen) l.threads ≡ find (is_thread l.seen) (drop l.thread-index l.threads)
