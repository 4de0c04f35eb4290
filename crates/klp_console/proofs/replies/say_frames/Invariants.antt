use Rattle.std.proofs.Common.{take}
use Rattle.klp_console_io.specs.Says.{Says}
use Rattle.klp_console.specs.Replies.{frames_text}
use Rattle.klp_console.proofs.replies.say_frames.Given as goal

-- the frames so far are said
abbrev pub invariant-loop-place : goal.invariant-loop-place
invariant-loop-place g l =
    Says (l.initial.answers, g.W.Sink.written l.initial.writer) (l.answers, g.W.Sink.written l.writer) (frames_text l.catalog (take l.place l.frames))
