-- A thread that the kernel's own log names as a holder, while the samples have it asleep elsewhere.
use Rattle.std.specs.Prelude.{ℕ, ◌+◌, ◌&&◌, ◌||◌, Bool, false, not, nat_le, List, [], ◌∷◌, Option, Some, None, slice_get}
use Rattle.std.specs.List.{list_any}
use Rattle.klp_capture.specs.Shown.{span_of}
use Rattle.klp_capture.specs.declared.capture.Capture.{Capture}
use Rattle.klp_capture.specs.declared.capture.Sample.{Sample}
use Rattle.klp_capture.specs.declared.capture.SeenTask.{SeenTask}
use Rattle.klp_capture.specs.declared.time.BootTime.{BootTime}
use Rattle.klp_capture_lagging.specs.Lagging.{is_of, lets_go, is_about}

-- whether a time of the kernel's own log is surely behind the end of one sample, and surely before the beginning of another:
-- from each at least as far away as the two clocks can be apart
abbrev pub is_between : ℕ → Sample → Sample → BootTime → Bool
is_between apart first last at = nat_le (first.line.to.0 + apart) at.0 && nat_le (at.0 + apart) last.line.from.0

-- whether one of these times is
abbrev pub any_between : ℕ → List BootTime → Sample → Sample → Bool
any_between apart named first last = list_any (is_between apart first last) named

-- whether one of these times is behind a sample and before a later one, up to which the log says nothing of a thread
abbrev pub is_named_meanwhile : Capture → ℕ → List BootTime → ℕ → Sample → List Sample → Bool
is_named_meanwhile capture apart named thread sample [] = false
is_named_meanwhile capture apart named thread sample (other ∷ later) =
    not (is_about capture thread other) && (any_between apart named sample other || is_named_meanwhile capture apart named thread sample later)

-- whether a reading with this flag is of the thread, and the last that its sample says of it, and a time is while nothing
-- more is said
abbrev pub is_named_behind : Capture → ℕ → List BootTime → ℕ → Sample → List Sample → Bool → SeenTask → List SeenTask → Bool
is_named_behind capture apart named thread sample later flag seen rest =
    flag && is_of thread seen && not (list_any (is_of thread) rest || lets_go capture thread sample)
    && is_named_meanwhile capture apart named thread sample later

abbrev pub is_so : Option Bool → Bool
is_so None = false
is_so (Some flag) = flag

-- the same of one of these readings of a sample, whose flags are counted from this number on
abbrev pub any_named_behind : Capture → ℕ → List BootTime → ℕ → Sample → List Sample → List Bool → ℕ → List SeenTask → Bool
any_named_behind capture apart named thread sample later flags number [] = false
any_named_behind capture apart named thread sample later flags number (seen ∷ rest) =
    is_named_behind capture apart named thread sample later (is_so (slice_get flags number)) seen rest
    || any_named_behind capture apart named thread sample later flags (number + 1) rest

-- Whether the kernel's own log names a thread at one of these times, while it slept elsewhere by some samples. The flags say
-- of each reading of the log whether it shows its task asleep elsewhere.
abbrev pub slept_elsewhere : Capture → ℕ → List BootTime → ℕ → List Bool → List Sample → Bool
slept_elsewhere capture apart named thread flags [] = false
slept_elsewhere capture apart named thread flags (sample ∷ later) =
    any_named_behind capture apart named thread sample later (span_of sample.tasks flags) 0 (span_of sample.tasks capture.seen.items)
    || slept_elsewhere capture apart named thread flags later
