-- Whether a log of klpcap -f says that nobody is inside of the functions for which it was told to look.
use Rattle.std.specs.Prelude.{◌≡◌, ℕ, ◌&&◌, ◌||◌, Bool, true, false, not, nat_lt, List, [], ◌∷◌, Option, Some, None, bytes_eq}
use Rattle.std.specs.List.{list_any}
use Rattle.klp_capture.specs.Shown.{span_of, is_settled}
use Rattle.klp_capture.specs.declared.capture.Capture.{Capture}
use Rattle.klp_capture.specs.declared.capture.Sample.{Sample}
use Rattle.klp_capture.specs.declared.capture.SeenTask.{SeenTask}
use Rattle.klp_capture.specs.declared.line.Activity.{Activity}
use Rattle.klp_capture.specs.declared.line.Activity.TheVariants.{Running, Asleep, Ended}
use Rattle.klp_capture.specs.declared.line.FrameLine.{FrameLine}
use Rattle.klp_capture.specs.declared.line.SymbolLine.{SymbolLine}
use Rattle.klp_capture_lagging.specs.Lagging.{is_last, IsLastSaid, end_of}

abbrev pub is_symbol_of : List ℕ → SymbolLine → Bool
is_symbol_of function symbol = bytes_eq symbol.name.now function

-- whether the kernel has a function of this name
abbrev pub is_there : Capture → List ℕ → Bool
is_there capture function = list_any (is_symbol_of function) capture.symbols.items

-- whether a function for which the log was told to look isn't there
abbrev pub lacks_some : Capture → Bool
lacks_some capture = list_any (λ name. not (is_there capture name.now)) capture.asked.items

-- whether the log was told to look for a function
abbrev pub is_asked : Capture → List ℕ → Bool
is_asked capture function = list_any (λ name. bytes_eq name.now function) capture.asked.items

abbrev pub is_asked_frame : Capture → FrameLine → Bool
is_asked_frame capture frame = is_asked capture frame.function.now

abbrev pub is_empty : {X : Type 0} → List X → Bool
is_empty [] = true
is_empty (x ∷ xs) = false

-- whether a task that slept, or not, while it was read so, was outside of these functions
abbrev pub is_outside_by : Activity → Bool → List FrameLine → Bool → Bool
is_outside_by Running stable frames asked = false
is_outside_by Ended stable frames asked = true
is_outside_by Asleep stable frames asked = stable && not (is_empty frames) && not asked

-- whether a reading shows its task outside of the functions for which the log was told to look: it had ended; or it slept all
-- the time while it was read, its stack was read, and no frame of it is of such a function
abbrev pub is_outside : Capture → SeenTask → Bool
is_outside capture seen =
    is_outside_by seen.task.activity seen.task.is_stable (span_of seen.frames capture.frames.items)
    (list_any (is_asked_frame capture) (span_of seen.frames capture.frames.items))

-- whether a reading is the last that the log says of its thread, and doesn't show the task outside
abbrev pub is_unsure : Capture → Sample → List Sample → SeenTask → List SeenTask → Bool
is_unsure capture sample later seen rest = not (is_outside capture seen) && is_last capture sample later seen rest

abbrev pub any_unsure_of : Capture → Sample → List Sample → List SeenTask → Bool
any_unsure_of capture sample later [] = false
any_unsure_of capture sample later (seen ∷ rest) = is_unsure capture sample later seen rest || any_unsure_of capture sample later rest

-- whether one of the readings of these samples is so
abbrev pub any_unsure : Capture → List Sample → Bool
any_unsure capture [] = false
any_unsure capture (sample ∷ later) =
    any_unsure_of capture sample later (span_of sample.tasks capture.seen.items) || any_unsure capture later

abbrev pub counts_inside_by : Option ℕ → ℕ → ℕ → Bool
counts_inside_by (Some inside) running sleeping = nat_lt 0 inside
counts_inside_by None running sleeping = nat_lt 0 running || nat_lt 0 sleeping

-- whether a sample counts tasks that may be inside, without naming them; a log of version 1 counts all together
abbrev pub counts_inside : Sample → Bool
counts_inside sample = counts_inside_by sample.line.inside sample.line.running sample.line.sleeping

-- By a log nobody is inside of the functions for which it was told to look: each file could be read; some sample is whole; the
-- kernel has each of these functions; the last that the log says of a thread shows its task outside, torn samples too; and
-- neither the last whole sample nor a torn one behind it counts tasks that may be inside.
pub record NobodyInside (capture : Capture) : Type 0 where
  pub all_read : capture.missing.items ≡ []
  pub some_whole : list_any is_settled capture.samples.items ≡ true
  pub all_there : lacks_some capture ≡ false
  pub outside : (seen : SeenTask) → IsLastSaid capture capture.samples.items seen → is_outside capture seen ≡ true
  pub counted : list_any counts_inside (end_of capture.samples.items) ≡ false
