-- Which tasks lag by what a log says of them last.
use Rattle.std.specs.Prelude.{◌≡◌, ℕ, ◌==◌, ◌&&◌, ◌||◌, Bool, true, false, not, nat_lt, bytes_eq, if◌then◌else◌, List, [], ◌∷◌, ◌++◌, Option, Some, None}
use Rattle.std.specs.List.{list_any}
use Rattle.klp_capture.specs.Shown.{span_of, is_settled}
use Rattle.klp_capture.specs.declared.capture.Capture.{Capture}
use Rattle.klp_capture.specs.declared.capture.PatchRow.{PatchRow}
use Rattle.klp_capture.specs.declared.capture.PatchRow.TheVariants.{Patch}
use Rattle.klp_capture.specs.declared.capture.Sample.{Sample}
use Rattle.klp_capture.specs.declared.capture.SeenTask.{SeenTask}
use Rattle.klp_capture.specs.declared.line.PatchedState.{PatchedState}
use Rattle.klp_capture.specs.declared.line.PatchedState.TheVariants.{Undefined, Unpatched, Patched}

-- whether tasks at the target have another state than this one; a task without a state doesn't lag
abbrev pub is_off : Bool → PatchedState → Bool
is_off target Undefined = false
is_off target Unpatched = target
is_off target Patched = not target

abbrev pub is_same : ℕ → ℕ → Bool
is_same thread own = own == thread

-- whether a reading is of this thread
abbrev pub is_of : ℕ → SeenTask → Bool
is_of thread seen = seen.task.thread == thread

-- whether a sample says that a thread has ended, or isn't followed any longer
abbrev pub lets_go : Capture → ℕ → Sample → Bool
lets_go capture thread sample =
    list_any (is_same thread) (span_of sample.gone capture.gone.items) || list_any (is_same thread) (span_of sample.left capture.left.items)

-- whether a sample says anything of a thread
abbrev pub is_about : Capture → ℕ → Sample → Bool
is_about capture thread sample = list_any (is_of thread) (span_of sample.tasks capture.seen.items) || lets_go capture thread sample

-- whether a reading is the last that the log says of its thread: neither the rest of its sample nor a later sample says more
abbrev pub is_last : Capture → Sample → List Sample → SeenTask → List SeenTask → Bool
is_last capture sample later seen rest =
    not (list_any (is_of seen.task.thread) rest || lets_go capture seen.task.thread sample || list_any (is_about capture seen.task.thread) later)

-- this reading is the last that some samples of a log say of its thread
pub record IsLastSaid (capture : Capture) (samples : List Sample) (seen : SeenTask) : Type 0 where
  pub earlier : List Sample
  pub sample : Sample
  pub later : List Sample
  pub among : samples ≡ earlier ++ sample ∷ later
  pub before : List SeenTask
  pub rest : List SeenTask
  pub read : span_of sample.tasks capture.seen.items ≡ before ++ seen ∷ rest
  pub last : is_last capture sample later seen rest ≡ true

-- the reading, if its task lags by it and the log says nothing of the task behind it
abbrev pub lagging_at : Capture → Bool → Sample → List Sample → SeenTask → List SeenTask → List SeenTask
lagging_at capture target sample later seen rest =
    if is_off target seen.task.state && is_last capture sample later seen rest then seen ∷ [] else []

-- the same of each of these readings of a sample
abbrev pub lagging_of : Capture → Bool → Sample → List Sample → List SeenTask → List SeenTask
lagging_of capture target sample later [] = []
lagging_of capture target sample later (seen ∷ rest) = lagging_at capture target sample later seen rest ++ lagging_of capture target sample later rest

-- the tasks that lag by what these samples of a log say of them last, the oldest sample first
abbrev pub lagging_in : Capture → Bool → List Sample → List SeenTask
lagging_in capture target [] = []
lagging_in capture target (sample ∷ later) =
    lagging_of capture target sample later (span_of sample.tasks capture.seen.items) ++ lagging_in capture target later

abbrev pub is_some_count : Option ℕ → Bool
is_some_count None = false
is_some_count (Some count) = nat_lt 0 count

-- whether a sample counts tasks that lag, without naming them
abbrev pub counts_some : Sample → Bool
counts_some sample = nat_lt 0 sample.line.running || nat_lt 0 sample.line.sleeping || is_some_count sample.line.inside

-- a patch goes to its target if the file `enabled` reads so
abbrev pub goes_to : Bool → Bool → Bool
goes_to true enabled = enabled
goes_to false enabled = not enabled

-- whether a line has this patch in transition to this target
abbrev pub is_moving_to : List ℕ → Bool → PatchRow → Bool
is_moving_to patch target (Patch name enabled moving newer) = bytes_eq name.now patch && moving && goes_to target enabled
is_moving_to patch target row = false

-- where a log ends: its last whole sample, and those behind it, which are torn; none if the log has no whole sample
abbrev pub end_of : List Sample → List Sample
end_of [] = []
end_of (sample ∷ later) = if is_settled sample && not (list_any is_settled later) then sample ∷ later else end_of later

-- whether the first of these samples has this patch in transition to this target
abbrev pub has_moving : Capture → List ℕ → Bool → List Sample → Bool
has_moving capture patch target [] = false
has_moving capture patch target (sample ∷ later) = list_any (is_moving_to patch target) (span_of sample.patches capture.rows.items)

-- By a log nobody lags in the transition of a patch to a target: each file could be read; the last whole sample has the
-- patch in transition to this target; of no thread is the last that the log says, torn samples too, that it isn't at the
-- target; and neither that sample nor a torn one behind it counts tasks that lag.
pub record NobodyLags (capture : Capture) (patch : List ℕ) (target : Bool) : Type 0 where
  pub all_read : capture.missing.items ≡ []
  pub moving : has_moving capture patch target (end_of capture.samples.items) ≡ true
  pub named : (seen : SeenTask) → IsLastSaid capture capture.samples.items seen → is_off target seen.task.state ≡ false
  pub counted : list_any counts_some (end_of capture.samples.items) ≡ false
