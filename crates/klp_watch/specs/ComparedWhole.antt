-- What comparing a whole trace comes to, however long it is. The journal plays no part: the rules alone answer.
use Rattle.std.specs.Prelude.{◌≡◌, ℕ, zero, suc, true, List, [], ◌∷◌, ◌++◌, length}
use Rattle.klp_model.specs.declared.seen.Seen.TheVariants.{Event as Happens}
use Rattle.klp_model.specs.Run.{run}
use Rattle.klp_model.specs.Refusals.{is_there}
use Rattle.klp_model.specs.Observed.{events_of, seen_from}
use Rattle.klp_manager_state.specs.Managed.{Managed, setting_of}
use Rattle.klp_watch.specs.declared.cause.Cause.TheVariants.{NotOpening}
use Rattle.klp_watch.specs.declared.observed.Observed.{Observed}
use Rattle.klp_watch.specs.declared.observed.Observed.TheVariants.{Seen as Item, Answered, Saw}
use Rattle.klp_watch.specs.declared.difference.Difference.{Difference}
use Rattle.klp_watch.specs.declared.difference.Difference.TheVariants.{Premise}
use Rattle.klp_watch.specs.Whole.{LeadHonestly, once_reported}
use Rattle.klp_watch.specs.Compared.{taken_from, IsSo, DiffersIn}

-- what happens of the items is an honest observed run, and left this. Each item is so in the state behind the events before it
pub record AreAllSo (before after : Managed) (items : List Observed) : Type 0 where
  pub lead : LeadHonestly before after (taken_from items)
  pub so : (first later : List Observed) (item : Observed) → items ≡ first ++ item ∷ later
      → IsSo (setting_of before) (run (setting_of before) before.state (events_of (taken_from first))) [] item

-- an item that was told changes nothing, but that the callbacks of an event have run
abbrev pub once_reported_for : Managed → Observed → Managed
once_reported_for before (Item item) = once_reported before item
once_reported_for before (Answered event answer) = once_reported before (Happens event)
once_reported_for before (Saw sight) = before

-- so many items are as the rules say, and the next one isn't
pub record DifferFrom (before after : Managed) (items : List Observed) (count : ℕ) (difference : Difference) : Type 0 where
  pub earlier : List Observed
  pub item : Observed
  pub later : List Observed
  pub parted : items ≡ earlier ++ item ∷ later
  pub count_is : length earlier ≡ count
  pub done : Managed
  pub so : AreAllSo before done earlier
  pub why : DiffersIn (setting_of before) (seen_from (setting_of before) before.state (taken_from earlier)) [] item difference
  pub left : after ≡ once_reported_for done item

-- the item that differs, counted from 1 over the whole trace; with 0 nothing was done, since a task was there at the start
abbrev pub IsDifferenceOfWhole : Managed → Managed → List Observed → ℕ → Difference → Type 0
IsDifferenceOfWhole before after items zero difference =
    (difference ≡ Premise NotOpening) × (after ≡ before) × ((task : ℕ) × (is_there before.state task ≡ true))
IsDifferenceOfWhole before after items (suc count) difference = DifferFrom before after items count difference
