-- How slots are relinked when an entry is put into a stack or taken out.
use Rattle.std.specs.Prelude.{◌≡◌, ℕ, ◌+◌, ◌-◌, ◌<◌, List, slice_set}
use Rattle.klp_types.specs.declared.version.Entry.{Entry}
use Rattle.klp_stack.specs.declared.slot.Slot.{Slot}
use Rattle.klp_stack.specs.declared.chain.Chain.{Chain}
use Rattle.klp_stack.specs.declared.pool.Pool.{Pool}
use Rattle.klp_stack.specs.Pool.{slot_at, slot_below}

-- the slots after slot `number` was linked to slot `older`
abbrev pub linked_to : List Slot → ℕ → ℕ → List Slot
linked_to slots number older = slice_set slots number (record (slot_at slots number) { older = older })

-- the slots after slot `number` got this entry and was linked to slot `older`
abbrev pub filled : List Slot → ℕ → Entry → ℕ → List Slot
filled slots number entry older = slice_set slots number (record { entry = entry; older = older })

-- the slots change from `slots` to `now` when a stack loses its entry that has `index` older ones; `newest` is then
-- the stack's newest slot, and the entry's slot becomes the first of the free list
pub record IsTaken (slots now : List Slot) (chain : Chain) (index free newest free_now : ℕ) : Type 0 where
  -- the entry is the newest
  pub top : index + 1 ≡ chain.len
      → (now ≡ linked_to slots chain.newest free)
      × (newest ≡ (slot_at slots chain.newest).older) × (free_now ≡ chain.newest)
  -- the entry is below another, whose slot is linked to the next older one
  pub below : index + 1 < chain.len → let above = slot_below slots (chain.len - 2 - index) chain.newest in
      let number = (slot_at slots above).older in
      (now ≡ linked_to (linked_to slots above (slot_at slots number).older) number free)
      × (newest ≡ chain.newest) × (free_now ≡ number)

-- the pool after an entry with `index` older ones was taken out of the stack `chain`; `left` is the stack that is
-- left
pub record IsTakenOut (before after : Pool) (chain : Chain) (index : ℕ) (left : Chain) : Type 0 where
  pub within : index < chain.len
  pub len : left.len ≡ chain.len - 1
  pub links : IsTaken before.slots.items after.slots.items chain index before.free left.newest after.free
  pub spare : after.spare ≡ before.spare + 1

-- the slots change from `slots` to `now` when a stack gets an entry above `index` older ones: the entry gets the
-- first slot of the free list, and `newest` is then the stack's newest slot
pub record IsPutIn (slots now : List Slot) (chain : Chain) (index : ℕ) (entry : Entry) (free newest : ℕ) : Type 0 where
  -- the entry goes on top
  pub top : index ≡ chain.len → (now ≡ filled slots free entry chain.newest) × (newest ≡ free)
  -- the entry goes below another, whose slot is linked to it
  pub below : index < chain.len → let above = slot_below slots (chain.len - 1 - index) chain.newest in
      (now ≡ linked_to (filled slots free entry (slot_at slots above).older) above free) × (newest ≡ chain.newest)

-- the pool after an entry was put into the stack `chain` above `index` older ones; `grown` is the changed stack
pub record IsPutInto (before after : Pool) (chain : Chain) (index : ℕ) (entry : Entry) (grown : Chain) : Type 0 where
  pub len : grown.len ≡ chain.len + 1
  pub links : IsPutIn before.slots.items after.slots.items chain index entry before.free grown.newest
  pub free : after.free ≡ (slot_at before.slots.items before.free).older
  pub spare : after.spare ≡ before.spare - 1
