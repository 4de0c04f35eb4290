-- The pool: the entries of all stacks, as linked slots.
use Rattle.std.specs.Prelude.{◌≡◌, ℕ, zero, suc, ◌+◌, ◌-◌, ◌<◌, List, [], ◌∷◌, length, map, slice_index_or, None}
use Rattle.klp_types.specs.declared.version.Entry.{Entry}
use Rattle.klp_stack.specs.declared.slot.Slot.{Slot}
use Rattle.klp_stack.specs.declared.slot.TheConstants.{MAX_ENTRIES}
use Rattle.klp_stack.specs.declared.chain.Chain.{Chain}
use Rattle.klp_stack.specs.Stack.{IsStack}
use Rattle.klp_stack.specs.Spare.{held}

-- the slot with this number
abbrev pub slot_at : List Slot → ℕ → Slot
slot_at slots number = slice_index_or slots number (record { entry = record { patch = 0; func = None }; older = 0 })

-- this many entries, from slot `number` on, each followed by the next older one
abbrev pub entries_from : List Slot → ℕ → ℕ → List Entry
entries_from slots zero number = []
entries_from slots (suc older) number =
    (slot_at slots number).entry ∷ entries_from slots older (slot_at slots number).older

-- the number of the slot that is this many steps below slot `number`
abbrev pub slot_below : List Slot → ℕ → ℕ → ℕ
slot_below slots zero number = number
slot_below slots (suc steps) number = (slot_at slots (slot_below slots steps number)).older

-- this many slots, linked from slot `number` on, have valid numbers
abbrev pub IsLinked : List Slot → ℕ → ℕ → Type 0
IsLinked slots zero number = Unit {0}
IsLinked slots (suc older) number = (number < length slots) × IsLinked slots older (slot_at slots number).older

-- the stack of a site
abbrev pub chain_at : List Chain → ℕ → Chain
chain_at chains site = slice_index_or chains site (record { newest = 0; len = 0 })

-- the entries of a stack, newest first
abbrev pub entries_of : List Slot → Chain → List Entry
entries_of slots chain = entries_from slots chain.len chain.newest

-- the entries of a stack without the newest
abbrev pub entries_below : List Slot → Chain → List Entry
entries_below slots chain = entries_from slots (chain.len - 1) (slot_at slots chain.newest).older

-- all slots are in the free list, in order
pub record IsFree (slots : List Slot) (free spare : ℕ) : Type 0 where
  pub room : length slots ≡ MAX_ENTRIES
  pub links : (number : ℕ) → number < length slots → (slot_at slots number).older ≡ number + 1
  pub first : free ≡ 0
  pub count : spare ≡ MAX_ENTRIES

-- for each slot its owner (0 for the free list, a site's number plus 1 for its stack), and how many older slots the
-- owner has
pub record Owners : Type 0 where
  pub owner : ℕ → ℕ
  pub older : ℕ → ℕ

-- this many slots, from slot `number` on, have valid numbers and belong to the owner `who`; so no slot occurs
-- twice, and none belongs to another owner
abbrev pub IsOwned : Owners → List Slot → ℕ → ℕ → ℕ → Type 0
IsOwned owners slots who zero number = Unit {0}
IsOwned owners slots who (suc older) number =
    (number < length slots) × (owners.owner number ≡ who) × (owners.older number ≡ older)
    × IsOwned owners slots who older (slot_at slots number).older

-- every slot belongs to exactly one stack or to the free list, and occurs there once
pub record IsPool (slots : List Slot) (chains : List Chain) (free spare : ℕ) : Type 0 where
  pub room : length slots ≡ MAX_ENTRIES
  pub owners : Owners
  pub sites : (site : ℕ) → site < length chains → let chain = chain_at chains site in
      IsOwned owners slots (suc site) chain.len chain.newest
  pub stacks : (site : ℕ) → site < length chains → IsStack (entries_of slots (chain_at chains site))
  pub unused : IsOwned owners slots 0 spare free
  pub all : held (map (entries_of slots) chains) + spare ≡ MAX_ENTRIES
