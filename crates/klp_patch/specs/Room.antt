-- The room that a change of entries needs.
use Rattle.std.specs.Prelude.{ℕ, zero, suc, ◌+◌, ◌≤◌, Bool, List, length, if◌then◌else◌}
use Rattle.klp_types.specs.declared.version.Entry.{Entry}
use Rattle.klp_stack.specs.declared.slot.TheConstants.{MAX_ENTRIES}
use Rattle.klp_stack.specs.Stack.{entries_at}
use Rattle.klp_sites.specs.Table.{SiteTable}

-- how many entries the first `sites` sites have together
abbrev pub entry_count : (ℕ → List Entry) → ℕ → ℕ
entry_count entries zero = 0
entry_count entries (suc sites) = length (entries zero) + entry_count (λ site. entries (suc site)) sites

-- the entries of the first `sites` sites fit
abbrev pub FindRoom : (ℕ → List Entry) → ℕ → Type 0
FindRoom entries sites = entry_count entries sites ≤ MAX_ENTRIES

-- all entries of all sites fit once the covered sites have the entries that `made` gives
pub record HasRoom (before : SiteTable) (covers : ℕ → Bool) (made : ℕ → List Entry → List Entry) : Type 0 where
  pub fits : FindRoom
      (λ site. if covers site then made site (entries_at before.stacks site) else entries_at before.stacks site)
      (length before.stacks)
