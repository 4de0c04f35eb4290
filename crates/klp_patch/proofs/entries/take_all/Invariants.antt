use Rattle.std.proofs.Common.{ltb, ◌&&◌, ◌-◌, ◌≤◌, length}
use Rattle.klp_stack.specs.Stack.{entries_of_others}
use Rattle.klp_patch.specs.Covered.{is_covered}
use Rattle.klp_patch.specs.Changes.{AreMade, Notes, hooked_count}
use Rattle.klp_patch.proofs.entries.take_all.Given as goal

abbrev pub invariant-loop-site : goal.invariant-loop-site
invariant-loop-site l = record {
  within : l.from ≤ length l.initial.sites.stacks;
  entries : AreMade l.initial.sites l.sites (λ site. is_covered l.initial.sites l.fn.only site && ltb site l.from) (λ site entries. entries_of_others l.patch entries);
  notes : Notes l.initial.sites l.sites l.initial.log l.log l.from (hooked_count l.sites) (hooked_count l.initial.sites);
}

abbrev pub decreases-loop-site : goal.decreases-loop-site
decreases-loop-site l = length l.initial.sites.stacks - l.from
