use Rattle.std.proofs.Common.{ltb, ◌&&◌, ◌-◌, ◌≤◌, length, true}
use Rattle.klp_patch.specs.Changes.{AreMade, Notes, without_nop, hooked_count}
use Rattle.klp_patch.proofs.entries.drop_nops.Given as goal

abbrev pub invariant-loop-site : goal.invariant-loop-site
invariant-loop-site l = record {
  within : l.from ≤ length l.initial.sites.stacks;
  entries : AreMade l.initial.sites l.sites (λ site. true && ltb site l.from) (λ site entries. without_nop l.patch entries);
  notes : Notes l.initial.sites l.sites l.initial.log l.log l.from (hooked_count l.sites) (hooked_count l.initial.sites);
}

abbrev pub decreases-loop-site : goal.decreases-loop-site
decreases-loop-site l = length l.initial.sites.stacks - l.from
