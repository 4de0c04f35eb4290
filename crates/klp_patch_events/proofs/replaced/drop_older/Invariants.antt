use Rattle.std.proofs.Common.{◌≡◌, ◌+◌, ◌*◌, ◌≤◌, length}
use Rattle.klp_model.specs.Completing.{from_patch}
use Rattle.klp_types.specs.declared.limits.TheConstants.{MAX_RECORDS}
use Rattle.klp_manager_state.specs.Rows.{WorldGoesBack}
use Rattle.klp_patch_events.proofs.replaced.drop_older.Given as goal

-- older ones alone have left the list
abbrev pub invariant-loop-dropped : goal.invariant-loop-dropped
invariant-loop-dropped l = record {
  left : from_patch l.patch l.world.installed ≡ from_patch l.patch l.fn.world.installed;
  shadow : l.world.shadow ≡ l.fn.world.shadow;
  fewer : length l.world.installed + l._dropped ≡ length l.fn.world.installed;
  few : length l.fn.world.installed ≤ 16;
  records : length l.log.logged ≤ 3500 + 17 * l._dropped;
  back : WorldGoesBack l.fn.world l.world l.fn.log l.log;
  room : l.log.room ≡ MAX_RECORDS;
}
