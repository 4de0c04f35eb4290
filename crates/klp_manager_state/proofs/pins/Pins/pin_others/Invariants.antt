use Rattle.std.proofs.Common.{◌≡◌, ◌+◌, ◌≤◌, drop, length}
use Rattle.std.specs.Prelude.{not, ◌==◌, filter}
use Rattle.klp_model.specs.Forcing.{pin_all}
use Rattle.klp_manager_state.specs.Rows.{PinsGoBack}
use Rattle.klp_manager_state.proofs.pins.Pins.pin_others.Given as goal

-- to pin those that are left gives what all of them give
abbrev pub invariant-loop-other : goal.invariant-loop-other
invariant-loop-other l = record {
  pinned : pin_all (filter (λ p. not (p == l.patch)) (drop l.other-index l.patches)) l.self ≡ pin_all (filter (λ p. not (p == l.patch)) l.patches) l.initial.self;
  back : PinsGoBack l.initial.self l.self l.initial.log l.log;
  few : length l.log.logged ≤ length l.initial.log.logged + l.other-index;
  room : l.log.room ≡ l.initial.log.room;
}
