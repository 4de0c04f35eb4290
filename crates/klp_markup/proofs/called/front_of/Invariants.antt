use Rattle.std.proofs.Common.{◌≡◌, ◌≤◌}
use Rattle.klp_markup.specs.declared.called.TheConstants.{MAX_SHOWN}
use Rattle.klp_markup.specs.Called.{last_begin}
use Rattle.klp_markup.proofs.called.front_of.Given as goal

-- nothing begins behind this place and up to the limit
abbrev pub invariant-loop-end : goal.invariant-loop-end
invariant-loop-end l = (l.end ≤ MAX_SHOWN) × (last_begin l.end l.name ≡ last_begin MAX_SHOWN l.name)

abbrev pub decreases-loop-end : goal.decreases-loop-end
decreases-loop-end l = l.end
