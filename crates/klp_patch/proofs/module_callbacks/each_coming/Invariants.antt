use Rattle.std.proofs.Common.{◌≡◌, ◌++◌, drop, take}
use Rattle.std.specs.Prelude.{find}
use Rattle.klp_model.specs.ModuleCalls.{part_refuses, parts_before}
use Rattle.klp_patch.specs.ModuleParts.{parts_in}
use Rattle.klp_patch.specs.UntilRefused.{calls_until_refused}
use Rattle.klp_patch.proofs.RanLemmas.{SoFar}
use Rattle.klp_patch.proofs.module_callbacks.each_coming.Given as goal

-- the callbacks of the patches so far have run, and none of them refused
abbrev pub invariant-loop-end : goal.invariant-loop-end
invariant-loop-end g l =
    let all = parts_in l.fn.catalog l.object l.installed in
    let left = parts_in l.fn.catalog l.object (drop l.end l.installed) in
    record {
      ran : SoFar l.fn.catalog l.catalog l.fn.world l.world l.fn.log l.log (calls_until_refused l.moving left) (calls_until_refused l.moving all);
      refused : find part_refuses left ≡ find part_refuses all;
      before : parts_before all ≡ parts_in l.fn.catalog l.object (take l.end l.installed) ++ parts_before left;
    }
