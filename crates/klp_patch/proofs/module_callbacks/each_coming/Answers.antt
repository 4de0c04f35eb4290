use Rattle.std.proofs.Common.{rules, w32, to_z, of_z, ◌≡◌, ◌+◌, ◌++◌, [], Some, option_map, drop, take, refl, sym, ap, ◌∙◌, arith}
use Rattle.std.specs.Prelude.{find}
use Rattle.std.proofs.lemmas.List.{append-nil}
use Rattle.klp_model.specs.ModuleCalls.{part_refuses}
use Rattle.klp_patch.specs.ModuleParts.{parts_at, parts_in}
use Rattle.klp_patch.specs.UntilRefused.{calls_until_refused, refusal}
use Rattle.klp_patch.proofs.ModulePartsLemmas.{unless_found, parts_so_far, refusal-some, refusal-none, part_coming-next, passed-calls, passed-refused, passed-before, stopped-calls, stopped-refused, stopped-before}
use Rattle.klp_patch.proofs.RanLemmas.{goes_on, all_ran, room_for_next}
use Rattle.klp_patch.proofs.module_callbacks.each_coming.Goals as goal

pub part_coming-requires : goal.part_coming-requires
part_coming-requires g c =
    let first = c.args.catalog.now in
    let now = c.loop-end.catalog in
    let moving = c.args.moving.now in
    let left = calls_until_refused moving (parts_in first c.args.object (drop c.loop-end.end c.args.installed.now)) in
    let behind = calls_until_refused moving (parts_in first c.args.object (drop (c.loop-end.end + 1) c.args.installed.now)) in
    let all = calls_until_refused moving (parts_in first c.args.object c.args.installed.now) in
    let own = parts_at now c.args.object c.index-installed-end.result in
    let same = parts_so_far first now c.args.world.now c.loop-end.world c.args.log.now c.loop-end.log left all c.args.object c.index-installed-end.result c.loop-end.invariant.ran in
    let next = part_coming-next moving first now c.args.object c.args.installed.now c.loop-end.end c.index-installed-end.result same c.loop-end-test.true c.index-installed-end.is in
    room_for_next first now c.args.world.now c.loop-end.world c.args.log.now c.loop-end.log left all (calls_until_refused moving own) (unless_found (find part_refuses own) behind)
    c.requires c.loop-end.invariant.ran next

pub returns-in-Some-clause-refused : goal.returns-in-Some-clause-refused
returns-in-Some-clause-refused g c =
    let first = c.args.catalog.now in
    let now = c.loop-end.catalog in
    let moving = c.args.moving.now in
    let left = calls_until_refused moving (parts_in first c.args.object (drop c.loop-end.end c.args.installed.now)) in
    let all = calls_until_refused moving (parts_in first c.args.object c.args.installed.now) in
    let own = parts_at now c.args.object c.index-installed-end.result in
    let before = parts_in first c.args.object (take c.loop-end.end c.args.installed.now) in
    let same = parts_so_far first now c.args.world.now c.loop-end.world c.args.log.now c.loop-end.log left all c.args.object c.index-installed-end.result c.loop-end.invariant.ran in
    let stored : to_z w32 (of_z w32 c.in-Some.status) ≡ c.in-Some.status = search rules in
    let here = refusal-some (find part_refuses own) (c.index-installed-end.result, c.in-Some.status) c.in-Some.ensures.refused in (
      omega (arith, c.loop-end-test.true),
      ap (option_map refusal) (sym c.loop-end.invariant.refused
          ∙ stopped-refused moving first now c.args.object c.args.installed.now c.loop-end.end c.index-installed-end.result same c.loop-end-test.true c.index-installed-end.is here.0 here.1)
          ∙ ap Some (sym here.2) ∙ ap (λ status. Some (c.index-installed-end.result, status)) (sym stored),
      c.loop-end.invariant.before
          ∙ ap (λ parts. before ++ parts)
          (stopped-before moving first now c.args.object c.args.installed.now c.loop-end.end c.index-installed-end.result same c.loop-end-test.true c.index-installed-end.is here.0 here.1 (c.in-Some.ensures.first refl))
          ∙ append-nil before,
    )

pub returns-in-Some-clause-ran : goal.returns-in-Some-clause-ran
returns-in-Some-clause-ran g c =
    let first = c.args.catalog.now in
    let now = c.loop-end.catalog in
    let moving = c.args.moving.now in
    let left = calls_until_refused moving (parts_in first c.args.object (drop c.loop-end.end c.args.installed.now)) in
    let all = calls_until_refused moving (parts_in first c.args.object c.args.installed.now) in
    let own = parts_at now c.args.object c.index-installed-end.result in
    let same = parts_so_far first now c.args.world.now c.loop-end.world c.args.log.now c.loop-end.log left all c.args.object c.index-installed-end.result c.loop-end.invariant.ran in
    let here = refusal-some (find part_refuses own) (c.index-installed-end.result, c.in-Some.status) c.in-Some.ensures.refused in
    let last = stopped-calls moving first now c.args.object c.args.installed.now c.loop-end.end c.index-installed-end.result same c.loop-end-test.true c.index-installed-end.is here.0 here.1 in
    let far = goes_on c.runs_add_up.ensures first now c.part_coming.new.catalog c.args.world.now c.loop-end.world c.part_coming.new.world c.args.log.now c.loop-end.log c.part_coming.new.log left all (calls_until_refused moving own) []
    c.loop-end.invariant.ran last c.part_coming.ensures.ran
    in
    all_ran first c.part_coming.new.catalog c.args.world.now c.part_coming.new.world c.args.log.now c.part_coming.new.log [] all far refl

pub loop-end-preserved : goal.loop-end-preserved
loop-end-preserved g c =
    let first = c.args.catalog.now in
    let now = c.loop-end.catalog in
    let moving = c.args.moving.now in
    let left = calls_until_refused moving (parts_in first c.args.object (drop c.loop-end.end c.args.installed.now)) in
    let behind = calls_until_refused moving (parts_in first c.args.object (drop (c.loop-end.end + 1) c.args.installed.now)) in
    let all = calls_until_refused moving (parts_in first c.args.object c.args.installed.now) in
    let own = parts_at now c.args.object c.index-installed-end.result in
    let same = parts_so_far first now c.args.world.now c.loop-end.world c.args.log.now c.loop-end.log left all c.args.object c.index-installed-end.result c.loop-end.invariant.ran in
    let none = refusal-none (find part_refuses own) c.in_default.ensures.refused in
    record {
      ran = goes_on c.runs_add_up.ensures first now c.part_coming.new.catalog c.args.world.now c.loop-end.world c.part_coming.new.world c.args.log.now c.loop-end.log c.part_coming.new.log left all (calls_until_refused moving own) behind
          c.loop-end.invariant.ran
          (passed-calls moving first now c.args.object c.args.installed.now c.loop-end.end c.index-installed-end.result same c.loop-end-test.true c.index-installed-end.is none)
          c.part_coming.ensures.ran;
      refused = sym (passed-refused moving first now c.args.object c.args.installed.now c.loop-end.end c.index-installed-end.result same c.loop-end-test.true c.index-installed-end.is none)
          ∙ c.loop-end.invariant.refused;
      before = c.loop-end.invariant.before
          ∙ passed-before moving first now c.args.object c.args.installed.now c.loop-end.end c.index-installed-end.result same c.loop-end-test.true c.index-installed-end.is none;
    }
