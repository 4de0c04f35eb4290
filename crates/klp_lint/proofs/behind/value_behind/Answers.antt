use Rattle.klp_lint.proofs.BehindLemmas.{goes_on, is_back}
use Rattle.klp_lint.proofs.behind.value_behind.Goals as goal

pub returns-clause-seen : goal.returns-clause-seen
returns-clause-seen g c =
    let before = c.args.manager.now in
    let there = c.run.new.self in
    record {
      there = there;
      counts = c.run.result;
      taken = c.run.ensures.taken;
      setting = c.run.ensures.setting;
      seen = c.shadow_get-value.ensures;
      back = is_back before there c.rewind.new.self c.mark-start.result c.rewind.result c.mark-start.ensures.mark c.requires
          (goes_on before there c.args.events.now c.run.result c.run.ensures.taken)
          c.run.ensures.setting c.rewind.ensures.rewound c.rewind.ensures.bad_mark;
    }
