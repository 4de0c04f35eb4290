use Rattle.std.proofs.Common.{◌∙◌}
use Rattle.klp_lint.proofs.BehindLemmas.{goes_on, goes_one_on, is_back}
use Rattle.klp_lint.proofs.behind.reply_behind.Goals as goal

pub returns-clause-answered : goal.returns-clause-answered
returns-clause-answered g c =
    let before = c.args.manager.now in
    let there = c.run.new.self in
    let last = c.apply_lent-reply.new.self in
    record {
      there = there;
      last = last;
      counts = c.run.result;
      taken = c.run.ensures.taken;
      setting = c.run.ensures.setting;
      answered = c.apply_lent-reply.ensures.taken;
      back = is_back before last c.rewind.new.self c.mark-mark.result c.rewind.result c.mark-mark.ensures.mark c.requires
          (goes_one_on before there last c.args.event.now c.apply_lent-reply.result (goes_on before there c.args.events.now c.run.result c.run.ensures.taken) c.apply_lent-reply.ensures.taken)
          (c.apply_lent-reply.ensures.setting ∙ c.run.ensures.setting) c.rewind.ensures.rewound c.rewind.ensures.bad_mark;
    }
