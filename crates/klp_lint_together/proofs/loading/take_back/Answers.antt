use Rattle.klp_lint_together.proofs.KeptLemmas.{taken_back, still_further}
use Rattle.klp_lint_together.proofs.loading.take_back.Goals as goal

pub returns-clause-back : goal.returns-clause-back
returns-clause-back g c =
    taken_back c.args.manager.now c.rewind.new.self c.args.mark c.rewind.result c.rewind.ensures.rewound c.rewind.ensures.bad_mark
    c.rewind.ensures.setting

pub returns-clause-further : goal.returns-clause-further
returns-clause-further g c =
    still_further c.args.manager.now c.rewind.new.self c.args.mark c.rewind.result c.rewind.ensures.rewound c.rewind.ensures.refused
    c.rewind.ensures.setting
