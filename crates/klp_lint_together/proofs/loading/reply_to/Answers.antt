use Rattle.klp_lint_together.proofs.KeptLemmas.{kept_back}
use Rattle.klp_lint_together.proofs.loading.reply_to.Goals as goal

pub returns : goal.returns
returns g c =
    kept_back c.reply_behind.ensures.answered.back c.reply_behind.ensures.setting
