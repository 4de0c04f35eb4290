use Rattle.klp_sites.proofs.ExactLemmas.{none_logged}
use Rattle.klp_sites.proofs.sites.Sites.take.Goals as goal

pub returns-in_default : goal.returns-in_default
returns-in_default c = record {
  changes = none_logged c.args.self.now c.take_out.new.self c.args.log.now c.args.site c.args.patch c.in_default.ensures.place c.take_out.ensures.table c.in_default.ensures.unchanged;
}
