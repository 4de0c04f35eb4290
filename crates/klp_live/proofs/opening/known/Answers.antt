use Rattle.std.proofs.Common.{◌≡◌, List, Option, fold, subst}
use Rattle.klp_live.specs.declared.published.News.{News}
use Rattle.klp_live.specs.Shown.{with_news}
use Rattle.klp_live.proofs.Rises.{rises_by, itself}
use Rattle.klp_live.proofs.opening.known.Goals as goal

pub publish_as-requires : goal.publish_as-requires
publish_as-requires g c next is =
    let now = c.args.changes.desk.shown.value in
    let e : next ≡ now = subst (λ (l : List (Option News)). next ≡ fold with_news now l) c.requires.room is in
    rises_by g.S.Start.setting g.S.Start.base g.S.Start.book g.S.Protocol.holds g.S.Protocol.first c.requires.rule _ _ now next (λ t. rw e (itself g.S.Start.setting g.S.Start.base g.S.Start.book now t))
