use Rattle.klp_live.proofs.Rises.{admits_by, forks_by, merges_by}
use Rattle.klp_live.proofs.opening.seat.Goals as goal

pub reader-requires : goal.reader-requires
reader-requires g c = admits_by g.S.Start.setting g.S.Start.base g.S.Start.book g.S.Protocol.holds g.S.Protocol.first c.requires.rule

pub tell-requires : goal.tell-requires
tell-requires g c = forks_by g.S.Start.setting g.S.Start.base g.S.Start.book g.S.Protocol.holds g.S.Protocol.first c.requires.rule _ _

pub learn-requires-clause-rule : goal.learn-requires-clause-rule
learn-requires-clause-rule g c = merges_by g.S.Start.setting g.S.Start.base g.S.Start.book g.S.Protocol.holds g.S.Protocol.first c.requires.rule _ _ _ _
