use Rattle.std.proofs.Common.{rules}
use Rattle.klp_live.proofs.Rises.{reads_by}
use Rattle.klp_live.proofs.entering.look.Goals as goal

pub enter_as-requires : goal.enter_as-requires
enter_as-requires g c x = reads_by g.S.Start.setting g.S.Start.base g.S.Start.book g.S.Protocol.holds g.S.Protocol.first c.requires.rule _ _ x

pub returns-in-Ok-clause-found : goal.returns-in-Ok-clause-found
returns-in-Ok-clause-found g c = search rules
