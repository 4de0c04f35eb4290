use Rattle.std.proofs.Common.{rules}
use Rattle.klp_program.proofs.ServeLemmas.{runs_booted}
use Rattle.klp_program.proofs.serve.over_text.Goals as goal

pub returns : goal.returns
returns g c =
    let over = c.in_ok-over_text.ensures in
    let user = c.over_text.new.user in
    let runs = runs_booted c.args.catalog.now over.plan over.over.booted
    (record { supply = g.R.Source.supply c.args.reader.now; written = g.W.Sink.written c.args.writer.now })
    (record { supply = g.R.Source.supply user.reader.now; written = g.W.Sink.written user.writer.now })
    c.in_ok-over_text.field-0 over.planned over.over.is_booted over.over.came_to.2
    in
    search rules
