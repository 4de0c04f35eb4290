use Rattle.std.proofs.Common.{Some, ap, sym, ◌∙◌}
use Rattle.klp_console_io.specs.Fed.{Fed, supply_of}
use Rattle.klp_console_io.specs.Written.{Written}
use Rattle.klp_live_run.proofs.ShownLemmas.{answered_behind}
use Rattle.klp_live_run.proofs.running.answered.Goals as goal

pub returns-in-Ok : goal.returns-in-Ok
returns-in-Ok g c =
    answered_behind
    (record { supply = supply_of c.new-source.result; written = c.new-sink.result; manager = c.args.manager.now })
    (record { supply = supply_of c.serve-ended.new.reader; written = c.serve-ended.new.writer; manager = c.serve-ended.new.manager })
    c.in-Ok.field-0 c.args.lines.now c.args.front.items c.into_inner-text.result.items
    (ap (λ (f : Fed). Some f.left) c.new-source.ensures)
    (ap (λ (w : Written). w.taken) c.new-sink.ensures)
    (sym c.into_inner-text.ensures)
    c.in-Ok.ensures
