use Rattle.std.proofs.Common.{sym, subst}
use Rattle.klp_console_io.specs.Supply.{Supply}
use Rattle.klp_console_io.specs.Written.{Written}
use Rattle.klp_program.specs.Runs.{Streams, Runs}
use Rattle.klp_program.proofs.serve.over_std.Goals as goal

pub returns : goal.returns
returns g c =
    let streams : Streams = record { supply = c.over_text-ended.new.reader; written = c.over_text-ended.new.writer } in
    let nothing : Written = record { taken = g.W.Write.contents c.args.out; failures = 0; stalls = 0 } in
    record {
      streams = streams;
      runs = subst (λ (s : Supply). Runs c.args.catalog.now (record { supply = s; written = nothing }) streams c.over_text-ended.result) c.new-reader.ensures
          (subst (λ (w : Written). Runs c.args.catalog.now (record { supply = c.new-reader.result; written = w }) streams c.over_text-ended.result) c.new-writer.ensures
          c.over_text-ended.ensures);
      input = sym c.into_inner.ensures;
      output = sym c.into_inner-2.ensures;
    }
