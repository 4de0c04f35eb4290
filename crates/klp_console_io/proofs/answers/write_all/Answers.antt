use Rattle.std.proofs.Common.{◌+◌, length, take, drop, sym, ap, ◌∙◌, inl, inr, arith, length-drop, take-append-drop}
use Rattle.std.proofs.KnownBytes.{Appends-kept}
use Rattle.std.proofs.lemmas.List.{length-take-le}
use Rattle.klp_console_io.proofs.WriteLemmas.{rest_of, more_taken, some_left}
use Rattle.klp_console_io.proofs.answers.write_all.Goals as goal

pub returns-in-Err-clause-err : goal.returns-in-Err-clause-err
returns-in-Err-clause-err g c = (
  take c.loop-done.done c.args.bytes.now,
  drop c.loop-done.done c.args.bytes.now,
  record {
    cut = sym (take-append-drop c.loop-done.done c.args.bytes.now);
    taken = Appends-kept _ _ _ (take c.loop-done.done c.args.bytes.now) c.loop-done.invariant.taken c.in-Err.ensures.err.0;
  },
  inl (c.in-Err.ensures.err.1 ∙ ap (λ n. n + 1) c.loop-done.invariant.well.0, c.in-Err.ensures.err.2 ∙ c.loop-done.invariant.well.1),
  some_left c.loop-done.done c.args.bytes.now c.loop-done-test.true,
  length-take-le c.loop-done.done c.args.bytes.now c.loop-done.invariant.within,
)

pub returns-then-count-eq0-clause-err : goal.returns-then-count-eq0-clause-err
returns-then-count-eq0-clause-err g c =
    let len = ap length (rest_of c.loop-done.done c.args.bytes.now) ∙ length-drop c.loop-done.done c.args.bytes.now in (
      take (c.loop-done.done + c.in-Ok.count) c.args.bytes.now,
      drop (c.loop-done.done + c.in-Ok.count) c.args.bytes.now,
      record {
        cut = sym (take-append-drop (c.loop-done.done + c.in-Ok.count) c.args.bytes.now);
        taken = more_taken _ _ _ c.args.bytes.now c.loop-done.done c.in-Ok.count c.loop-done.invariant.taken c.in-Ok.ensures.ok.0;
      },
      inr (c.in-Ok.ensures.ok.1 ∙ c.loop-done.invariant.well.0, c.in-Ok.ensures.stall c.if-count-eq0.true (omega (arith, len)) ∙ ap (λ n. n + 1) c.loop-done.invariant.well.1),
      some_left (c.loop-done.done + c.in-Ok.count) c.args.bytes.now (omega arith),
      length-take-le (c.loop-done.done + c.in-Ok.count) c.args.bytes.now (omega arith) ∙ omega arith,
    )

pub loop-done-preserved : goal.loop-done-preserved
loop-done-preserved g c =
    let len = ap length (rest_of c.loop-done.done c.args.bytes.now) ∙ length-drop c.loop-done.done c.args.bytes.now in
    record {
      within = omega (arith, c.in-Ok.ensures.bound, len);
      taken = more_taken _ _ _ c.args.bytes.now c.loop-done.done c.in-Ok.count c.loop-done.invariant.taken c.in-Ok.ensures.ok.0;
      well = (c.in-Ok.ensures.ok.1 ∙ c.loop-done.invariant.well.0, c.in-Ok.ensures.moved (omega arith) ∙ c.loop-done.invariant.well.1);
    }
