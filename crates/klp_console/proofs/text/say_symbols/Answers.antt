use Rattle.std.proofs.Common.{refl, arith}
use Rattle.std.specs.Prelude.{slice_get}
use Rattle.klp_types.specs.Image.{Symbol}
use Rattle.klp_console.specs.Queries.{symbol_text}
use Rattle.klp_console.proofs.LineLemmas.{said_found, symbol_found, found_within}
use Rattle.klp_console.proofs.text.say_symbols.Goals as goal
use Rattle.klp_console.proofs.text.say_symbols.Goals.{in-Some, in_default}

pub loop-number-preserved : goal.loop-number-preserved
loop-number-preserved g c =
    let symbols = c.args.text.now in
    let number = c.loop-number.number in
    elim c.match-get.branch [
      | in-Some w ↦
          let is = w.in-Some.ensures in
          let found = symbol_found (slice_get symbols number) w.in-Some.name.now w.in-Some.address w.in-Some.body.now is.name is.address is.body in
          rw (w.answers-is, w.writer-is) (
          said_found symbol_text symbols number _ _ _ _ found refl
          (c.what_is_said_adds_up.ensures.adds_up _ _ _ _ _ c.loop-number.invariant w.say_symbol.ensures))
      | in_default w ↦ absurd (found_within (λ (s : Symbol). s.address) symbols number (omega arith) w.in_default.ensures.address)
    ]
