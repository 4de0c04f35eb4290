use Rattle.std.proofs.Common.{◌≡◌, ◌<◌, true, false, [], ◌∷◌, ◌++◌, length, ap, sym, subst, ◌∙◌, refl, arith, append-nil}
use Rattle.std.proofs.lemmas.List.{nil_from_length}
use Rattle.std.proofs.lemmas.Bool.{eqb-true}
use Rattle.std.specs.Prelude.{IfSome, IfNone}
use Rattle.klp_console_io.specs.Lines.{lines_and_rest}
use Rattle.klp_console.proofs.SaidLemmas.{some_line, one_more}
use Rattle.klp_console.proofs.AheadLemmas.{ahead_none}
use Rattle.klp_console.proofs.hear.hear_lines.Goals as goal
use Rattle.klp_console.proofs.hear.hear_lines.Goals.{in-Some, in_default+in-Ok-Some}

pub loop-rest-init : goal.loop-rest-init
loop-rest-init g c = record {
  heard = ([], refl, ahead_none _ c.requires.none c.requires.still c.requires.unmarked);
  still = c.requires.still;
  few = c.requires.few;
  room = omega arith;
}

pub returns-then-has_failed-clause-hears : goal.returns-then-has_failed-clause-hears
returns-then-has_failed-clause-hears g c =
    let heard = c.loop-rest.invariant.heard in
    let failed = sym c.has_failed.ensures ∙ c.if-has_failed.true in
    elim c.match-whole_line.branch [
      | in-Some w ↦
          let after = w.in-Some.after.now in
          let line = w.in-Some.whole.now in
          let finished : lines_and_rest (c.loop-rest.line ++ c.loop-rest.rest.now) ≡ line ∷ lines_and_rest after =
          ap (λ l. lines_and_rest (l ++ c.loop-rest.rest.now)) w.in-Some.ensures.begins ∙ w.in-Some.ensures.finished in
          let cut = subst (λ a. a.has_failed ≡ true) w.answers-is failed in
          let next = some_line after in
          rw (w.manager-is, w.served-is, w.answers-is, w.marks-is, w.writer-is) (
            heard.0 ++ line ∷ [],
            next.0,
            next.1,
            one_more _ heard.0 _ (lines_and_rest after) line heard.1 finished ∙ ap (λ rest. (heard.0 ++ line ∷ []) ++ rest) next.2,
            (w.serve_line.ensures.comes _ heard.0 heard.2).1 cut,
            cut,
          )
      | in_default+in-Ok-Some w ↦
          let after = w.in-Ok-Some.after.now in
          let line = w.bytes.result.now in
          let finished : lines_and_rest (c.loop-rest.line ++ c.loop-rest.rest.now) ≡ w.hear.new.self ∷ lines_and_rest after =
          subst (λ o. IfSome o (λ rest. lines_and_rest (c.loop-rest.line ++ c.loop-rest.rest.now) ≡ w.hear.new.self ∷ lines_and_rest rest.now)) w.in-Ok-Some.field-0-is w.in-Ok-Some.ensures.finished in
          let cut = subst (λ a. a.has_failed ≡ true) w.answers-is failed in
          let next = some_line after in
          rw (w.manager-is, w.served-is, w.answers-is, w.marks-is, w.writer-is) (
            heard.0 ++ line ∷ [],
            next.0,
            next.1,
            one_more _ heard.0 _ (lines_and_rest after) line heard.1 (finished ∙ ap (λ l. l ∷ lines_and_rest after) (sym w.bytes.ensures.bytes))
                ∙ ap (λ rest. (heard.0 ++ line ∷ []) ++ rest) next.2,
            (w.serve_line-in-Ok-Some.ensures.comes _ heard.0 heard.2).1 cut,
            cut,
          )
    ]

pub loop-rest-preserved : goal.loop-rest-preserved
loop-rest-preserved g c =
    let heard = c.loop-rest.invariant.heard in
    let still = sym c.has_failed.ensures ∙ c.if-has_failed.false in
    elim c.match-whole_line.branch [
      | in-Some w ↦
          let after = w.in-Some.after.now in
          let line = w.in-Some.whole.now in
          let finished : lines_and_rest (c.loop-rest.line ++ c.loop-rest.rest.now) ≡ line ∷ lines_and_rest after =
          ap (λ l. lines_and_rest (l ++ c.loop-rest.rest.now)) w.in-Some.ensures.begins ∙ w.in-Some.ensures.finished in
          let on = subst (λ a. a.has_failed ≡ false) w.answers-is still in
          rw (w.manager-is, w.served-is, w.answers-is, w.marks-is, w.writer-is, w.rest-is, w.line-is) (record {
            heard = (
              heard.0 ++ line ∷ [],
              one_more _ heard.0 _ (lines_and_rest after) line heard.1 finished
                  ∙ ap (λ l. (heard.0 ++ line ∷ []) ++ lines_and_rest (l ++ after)) (sym w.in-Some.ensures.begins),
              (w.serve_line.ensures.comes _ heard.0 heard.2).0 on,
            );
            still = on;
            few = w.serve_line.ensures.few;
            room = omega (arith, w.in-Some.ensures.shorter, w.serve_line.ensures.lines, c.loop-rest.invariant.room);
          })
      | in_default+in-Ok-Some w ↦
          let after = w.in-Ok-Some.after.now in
          let line = w.bytes.result.now in
          let finished : lines_and_rest (c.loop-rest.line ++ c.loop-rest.rest.now) ≡ w.hear.new.self ∷ lines_and_rest after =
          subst (λ o. IfSome o (λ rest. lines_and_rest (c.loop-rest.line ++ c.loop-rest.rest.now) ≡ w.hear.new.self ∷ lines_and_rest rest.now)) w.in-Ok-Some.field-0-is w.in-Ok-Some.ensures.finished in
          let shorter : length after < length c.loop-rest.rest.now =
          subst (λ o. IfSome o (λ rest. length rest.now < length c.loop-rest.rest.now)) w.in-Ok-Some.field-0-is w.in-Ok-Some.ensures.shorter in
          let on = subst (λ a. a.has_failed ≡ false) w.answers-is still in
          rw (w.manager-is, w.served-is, w.answers-is, w.marks-is, w.writer-is, w.rest-is, w.line-is) (record {
            heard = (
              heard.0 ++ line ∷ [],
              one_more _ heard.0 _ (lines_and_rest after) line heard.1 (finished ∙ ap (λ l. l ∷ lines_and_rest after) (sym w.bytes.ensures.bytes))
                  ∙ ap (λ l. (heard.0 ++ line ∷ []) ++ lines_and_rest (l ++ after)) (sym w.clear.ensures),
              (w.serve_line-in-Ok-Some.ensures.comes _ heard.0 heard.2).0 on,
            );
            still = on;
            few = w.serve_line-in-Ok-Some.ensures.few;
            room = omega (arith, shorter, w.serve_line-in-Ok-Some.ensures.lines, c.loop-rest.invariant.room);
          })
    ]

pub returns-clause-hears : goal.returns-clause-hears
returns-clause-hears g c =
    let heard = c.loop-rest.invariant.heard in
    let empty : c.loop-rest.rest.now ≡ [] = nil_from_length c.loop-rest.rest.now (eqb-true _ 0 (sym c.loop-rest-test.ensures)) in
    let one : lines_and_rest c.loop-rest.line ≡ c.loop-rest.line ∷ [] = subst (λ l. lines_and_rest l ≡ l ∷ []) c.bytes-rest.ensures.bytes c.bytes-rest.ensures.one_line in (
      heard.0,
      heard.1 ∙ ap (λ rest. heard.0 ++ lines_and_rest (c.loop-rest.line ++ rest)) empty ∙ ap (λ line. heard.0 ++ lines_and_rest line) (append-nil c.loop-rest.line)
          ∙ ap (λ lines. heard.0 ++ lines) one,
      heard.2,
    )

pub returns-in-Ok-None-clause-hears : goal.returns-in-Ok-None-clause-hears
returns-in-Ok-None-clause-hears g c =
    let heard = c.loop-rest.invariant.heard in
    let unfinished : lines_and_rest (c.loop-rest.line ++ c.loop-rest.rest.now) ≡ c.hear.new.self ∷ [] =
    subst (λ o. IfNone o (lines_and_rest (c.loop-rest.line ++ c.loop-rest.rest.now) ≡ c.hear.new.self ∷ [])) c.in-Ok-None.field-0-is c.in-Ok-None.ensures.unfinished in
    (heard.0, heard.1 ∙ ap (λ lines. heard.0 ++ lines) unfinished, heard.2)

pub returns-in-Err-clause-hears : goal.returns-in-Err-clause-hears
returns-in-Err-clause-hears g c =
    let heard = c.loop-rest.invariant.heard in
    let long = c.in-Err.ensures.too_long in
    (heard.0, long.0, long.1, heard.1 ∙ ap (λ lines. heard.0 ++ lines) long.2, long.3, heard.2)
