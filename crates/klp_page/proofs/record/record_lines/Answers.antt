use Rattle.std.proofs.Common.{◌≡◌, [], ◌∷◌, ◌++◌, ap, sym, subst, ◌∙◌}
use Rattle.std.specs.Prelude.{IfSome}
use Rattle.klp_console_io.specs.Lines.{lines_and_rest}
use Rattle.klp_page.proofs.RecordLemmas.{rows_added, one_more}
use Rattle.klp_page.proofs.record.record_lines.Goals as goal

pub loop-rest-preserved : goal.loop-rest-preserved
loop-rest-preserved g c =
    let after = c.in-Ok-Some.after.now in
    let finished : lines_and_rest (c.loop-rest.line ++ c.loop-rest.rest.now) ≡ c.hear.new.self ∷ lines_and_rest after =
    subst (λ o. IfSome o (λ rest. lines_and_rest (c.loop-rest.line ++ c.loop-rest.rest.now) ≡ c.hear.new.self ∷ lines_and_rest rest.now)) c.in-Ok-Some.field-0-is c.in-Ok-Some.ensures.finished in
    let so_far = c.loop-rest.invariant in
    let line = c.bytes.result.now in (
      so_far.0 ++ line ∷ [],
      one_more _ so_far.0 _ (lines_and_rest after) line so_far.1 (finished ∙ ap (λ l. l ∷ lines_and_rest after) (sym c.bytes.ensures.bytes))
          ∙ ap (λ l. (so_far.0 ++ line ∷ []) ++ lines_and_rest (l ++ after)) (sym c.clear.ensures),
      rows_added c.args.manager.now c.loop-rest.manager c.add_line.new.manager c.args.opening.now so_far.0 c.loop-rest.recorded.rows.items c.add_line.new.recorded.rows.items
          c.loop-rest.recorded.run.items c.add_line.new.recorded.run.items line so_far.2 c.in_ok-add_line-in-Ok-Some.ensures,
    )
