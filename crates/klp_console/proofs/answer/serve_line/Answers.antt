use Rattle.std.proofs.Common.{◌≡◌, [], ◌∷◌, sym, subst, ◌∙◌, rules}
use Rattle.std.proofs.lemmas.Bool.{both_ways}
use Rattle.klp_console_commands.specs.Asked.{asked_with}
use Rattle.klp_console_commands.specs.Lines.{request_of}
use Rattle.klp_console.specs.Answered.{names_in}
use Rattle.klp_console.proofs.AheadLemmas.{cut_on}
use Rattle.klp_console.proofs.answer.serve_line.Goals as goal

pub returns-then-has_failed-clause-comes : goal.returns-then-has_failed-clause-comes
returns-then-has_failed-clause-comes g c =
    let failed = sym c.has_failed.ensures ∙ c.if-has_failed.true in
    λ before lines ahead. (
      λ still. absurd (both_ways _ still failed),
      λ same. cut_on before _ lines (c.args.line.now ∷ []) ((c.make_ready.ensures.comes before lines c.args.served.now ahead).1 failed),
    )

pub returns-clause-comes : goal.returns-clause-comes
returns-clause-comes g c =
    let ready = sym c.has_failed.ensures ∙ c.if-has_failed.false in
    let request = asked_with c.read_request-asked.result c.read_request-asked.new.event in
    let is_asked : request ≡ request_of (names_in c.args.manager.now) c.args.line.now = search rules in
    let is = subst (λ m. request ≡ request_of (names_in m) c.args.line.now) (sym (c.make_ready.ensures.same ready)) is_asked in
    λ before lines ahead. c.gather.ensures.comes before lines c.args.line.now is c.requires.short ((c.make_ready.ensures.comes before lines c.args.served.now ahead).0 ready)
