use Rattle.std.proofs.Common.{sym, ◌∙◌}
use Rattle.klp_console.proofs.HearLemmas.{hears_failed, hears_written}
use Rattle.klp_console.proofs.console.hear.Goals as goal

pub returns-then-has_failed-clause-hears : goal.returns-then-has_failed-clause-hears
returns-then-has_failed-clause-hears g c = hears_failed _ _ _ _ _ c.hear_lines-heard.ensures.hears (sym c.has_failed.ensures ∙ c.if-has_failed.true)

pub returns-clause-hears : goal.returns-clause-hears
returns-clause-hears g c =
    hears_written _ _ _ _ _ _ c.hear_lines-heard.ensures.hears (sym c.has_failed.ensures ∙ c.if-has_failed.false)
    (λ lines ahead. c.write_out.ensures.comes _ lines c.hear_lines-heard.new.served ahead) (sym c.has_failed-2.ensures ∙ c.if-has_failed-2.false)
