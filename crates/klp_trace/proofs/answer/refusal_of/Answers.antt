use Rattle.std.proofs.Common.{◌≡◌, option_map, ◌∙◌, rules, tests}
use Rattle.std.specs.Prelude.{find}
use Rattle.std.proofs.lemmas.Iterator.{YieldsList-from_slice}
use Rattle.std.proofs.lemmas.Iterator.Search.{find_from_yields_List}
use Rattle.klp_model.specs.declared.event.Refusal.{Refusal}
use Rattle.klp_console.specs.Refusals.{refusals, refusal_text}
use Rattle.klp_trace.specs.Answers.{is_line_of}
use Rattle.klp_trace.proofs.answer.refusal_of.Goals as goal

pub returns : goal.returns
returns c =
    let found : option_map (λ y. y.now) c.find.result ≡ find (λ (refusal : Refusal). is_line_of c.args.text.now (refusal_text refusal)) refusals =
    find_from_yields_List (λ (refusal : Refusal). is_line_of c.args.text.now (refusal_text refusal)) _ _ c.find.result c.find.ensures.ran
    (YieldsList-from_slice refusals cc) (λ x b q k. search (rules, tests)) in
    c.copied.ensures ∙ found
