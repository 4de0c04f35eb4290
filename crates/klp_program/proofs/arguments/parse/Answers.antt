use Rattle.std.proofs.Common.{rules, ◌≡◌, ◌∙◌, [], map, string_bytes, option_map, true, false, true≢false, sym, ap, subst, inl, inr}
use Rattle.clap.specs.Words.{App, is_simple, is_simple_and_free, fault_of, kind_of, subcommand_of, subcommand_rows_of, IsAmong, Kinds}
use Rattle.klp_program.specs.Asked.{meaning}
use Rattle.klp_program.specs.Commands.{asked_in, klpsim_app, IsCommand}
use Rattle.klp_program.proofs.AskedLemmas.{are_texts, is_read, is_read_simply, asked_is, none_asked}
use Rattle.klp_program.proofs.arguments.parse.Goals as goal

pub returns-in-Ok-Some-clause-meant : goal.returns-in-Ok-Some-clause-meant
returns-in-Ok-Some-clause-meant c =
    let words = map string_bytes c.args.given.now in
    let command : IsCommand c.in_ok-command.command klpsim_app = search rules in
    let good : fault_of klpsim_app words ≡ [] =
    subst (λ (app : App). fault_of app words ≡ []) command.is_app (c.in-Ok.ensures.kinds (ap is_simple_and_free command.is_app ∙ is_read)) in
    let entered : subcommand_rows_of c.in-Ok.matches ≡ subcommand_of klpsim_app words =
    (c.in-Ok.ensures.matches (ap is_simple command.is_app ∙ is_read_simply)).1 ∙ ap (λ (app : App). subcommand_of app words) command.is_app in
    asked_is words (are_texts c.args.given.now) good ∙ sym (ap asked_in entered) ∙ sym c.in-Ok-Some.ensures ∙ ap (option_map meaning) c.in-Ok-Some.field-0-is

pub returns-in-Ok-None-clause-refused : goal.returns-in-Ok-None-clause-refused
returns-in-Ok-None-clause-refused c same =
    let words = map string_bytes c.args.given.now in
    let command : IsCommand c.in_ok-command.command klpsim_app = search rules in
    let good : fault_of klpsim_app words ≡ [] =
    subst (λ (app : App). fault_of app words ≡ []) command.is_app (c.in-Ok.ensures.kinds (ap is_simple_and_free command.is_app ∙ is_read)) in
    let entered : subcommand_rows_of c.in-Ok.matches ≡ subcommand_of klpsim_app words =
    (c.in-Ok.ensures.matches (ap is_simple command.is_app ∙ is_read_simply)).1 ∙ ap (λ (app : App). subcommand_of app words) command.is_app in
    asked_is words (are_texts c.args.given.now) good ∙ sym (ap asked_in entered) ∙ sym c.in-Ok-None.ensures ∙ ap (option_map meaning) c.in-Ok-None.field-0-is

pub returns-clause-refused : goal.returns-clause-refused
returns-clause-refused c same =
    let words = map string_bytes c.args.given.now in
    let command : IsCommand c.in_ok-command.command klpsim_app = search rules in
    let kinds = c.in-Err.ensures.kinds (ap is_simple_and_free command.is_app ∙ is_read) in
    none_asked words (are_texts c.args.given.now) (λ good. elim kinds [
      | inl memory ↦ let no : false ≡ true = rw (c.kind.ensures, memory) at c.if-eq.ensures in absurd (true≢false (sym no))
      | inr among ↦ subst (λ (ks : Kinds). IsAmong (kind_of c.in-Err.error) ks) (ap (λ (app : App). fault_of app words) command.is_app ∙ good) among
    ])
