use Rattle.std.proofs.Common.{List, sym, ap, ◌∙◌}
use Rattle.std.specs.Prelude.{slice_get, option_map}
use Rattle.klp_types.specs.Image.{Symbol}
use Rattle.klp_core.proofs.ViewLemmas.{symbols_at-name, symbols_at-address, nothing_from}
use Rattle.klp_core.proofs.text_view.TextView.get.Goals as goal

pub returns-in_default-clause-name : goal.returns-in_default-clause-name
returns-in_default-clause-name c =
    c.in_default.ensures.name
    ∙ sym (symbols_at-name c.self.inside.image.now c.self.inside.object c.args.number)
    ∙ ap (λ (symbols : List Symbol). option_map (λ (s : Symbol). s.name) (slice_get symbols c.args.number)) c.self.view_is

pub returns-in_default-clause-address : goal.returns-in_default-clause-address
returns-in_default-clause-address c =
    c.in_default.ensures.address
    ∙ sym (symbols_at-address c.self.inside.image.now c.self.inside.object c.args.number)
    ∙ ap (λ (symbols : List Symbol). option_map (λ (s : Symbol). s.address) (slice_get symbols c.args.number)) c.self.view_is

pub returns-in_default-clause-body : goal.returns-in_default-clause-body
returns-in_default-clause-body c =
    let none = nothing_from (λ (s : Symbol). s.address) (slice_get c.args.self.now c.args.number) (returns-in_default-clause-address c) in
    ap (option_map (λ (s : Symbol). s.body)) (sym none)

pub returns-clause-name : goal.returns-clause-name
returns-clause-name c =
    c.in-Some.ensures.name
    ∙ sym (symbols_at-name c.self.inside.image.now c.self.inside.object c.args.number)
    ∙ ap (λ (symbols : List Symbol). option_map (λ (s : Symbol). s.name) (slice_get symbols c.args.number)) c.self.view_is

pub returns-clause-address : goal.returns-clause-address
returns-clause-address c =
    c.in-Some.ensures.address
    ∙ sym (symbols_at-address c.self.inside.image.now c.self.inside.object c.args.number)
    ∙ ap (λ (symbols : List Symbol). option_map (λ (s : Symbol). s.address) (slice_get symbols c.args.number)) c.self.view_is
