use Rattle.std.proofs.Common.{ap, sym, ◌∙◌}
use Rattle.std.specs.Prelude.{option_map}
use Rattle.klp_types.specs.declared.record.Place.{Place}
use Rattle.klp_stack.specs.Pool.{entries_from}
use Rattle.klp_stack.proofs.StackLemmas.{own_entry}
use Rattle.klp_stack.proofs.chain.Chain.entry.Goals as goal

pub returns-in_default : goal.returns-in_default
returns-in_default c =
    sym (own_entry c.args.patch (entries_from c.args.slots.now c.args.self.len c.args.self.newest)
    ∙ ap (option_map (λ (p : Place). record { patch = c.args.patch; func = p.func })) (sym c.place.ensures ∙ c.in_default.is))

pub returns : goal.returns
returns c =
    sym (own_entry c.args.patch (entries_from c.args.slots.now c.args.self.len c.args.self.newest)
    ∙ ap (option_map (λ (p : Place). record { patch = c.args.patch; func = p.func })) (sym c.place.ensures ∙ c.in-Some.is))
