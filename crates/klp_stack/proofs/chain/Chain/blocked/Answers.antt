use Rattle.std.proofs.Common.{◌-◌, ◌∷◌, [], ap, sym, ◌∙◌, arith}
use Rattle.std.specs.Prelude.{slice_get}
use Rattle.std.specs.Option.{option_to_list}
use Rattle.klp_types.specs.Pick.{newest_version}
use Rattle.klp_stack.specs.Pool.{entries_from}
use Rattle.klp_stack.proofs.StackLemmas.{none_held, own_held, older_held, within}
use Rattle.klp_stack.proofs.ChainLemmas.{length_entries}
use Rattle.klp_stack.proofs.chain.Chain.blocked.Goals as goal
use Rattle.klp_stack.proofs.chain.Chain.blocked.Goals.{then-not-moving, else-not-moving}

pub returns-in_default : goal.returns-in_default
returns-in_default c =
    sym (none_held c.args.site c.args.moving (entries_from c.args.slots.now c.args.self.len c.args.self.newest) (sym c.place.ensures ∙ c.in_default.is))

pub overflow_sub-self : goal.overflow_sub-self
overflow_sub-self c =
    let entries = entries_from c.args.slots.now c.args.self.len c.args.self.newest in
    let low = within c.args.site c.args.moving entries c.in-Some.field-0 (sym c.place.ensures ∙ c.in-Some.is) in
    omega (arith, low, length_entries c.args.slots.now c.args.self.len c.args.self.newest, c.from.ensures)

pub returns : goal.returns
returns c =
    let site = c.args.site in
    let move = c.args.moving in
    let entries = entries_from c.args.slots.now c.args.self.len c.args.self.newest in
    let there = sym c.place.ensures ∙ c.in-Some.is in
    ap (λ v. v ∷ []) c.version_of.ensures
    ∙ elim c.if-not-moving.branch [
      | then-not-moving w ↦
          ap (λ o. newest_version site (option_to_list o) ∷ []) w.entry-is
          ∙ own_held site move entries c.in-Some.field-0 there w.if-not-moving.true
      | else-not-moving w ↦
          ap (λ o. newest_version site (option_to_list o) ∷ []) (w.entry-is ∙ w.entry_below-entry.ensures)
          ∙ ap (λ n. newest_version site (option_to_list (slice_get entries n)) ∷ [])
          (ap (λ n. c.args.self.len - n) w.from.ensures ∙ ap (λ n. n - c.in-Some.field-0.index) (sym (length_entries c.args.slots.now c.args.self.len c.args.self.newest)))
          ∙ older_held site move entries c.in-Some.field-0 there w.if-not-moving.false
    ]
