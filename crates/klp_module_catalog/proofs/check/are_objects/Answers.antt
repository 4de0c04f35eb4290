use Rattle.std.proofs.Common.{sym, ◌∙◌, ◌<◌, length, rules}
use Rattle.klp_module_catalog.proofs.EndLemmas.{has_one, more_objects}
use Rattle.klp_module_catalog.proofs.check.are_objects.Goals.{in_default, in_default-2}
use Rattle.klp_module_catalog.proofs.check.are_objects.Goals as goal

pub returns-else-is_empty : goal.returns-else-is_empty
returns-else-is_empty c =
    let some = sym c.is_empty.ensures ∙ c.if-is_empty.false in
    elim c.if-left-lt1.branch [
      | in_default w ↦ absurd (has_one c.loop-left.left.now some w.in_default.len_below)
      | in_default-2 w ↦
          let none : length c.loop-left.right.now < 1 = search rules in
          c.if-is_empty.false ∙ sym (more_objects c.loop-left.left.now c.loop-left.right.now some none) ∙ sym c.loop-left.invariant
    ]
