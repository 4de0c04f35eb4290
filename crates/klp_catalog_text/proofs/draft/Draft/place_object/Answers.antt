use Rattle.std.proofs.Common.{refl, arith}
use Rattle.klp_catalog_text.proofs.DraftLemmas.{kept-object}
use Rattle.klp_catalog_text.proofs.draft.Draft.place_object.Goals as goal

pub invariant_of-self-2 : goal.invariant_of-self-2
invariant_of-self-2 c =
    kept-object c.self.invariant c.args.name c.push.new.self.items (omega arith) (rw (c.in_ok-push.ensures.items, c.new.ensures.items, c.name.view_is) refl)
