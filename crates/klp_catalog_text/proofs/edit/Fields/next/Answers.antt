use Rattle.std.proofs.Common.{sym, refl}
use Rattle.klp_catalog_text.proofs.EditLemmas.{last_is, next_is}
use Rattle.klp_catalog_text.proofs.edit.Fields.next.Goals as goal

pub returns-in_default : goal.returns-in_default
returns-in_default c = last_is c.self.inside.is_over c.self.inside.rest.now _ c.if-self.false c.self.view_is (sym c.in_default.ensures)

pub returns : goal.returns
returns c = next_is c.self.inside.is_over c.self.inside.rest.now _ c.in-Some.end _ c.if-self.false c.self.view_is (sym c.in-Some.ensures) refl
