use Rattle.std.proofs.Common.{ℕ, List, subst, ◌∙◌}
use Rattle.std.specs.Slice.{IsItemAt}
use Rattle.klp_catalog.specs.Assembled.{lent_scripts}
use Rattle.klp_catalog.specs.Stored.{StoredPatch}
use Rattle.klp_catalog.specs.Patch.{IsPatch, IsAbsent}
use Rattle.klp_catalog.proofs.PatchLemmas.{looked_up, absent, found, keeps}
use Rattle.klp_catalog.proofs.catalog.Catalog.get.Goals as goal

pub returns-clause-found : goal.returns-clause-found
returns-clause-found g c =
    let stored = c.self.inside.patches.items in
    let scripts = lent_scripts c.self.inside.callbacks.items in
    let item = subst (λ (i : ℕ). IsItemAt stored i c.get.result) (c.from.ensures ∙ c.patch.view_is) (subst (λ (s : List StoredPatch). IsItemAt s c.from.result c.get.result) c.deref.ensures.value c.get.ensures.lookup) in
    looked_up stored c.args.patch (IsAbsent c.args.self.now c.args.patch) (IsPatch c.args.self.now c.args.patch)
    (absent stored scripts c.args.self.now c.self.view_is c.self.invariant c.args.patch) (found stored scripts c.args.self.now c.self.view_is c.self.invariant c.args.patch) c.get.result item

pub returns-clause-keeps : goal.returns-clause-keeps
returns-clause-keeps g c = keeps c.self.inside.patches.items (lent_scripts c.self.inside.callbacks.items) c.args.self.now c.self.view_is c.self.invariant c.args.patch
