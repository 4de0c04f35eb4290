use Rattle.std.proofs.Common.{sym, ap, ◌∙◌, ℕ, Option, arith}
use Rattle.std.proofs.lemmas.Grind.{common_steps}
use Rattle.klp_world.specs.Undo.{put_patch}
use Rattle.klp_world.proofs.PatchLemmas.{bare_out, kept_with_states, none_out}
use Rattle.klp_world.proofs.world.World.put_patch.Goals as goal

pub returns-then-is_bare : goal.returns-then-is_bare
returns-then-is_bare c =
    c.take_out.ensures.world
    ∙ bare_out c.args.patch c.deref.result.now c.self.inside.patches.items c.self.inside.shadow c.args.self.now c.deref.ensures.value c.self.view_is c.in-Some-place_of_patch.place c.in-Some-place_of_patch.ensures c.index.result.now c.index.ensures c.if-is_bare.ensures
    ∙ ap (λ (place : Option ℕ). record c.args.self.now { installed = put_patch c.args.patch place c.args.self.now.installed }) (sym c.in-None.is)

pub returns-else-is_bare : goal.returns-else-is_bare
returns-else-is_bare c =
    kept_with_states c.args.patch c.deref.result.now c.self.inside.patches.items c.self.inside.shadow c.args.self.now c.deref.ensures.value c.self.view_is c.in-Some-place_of_patch.place c.in-Some-place_of_patch.ensures c.index.result.now c.index.ensures c.if-is_bare.ensures
    ∙ ap (λ (place : Option ℕ). record c.args.self.now { installed = put_patch c.args.patch place c.args.self.now.installed }) (sym c.in-None.is)

pub returns-in_default : goal.returns-in_default
returns-in_default c =
    none_out c.args.patch c.deref.result.now c.self.inside.patches.items c.self.inside.shadow c.args.self.now c.deref.ensures.value c.self.view_is c.in_default.ensures
    ∙ ap (λ (place : Option ℕ). record c.args.self.now { installed = put_patch c.args.patch place c.args.self.now.installed }) (sym c.in-None.is)

pub returns-then-len-lt-MAX_PATCHES : goal.returns-then-len-lt-MAX_PATCHES
returns-then-len-lt-MAX_PATCHES c = grind (arith, common_steps)
