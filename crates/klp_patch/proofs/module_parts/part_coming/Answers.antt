use Rattle.std.proofs.Common.{List, subst, sym, ap, option_map, ◌∙◌}
use Rattle.std.specs.Prelude.{find, is_some}
use Rattle.klp_types.specs.Callbacks.{Call}
use Rattle.klp_model.specs.ModuleCalls.{Part, part_refuses}
use Rattle.klp_patch.specs.UntilRefused.{calls_until_refused, refusal}
use Rattle.klp_patch.specs.Calls.{HaveRun, HasRoomFor}
use Rattle.klp_patch.proofs.ModulePartLemmas.{no_part, one_part, brings, has_effect, none_before}
use Rattle.klp_patch.proofs.RanLemmas.{none_ran}
use Rattle.klp_patch.proofs.module_parts.part_coming.Goals as goal

pub returns-in_err-place-clause-refused : goal.returns-in_err-place-clause-refused
returns-in_err-place-clause-refused g c =
    ap (option_map (λ status. (c.args.patch, status))) c.from_residual.ensures
    ∙ ap (λ (parts : List Part). option_map refusal (find part_refuses parts)) (sym (no_part c.args.catalog.now c.args.object c.args.patch c.place.ensures.once c.in_err-place.ensures.place))

pub returns-in_err-place-clause-ran : goal.returns-in_err-place-clause-ran
returns-in_err-place-clause-ran g c =
    subst (λ (calls : List Call). HaveRun c.args.catalog.now c.args.catalog.now c.args.world.now c.args.world.now c.args.log.now c.args.log.now calls)
    (sym (ap (calls_until_refused c.args.moving.now) (no_part c.args.catalog.now c.args.object c.args.patch c.place.ensures.once c.in_err-place.ensures.place)))
    (none_ran c.args.catalog.now c.args.world.now c.args.log.now)

pub coming_at-requires : goal.coming_at-requires
coming_at-requires g c =
    subst (λ (calls : List Call). HasRoomFor c.args.world.now c.args.log.now calls)
    (brings c.args.catalog.now c.args.object c.args.patch c.in_ok-place.place
    (one_part c.args.catalog.now c.args.object c.args.patch c.place.ensures.once c.in_ok-place.place c.in_ok-place.ensures.place) c.args.moving.now)
    c.requires

pub returns-clause-refused : goal.returns-clause-refused
returns-clause-refused g c =
    ap (option_map (λ status. (c.args.patch, status))) c.coming_at.ensures.status
    ∙ has_effect c.args.catalog.now c.args.object c.args.patch c.in_ok-place.place
    (one_part c.args.catalog.now c.args.object c.args.patch c.place.ensures.once c.in_ok-place.place c.in_ok-place.ensures.place) c.args.moving.now

pub returns-clause-first : goal.returns-clause-first
returns-clause-first g c = λ some.
    none_before c.args.catalog.now c.args.object c.args.patch c.in_ok-place.place
    (one_part c.args.catalog.now c.args.object c.args.patch c.place.ensures.once c.in_ok-place.place c.in_ok-place.ensures.place) c.args.moving.now
    (ap is_some (sym c.coming_at.ensures.status) ∙ some)

pub returns-clause-ran : goal.returns-clause-ran
returns-clause-ran g c =
    subst (λ (calls : List Call). HaveRun c.args.catalog.now c.coming_at.new.catalog c.args.world.now c.coming_at.new.world c.args.log.now c.coming_at.new.log calls)
    (sym (brings c.args.catalog.now c.args.object c.args.patch c.in_ok-place.place
    (one_part c.args.catalog.now c.args.object c.args.patch c.place.ensures.once c.in_ok-place.place c.in_ok-place.ensures.place) c.args.moving.now))
    c.coming_at.ensures.ran
