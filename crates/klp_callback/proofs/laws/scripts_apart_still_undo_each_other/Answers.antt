use Rattle.std.proofs.Common.{◌≡◌, ap, sym, ◌∙◌}
use Rattle.std.specs.Prelude.{Option}
use Rattle.klp_types.specs.World.{World, ShadowValue, variable}
use Rattle.klp_types.specs.Script.{edits_made, made_of, effect}
use Rattle.klp_callback.proofs.laws.scripts_apart_still_undo_each_other.Goals as goal

pub returns-clause-alone : goal.returns-clause-alone
returns-clause-alone c = c.untouched_variables_stay.ensures.script

pub returns-clause-undo : goal.returns-clause-undo
returns-clause-undo c patch other world script done back apart undoes key touched =
    both (effect other world script)
    ∙ ap (λ (v : Option ShadowValue). made_of key (made_of key v (edits_made done)) (edits_made back)) same
    ∙ sym (both world) ∙ undoes key touched ∙ sym same
  where
    same : variable (effect other world script) key ≡ variable world key
    same = c.untouched_variables_stay.ensures.script other world script key (apart key touched)

    both : (w : World) → variable (effect patch (effect patch w done) back) key ≡ made_of key (made_of key (variable w key) (edits_made done)) (edits_made back)
    both w =
        c.edits_go_key_by_key.ensures.all patch (effect patch w done) (edits_made back) key
        ∙ ap (λ (v : Option ShadowValue). made_of key v (edits_made back)) (c.edits_go_key_by_key.ensures.all patch w (edits_made done) key)
