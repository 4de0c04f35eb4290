use Rattle.std.proofs.Common.{ap, subst, ◌∙◌, ◌≤◌, List, [], ◌∷◌, ◌++◌, Some, length, length-append, append-nil, append_assoc, map, reverse, sym, arith}
use Rattle.klp_types.specs.World.{World, states_of}
use Rattle.klp_types.specs.declared.record.Record.{Record}
use Rattle.klp_types.specs.declared.record.Record.TheVariants.{InstalledPatch}
use Rattle.klp_types.specs.Records.{RecordList}
use Rattle.klp_types.specs.declared.limits.TheConstants.{MAX_PATCHES, MAX_STATES}
use Rattle.klp_world.proofs.LoggedLemmas.{length-states, length-dropped}
use Rattle.klp_world.specs.Undo.{undone, HaveEffects}
use Rattle.klp_world.specs.StoredEvent.{noting, state_row, rows_of_drop}
use Rattle.klp_world.proofs.PatchLemmas.{not_in, nothing_dropped, rows_dropped, taken_from, first_in, states_in}
use Rattle.klp_world.proofs.UndoLemmas.{undone_drop}
use Rattle.klp_world.proofs.EffectLemmas.{effective_drop}
use Rattle.klp_world.proofs.world.World.drop_states.Goals as goal

pub returns-in_default : goal.returns-in_default
returns-in_default c =
    let nothing = nothing_dropped c.args.patch c.deref.result.now c.self.inside.patches.items c.self.inside.shadow c.args.self.now c.deref.ensures.value c.self.view_is c.in_default.ensures in
    record {
      changes = record {
        world = not_in c.args.patch c.deref.result.now c.self.inside.patches.items c.self.inside.shadow c.args.self.now c.deref.ensures.value c.self.view_is c.in_default.ensures;
        records = ap (λ logged. record c.args.log.now { logged = logged }) (sym (append-nil c.args.log.now.logged)) ∙ ap (noting c.args.log.now) (sym nothing);
        undo = ap (undone c.args.self.now) nothing;
        effective = subst (HaveEffects c.args.self.now) (sym nothing) tt;
      };
    }

pub note_states-requires : goal.note_states-requires
note_states-requires c =
    let rows = ap length (rows_dropped c.args.patch c.deref.result.now c.self.inside.patches.items c.self.inside.shadow c.args.self.now c.deref.ensures.value c.self.view_is c.in-Some.place c.in-Some.ensures c.take_out-installed.result c.take_out-installed.ensures.patch) ∙ length-dropped c.args.patch c.take_out-installed.result.values c.in-Some.place in
    let seen = ap length c.states.ensures.value in
    omega (arith, c.requires)

pub note-requires : goal.note-requires
note-requires c =
    let rows = ap length (rows_dropped c.args.patch c.deref.result.now c.self.inside.patches.items c.self.inside.shadow c.args.self.now c.deref.ensures.value c.self.view_is c.in-Some.place c.in-Some.ensures c.take_out-installed.result c.take_out-installed.ensures.patch) ∙ length-dropped c.args.patch c.take_out-installed.result.values c.in-Some.place in
    let seen = ap length c.states.ensures.value in
    let room = ap (λ (l : RecordList). l.room) c.note_states.ensures in
    let logged = ap (λ (l : RecordList). length l.logged) c.note_states.ensures ∙ length-append c.args.log.now.logged _ in
    let states = length-states c.args.patch c.states.result.now in
    omega (arith, c.requires)

pub returns : goal.returns
returns c =
    let rows = rows_dropped c.args.patch c.deref.result.now c.self.inside.patches.items c.self.inside.shadow c.args.self.now c.deref.ensures.value c.self.view_is c.in-Some.place c.in-Some.ensures c.take_out-installed.result c.take_out-installed.ensures.patch in
    let last = InstalledPatch c.args.patch (Some c.in-Some.place) ∷ [] in
    let same = ap length c.deref.ensures.value in
    let few_patches = subst (λ (w : World). length w.installed ≤ MAX_PATCHES) c.self.view_is (omega (arith, c.deref.ensures.len, c.self.invariant.0)) in
    let states = ap length (states_in c.args.patch c.deref.result.now c.self.inside.patches.items c.self.inside.shadow c.args.self.now c.deref.ensures.value c.self.view_is c.in-Some.place c.in-Some.ensures c.take_out-installed.result c.take_out-installed.ensures.patch) in
    let seen = ap length c.states.ensures.value in
    let first = first_in c.args.patch c.deref.result.now c.self.inside.patches.items c.self.inside.shadow c.args.self.now c.deref.ensures.value c.self.view_is c.in-Some.place c.in-Some.ensures in
    let few_states : length (states_of c.args.patch c.args.self.now.installed) ≤ MAX_STATES = omega (arith, c.states.ensures.limit) in
    let taken = c.take_out-installed.ensures.world ∙ taken_from c.args.patch c.deref.result.now c.self.inside.patches.items c.self.inside.shadow c.args.self.now c.deref.ensures.value c.self.view_is c.in-Some.place c.in-Some.ensures in
    record {
      changes = record {
        world = taken;
        records = c.note.ensures ∙ ap (λ (l : RecordList). record l { logged = l.logged ++ last }) c.note_states.ensures
            ∙ ap (λ (logged : List Record). record c.args.log.now { logged = logged })
            (append_assoc c.args.log.now.logged _ last ∙ ap (c.args.log.now.logged ++◌) (ap (λ states. map (state_row c.args.patch) (reverse states) ++ last) c.states.ensures.value ∙ sym rows));
        undo = ap (λ (w : World). undone w (rows_of_drop c.args.self.now c.args.patch)) taken
            ∙ undone_drop c.args.self.now c.args.patch c.in-Some.place first few_patches few_states;
        effective = subst (λ (w : World). HaveEffects w (rows_of_drop c.args.self.now c.args.patch)) (sym taken)
            (effective_drop c.args.self.now c.args.patch c.in-Some.place first few_patches few_states);
      };
    }
