use Rattle.std.proofs.Common.{◌<◌, length, map, get_or, Some, refl, sym, ap, ◌∙◌}
use Rattle.std.proofs.lemmas.Bool.{ltb-true}
use Rattle.std.proofs.lemmas.List.{take_rest}
use Rattle.std.proofs.lemmas.Option.{slice_get_read}
use Rattle.std.specs.List.{slice_get}
use Rattle.klp_types.specs.Frames.{frames_of}
use Rattle.klp_journal.specs.Decoded.{frame_of}
use Rattle.klp_journal.proofs.FrameLemmas.{own_frames}
use Rattle.klp_journal.proofs.WordLemmas.{task_read}
use Rattle.klp_journal.proofs.switched.switched_body.Goals as goal

pub returns : goal.returns
returns c =
    let body = c.args.body.now in
    let tasks = c.args.tasks.now in
    let row = c.in-Some-Some.field-0.now in
    let within : c.from.result < length tasks = ltb-true _ _ (sym c.in-Some-Some.ensures.lookup.0) in
    let there =
    ap (slice_get tasks) (sym c.from.ensures) ∙ slice_get_read tasks _ c.from.result row refl within c.in-Some-Some.ensures.lookup.1 ∙ ap Some c.in-Some-Some.field-0-is in
    let frames =
    ap (map frame_of) (sym (take_rest body 2)) ∙ c.if-not-are_kept.ensures refl
    ∙ own_frames tasks c.args.frames.now c.from.result row c.index-frames-from.result c.requires.frames within c.in-Some-Some.ensures.lookup.1 (c.index-frames-from.is ∙ ap (λ k. get_or c.args.frames.now k c.index-frames-from.result) (c.from-2.ensures ∙ sym c.from.ensures))
    ∙ ap frames_of c.in-Some-Some.field-0-is in
    (c.in-Some-Some._now, (there, task_read body c.state_of.result c.mode_of.result c.in-Some-Some._now.frames c.requires.count c.state_of.ensures c.mode_of.ensures frames))
