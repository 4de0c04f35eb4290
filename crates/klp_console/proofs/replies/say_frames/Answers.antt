use Rattle.std.proofs.Common.{◌≡◌, ℕ, ◌+◌, ◌<◌, suc, List, [], ◌∷◌, ◌++◌, take, length, get_or, sym, ap, ◌∙◌, subst, append_assoc, append-nil, arith}
use Rattle.klp_types.specs.declared.version.Version.{Version}
use Rattle.klp_catalog.specs.Catalog.{Catalog}
use Rattle.klp_console_io.specs.Says.{Says}
use Rattle.std.proofs.Math.Seq.{take-suc}
use Rattle.klp_console.specs.Replies.{frame_text, frames_text}
use Rattle.klp_console.proofs.replies.say_frames.Goals as goal

-- one frame more is said behind the others
frames_text-append : (catalog : Catalog) (versions : List Version) (version : Version) → frames_text catalog (versions ++ version ∷ []) ≡ frames_text catalog versions ++ frame_text catalog version
frames_text-append catalog [] version = append-nil (frame_text catalog version)
frames_text-append catalog (first ∷ versions) version =
    ap (λ text. frame_text catalog first ++ text) (frames_text-append catalog versions version)
    ∙ sym (append_assoc (frame_text catalog first) (frames_text catalog versions) (frame_text catalog version))

frames_on : (catalog : Catalog) (frames : List Version) (place : ℕ) (version : Version) → place < length frames → version ≡ get_or frames place version
    → frames_text catalog (take place frames) ++ frame_text catalog version ≡ frames_text catalog (take (place + 1) frames)
frames_on catalog frames place version within found =
    let next : place + 1 ≡ suc place = omega arith in
    let more = take-suc frames place version within ∙ ap (λ v. take place frames ++ v ∷ []) (sym found) in
    sym (ap (λ n. frames_text catalog (take n frames)) next ∙ ap (frames_text catalog) more ∙ frames_text-append catalog (take place frames) version)

pub loop-place-preserved : goal.loop-place-preserved
loop-place-preserved g c =
    let frames = c.args.frames.now in
    let place = c.loop-place.place in
    let version = c.index-versions-place.result in
    let same = c.as_slice-versions.ensures in
    let within : place < length frames = omega (arith, ap (λ (vs : List Version). length vs) same) in
    subst (Says _ _) (frames_on c.args.catalog.now frames place version within (c.index-versions-place.is ∙ ap (λ (vs : List Version). get_or vs place version) same))
    (c.what_is_said_adds_up.ensures.adds_up _ _ _ _ _ c.loop-place.invariant c.say_frame.ensures)
