-- The frames of the rows, which are kept beside them.
use Rattle.std.specs.Prelude.{Option, Some}
use Rattle.std.proofs.Common.{◌≡◌, ℕ, zero, suc, List, [], ◌∷◌, map, set, refl, sym, ap, ◌∙◌}
use Rattle.std.proofs.lemmas.List.{map-set}
use Rattle.klp_types.specs.declared.version.Version.{Version}
use Rattle.klp_types.specs.declared.task.Task.{Task}
use Rattle.klp_types.specs.Frames.{frames_of}
use Rattle.klp_model.specs.Task.{Tasks, task_at}

-- a row and its frames are written
pub frames_put : (rows : Tasks) (frames : List (List Version)) (number : ℕ) (row : Option Task) (own : List Version)
    → frames ≡ map frames_of rows → own ≡ frames_of row → set frames number own ≡ map frames_of (set rows number row)
frames_put rows frames number row own all is =
    ap (λ fs. set fs number own) all
    ∙ ap (set (map frames_of rows) number) is
    ∙ sym (map-set frames_of rows number row)

-- a task changes, and not its frames
pub frames_stay : (rows : Tasks) (number : ℕ) (task now : Task) → task_at rows number ≡ Some task → now.frames ≡ task.frames
    → map frames_of rows ≡ map frames_of (set rows number (Some now))
frames_stay [] number task now there same = refl
frames_stay (first ∷ rows) zero task now there same = ap (λ fs. fs ∷ map frames_of rows) (ap frames_of there ∙ sym same)
frames_stay (first ∷ rows) (suc number) task now there same = ap (λ fs. frames_of first ∷ fs) (frames_stay rows number task now there same)
