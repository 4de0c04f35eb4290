-- A run over one list and then another.
use Rattle.std.proofs.Common.{◌≡◌, List, [], ◌∷◌, ◌++◌, refl, ap}
use Rattle.klp_types.specs.Setting.{Setting}
use Rattle.klp_model.specs.declared.event.Event.{Event}
use Rattle.klp_model.specs.State.{State}
use Rattle.klp_model.specs.Run.{answer, next, run, answers}

pub run-append : (setting : Setting) (state : State) (first second : List Event)
    → run setting state (first ++ second) ≡ run setting (run setting state first) second
run-append setting state [] second = refl
run-append setting state (event ∷ first) second = run-append setting (next setting state event) first second

pub answers-append : (setting : Setting) (state : State) (first second : List Event)
    → answers setting state (first ++ second) ≡ answers setting state first ++ answers setting (run setting state first) second
answers-append setting state [] second = refl
answers-append setting state (event ∷ first) second =
    ap (λ rest. answer setting state event ∷ rest) (answers-append setting (next setting state event) first second)
