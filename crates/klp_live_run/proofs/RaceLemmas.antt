-- What two tasks come to over one list, and what is left of it.
use Rattle.std.proofs.Common.{◌≡◌, ℕ, List, [], ◌∷◌, ◌++◌, length, Option, Some, None, IsSomeAnd, IfSome, Result, Ok, refl, sym, ap, subst, ◌∙◌, arith}
use Rattle.std.specs.List.{All, sum_by}
use Rattle.std.proofs.lemmas.List.{length-append}
use Rattle.std.proofs.lemmas.List.Elements.{All-head, All-tail}
use Rattle.std.proofs.lemmas.List.Sums.{sum_by-cons}
use mathlib.Core.List.{IsPrefix}
use Rattle.klp_types.specs.Setting.{Setting}
use Rattle.klp_model.specs.State.{State}
use Rattle.klp_model.specs.Legal.{History, IsLegal}
use Rattle.klp_manager_state.specs.Managed.{setting_of}
use Rattle.klp_core.specs.Journaled.{Journaled, history_in}
use Rattle.klp_core.specs.Rewinding.{IsRewound}
use Rattle.klp_live.specs.Closing.{IsClosed}
use Rattle.klp_live.specs.Passing.{Passing}
use Rattle.klp_live.specs.Seats.{Knows}
use Rattle.klp_live.specs.declared.history.Start as Start
use Rattle.klp_live_bodies.specs.declared.gate.Gate as Gate
use Rattle.klp_live_bodies.specs.declared.step.Step.{Step}
use Rattle.klp_live_bodies.specs.declared.step.Outcome.{Outcome}
use Rattle.klp_live_bodies.specs.declared.body.TaskBody.{TaskBody}
use Rattle.klp_live_bodies.specs.declared.fault.BodyFault.{BodyFault}
use Rattle.klp_live_bodies.specs.declared.job.Job.{Job}
use Rattle.klp_live_bodies.specs.Jobs.{body_of, steps_of, ended_of, outcomes_of, IsRun}
use Rattle.klp_live_bodies.specs.Running.{Ends, IsFinished}
use Rattle.klp_live_run.specs.declared.race.Done.{Done}
use Rattle.klp_live_run.specs.Racing.{knows_nothing, lets_in, HasEnded, HaveEnded, HaveRun, HaveRunBoth}

-- two seats, each of which knows nothing
pub two_new : (known : List Knows) → length known ≡ 2 → All (λ (k : Knows). k ≡ knows_nothing) known → known ≡ knows_nothing ∷ knows_nothing ∷ []
two_new [] e all = absurd (omega (arith, e))
two_new (one ∷ []) e all = absurd (omega (arith, e))
two_new (one ∷ other ∷ []) e all =
    let P : Knows → Type 0 = λ k. k ≡ knows_nothing in
    let first : one ≡ knows_nothing = All-head P one (other ∷ []) all in
    let second : other ≡ knows_nothing = All-head P other [] (All-tail P one (other ∷ []) all) in
    cc
two_new (one ∷ other ∷ third ∷ rest) e all = absurd (omega (arith, e))

nothing : {A : Type 0} (xs : List A) → length xs ≡ 0 → xs ≡ []
nothing [] e = refl
nothing (x ∷ xs) e = cc

-- the last two of two, and what is left
pub record AreTaken (one other : Knows) (left : List Knows) : Type 0 where
  pub one_is : one ≡ knows_nothing
  pub other_is : other ≡ knows_nothing
  pub left_is : left ≡ []

pub two_taken : (all more left : List Knows) (one other : Knows) → all ≡ knows_nothing ∷ knows_nothing ∷ [] → all ≡ more ++ other ∷ [] → more ≡ left ++ one ∷ [] → AreTaken one other left
two_taken all more left one other two last before =
    let none : left ≡ [] =
    nothing left (omega (arith, ap length two, ap length last, ap length before, length-append more (other ∷ []), length-append left (one ∷ [])))
    in
    let few : more ≡ one ∷ [] = before ∙ ap (λ (xs : List Knows). xs ++ one ∷ []) none in
    let both : knows_nothing ∷ knows_nothing ∷ [] ≡ one ∷ other ∷ [] = sym two ∙ last ∙ ap (λ (xs : List Knows). xs ++ other ∷ []) few in
    record { one_is = cc; other_is = cc; left_is = none }

-- a body of a task that knew nothing has ended
has_ended : {S : Type 0} (setting : Setting) (base : State) (task : ℕ) (first pass : Passing) (knows : Knows) (steps : List Step) (outcomes : List Outcome) (ended : Option (Result Passing (BodyFault S)))
    → first ≡ record { task = task; knows = knows_nothing } → IsSomeAnd ended (λ e. Ends setting base lets_in first steps outcomes e) → ended ≡ Some (Ok pass)
    → knows ≡ pass.knows → HasEnded setting base task knows steps outcomes
has_ended {S} setting base task first pass knows steps outcomes ended new ends is same =
    let E : Option (Result Passing (BodyFault S)) → Type 0 = λ o. IsSomeAnd o (λ e. Ends setting base lets_in first steps outcomes e) in
    let done : IsFinished setting base lets_in first pass steps outcomes = subst E is ends in
    let task_is : pass.task ≡ task = done.ran.task ∙ ap (λ (p : Passing). p.task) new in
    let by_task : ℕ → Passing = λ t. record { task = t; knows = pass.knows } in
    let by_knows : Knows → Passing = λ k. record { task = task; knows = k } in
    let whole : pass ≡ by_knows knows = ap by_task task_is ∙ ap by_knows (sym same) in
    subst (λ (p : Passing). IsFinished setting base lets_in p (by_knows knows) steps outcomes) new
    (subst (λ (p : Passing). IsFinished setting base lets_in first p steps outcomes) whole done)

-- a job that has run
pub job_has_ended : {S G : Type 0} {s : Start.Ghosts S} {g : Gate.Ghosts G} (setting : Setting) (base : State) (task : ℕ) (before after : Job S G s g) (seat : Knows) (pass : Passing) (knows : Knows) (steps : List Step) (outcomes : List Outcome)
    → IsSomeAnd (body_of before) (λ (body : TaskBody S G). body.pass ≡ record { task = task; knows = seat })
    → IfSome (body_of before) (λ (body : TaskBody S G). IsRun setting base (λ gate. lets_in) body before after)
    → seat ≡ knows_nothing → steps_of before ≡ steps → outcomes ≡ outcomes_of after → ended_of after ≡ Some (Ok pass) → knows ≡ pass.knows
    → HasEnded setting base task knows steps outcomes
job_has_ended {S} {G} {s} {g} setting base task before after seat pass knows steps outcomes new run seat_is steps_are reported is same = by_body (body_of before) new run
  where
    by_body : (body : Option (TaskBody S G)) → IsSomeAnd body (λ (body : TaskBody S G). body.pass ≡ record { task = task; knows = seat })
        → IfSome body (λ (body : TaskBody S G). IsRun setting base (λ gate. lets_in) body before after) → HasEnded setting base task knows steps outcomes
    by_body None new run = absurd new
    by_body (Some body) new run =
        let ended = has_ended setting base task body.pass pass knows (steps_of before) (outcomes_of after) (ended_of after)
        (new ∙ ap (λ (k : Knows). record { task = task; knows = k }) seat_is) run.ends is same
        in
        subst (λ (xs : List Step). HasEnded setting base task knows xs outcomes) steps_are
        (subst (λ (os : List Outcome). HasEnded setting base task knows (steps_of before) os) (sym reported) ended)

-- both have run over what stands in the machine that their start has given back
pub have_run : (setting : Setting) (base : State) (finished : Journaled) (first second : List Step) (done : Done) (known : List Knows)
    → HaveEnded setting base first second done known → IsClosed setting base finished known → HaveRun setting base finished first second done
have_run setting base finished first second done known ended closed =
    let P : History → Knows → Type 0 = λ list k. IsPrefix k.list list in
    let all = history_in finished.groups in
    let is : all ≡ closed.list = closed.manager_is.groups in
    let one = ended.of_first in
    let other = ended.of_second in
    let known_of : All (P all) (one ∷ other ∷ []) =
    subst (λ (list : History). All (P list) (one ∷ other ∷ [])) (sym is) (subst (All (P closed.list)) ended.known_is closed.known)
    in
    let accepted : Knows → ℕ = λ k. k.accepted in
    let sum = ap (sum_by accepted) ended.known_is ∙ sum_by-cons accepted one (other ∷ []) in
    let second_sum = sum_by-cons accepted other [] in
    record {
      setting_is = closed.manager_is.setting_is;
      base_is = closed.manager_is.base_is;
      legal = subst (IsLegal setting base) (sym is) closed.legal;
      first_done = record { knows = one; ended = ended.first_ended; begins = All-head (P all) one (other ∷ []) known_of };
      second_done = record { knows = other; ended = ended.second_ended; begins = All-head (P all) other [] (All-tail (P all) one (other ∷ []) known_of) };
      counted = omega (arith, sum, second_sum, closed.counted, ap length is, ended.first_ended.ran.counts, ended.second_ended.ran.counts);
    }

-- and what stood is taken back
pub have_run_both : (before finished after : Journaled) (first second : List Step) (done : Done)
    → HaveRun (setting_of before.managed) before.base finished first second done → IsRewound finished after 0 → HaveRunBoth before after first second done
have_run_both before finished after first second done ran back = record {
  finished = finished;
  ran = ran;
  rewound = back;
  back = record { setting = setting_stays finished after back ∙ ran.setting_is; state = back.state ∙ ran.base_is };
}
  where
    setting_stays : (finished after : Journaled) → IsRewound finished after 0 → setting_of after.managed ≡ setting_of finished.managed
    setting_stays finished after back = simp (back.image, back.catalog) refl
