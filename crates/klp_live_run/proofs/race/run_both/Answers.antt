use Rattle.std.proofs.Common.{◌≡◌, List, [], ◌∷◌, ◌++◌, ap, ◌∙◌}
use Rattle.klp_live.specs.Seats.{Knows}
use Rattle.klp_live_run.proofs.RaceLemmas.{two_taken, job_has_ended}
use Rattle.klp_live_run.proofs.race.run_both.Goals as goal

pub returns-clause-done : goal.returns-clause-done
returns-clause-done g c =
    let taken = two_taken c.args.seats.items c.pop.new.self.items c.pop-2.new.self.items c.in-Some-Some.first c.in-Some-Some.second
    c.requires.two c.in-Some-Some.ensures.items c.in-Some-Some.ensures'.items
    in
    let one = c.in_ok-one.ensures.done in
    let two = c.in_ok-two.ensures.done in
    record {
      of_first = c.in_ok-one.one;
      of_second = c.in_ok-two.two;
      known_is = c.in_ok-give_back.ensures ∙ ap (λ (seats : List Knows). seats ++ c.in_ok-one.one ∷ c.in_ok-two.two ∷ []) taken.left_is;
      first_ended = job_has_ended g.S.Start.setting g.S.Start.base 1 c.job_of-one.result c.run_two.new.a c.in-Some-Some.first one.0 c.in_ok-one.one
          c.args.steps.first.items c.in_ok-one.first.items c.job_of-one.ensures.body c.run_two.ensures.first taken.one_is c.job_of-one.ensures.steps
          one.3 one.1 one.2;
      second_ended = job_has_ended g.S.Start.setting g.S.Start.base 2 c.job_of-two.result c.run_two.new.b c.in-Some-Some.second two.0 c.in_ok-two.two
          c.args.steps.second.items c.in_ok-two.second.items c.job_of-two.ensures.body c.run_two.ensures.second taken.other_is c.job_of-two.ensures.steps
          two.3 two.1 two.2;
    }
