use Rattle.std.proofs.Common.{◌≤◌, ℕ, length, sym, subst, ◌∙◌}
use Rattle.klp_core.specs.Rewinding.{IsRewound}
use Rattle.klp_watch.proofs.DoneLemmas.{accepted_done}
use Rattle.klp_watch.proofs.AnsweredLemmas.{so_refused, reported_given_back, is_back, reaches}
use Rattle.klp_watch.proofs.comparing_answer.take_answered.Goals as goal

pub returns-then-is_so-clause-done : goal.returns-then-is_so-clause-done
returns-then-is_so-clause-done g c = λ stacks are.
    so_refused c.args.manager.now c.apply_lent-own.new.self stacks c.args.event.now c.args.answer.now c.args.inside.now.rows c.apply_lent-own.result
    c.apply_lent-own.ensures.taken (sym c.if-is_err.ensures.value) (c.is_same-is_so.ensures.0 c.if-is_so.true) are

pub returns-in-Some-clause-reported : goal.returns-in-Some-clause-reported
returns-in-Some-clause-reported g c = λ stacks are.
    let before = c.args.manager.now in
    let between = c.apply_lent-own.new.self in
    let after = c.rewind.new.self in
    let taken = c.apply_lent-own.ensures.taken in
    let accepted = sym c.if-is_err.ensures.value in
    let mark = c.mark-mark.ensures.mark in
    let enough = subst (λ (n : ℕ). n ≤ length between.groups) (sym mark) (reaches before between c.args.event.now c.apply_lent-own.result taken accepted) in
    let back = is_back between after c.rewind.result c.mark-mark.result c.rewind.ensures.rewound c.rewind.ensures.bad_mark enough in
    reported_given_back before between after c.args.event.now c.requires c.apply_lent-own.ensures.setting stacks c.args.answer.now c.apply_lent-own.result
    c.is_same-is_so.result c.in-Some.difference taken accepted (subst (IsRewound between after) mark back)
    (λ no same. let yes = c.is_same-is_so.ensures.1 same in let wrong : ⊥ = cc in wrong) (c.in-Some.ensures.found stacks are)

pub returns-clause-done : goal.returns-clause-done
returns-clause-done g c = λ stacks are.
    let taken = c.apply_lent-own.ensures.taken in
    let none = c.in_default.ensures.none in (
      accepted_done c.args.manager.now c.apply_lent-own.new.self stacks c.args.event.now c.begin.new.inside.rows c.apply_lent-own.result taken
          (sym c.if-is_err.ensures.value) c.apply_lent-own.ensures.setting (none.1 stacks are) (c.begin.ensures stacks are),
      sym taken.answered ∙ c.is_same-is_so.ensures.0 none.0,
    )
