use Rattle.std.proofs.Common.{rules, length, ap, subst, arith}
use Rattle.klp_core.specs.Journaled.{Journaled, journaled_of, groups_in, IsWellFormed}
use Rattle.klp_core.specs.Rewinding.{IsRewound}
use Rattle.klp_core.proofs.JournalLemmas.{over, sound_stands, rewound}
use Rattle.klp_core.proofs.manager.Manager.rewind.Goals as goal

pub returns-then-mark-clause-well_formed : goal.returns-then-mark-clause-well_formed
returns-then-mark-clause-well_formed g c = subst IsWellFormed c.self.view_is (sound_stands c.self.inside.state c.self.inside.catalog (groups_in c.self.inside.state c.self.inside.journal) (over c.self.inside.state c.self.inside.catalog c.self.inside.journal c.self.invariant))

pub returns-clause-rewound : goal.returns-clause-rewound
returns-clause-rewound g c =
    let same = ap (λ (m : Journaled). length m.groups) c.self.view_is in (
      omega (arith, c.if-mark.false, c.mark.ensures.groups c.self.inside.state.log.older, same),
      subst (λ (m : Journaled). IsRewound m (journaled_of c.rewind_to.new.state c.self.inside.catalog (groups_in c.rewind_to.new.state c.rewind_to.new.journal)) c.args.mark) c.self.view_is
          (rewound c.self.inside.state c.rewind_to.new.state c.self.inside.catalog (groups_in c.self.inside.state c.self.inside.journal) (groups_in c.rewind_to.new.state c.rewind_to.new.journal) c.args.mark (over c.rewind_to.new.state c.self.inside.catalog c.rewind_to.new.journal c.rewind_to.ensures.kept)
          c.rewind_to.ensures.groups c.rewind_to.ensures.base c.rewind_to.ensures.image),
    )

pub returns-clause-well_formed : goal.returns-clause-well_formed
returns-clause-well_formed g c = sound_stands c.rewind_to.new.state c.self.inside.catalog (groups_in c.rewind_to.new.state c.rewind_to.new.journal) (over c.rewind_to.new.state c.self.inside.catalog c.rewind_to.new.journal c.rewind_to.ensures.kept)

pub returns-then-mark-clause-bad_mark : goal.returns-then-mark-clause-bad_mark
returns-then-mark-clause-bad_mark g c = search rules
