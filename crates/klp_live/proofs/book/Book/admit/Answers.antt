use Rattle.std.proofs.Common.{rules}
use Rattle.klp_live.proofs.Deltas.{answered, finds_no_room, leads, taken_back}
use Rattle.klp_live.proofs.book.Book.admit.Goals as goal

pub publish-requires-clause-answered : goal.publish-requires-clause-answered
publish-requires-clause-answered g c =
    (answered g.S.Start.setting g.S.Start.base _ _ c.self.inside.publisher c.args.event _ c.self.invariant c.mark-mark.ensures.well_formed (rw (c.in-Ok.is) at c.accept.ensures.taken))

pub publish-requires-clause-state : goal.publish-requires-clause-state
publish-requires-clause-state g c =
    (leads g.S.Start.setting g.S.Start.base _ _ c.self.inside.publisher c.args.event _ c.self.invariant c.mark-mark.ensures.well_formed (rw (c.in-Ok.is) at c.accept.ensures.taken).accepted)

pub returns-in-Err : goal.returns-in-Err
returns-in-Err g c = record {
  legal = search rules;
  taken = search rules;
  answered = search rules;
  full = rw (← c.self.view_is) (finds_no_room g.S.Start.setting g.S.Start.base _ _ c.self.inside.publisher c.args.event c.in-Err.refusal c.self.invariant c.mark-mark.ensures.well_formed c.the_journal_alone_is_full.ensures (rw (c.in-Err.is) at c.accept.ensures.taken));
  same = search rules;
  knew = search rules;
  knows = search rules;
  counts = search rules;
}

pub returns-in-None : goal.returns-in-None
returns-in-None g c =
    let back = taken_back _ _ _ c.args.event _ c.mark-mark.result c.mark-mark.ensures.well_formed c.mark-mark.ensures.mark (rw (c.in-Ok.is) at c.accept.ensures.taken) c.accept.ensures.setting c.take_back.ensures in record {
      legal = search rules;
      reply = c.in-Ok.reply;
      accepted = rw (← c.self.view_is) (answered g.S.Start.setting g.S.Start.base _ _ c.self.inside.publisher c.args.event _ c.self.invariant c.mark-mark.ensures.well_formed (rw (c.in-Ok.is) at c.accept.ensures.taken));
      ran = rw (← c.self.view_is) back.ran;
      list = search rules;
      state = rw (← c.self.view_is) back.state;
      image = rw (← c.self.view_is) back.image;
      base_is = rw (← c.self.view_is) back.base;
      groups = rw (← c.self.view_is) back.groups;
      knew = search rules;
      knows = search rules;
    }
