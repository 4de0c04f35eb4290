use Rattle.klp_callback.proofs.EditLemmas.{same_script, same_seen, same_status}
use Rattle.klp_callback.proofs.edits.is_same.Goals as goal

pub returns-then-a-b-clause-same : goal.returns-then-a-b-clause-same
returns-then-a-b-clause-same c same =
    same_script c.args.a.now c.args.b.now _ _ _ _ _ _ _ c.a.view_is c.b.view_is c.a.invariant c.b.invariant c.if-a-b.true
    c.as_slice.ensures.value c.as_slice-then-a-b.ensures.value c.eq.ensures same

pub returns-then-a-b-clause-whole : goal.returns-then-a-b-clause-whole
returns-then-a-b-clause-whole c is =
    same_seen c.args.a.now c.args.b.now _ _ _ _ _ _ _ c.a.view_is c.b.view_is c.as_slice.ensures.value c.as_slice-then-a-b.ensures.value c.eq.ensures is

pub returns-else-a-b-clause-whole : goal.returns-else-a-b-clause-whole
returns-else-a-b-clause-whole c is = absurd (c.if-a-b.false (same_status c.args.a.now c.args.b.now _ _ _ _ c.a.view_is c.b.view_is is))
