use Rattle.std.proofs.Common.{◌≡◌, List, ◌++◌, length, Some, refl, sym, ap, subst, ◌∙◌}
use Rattle.std.specs.Prelude.{Option, slice_get}
use Rattle.std.proofs.lemmas.Option.{slice_get_read}
use Rattle.klp_capture_search.specs.declared.followed.Followed.{Followed}
use Rattle.klp_capture_holders.specs.Holding.{still_held, thread_at}
use Rattle.klp_capture_holders.proofs.HoldingLemmas.{one_still}
use Rattle.klp_capture_holders.proofs.holders.add_still.Goals as goal

pub returns : goal.returns
returns c =
    let before = c.args.list.now.items in
    let number = c.args.holder.number in
    let tasks = c.deref.result.now in
    let task = c.in-Some.task.now in
    let looked = c.in-Some.ensures.lookup in
    let found : slice_get c.args.run.now.tasks.items number ≡ Some task =
    subst (λ (list : List Followed). slice_get list number ≡ Some task) c.deref.ensures.value
    (slice_get_read tasks (length tasks) number task refl looked.3.0 looked.1) in
    one_still before c.push.new.self.items c.in_ok-entry.entry task.thread c.in_ok-push.ensures.items c.in_ok-entry.ensures.still
    c.in_ok-entry.ensures.thread
    ∙ ap (λ (own : Option Followed). still_held before ++ thread_at own) (sym found)
