use Rattle.std.proofs.Common.{◌-◌, length, take, drop, ap, ◌∙◌, arith}
use Rattle.klp_types.specs.Records.{RecordList}
use Rattle.klp_journal.proofs.SplitLemmas.{nothing_logged, all_older}
use Rattle.klp_journal.proofs.records.Records.reopen.Goals as goal

pub invariant_of-self : goal.invariant_of-self
invariant_of-self c =
    let all = nothing_logged c.self.inside.all.rows c.self.inside.older c.self.invariant.0 (ap (λ (r : RecordList). r.logged) c.self.view_is ∙ c.requires.none) in
    let older = ap length (all_older c.self.inside.all.rows c.args.self.now.older c.self.inside.older all (ap (λ (r : RecordList). r.older) c.self.view_is)) in
    let room = ap (λ (r : RecordList). r.room) c.self.view_is in
    (omega arith, omega arith, omega arith, c.self.invariant.3)

pub returns : goal.returns
returns c =
    let rows = c.self.inside.all.rows in
    let all = nothing_logged rows c.self.inside.older c.self.invariant.0 (ap (λ (r : RecordList). r.logged) c.self.view_is ∙ c.requires.none) in
    ap (λ n. let list : RecordList = record { logged = drop (n - c.args.count) rows; room = c.self.inside.room; older = take (n - c.args.count) rows } in list) all
    ∙ ap (λ xs. let list : RecordList = record { logged = drop (length xs - c.args.count) xs; room = c.self.inside.room; older = take (length xs - c.args.count) xs } in list)
    (all_older rows c.args.self.now.older c.self.inside.older all (ap (λ (r : RecordList). r.older) c.self.view_is))
    ∙ ap (λ (r : RecordList). let list : RecordList = record { logged = drop (length c.args.self.now.older - c.args.count) c.args.self.now.older; room = r.room; older = take (length c.args.self.now.older - c.args.count) c.args.self.now.older } in list) c.self.view_is
