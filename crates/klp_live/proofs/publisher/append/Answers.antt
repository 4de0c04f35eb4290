use Rattle.std.proofs.Common.{◌≡◌, length, ap, sym, subst, ◌∙◌}
use Rattle.klp_live.specs.Boards.{OnBoard}
use Rattle.klp_live.specs.Dispatch.{IsStep}
use Rattle.klp_live.specs.Shown.{IsTable}
use Rattle.klp_live.specs.declared.published.Published.{Published}
use Rattle.klp_model.specs.Legal.{state_after_history}
use Rattle.klp_live.proofs.Appending.{follows_next, shown_next}
use Rattle.klp_live.proofs.publisher.append.Goals as goal

pub announce-requires-clause-follows : goal.announce-requires-clause-follows
announce-requires-clause-follows g c =
    let setting = g.S.Start.setting in
    let same : c.reserve.new.self.value ≡ c.args.board.now.value = ap (λ (b : OnBoard). b.value) c.if-not-reserve.ensures in
    let book_of = ap (λ (x : Published). x.seen.book) same in
    let shown = c.requires.shown in
    follows_next g.S.Start.setting g.S.Start.base c.reserve.new.self.value c.args.front.now (c.args.event.now, c.args.reply.now) c.news.result
    (subst (IsTable setting g.S.Start.base) (sym same) shown.table)
    (ap (λ (x : Published). x.seen.log) same ∙ shown.list_is)
    c.requires.answered
    (subst (IsStep setting (state_after_history setting g.S.Start.base c.args.front.now) c.args.event.now) (sym c.news.ensures.change) c.requires.change)
    (record {
      rows = c.news.ensures.rows ∙ ap length c.extended-next.ensures;
      log = c.news.ensures.log ∙ c.extended-next.ensures;
      book = c.news.ensures.book ∙ sym (book_of ∙ shown.book_is);
    })

pub returns-clause-shown : goal.returns-clause-shown
returns-clause-shown g c =
    let setting = g.S.Start.setting in
    let same : c.reserve.new.self.value ≡ c.args.board.now.value = ap (λ (b : OnBoard). b.value) c.if-not-reserve.ensures in
    let book_of = ap (λ (x : Published). x.seen.book) same in
    let shown = c.requires.shown in
    shown_next g.S.Start.setting g.S.Start.base g.S.Start.book c.reserve.new.self.value c.args.front.now (c.args.event.now, c.args.reply.now) c.news.result c.announce.new.self c.extended-next.result
    (subst (IsTable setting g.S.Start.base) (sym same) shown.table)
    (ap (λ (x : Published). x.seen.log) same ∙ shown.list_is)
    (book_of ∙ shown.book_is)
    c.requires.answered
    (subst (IsStep setting (state_after_history setting g.S.Start.base c.args.front.now) c.args.event.now) (sym c.news.ensures.change) c.requires.change)
    (record {
      rows = c.news.ensures.rows ∙ ap length c.extended-next.ensures;
      log = c.news.ensures.log ∙ c.extended-next.ensures;
      book = c.news.ensures.book ∙ sym (book_of ∙ shown.book_is);
    })
    c.extended-next.ensures
    c.announce.ensures
