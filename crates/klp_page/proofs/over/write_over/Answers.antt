use Rattle.std.proofs.Common.{ℕ, List, subst}
use Rattle.std.specs.Io.KnownBytes.{Appends}
use Rattle.klp_page.proofs.OverLemmas.{writes_none}
use Rattle.klp_page.proofs.over.write_over.Goals as goal

pub returns-in-Err : goal.returns-in-Err
returns-in-Err g c =
    writes_none (Unit {0}) (g.S.PageSource.shows c.args.source.now) (g.S.PageSource.lacks c.args.source.now) c.args.catalog.now (g.W.Write.contents c.args.out.now) c.in-Err.fault c.in-Err.ensures.fault

pub returns-in-Ok-write_all : goal.returns-in-Ok-write_all
returns-in-Ok-write_all g c = (
  c.in-Ok.page.items,
  c.in-Ok.ensures.page,
  subst (λ (page : List ℕ). Appends (g.W.Write.contents c.args.out.now) (g.W.Write.contents c.write_all.new.self) page) c.deref.ensures.value c.in-Ok-write_all.ensures.bytes,
)

pub returns : goal.returns
returns g c = (c.in-Ok.page.items, c.in-Ok.ensures.page)
