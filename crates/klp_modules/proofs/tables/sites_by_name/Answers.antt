-- One symbol more.
use Rattle.std.proofs.Common.{◌∙◌, ◌<◌, length, subst, sym, arith}
use Rattle.std.proofs.lemmas.List.{length-set}
use Rattle.klp_modules.specs.declared.numbered.NumberedSymbol.{NumberedSymbol}
use Rattle.klp_modules.proofs.TableLaws.{has_more}
use Rattle.klp_modules.proofs.tables.sites_by_name.Goals as goal

pub loop-place-preserved : goal.loop-place-preserved
loop-place-preserved c =
    let below : c.loop-place.place < length c.args.symbols.now = omega arith in
    let named : c.index-symbols-place.result.name < c.args.names =
    subst (λ (s : NumberedSymbol). s.name < c.args.names) (sym c.index-symbols-place.is) (c.requires.names c.loop-place.place c.index-symbols-place.result below) in
    record {
      count = length-set c.loop-place.sites.items c.index-symbols-place.result.name c.push.new.self ∙ c.loop-place.invariant.count;
      sites = has_more c.loop-place.place c.args.symbols.now c.index-symbols-place.result c.loop-place.sites.items c.index_mut.result.now c.push.new.self
          below c.index-symbols-place.is (omega (arith, named, c.loop-place.invariant.count)) c.loop-place.invariant.sites c.index_mut.ensures.value c.in_ok-push.ensures.ok;
    }
