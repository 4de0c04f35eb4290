use Rattle.std.proofs.Common.{sym, ◌∙◌, ℕ}
use Rattle.std.specs.Prelude.{slice_index_or, false}
use Rattle.klp_patch_events.proofs.SymbolLemmas.{none_lacks}
use Rattle.klp_patch_events.proofs.enabling.lacks_symbol.Goals as goal

pub returns-then-names_sites : goal.returns-then-names_sites
returns-then-names_sites c =
    none_lacks (λ (object : ℕ). slice_index_or c.args.state.now.modules.loaded object false) c.args.found.now.functions (sym c.names_sites.ensures ∙ c.if-names_sites.true)
