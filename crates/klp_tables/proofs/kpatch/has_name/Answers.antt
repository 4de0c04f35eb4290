use Rattle.std.proofs.Common.{ℕ, List, bytes_eq, Bor, sym, ◌∙◌}
use Rattle.klp_tables.proofs.CountedLemmas.{any_map}
use Rattle.klp_tables.proofs.kpatch.has_name.Goals as goal

pub returns : goal.returns
returns c = c.is_named.ensures ∙ sym (any_map (bytes_eq c.args.name.now) (λ (n : Bor (List ℕ)). n.now) c.args.names.now)
