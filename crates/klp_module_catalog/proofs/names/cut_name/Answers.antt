use Rattle.std.proofs.Common.{sym, arith}
use Rattle.std.proofs.lemmas.List.{length-take-le, take_all}
use Rattle.klp_types.specs.declared.limits.TheConstants.{MAX_NAME}
use Rattle.klp_module_catalog.proofs.names.cut_name.Goals as goal

pub slice_bounds-result-end : goal.slice_bounds-result-end
slice_bounds-result-end c = sym (length-take-le 55 c.args.name.now (omega (arith, c.if-name-le-MAX_NAME)))

pub returns-then-name-le-MAX_NAME : goal.returns-then-name-le-MAX_NAME
returns-then-name-le-MAX_NAME c = sym (take_all MAX_NAME c.args.name.now (omega (arith, c.if-name-le-MAX_NAME)))
