-- The objects are as many as the flags, and the tables are for these objects.
use Rattle.std.proofs.Common.{◌≡◌, true, length, arith}
use Rattle.std.specs.Prelude.{string_bytes}
use Rattle.std.proofs.lemmas.List.{length-map, length-set}
use Rattle.std.proofs.lemmas.Option.{slice_get-get_or}
use Rattle.klp_modules.specs.Kept.{texts_of}
use Rattle.klp_modules.specs.Tables.{placed_symbols}
use Rattle.klp_modules.proofs.NameLaws.{numbered_all}
use Rattle.klp_modules.proofs.TableLaws.{name_there}
use Rattle.klp_modules.proofs.modules.Modules.new.Goals as goal

pub new-requires-clause-names : goal.new-requires-clause-names
new-requires-clause-names c =
    let names_are : c.len.result ≡ length (texts_of c.in_ok-names.names.keys) = omega (arith, c.len.ensures, length-map c.in_ok-names.names.keys string_bytes) in
    rw (c.deref.ensures.value, names_are) (λ site symbol below.
    name_there (texts_of c.in_ok-names.names.keys) c.in_ok-names.objects.items 0 site _ c.in_ok-names.ensures.there
    (slice_get-get_or (placed_symbols 0 c.in_ok-names.objects.items) site symbol below))

pub invariant_of-result : goal.invariant_of-result
invariant_of-result c =
    let names_are : c.len.result ≡ length (texts_of c.in_ok-names.names.keys) = omega (arith, c.len.ensures, length-map c.in_ok-names.names.keys string_bytes) in
    let all = numbered_all _ _ _ c.in_ok-names.ensures in
    record {
      kept = record {
        few_objects = omega (arith, all, c.objects.ensures.limits);
        few_symbols = omega (arith, c.in_ok-names.ensures.symbols, c.objects.ensures.limits);
        each_loaded = omega (arith, all, length-set c.in_ok-loaded.loaded.items 0 true, c.in_ok-loaded.ensures.len, c.in_ok-loaded.loaded.ok.0, c.objects.ensures.count, c.from.ensures);
        numbered = c.in_ok-names.ensures.there;
        apart = c.in_ok-names.ensures.apart;
      };
      tabled = rw (c.deref.ensures.value, names_are) at c.in_ok-tables.ensures;
    }
