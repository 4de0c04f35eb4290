-- A count more is the next object's; where there is no object, these are all.
use Rattle.std.proofs.Common.{◌≡◌, ℕ, suc, ◌+◌, ◌≤◌, List, [], ◌∷◌, ◌++◌, map, take, slice_get, Some, None, sym, ap, ◌∙◌, arith, Vec}
use Rattle.std.proofs.lemmas.List.{take_all}
use Rattle.std.proofs.lemmas.Option.{slice_get-map}
use Rattle.klp_catalog.specs.Stored.{symbol_count}
use Rattle.klp_catalog.proofs.CatalogLemmas.{take-next, none_past}
use Rattle.klp_catalog.proofs.assemble.symbol_counts.Goals as goal
use Rattle.klp_catalog.proofs.assemble.symbol_counts.Goals.{else-loop-object-test, then-loop-object-test+in_default, then-loop-object-test+in-Some+in_ok-push+else-object-lt255}

one_more : (counts read pushed : List ℕ) (n count : ℕ) → read ≡ take n counts → pushed ≡ read ++ count ∷ [] → slice_get counts n ≡ Some count → pushed ≡ take (n + 1) counts
one_more counts read pushed n count is more next =
    let behind : n + 1 ≡ suc n = omega arith in
    more ∙ ap (λ xs. xs ++ count ∷ []) is ∙ sym (ap (λ m. take m counts) behind ∙ take-next counts n count next)

all_read : (counts read : List ℕ) (n : ℕ) → read ≡ take n counts → slice_get counts n ≡ None → n ≤ 256 → read ≡ take 256 counts
all_read counts read n is none small =
    let past = none_past counts n none in
    is ∙ take_all n counts past ∙ sym (take_all 256 counts (omega arith))

pub loop-object-preserved : goal.loop-object-preserved
loop-object-preserved c =
    one_more (map symbol_count c.args.modules.now.names) _ _ c.loop-object.object c.in-Some.count c.loop-object.invariant c.in_ok-push.ensures.items
    (slice_get-map symbol_count c.args.modules.now.names c.loop-object.object ∙ sym c.in-Some.ensures)

pub returns : goal.returns
returns c =
    elim c.loop-object-test.branch [
      | else-loop-object-test w ↦ absurd (omega arith)
      | then-loop-object-test+in_default w ↦
          ap (λ (v : Vec ℕ _). v.items) w.counts-is
          ∙ all_read (map symbol_count c.args.modules.now.names) _ c.loop-object.object c.loop-object.invariant
          (slice_get-map symbol_count c.args.modules.now.names c.loop-object.object ∙ sym w.symbols.ensures ∙ w.in_default.is) (omega arith)
      | then-loop-object-test+in-Some+in_ok-push+else-object-lt255 w ↦
          let last : c.loop-object.object + 1 ≡ 256 = omega arith in
          ap (λ (v : Vec ℕ _). v.items) w.counts-is
          ∙ one_more (map symbol_count c.args.modules.now.names) _ _ c.loop-object.object w.in-Some.count c.loop-object.invariant w.in_ok-push.ensures.items
          (slice_get-map symbol_count c.args.modules.now.names c.loop-object.object ∙ sym w.in-Some.ensures)
          ∙ ap (λ n. take n (map symbol_count c.args.modules.now.names)) last
    ]
