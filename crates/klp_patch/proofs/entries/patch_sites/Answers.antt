use Rattle.std.proofs.Common.{◌≡◌, ℕ, length, map, true, sym, ap, ◌∙◌, arith}
use Rattle.klp_catalog.specs.Catalog.{setting_function}
use Rattle.klp_patch.specs.Covered.{functions_in}
use Rattle.klp_patch.specs.Changes.{most_entries}
use Rattle.klp_patch.proofs.MadeLemmas.{sites_kept, notes_put, room_when_put}
use Rattle.klp_patch.proofs.PatchLemmas.{most_is, listed_count}
use Rattle.klp_patch.proofs.RoomLemmas.{room_for_functions, room_for_nops}
use Rattle.klp_patch.proofs.entries.patch_sites.Goals as goal

pub put_functions-requires-clause-few : goal.put_functions-requires-clause-few
put_functions-requires-clause-few g c =
    let same = ap length (c.functions.ensures ∙ c.in-Some.ensures.found.functions) in
    omega (arith, same, c.in-Some.ensures.keeps.few_functions)

pub put_nops-requires-clause-sites : goal.put_nops-requires-clause-sites
put_nops-requires-clause-sites g c =
    let same = sites_kept c.args.sites.now c.put_functions.new.sites c.args.log.now c.put_functions.new.log _ _ _ c.put_functions.ensures.notes in
    omega (arith, same, c.requires.sites)

pub put_nops-requires-clause-records : goal.put_nops-requires-clause-records
put_nops-requires-clause-records g c =
    let before = c.args.sites.now in
    let functions : ℕ = length c.functions.result.now in
    let count = listed_count c.functions.result.now (functions_in c.args.catalog.now c.args.patch) (ap (map setting_function) (c.functions.ensures ∙ c.in-Some.ensures.found.functions) ∙ c.in-Some.ensures.keeps.setting) in
    let same = sites_kept before c.put_functions.new.sites c.args.log.now c.put_functions.new.log _ _ _ c.put_functions.ensures.notes in
    let most = most_is c.args.catalog.now c.args.patch before true (sym c.in-Some.ensures.found.replaces ∙ sym c.is_cumulative.ensures ∙ c.if-is_cumulative.true) in
    room_when_put before c.put_functions.new.sites c.args.log.now c.put_functions.new.log functions (length c.put_functions.new.sites.stacks) c.put_functions.ensures.notes
    (omega (arith, same, most, count, c.requires.records))

pub returns-then-is_cumulative-clause-notes : goal.returns-then-is_cumulative-clause-notes
returns-then-is_cumulative-clause-notes g c =
    let before = c.args.sites.now in
    let functions : ℕ = length c.functions.result.now in
    let count = listed_count c.functions.result.now (functions_in c.args.catalog.now c.args.patch) (ap (map setting_function) (c.functions.ensures ∙ c.in-Some.ensures.found.functions) ∙ c.in-Some.ensures.keeps.setting) in
    let same = sites_kept before c.put_functions.new.sites c.args.log.now c.put_functions.new.log _ _ _ c.put_functions.ensures.notes in
    let most = most_is c.args.catalog.now c.args.patch before true (sym c.in-Some.ensures.found.replaces ∙ sym c.is_cumulative.ensures ∙ c.if-is_cumulative.true) in
    notes_put before c.put_functions.new.sites c.put_nops.new.sites c.args.log.now c.put_functions.new.log c.put_nops.new.log functions (length c.put_functions.new.sites.stacks) (most_entries c.args.catalog.now c.args.patch before)
    (omega (arith, same, most, count)) c.put_functions.ensures.notes c.put_nops.ensures.notes

pub put_functions-requires-clause-room : goal.put_functions-requires-clause-room
put_functions-requires-clause-room g c =
    let listed : map setting_function c.functions.result.now ≡ functions_in c.args.catalog.now c.args.patch =
    ap (map setting_function) (c.functions.ensures ∙ c.in-Some.ensures.found.functions) ∙ c.in-Some.ensures.keeps.setting
    in
    room_for_functions c.args.catalog.now c.args.patch c.args.sites.now c.args.only (map setting_function c.functions.result.now) listed c.requires.room

pub put_nops-requires-clause-room : goal.put_nops-requires-clause-room
put_nops-requires-clause-room g c =
    let listed : map setting_function c.functions.result.now ≡ functions_in c.args.catalog.now c.args.patch =
    ap (map setting_function) (c.functions.ensures ∙ c.in-Some.ensures.found.functions) ∙ c.in-Some.ensures.keeps.setting
    in
    let same = sites_kept c.args.sites.now c.put_functions.new.sites c.args.log.now c.put_functions.new.log _ _ _ c.put_functions.ensures.notes in
    room_for_nops c.args.catalog.now c.args.patch c.args.sites.now c.put_functions.new.sites c.args.only (map setting_function c.functions.result.now) listed
    (sym c.in-Some.ensures.found.replaces ∙ sym c.is_cumulative.ensures ∙ c.if-is_cumulative.true) c.requires.room same c.put_functions.ensures.entries
