use Rattle.std.proofs.Common.{◌≤◌, false, length, sym, ap, ◌∙◌, arith}
use Rattle.std.proofs.lemmas.List.{length-map}
use Rattle.klp_types.specs.declared.limits.TheConstants.{MAX_SITES, MAX_FUNCTIONS}
use Rattle.klp_types.specs.Records.{RecordList}
use Rattle.klp_model.specs.Task.{all_in, at_target}
use Rattle.klp_text.specs.TextImage.{site_count}
use Rattle.klp_catalog.specs.Catalog.{catalog_functions, setting_function}
use Rattle.klp_patch.specs.Covered.{functions_in}
use Rattle.klp_patch.specs.Changes.{most_entries}
use Rattle.klp_manager_state.specs.Rows.{rows_in}
use Rattle.klp_manager_state.proofs.RowLemmas.{switched_back}
use Rattle.klp_patch_events.proofs.BackLemmas.{patch_back}
use Rattle.klp_patch_events.proofs.RoomLemmas.{few_logged, most_at}
use Rattle.klp_patch_events.proofs.enabling.start.Goals as goal

pub set_all-requires : goal.set_all-requires
set_all-requires g c =
    let catalog = c.args.catalog.now in
    let before = c.args.state.now.sites in
    let after = c.patch_sites.new.sites in
    let tasks = c.args.state.now.tasks in
    let functions : length (functions_in catalog c.args.patch) ≤ MAX_FUNCTIONS =
    let same = ap length c.get-found.ensures.keeps.setting in
    let count = length-map (catalog_functions catalog c.args.patch) setting_function in
    omega (arith, same, count, c.get-found.ensures.keeps.few_functions)
    in
    let sites : length before.stacks ≤ MAX_SITES = omega (arith, c.sites.ensures.value, c.sites.ensures.image, c.requires.sites) in
    let image = ap site_count c.patch_sites.ensures.entries.image in
    let left : length after.stacks ≤ MAX_SITES = omega (arith, c.sites-2.ensures.value, c.sites-2.ensures.image, image, c.requires.sites) in
    let most = most_at catalog c.args.patch before functions sites in
    let logged = few_logged before after c.args.state.now.log c.patch_sites.new.log (most_entries catalog c.args.patch before) c.patch_sites.ensures.notes left in
    let room = ap (λ (l : RecordList). l.room) c.patch_sites.ensures.notes.logged ∙ c.requires.log in
    let rows = c.records_are_few.ensures 0 tasks (all_in (at_target false) tasks) in
    omega (arith, rows, logged, most, room, c.requires.records, c.requires.tasks)

pub set_moving-requires-clause-other : goal.set_moving-requires-clause-other
set_moving-requires-clause-other g c = λ same. let no : ⊥ = cc (sym c.requires.rests ∙ same) in no

pub returns-clause-logged : goal.returns-clause-logged
returns-clause-logged g c =
    let rows = rows_in c.args.state.now in
    c.set_moving.ensures.logged
    ∙ switched_back c.args.state.now.tasks c.set_all.new.self _ c.patch_sites.new.log c.set_all.new.log c.set_all.ensures.tasks c.set_all.ensures.records c.set_all.ensures.undo
    (record rows { sites = c.patch_sites.new.sites })
    ∙ patch_back c.args.state.now.sites c.patch_sites.new.sites c.args.state.now.log c.patch_sites.new.log _ _ _ c.patch_sites.ensures.notes rows
