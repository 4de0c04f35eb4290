use Rattle.std.proofs.Common.{◌≡◌, ◌+◌, ap, ◌∙◌, arith}
use Rattle.std.specs.Prelude.{nat_lt, ◌++◌}
use Rattle.std.specs.FinMap as finite
use Rattle.klp_types.specs.declared.callback.Which.TheVariants.{Pre, PostUn}
use Rattle.klp_types.specs.declared.limits.TheConstants.{MAX_VARIABLES}
use Rattle.klp_types.specs.Callbacks.{calls_of, allocs_of}
use Rattle.klp_model.specs.Callbacks.{loaded_objects}
use Rattle.klp_patch.specs.Calls.{records_of}
use Rattle.klp_manager_state.specs.Managed.{setting_in, state_in}
use Rattle.klp_patch_events.proofs.RoomLemmas.{same_objects, allocs-append, records-append}
use Rattle.klp_patch_events.proofs.enabling.lacks_room_to_enable.Goals as goal

pub returns-clause-room : goal.returns-clause-room
returns-clause-room g c =
    let parts = c.args.state.now in
    let catalog = c.args.catalog.now in
    let objects = loaded_objects (setting_in parts catalog) (state_in parts catalog) c.args.patch in
    let same = same_objects parts catalog c.args.patch c.requires in
    let pre = c.allocs-pre.ensures.value ∙ ap (λ os. allocs_of (calls_of c.args.patch Pre os)) same in
    let post_un = c.allocs-post_un.ensures.value ∙ ap (λ os. allocs_of (calls_of c.args.patch PostUn os)) same in
    let both = allocs-append (calls_of c.args.patch Pre objects) (calls_of c.args.patch PostUn objects) in
    let sum : c.from.result + c.allocs-pre.result + c.allocs-post_un.result
    ≡ finite.len parts.world.shadow + allocs_of (calls_of c.args.patch Pre objects ++ calls_of c.args.patch PostUn objects) =
    omega (arith, c.from.ensures, c.count.ensures.value, pre, post_un, both)
    in
    ap (nat_lt MAX_VARIABLES) sum

pub returns-clause-records : goal.returns-clause-records
returns-clause-records g c =
    let parts = c.args.state.now in
    let catalog = c.args.catalog.now in
    let objects = loaded_objects (setting_in parts catalog) (state_in parts catalog) c.args.patch in
    let same = same_objects parts catalog c.args.patch c.requires in
    let pre = ap (λ os. records_of (calls_of c.args.patch Pre os)) same in
    let post_un = ap (λ os. records_of (calls_of c.args.patch PostUn os)) same in
    let both = records-append (calls_of c.args.patch Pre objects) (calls_of c.args.patch PostUn objects) in
    omega (arith, both, pre, post_un, c.allocs-pre.ensures.records, c.allocs-post_un.ensures.records)
