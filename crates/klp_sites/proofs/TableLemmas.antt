-- What the image's answers are by the stacks, and records of objects put back.
use Rattle.std.proofs.Common.{◌≡◌, ℕ, zero, suc, ◌+◌, ◌<◌, Bool, false, cond, List, [], ◌∷◌, length, drop, get_or, set, refl, ap, ◌∙◌, length-append}
use Rattle.std.specs.List.{slice_get}
use Rattle.std.specs.Option.{option_map, unwrap_or}
use Rattle.std.proofs.lemmas.Bool.{lt-ltb}
use Rattle.std.proofs.lemmas.List.{set-set, set-get_or}
use Rattle.klp_types.specs.Image.{Object, symbols_of}
use Rattle.klp_sites.specs.Table.{SiteTable}
use Rattle.klp_sites.specs.Undo.{put_loaded}

-- the sites from an object on are its own and those from the next object on
pub count_more : (objects : List Object) (n : ℕ)
    → length (symbols_of (drop n objects)) ≡ unwrap_or (option_map (λ (found : Object). length found.symbols) (slice_get objects n)) 0 + length (symbols_of (drop (suc n) objects))
count_more [] zero = refl
count_more [] (suc n) = refl
count_more (object ∷ objects) zero = length-append object.symbols (symbols_of objects)
count_more (object ∷ objects) (suc n) = count_more objects n

-- an object that was made loaded, or one that isn't, is again what it was
pub loaded_undone : (table after : SiteTable) (object : ℕ) (flag was : Bool) → object < length table.image.objects → after ≡ record table { loaded = set table.loaded object flag }
    → was ≡ get_or table.loaded object false → put_loaded after object was ≡ table
loaded_undone table after object flag was there is read =
    let changed : SiteTable = record table { loaded = set table.loaded object flag } in
    ap (λ t. put_loaded t object was) is
    ∙ ap (λ found. cond found (record changed { loaded = set changed.loaded object was }) changed) (lt-ltb object (length table.image.objects) there)
    ∙ ap (λ flags. record table { loaded = flags })
    (set-set table.loaded object flag was ∙ ap (set table.loaded object) read ∙ set-get_or table.loaded object false)
