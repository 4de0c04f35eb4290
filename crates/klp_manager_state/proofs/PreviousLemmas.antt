-- The newest older patch that names a state, as the world has it and as the catalog tells it.
use Rattle.std.proofs.Common.{◌≡◌, ℕ, Bool, true, false, cond, ◌||◌, List, [], ◌∷◌, ◌++◌, map, reverse, Option, Some, refl, sym, ap, ◌∙◌}
use Rattle.std.specs.Prelude.{◌==◌, is_some, find, option_map}
use Rattle.std.specs.List.{list_any}
use Rattle.std.proofs.lemmas.List.{map-append, reverse-append}
use Rattle.klp_types.specs.Compatible.{SystemState, version_among}
use Rattle.klp_types.specs.World.{Installed, value_among, installed_before, names_state, previous_patch}
use Rattle.klp_model.specs.State.{installed_patches}
use Rattle.klp_model.specs.Stated.{IsStated}
use Rattle.klp_catalog.specs.Catalog.{Catalog}
use Rattle.klp_catalog.specs.States as states
use Rattle.klp_manager_state.specs.Managed.{Managed, setting_of}

map-reverse : {A B : Type 0} (f : A → B) (xs : List A) → map f (reverse xs) ≡ reverse (map f xs)
map-reverse f [] = refl
map-reverse f (x ∷ xs) =
    ap (map f) (reverse-append (x ∷ []) xs) ∙ map-append f (reverse xs) (x ∷ []) ∙ ap (λ ys. ys ++ f x ∷ []) (map-reverse f xs)
    ∙ sym (reverse-append (f x ∷ []) (map f xs))

-- a patch with the ids of its states
abbrev Row : Type 0
Row = ℕ × List ℕ

abbrev ids_in : List (ℕ × ℕ) → List ℕ
ids_in values = map (λ (v : ℕ × ℕ). v.0) values

abbrev row_of : Installed → Row
row_of installed = (installed.patch, ids_in installed.values)

abbrev has_id : ℕ → Row → Bool
has_id id row = list_any (λ own. own == id) row.1

-- the rows before that of a patch
abbrev rows_before : ℕ → List Row → List Row
rows_before patch [] = []
rows_before patch (first ∷ newer) = cond (first.0 == patch) [] (first ∷ rows_before patch newer)

before_stored : (patch : ℕ) (installed : List Installed) → map row_of (installed_before patch installed) ≡ rows_before patch (map row_of installed)
before_stored patch [] = refl
before_stored patch (first ∷ newer) =
    elim (first.patch == patch) as (λ b. map row_of (cond b [] (first ∷ installed_before patch newer)) ≡ cond b [] (row_of first ∷ rows_before patch (map row_of newer))) [
      | true ↦ refl
      | false ↦ ap (λ rows. row_of first ∷ rows) (before_stored patch newer)
    ]

-- the first of the rows that has the id
abbrev first_with : ℕ → List Row → Option ℕ
first_with id rows = option_map (λ (r : Row). r.0) (find (has_id id) rows)

named_value : (id : ℕ) (values : List (ℕ × ℕ)) → is_some (value_among id values) ≡ list_any (λ own. own == id) (ids_in values)
named_value id [] = refl
named_value id (state ∷ states) =
    elim (state.0 == id) as (λ b. is_some (cond b (Some state.1) (value_among id states)) ≡ (b || list_any (λ own. own == id) (ids_in states))) [
      | true ↦ refl
      | false ↦ named_value id states
    ]

found_stored : (id : ℕ) (installed : List Installed) → option_map (λ (i : Installed). i.patch) (find (names_state id) installed) ≡ first_with id (map row_of installed)
found_stored id [] = refl
found_stored id (first ∷ rest) =
    ap (λ b. option_map (λ (i : Installed). i.patch) (cond b (Some first) (find (names_state id) rest))) (named_value id first.values)
    ∙ elim (has_id id (row_of first)) as (λ b. option_map (λ (i : Installed). i.patch) (cond b (Some first) (find (names_state id) rest))
    ≡ option_map (λ (r : Row). r.0) (cond b (Some (row_of first)) (find (has_id id) (map row_of rest)))) [
      | true ↦ refl
      | false ↦ found_stored id rest
    ]

version_named : (id : ℕ) (own : List SystemState) → list_any (λ own. own == id) (map (λ (s : SystemState). s.id) own) ≡ is_some (version_among id own)
version_named id [] = refl
version_named id (s ∷ own) =
    elim (s.id == id) as (λ b. (b || list_any (λ own. own == id) (map (λ (s : SystemState). s.id) own))
    ≡ is_some (option_map (λ (s : SystemState). s.version) (cond b (Some s) (find (λ (s : SystemState). s.id == id) own)))) [
      | true ↦ refl
      | false ↦ version_named id own
    ]

module _ (catalog : Catalog) where
  abbrev named : ℕ → Row
  named patch = (patch, states.state_ids catalog patch)

  before_named : (patch : ℕ) (patches : List ℕ) → rows_before patch (map named patches) ≡ map named (states.installed_before patch patches)
  before_named patch [] = refl
  before_named patch (first ∷ newer) =
      elim (first == patch) as (λ b. cond b [] (named first ∷ rows_before patch (map named newer)) ≡ map named (cond b [] (first ∷ states.installed_before patch newer))) [
        | true ↦ refl
        | false ↦ ap (λ rows. named first ∷ rows) (before_named patch newer)
      ]

  found_named : (id : ℕ) (patches : List ℕ) → first_with id (map named patches) ≡ find (states.names_state catalog id) patches
  found_named id [] = refl
  found_named id (first ∷ rest) =
      ap (λ b. option_map (λ (r : Row). r.0) (cond b (Some (named first)) (find (has_id id) (map named rest)))) (version_named id (states.states_of catalog first))
      ∙ elim (states.names_state catalog id first) as (λ b. option_map (λ (r : Row). r.0) (cond b (Some (named first)) (find (has_id id) (map named rest)))
      ≡ cond b (Some first) (find (states.names_state catalog id) rest)) [
        | true ↦ refl
        | false ↦ found_named id rest
      ]

  -- the states that are stored are those that the catalog tells
  as_named : (installed : List Installed) → map (λ (i : Installed). ids_in i.values) installed ≡ map (states.state_ids catalog) (map (λ (i : Installed). i.patch) installed)
      → map row_of installed ≡ map named (map (λ (i : Installed). i.patch) installed)
  as_named [] stated = refl
  as_named (first ∷ newer) stated =
      let own : ids_in first.values ≡ states.state_ids catalog first.patch = cc in
      let rest = as_named newer cc in
      ap (λ ids. (first.patch, ids) ∷ map row_of newer) own ∙ ap (λ rows. named first.patch ∷ rows) rest

pub previous_agrees : (managed : Managed) (patch id : ℕ) → IsStated (setting_of managed) managed.state
    → previous_patch managed.state.world patch id ≡ states.previous_state managed.catalog patch id (installed_patches managed.state)
previous_agrees managed patch id stated =
    let installed = managed.state.world.installed in
    let patches = installed_patches managed.state in
    found_stored id (reverse (installed_before patch installed))
    ∙ ap (first_with id)
    (map-reverse row_of (installed_before patch installed)
    ∙ ap reverse (before_stored patch installed ∙ ap (rows_before patch) (as_named managed.catalog installed stated) ∙ before_named managed.catalog patch patches)
    ∙ sym (map-reverse (named managed.catalog) (states.installed_before patch patches)))
    ∙ found_named managed.catalog id (reverse (states.installed_before patch patches))
