-- The installed patches: what a look-up and an edit at the place of a patch do.
use Rattle.std.proofs.Common.{◌≡◌, ℕ, zero, suc, Bool, true, false, cond, List, [], ◌∷◌, ◌++◌, get_or, set, map, reverse, refl, sym, ap, subst, ◌∙◌, Option, Some, None}
use Rattle.std.specs.Bool.{◌==◌}
use Rattle.std.specs.Option.{option_map}
use Rattle.std.specs.List.{insert, remove, position}
use Rattle.std.proofs.lemmas.List.{map-append, take-map, drop-map}
use Rattle.klp_types.specs.World.{Installed}
use Rattle.klp_types.specs.World.{World, Shadow, states_of, state_value, value_among, change_states, taken_out}
use Rattle.klp_types.specs.declared.record.Record.TheVariants.{InstalledPatch}
use Rattle.klp_types.specs.Entries.{is_empty}
use Rattle.klp_world.specs.StoredEvent.{place_of, state_row, rows_if_dropped, rows_of_drop}
use Rattle.klp_world.specs.Undo.{put_patch}
use Rattle.klp_world.proofs.First.{FirstAt, Nowhere, first_place}

abbrev pub Patches : Type 0
Patches = List Installed

abbrev pub is_patch : ℕ → Installed → Bool
is_patch patch installed = installed.patch == patch

module _ (patch : ℕ) where
  pub states_at : (patches : Patches) (i : ℕ) (d : Installed) → FirstAt (is_patch patch) patches i → states_of patch patches ≡ (get_or patches i d).values
  states_at [] i d h = absurd h
  states_at (first ∷ newer) zero d h = ap (λ b. cond b first.values (states_of patch newer)) h
  states_at (first ∷ newer) (suc i) d h = ap (λ b. cond b first.values (states_of patch newer)) h.0 ∙ states_at newer i d h.1

  pub states_nowhere : (patches : Patches) → Nowhere (is_patch patch) patches → states_of patch patches ≡ []
  states_nowhere [] h = refl
  states_nowhere (first ∷ newer) h = ap (λ b. cond b first.values (states_of patch newer)) h.0 ∙ states_nowhere newer h.1

  pub place_at : (patches : Patches) (i : ℕ) → FirstAt (is_patch patch) patches i → place_of patch patches ≡ Some i
  place_at [] i h = absurd h
  place_at (first ∷ newer) zero h = ap (λ b. cond b (Some 0) (option_map suc (place_of patch newer))) h
  place_at (first ∷ newer) (suc i) h = ap (λ b. cond b (Some 0) (option_map suc (place_of patch newer))) h.0 ∙ ap (option_map suc) (place_at newer i h.1)

  pub place_nowhere : (patches : Patches) → Nowhere (is_patch patch) patches → place_of patch patches ≡ None
  place_nowhere [] h = refl
  place_nowhere (first ∷ newer) h = ap (λ b. cond b (Some 0) (option_map suc (place_of patch newer))) h.0 ∙ ap (option_map suc) (place_nowhere newer h.1)

  pub out_at : (patches : Patches) (i : ℕ) → FirstAt (is_patch patch) patches i → remove patches i ≡ taken_out patch patches
  out_at [] i h = absurd h
  out_at (first ∷ newer) zero h = sym (ap (λ b. cond b newer (first ∷ taken_out patch newer)) h)
  out_at (first ∷ newer) (suc i) h = ap (first ∷◌) (out_at newer i h.1) ∙ sym (ap (λ b. cond b newer (first ∷ taken_out patch newer)) h.0)

  pub out_nowhere : (patches : Patches) → Nowhere (is_patch patch) patches → taken_out patch patches ≡ patches
  out_nowhere [] h = refl
  out_nowhere (first ∷ newer) h = ap (λ b. cond b newer (first ∷ taken_out patch newer)) h.0 ∙ ap (first ∷◌) (out_nowhere newer h.1)

  module _ (change : List (ℕ × ℕ) → List (ℕ × ℕ)) where
    abbrev changed : Installed → Patches → Bool → Patches
    changed first newer b = cond b (record first { values = change first.values } ∷ newer) (first ∷ change_states patch change newer)

    pub change_at : (patches : Patches) (i : ℕ) (d : Installed) → FirstAt (is_patch patch) patches i
        → set patches i (record { patch = (get_or patches i d).patch; values = change (get_or patches i d).values }) ≡ change_states patch change patches
    change_at [] i d h = absurd h
    change_at (first ∷ newer) zero d h = sym (ap (changed first newer) h)
    change_at (first ∷ newer) (suc i) d h = ap (first ∷◌) (change_at newer i d h.1) ∙ sym (ap (changed first newer) h.0)

    pub change_nowhere : (patches : Patches) → Nowhere (is_patch patch) patches → change_states patch change patches ≡ patches
    change_nowhere [] h = refl
    change_nowhere (first ∷ newer) h = ap (changed first newer) h.0 ∙ ap (first ∷◌) (change_nowhere newer h.1)

-- The methods of a world. What was seen of its patches are its patches.
module _ (patch : ℕ) (seen items : Patches) (shadow : Shadow) (now : World) (same : seen ≡ items) (view : ◌≡◌ {A = World} (record { installed = items; shadow = shadow }) now) where
  found_in : (i : ℕ) → Some i ≡ position (is_patch patch) seen → FirstAt (is_patch patch) items i
  found_in i e = first_place (is_patch patch) items (Some i) (e ∙ ap (position (is_patch patch)) same)

  missing_in : None ≡ position (is_patch patch) seen → Nowhere (is_patch patch) items
  missing_in e = first_place (is_patch patch) items None (e ∙ ap (position (is_patch patch)) same)

  pub value_in : (id i : ℕ) (read : Installed) (result : Option ℕ) → Some i ≡ position (is_patch patch) seen → read ≡ get_or items i read → result ≡ value_among id read.values → result ≡ state_value now patch id
  value_in id i read result e is answer =
      answer ∙ ap (λ (r : Installed). value_among id r.values) is ∙ sym (ap (value_among id) (states_at patch items i read (found_in i e)))
      ∙ ap (λ (w : World). state_value w patch id) view

  pub no_value_in : (id : ℕ) → None ≡ position (is_patch patch) seen → None ≡ state_value now patch id
  no_value_in id e = sym (ap (value_among id) (states_nowhere patch items (missing_in e))) ∙ ap (λ (w : World). state_value w patch id) view

  pub changed_in : (change : List (ℕ × ℕ) → List (ℕ × ℕ)) (i : ℕ) (old new : Installed) → Some i ≡ position (is_patch patch) seen → old ≡ get_or items i old
      → new ≡ record old { values = change old.values } → ◌≡◌ {A = World} (record { installed = set items i new; shadow = shadow }) (record now { installed = change_states patch change now.installed })
  changed_in change i old new e is done =
      let written : set items i new ≡ change_states patch change items =
      ap (set items i) (done ∙ ap (λ (r : Installed). record r { values = change r.values }) is) ∙ change_at patch change items i old (found_in i e) in
      ap (λ patches. record { installed = patches; shadow = shadow }) written ∙ ap (λ (w : World). record w { installed = change_states patch change w.installed }) view

  pub unchanged_in : (change : List (ℕ × ℕ) → List (ℕ × ℕ)) → None ≡ position (is_patch patch) seen → now ≡ record now { installed = change_states patch change now.installed }
  unchanged_in change e =
      sym view ∙ ap (λ patches. record { installed = patches; shadow = shadow }) (sym (change_nowhere patch change items (missing_in e)))
      ∙ ap (λ (w : World). record w { installed = change_states patch change w.installed }) view

  pub not_in : None ≡ position (is_patch patch) seen → now ≡ record now { installed = taken_out patch now.installed }
  not_in e =
      sym view ∙ ap (λ patches. record { installed = patches; shadow = shadow }) (sym (out_nowhere patch items (missing_in e)))
      ∙ ap (λ (w : World). record w { installed = taken_out patch w.installed }) view

  -- the record that the patch wasn't installed, put back at a patch of which it is known whether it has states
  with_states : (b : Bool) → b ≡ is_empty (states_of patch now.installed)
      → ◌≡◌ {A = World} (record now { installed = cond b (taken_out patch now.installed) now.installed }) (record now { installed = put_patch patch None now.installed })
  with_states b = ap (λ b. record now { installed = cond b (taken_out patch now.installed) now.installed })

  pub none_out : None ≡ position (is_patch patch) seen → now ≡ record now { installed = put_patch patch None now.installed }
  none_out e =
      let none : states_of patch now.installed ≡ [] = ap (λ (w : World). states_of patch w.installed) (sym view) ∙ states_nowhere patch items (missing_in e) in
      not_in e ∙ with_states true (sym (ap is_empty none))

  pub first_in : (i : ℕ) → Some i ≡ position (is_patch patch) seen → FirstAt (is_patch patch) now.installed i
  first_in i e = subst (λ (w : World). FirstAt (is_patch patch) w.installed i) view (found_in i e)

  -- the patch at its place in the world
  module _ (i : ℕ) (e : Some i ≡ position (is_patch patch) seen) where
    pub taken_from : ◌≡◌ {A = World} (record now { installed = remove now.installed i }) (record now { installed = taken_out patch now.installed })
    taken_from = ap (λ patches. record now { installed = patches }) (out_at patch now.installed i (first_in i e))

    pub states_in : (read : Installed) → read ≡ get_or now.installed i read → states_of patch now.installed ≡ read.values
    states_in read is = states_at patch now.installed i read (first_in i e) ∙ ap (λ (r : Installed). r.values) (sym is)

    states_seen : (read : Installed) → read ≡ get_or items i read → states_of patch now.installed ≡ read.values
    states_seen read is = states_in read (is ∙ ap (λ (w : World). get_or w.installed i read) view)

    pub bare_out : (read : Installed) → read ≡ get_or items i read → true ≡ is_empty read.values
        → ◌≡◌ {A = World} (record now { installed = remove now.installed i }) (record now { installed = put_patch patch None now.installed })
    bare_out read is bare = taken_from ∙ with_states true (bare ∙ sym (ap is_empty (states_seen read is)))

    pub kept_with_states : (read : Installed) → read ≡ get_or items i read → false ≡ is_empty read.values → now ≡ record now { installed = put_patch patch None now.installed }
    kept_with_states read is some = with_states false (some ∙ sym (ap is_empty (states_seen read is)))

    pub rows_dropped : (read : Installed) → read ≡ get_or now.installed i read → rows_of_drop now patch ≡ map (state_row patch) (reverse read.values) ++ InstalledPatch patch (Some i) ∷ []
    rows_dropped read is =
        ap (λ states. rows_if_dropped patch states (place_of patch now.installed)) (states_in read is)
        ∙ ap (rows_if_dropped patch read.values) (place_at patch now.installed i (first_in i e))

    pub rows_seen : (read : Installed) → read ≡ get_or items i read → rows_of_drop now patch ≡ map (state_row patch) (reverse read.values) ++ InstalledPatch patch (Some i) ∷ []
    rows_seen read is = rows_dropped read (is ∙ ap (λ (w : World). get_or w.installed i read) view)

  pub nothing_dropped : None ≡ position (is_patch patch) seen → rows_of_drop now patch ≡ []
  nothing_dropped e =
      sym (ap (λ (w : World). rows_of_drop w patch) view) ∙ ap (rows_if_dropped patch (states_of patch items)) (place_nowhere patch items (missing_in e))

-- the patches by their numbers, once one row is taken out, put in or changed
abbrev pub numbers : Patches → List ℕ
numbers patches = map (λ (i : Installed). i.patch) patches

pub numbers-remove : (patches : Patches) (i : ℕ) → numbers (remove patches i) ≡ remove (numbers patches) i
numbers-remove patches i = simp (map-append, take-map, drop-map)

pub numbers-insert : (patches : Patches) (i : ℕ) (new : Installed) → numbers (insert patches i new) ≡ insert (numbers patches) i new.patch
numbers-insert patches i new = simp (map-append, take-map, drop-map)

pub numbers-set : (patches : Patches) (i : ℕ) (old new : Installed) → old ≡ get_or patches i old → new.patch ≡ old.patch → numbers (set patches i new) ≡ numbers patches
numbers-set patches i old new is same = by patches i (same ∙ ap (λ (r : Installed). r.patch) is)
  where
    by : (patches : Patches) (i : ℕ) → new.patch ≡ (get_or patches i old).patch → numbers (set patches i new) ≡ numbers patches
    by [] i same = refl
    by (first ∷ newer) zero same = ap (λ n. n ∷ numbers newer) same
    by (first ∷ newer) (suc i) same = ap (first.patch ∷◌) (by newer i same)
