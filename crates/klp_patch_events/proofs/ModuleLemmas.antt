-- The entries of a module's sites, while the installed patches come to them or leave them one after another.
use Rattle.std.proofs.Common.{◌≡◌, ℕ, zero, suc, ◌+◌, ◌<◌, Bool, true, false, not, ◌&&◌, ◌||◌, cond, List, [], ◌∷◌, ◌++◌, length, reverse, take, drop, get_or, ◌≤◌, Some, is_some, refl, sym, ap, subst, ◌∙◌, arith}
use Rattle.std.specs.Prelude.{◌==◌, if◌then◌else◌}
use Rattle.std.specs.List.{count_by, filter, list_any}
use Rattle.std.proofs.lemmas.Bool.{eq-eqb, eqb-true, false_from_ne_true, or_right}
use Rattle.std.proofs.lemmas.List.{take_more, take-append-drop, reverse-append}
use Rattle.std.proofs.lemmas.List.Folds.{list_any-append, list_any_at}
use Rattle.std.proofs.lemmas.List.Sums.{sum_by-append}
use Rattle.std.proofs.Math.Bool.{or-false}
use Rattle.klp_types.specs.declared.version.Entry.{Entry}
use Rattle.klp_types.specs.Image.{Image, object_of}
use Rattle.klp_types.specs.Setting.{Setting, functions_of, function_for, replaces}
use Rattle.klp_types.specs.Entries.{entry_of, entries_from, is_empty}
use Rattle.klp_types.proofs.EntryLemmas.{list_any-reverse}
use Rattle.klp_model.specs.Allowed.{is_one_of, AreDistinct}
use Rattle.klp_catalog.specs.Catalog.{Catalog, patches_of}
use Rattle.klp_stack.specs.Stack.{entries_at, has_entry, entries_of_others}
use Rattle.klp_sites.specs.Table.{SiteTable}
use Rattle.klp_patch.specs.Changes.{AreMade, with_entry}
use Rattle.klp_patch.specs.Room.{FindRoom, HasRoom}
use Rattle.klp_patch.proofs.RoomLemmas.{count-le, room_for_less}
use Rattle.klp_patch_events.proofs.CountLemmas.{older_fewer}
use Rattle.klp_patch.specs.Covered.{is_covered, is_object_in_scope}

-- the image and the patches of a catalog
abbrev pub setting_with : Image → Catalog → Setting
setting_with image catalog = record { image = image; patches = patches_of catalog }

-- truth values

neither : (a b : Bool) → a ≡ false → b ≡ false → (a || b) ≡ false
neither a b no_a no_b = rw (no_a, no_b) refl

not-or : (a b : Bool) → (not a && not b) ≡ not (a || b)
not-or true b = refl
not-or false b = refl

eqb-sym : (a b : ℕ) → (a == b) ≡ (b == a)
eqb-sym a b =
    elim (a == b) as (λ v. (a == b) ≡ v → v ≡ (b == a)) [
      | true ↦ λ same. sym (eq-eqb b a (sym (eqb-true a b same)))
      | false ↦ λ apart. sym (false_from_ne_true (b == a) (λ same. let no : false ≡ true = sym apart ∙ eq-eqb a b (sym (eqb-true b a same)) in let none : ⊥ = cc in none))
    ] refl

-- lists

pub any-filter : {X : Type 0} (p keep : X → Bool) (xs : List X) → list_any p (filter keep xs) ≡ true → list_any p xs ≡ true
any-filter p keep [] there = there
any-filter p keep (x ∷ xs) there =
    elim (keep x) as (λ v. list_any p (if v then x ∷ filter keep xs else filter keep xs) ≡ true → (p x || list_any p xs) ≡ true) [
      | true ↦ elim (p x) as (λ w. (w || list_any p (filter keep xs)) ≡ true → (w || list_any p xs) ≡ true) [
        | true ↦ λ h. refl
        | false ↦ λ h. any-filter p keep xs h
      ]
      | false ↦ λ h. or_right (p x) (list_any p xs) (any-filter p keep xs h)
    ] there

filter-filter : {X : Type 0} (one other both : X → Bool) → ((x : X) → (one x && other x) ≡ both x) → (xs : List X) → filter other (filter one xs) ≡ filter both xs
filter-filter one other both is [] = refl
filter-filter one other both is (x ∷ xs) =
    elim (one x) as (λ v. (v && other x) ≡ both x
    → filter other (if v then x ∷ filter one xs else filter one xs) ≡ (if both x then x ∷ filter both xs else filter both xs)) [
      | true ↦ λ e. ap (λ b. if b then x ∷ filter other (filter one xs) else filter other (filter one xs)) e
          ∙ ap (λ ys. if both x then x ∷ ys else ys) (filter-filter one other both is xs)
      | false ↦ λ e. filter-filter one other both is xs ∙ ap (λ b. if b then x ∷ filter both xs else filter both xs) e
    ] (is x)

count_by-append : {X : Type 0} (p : X → Bool) (xs ys : List X) → count_by p (xs ++ ys) ≡ count_by p xs + count_by p ys
count_by-append p xs ys = sum_by-append (λ x. cond (p x) 1 0) xs ys

-- how many of one more pass
pub count_more : (p : ℕ → Bool) (xs : List ℕ) (i x : ℕ) → i < length xs → x ≡ get_or xs i x → count_by p (take (i + 1) xs) ≡ count_by p (take i xs) + count_by p (x ∷ [])
count_more p xs i x below is =
    ap (count_by p) (take_more xs i x below) ∙ ap (λ y. count_by p (take i xs ++ y ∷ [])) (sym is) ∙ count_by-append p (take i xs) (x ∷ [])

pub newest_first : (patches : List ℕ) (i patch : ℕ) → i < length patches → patch ≡ get_or patches i patch → reverse (take (i + 1) patches) ≡ patch ∷ reverse (take i patches)
newest_first patches i patch below is =
    ap reverse (take_more patches i patch below ∙ ap (λ p. take i patches ++ p ∷ []) (sym is)) ∙ reverse-append (take i patches) (patch ∷ [])

-- a patch isn't one of those before it
pub not_before : (patches : List ℕ) (i patch : ℕ) → AreDistinct patches → i < length patches → patch ≡ get_or patches i patch → is_one_of patch (take i patches) ≡ false
not_before [] i patch distinct below is = absurd (omega arith)
not_before (first ∷ patches) zero patch distinct below is = refl
not_before (first ∷ patches) (suc i) patch distinct below is =
    let within : i < length patches = omega arith in
    let own = not_before patches i patch distinct.1 within is in
    let other = false_from_ne_true (first == patch) (λ same.
    let first_is = eqb-true first patch same in
    let there = list_any_at (λ p. p == first) patches i patch within (eq-eqb (get_or patches i patch) first (sym is ∙ sym first_is)) in
    let no : true ≡ false = sym there ∙ distinct.0 in
    let none : ⊥ = cc in none) in
    neither (first == patch) (is_one_of patch (take i patches)) other own

-- what the laws of entries say

abbrev pub OnTop : Type 0
OnTop = (setting : Setting) (site patch : ℕ) (older : List ℕ)
    → entries_from setting site (patch ∷ older)
    ≡ entry_of patch (function_for (functions_of setting patch) site) (replaces setting patch && not (is_empty (entries_from setting site older)))
    ++ entries_from setting site older

abbrev pub OfInstalled : Type 0
OfInstalled = (setting : Setting) (site patch : ℕ) (patches : List ℕ)
    → list_any (λ (e : Entry). e.patch == patch) (entries_from setting site patches) ≡ true → list_any (λ p. p == patch) patches ≡ true

-- a patch comes

-- the next patch has no entry yet
pub fresh : OfInstalled → (image : Image) (catalog : Catalog) (site : ℕ) (patches : List ℕ) (i patch : ℕ) → AreDistinct patches → i < length patches → patch ≡ get_or patches i patch
    → has_entry patch (entries_from (setting_with image catalog) site (reverse (take i patches))) ≡ false
fresh law image catalog site patches i patch distinct below is =
    false_from_ne_true (has_entry patch (entries_from (setting_with image catalog) site (reverse (take i patches)))) (λ there.
    let one = law (setting_with image catalog) site patch (reverse (take i patches)) there in
    let no : true ≡ false = sym one ∙ list_any-reverse (λ p. p == patch) (take i patches) ∙ not_before patches i patch distinct below is in
    let none : ⊥ = cc in none)

-- its entry comes on top of those of the patches before it
pub put_on : OnTop → (image : Image) (catalog : Catalog) (site : ℕ) (patches : List ℕ) (i patch : ℕ) → i < length patches → patch ≡ get_or patches i patch
    → with_entry catalog patch site (entries_from (setting_with image catalog) site (reverse (take i patches)))
    ≡ entries_from (setting_with image catalog) site (reverse (take (i + 1) patches))
put_on law image catalog site patches i patch below is =
    sym (law (setting_with image catalog) site patch (reverse (take i patches)))
    ∙ ap (entries_from (setting_with image catalog) site) (sym (newest_first patches i patch below is))

-- a patch leaves

-- to take out the entries of one more patch
pub taken_out : (patches : List ℕ) (i patch : ℕ) (entries : List Entry) → i < length patches → patch ≡ get_or patches i patch
    → entries_of_others patch (filter (λ (e : Entry). not (is_one_of e.patch (take i patches))) entries)
    ≡ filter (λ (e : Entry). not (is_one_of e.patch (take (i + 1) patches))) entries
taken_out patches i patch entries below is =
    let more : take (i + 1) patches ≡ take i patches ++ patch ∷ [] = take_more patches i patch below ∙ ap (λ p. take i patches ++ p ∷ []) (sym is) in
    filter-filter (λ (e : Entry). not (is_one_of e.patch (take i patches))) (λ (e : Entry). not (e.patch == patch)) (λ (e : Entry). not (is_one_of e.patch (take (i + 1) patches)))
    (λ (e : Entry). not-or (is_one_of e.patch (take i patches)) (e.patch == patch)
    ∙ ap not (ap (λ b. is_one_of e.patch (take i patches) || b) (eqb-sym e.patch patch ∙ sym (or-false (patch == e.patch)))
    ∙ sym (list_any-append (λ p. p == e.patch) (take i patches) (patch ∷ [])) ∙ ap (is_one_of e.patch) (sym more)))
    entries

-- a patch that still has an entry had one before
pub had_entry : (patches : List ℕ) (patch : ℕ) (entries : List Entry) → has_entry patch (filter (λ (e : Entry). not (is_one_of e.patch patches)) entries) ≡ true
    → has_entry patch entries ≡ true
had_entry patches patch entries there = any-filter (λ (e : Entry). e.patch == patch) (λ (e : Entry). not (is_one_of e.patch patches)) entries there

-- as long as no patch has left
pub none_taken : (entries : List Entry) → filter (λ (e : Entry). not (is_one_of e.patch [])) entries ≡ entries
none_taken [] = refl
none_taken (e ∷ entries) = ap (λ es. e ∷ es) (none_taken entries)

all_taken : (patches : List ℕ) (entries : List Entry) → ((patch : ℕ) → has_entry patch entries ≡ true → is_one_of patch patches ≡ true)
    → filter (λ (e : Entry). not (is_one_of e.patch patches)) entries ≡ []
all_taken patches [] own = refl
all_taken patches (e ∷ entries) own =
    let here = own e.patch (ap (λ b. b || has_entry e.patch entries) (eq-eqb e.patch e.patch refl)) in
    ap (λ b. if not b then e ∷ filter (λ (f : Entry). not (is_one_of f.patch patches)) entries else filter (λ (f : Entry). not (is_one_of f.patch patches)) entries) here
    ∙ all_taken patches entries (λ patch there. own patch (or_right (e.patch == patch) (has_entry patch entries) there))

-- once all have left there is none
pub none_left : OfInstalled → (setting : Setting) (site : ℕ) (patches : List ℕ)
    → filter (λ (e : Entry). not (is_one_of e.patch patches)) (entries_from setting site (reverse patches)) ≡ []
none_left law setting site patches =
    all_taken patches (entries_from setting site (reverse patches)) (λ patch there.
    sym (list_any-reverse (λ p. p == patch) patches) ∙ law setting site patch (reverse patches) there)

-- which sites a change is about

pub same_cover : (one other : SiteTable) (object site : ℕ) → one.image ≡ other.image → one.loaded ≡ other.loaded → is_covered one (Some object) site ≡ is_covered other (Some object) site
same_cover one other object site image loaded =
    ap (λ (i : Image). is_object_in_scope (Some object) one.loaded (object_of i.objects site)) image
    ∙ ap (λ (l : List Bool). is_object_in_scope (Some object) l (object_of other.image.objects site)) loaded

-- step by step

abbrev pub Own : Type 0
Own = (setting : Setting) (site patch : ℕ) (patches : List ℕ)
    → list_any (λ (e : Entry). e.patch == patch) (entries_from setting site patches) ≡ true
    → (is_some (function_for (functions_of setting patch) site) || replaces setting patch) ≡ true

nested : {A : Type 0} (covers : Bool) (made : A → A) (one next other : A) → made one ≡ next
    → (if covers then made (if covers then one else other) else (if covers then one else other)) ≡ (if covers then next else other)
nested true made one next other is = is
nested false made one next other is = refl

-- these patches have come to the sites of an object
pub record HaveCome (catalog : Catalog) (patches : List ℕ) (object : ℕ) (before now : SiteTable) : Type 0 where
  pub image : now.image ≡ before.image
  pub loaded : now.loaded ≡ before.loaded
  pub entries : (site : ℕ) → entries_at now.stacks site
      ≡ (if is_covered before (Some object) site then entries_from (setting_with before.image catalog) site (reverse patches) else entries_at before.stacks site)

bare_at : (covers : Bool) (entries : List Entry) → (covers ≡ true → entries ≡ []) → entries ≡ (if covers then [] else entries)
bare_at true entries bare = bare refl
bare_at false entries bare = refl

pub none_came : (catalog : Catalog) (object : ℕ) (before : SiteTable) → ((site : ℕ) → is_covered before (Some object) site ≡ true → entries_at before.stacks site ≡ [])
    → HaveCome catalog [] object before before
none_came catalog object before bare = record {
  image = refl;
  loaded = refl;
  entries = λ site. bare_at (is_covered before (Some object) site) (entries_at before.stacks site) (bare site);
}

pub still_fresh : OfInstalled → (catalog : Catalog) (patches : List ℕ) (i patch object : ℕ) (before now : SiteTable) → AreDistinct patches → i < length patches → patch ≡ get_or patches i patch
    → HaveCome catalog (take i patches) object before now
    → (site : ℕ) → is_covered now (Some object) site ≡ true → has_entry patch (entries_at now.stacks site) ≡ false
still_fresh law catalog patches i patch object before now distinct below is come site covered =
    let own = sym (same_cover now before object site come.image come.loaded) ∙ covered in
    ap (has_entry patch) (come.entries site ∙ ap (λ b. if b then entries_from (setting_with before.image catalog) site (reverse (take i patches)) else entries_at before.stacks site) own)
    ∙ fresh law before.image catalog site patches i patch distinct below is

pub one_came : OnTop → (catalog : Catalog) (patches : List ℕ) (i patch object : ℕ) (before now after : SiteTable) → i < length patches → patch ≡ get_or patches i patch
    → HaveCome catalog (take i patches) object before now → AreMade now after (is_covered now (Some object)) (with_entry catalog patch)
    → HaveCome catalog (take (i + 1) patches) object before after
one_came law catalog patches i patch object before now after below is come made = record {
  image = made.image ∙ come.image;
  loaded = made.loaded ∙ come.loaded;
  entries = λ site.
      made.entries site
      ∙ ap (λ b. if b then with_entry catalog patch site (entries_at now.stacks site) else entries_at now.stacks site) (same_cover now before object site come.image come.loaded)
      ∙ ap (λ es. if is_covered before (Some object) site then with_entry catalog patch site es else es) (come.entries site)
      ∙ nested (is_covered before (Some object) site) (with_entry catalog patch site) (entries_from (setting_with before.image catalog) site (reverse (take i patches)))
      (entries_from (setting_with before.image catalog) site (reverse (take (i + 1) patches))) (entries_at before.stacks site)
      (put_on law before.image catalog site patches i patch below is);
}

-- these patches have left the sites of an object
pub record HaveLeft (patches : List ℕ) (object : ℕ) (before now : SiteTable) : Type 0 where
  pub image : now.image ≡ before.image
  pub loaded : now.loaded ≡ before.loaded
  pub entries : (site : ℕ) → entries_at now.stacks site
      ≡ (if is_covered before (Some object) site then filter (λ (e : Entry). not (is_one_of e.patch patches)) (entries_at before.stacks site) else entries_at before.stacks site)

same_either : {A : Type 0} (covers : Bool) (one other : A) → one ≡ other → other ≡ (if covers then one else other)
same_either true one other is = sym is
same_either false one other is = refl

pub none_left_yet : (object : ℕ) (before : SiteTable) → HaveLeft [] object before before
none_left_yet object before = record {
  image = refl;
  loaded = refl;
  entries = λ site. same_either (is_covered before (Some object) site) (filter (λ (e : Entry). not (is_one_of e.patch [])) (entries_at before.stacks site)) (entries_at before.stacks site)
      (none_taken (entries_at before.stacks site));
}

-- a patch that has an entry there has a function, or replaces
pub own_entry : Own → (catalog : Catalog) (patches gone : List ℕ) (patch object : ℕ) (before now : SiteTable)
    → ((site : ℕ) → is_covered before (Some object) site ≡ true → entries_at before.stacks site ≡ entries_from (setting_with before.image catalog) site (reverse patches))
    → HaveLeft gone object before now
    → (site : ℕ) → is_covered now (Some object) site ≡ true → has_entry patch (entries_at now.stacks site) ≡ true
    → (is_some (function_for (functions_of (setting_with before.image catalog) patch) site) || replaces (setting_with before.image catalog) patch) ≡ true
own_entry law catalog patches gone patch object before now own left site covered there =
    let covers = sym (same_cover now before object site left.image left.loaded) ∙ covered in
    let rest : entries_at now.stacks site ≡ filter (λ (e : Entry). not (is_one_of e.patch gone)) (entries_at before.stacks site) =
    left.entries site ∙ ap (λ b. if b then filter (λ (e : Entry). not (is_one_of e.patch gone)) (entries_at before.stacks site) else entries_at before.stacks site) covers
    in
    law (setting_with before.image catalog) site patch (reverse patches)
    (sym (ap (has_entry patch) (own site covers)) ∙ had_entry gone patch (entries_at before.stacks site) (sym (ap (has_entry patch) rest) ∙ there))

pub one_left : (patches : List ℕ) (i patch object : ℕ) (before now after : SiteTable) → i < length patches → patch ≡ get_or patches i patch
    → HaveLeft (take i patches) object before now → AreMade now after (is_covered now (Some object)) (λ site entries. entries_of_others patch entries)
    → HaveLeft (take (i + 1) patches) object before after
one_left patches i patch object before now after below is left made = record {
  image = made.image ∙ left.image;
  loaded = made.loaded ∙ left.loaded;
  entries = λ site.
      made.entries site
      ∙ ap (λ b. if b then entries_of_others patch (entries_at now.stacks site) else entries_at now.stacks site) (same_cover now before object site left.image left.loaded)
      ∙ ap (λ es. if is_covered before (Some object) site then entries_of_others patch es else es) (left.entries site)
      ∙ nested (is_covered before (Some object) site) (entries_of_others patch) (filter (λ (e : Entry). not (is_one_of e.patch (take i patches))) (entries_at before.stacks site))
      (filter (λ (e : Entry). not (is_one_of e.patch (take (i + 1) patches))) (entries_at before.stacks site)) (entries_at before.stacks site)
      (taken_out patches i patch (entries_at before.stacks site) below is);
}

where_covered : {A : Type 0} (covers : Bool) (one next other : A) → (covers ≡ true → one ≡ next) → (if covers then one else other) ≡ (if covers then next else other)
where_covered true one next other is = is refl
where_covered false one next other is = refl

-- all have left
pub all_left : OfInstalled → (catalog : Catalog) (patches : List ℕ) (object : ℕ) (before now : SiteTable)
    → ((site : ℕ) → is_covered before (Some object) site ≡ true → entries_at before.stacks site ≡ entries_from (setting_with before.image catalog) site (reverse patches))
    → HaveLeft patches object before now
    → (site : ℕ) → entries_at now.stacks site ≡ (if is_covered before (Some object) site then [] else entries_at before.stacks site)
all_left law catalog patches object before now own left site =
    left.entries site
    ∙ where_covered (is_covered before (Some object) site) (filter (λ (e : Entry). not (is_one_of e.patch patches)) (entries_at before.stacks site)) [] (entries_at before.stacks site)
    (λ covers. ap (filter (λ (e : Entry). not (is_one_of e.patch patches))) (own site covers) ∙ none_left law (setting_with before.image catalog) site patches)

-- there is room for the entries of one more patch, where there is room for those of all
pub one_fits : OnTop → (catalog : Catalog) (patches : List ℕ) (i patch object : ℕ) (before now : SiteTable) → i < length patches → patch ≡ get_or patches i patch
    → HaveCome catalog (take i patches) object before now → length now.stacks ≡ length before.stacks
    → HasRoom before (is_covered before (Some object)) (λ site entries. entries_from (setting_with before.image catalog) site (reverse patches))
    → HasRoom now (is_covered now (Some object)) (with_entry catalog patch)
one_fits law catalog patches i patch object before now below is come same room =
    room_for_less before now (is_covered before (Some object)) (is_covered now (Some object)) (λ site entries. entries_from (setting_with before.image catalog) site (reverse patches)) (with_entry catalog patch) room same
    (λ site.
    let setting = setting_with before.image catalog in
    let covers = is_covered before (Some object) site in
    let made : (if is_covered now (Some object) site then with_entry catalog patch site (entries_at now.stacks site) else entries_at now.stacks site)
    ≡ (if covers then entries_from setting site (reverse (take (i + 1) patches)) else entries_at before.stacks site) =
    ap (λ b. if b then with_entry catalog patch site (entries_at now.stacks site) else entries_at now.stacks site) (same_cover now before object site come.image come.loaded)
    ∙ ap (λ es. if covers then with_entry catalog patch site es else es) (come.entries site)
    ∙ nested covers (with_entry catalog patch site) (entries_from setting site (reverse (take i patches))) (entries_from setting site (reverse (take (i + 1) patches))) (entries_at before.stacks site)
    (put_on law before.image catalog site patches i patch below is)
    in
    let parts : reverse patches ≡ reverse (drop (i + 1) patches) ++ reverse (take (i + 1) patches) =
    ap reverse (sym (take-append-drop (i + 1) patches)) ∙ reverse-append (take (i + 1) patches) (drop (i + 1) patches)
    in
    let fewer : length (entries_from setting site (reverse (take (i + 1) patches))) ≤ length (entries_from setting site (reverse patches)) =
    subst (λ ps. length (entries_from setting site (reverse (take (i + 1) patches))) ≤ length (entries_from setting site ps)) (sym parts)
    (older_fewer setting site (reverse (drop (i + 1) patches)) (reverse (take (i + 1) patches)))
    in
    subst (λ es. length es ≤ length (if covers then entries_from setting site (reverse patches) else entries_at before.stacks site)) (sym made)
    (either covers (entries_from setting site (reverse (take (i + 1) patches))) (entries_from setting site (reverse patches)) (entries_at before.stacks site) fewer))
  where
    either : (covers : Bool) (one many other : List Entry) → length one ≤ length many → length (if covers then one else other) ≤ length (if covers then many else other)
    either true one many other few = few
    either false one many other few = omega arith

-- there is room for those of all, as all sites have no more than these
pub all_have_room : (setting : Setting) (patches : List ℕ) (table : SiteTable) (covers : ℕ → Bool) (made : ℕ → List Entry → List Entry)
    → ((site : ℕ) → length (if covers site then made site (entries_at table.stacks site) else entries_at table.stacks site) ≤ length (entries_from setting site (reverse patches)))
    → FindRoom (λ site. entries_from setting site (reverse patches)) (length table.stacks) → HasRoom table covers made
all_have_room setting patches table covers made few fits =
    let all = count-le (λ site. if covers site then made site (entries_at table.stacks site) else entries_at table.stacks site) (λ site. entries_from setting site (reverse patches)) few (length table.stacks) in
    record { fits = omega (arith, all, fits) }
