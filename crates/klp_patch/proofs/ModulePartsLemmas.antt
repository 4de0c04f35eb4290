-- What patches have for a module, patch by patch, as loops over the patches go through it.
use Rattle.std.proofs.Common.{sum_by, ◌≡◌, ℕ, suc, ◌+◌, ◌≤◌, ◌<◌, Bool, true, false, cond, List, [], ◌∷◌, ◌++◌, take, drop, length, get_or, Option, Some, None, refl, sym, ap, ◌∙◌, append_assoc, option_map, arith}
use Rattle.std.specs.Prelude.{ℤ, find}
use Rattle.std.specs.List.{flat_map}
use Rattle.std.specs.Option.{option_or}
use Rattle.std.proofs.Math.Seq.{drop-cons, take-suc}
use Rattle.std.proofs.lemmas.Grind.{flat_map-append}
use Rattle.std.proofs.lemmas.List.{append-nil}
use Rattle.std.proofs.lemmas.List.Folds.{find-append}
use Rattle.std.proofs.lemmas.List.Sums.{sum_by-append}
use Rattle.klp_types.specs.declared.callback.Which.TheVariants.{Pre, Post, PreUn, PostUn}
use Rattle.klp_types.specs.declared.version.Transition.{Transition}
use Rattle.klp_types.specs.Records.{RecordList}
use Rattle.klp_types.specs.World.{World}
use Rattle.klp_types.specs.Script.{alloc_count}
use Rattle.klp_types.specs.Callbacks.{Call}
use Rattle.klp_model.specs.ModuleCalls.{Part, part_call, still_call, part_coming, part_going, part_refuses, parts_before, refused_parts, coming_calls, going_calls}
use Rattle.klp_model.specs.EventCalls.{coming_may_run, going_may_run}
use Rattle.klp_catalog.specs.Catalog.{Catalog}
use Rattle.klp_patch.specs.ModuleParts.{parts_at, parts_in}
use Rattle.klp_patch.specs.UntilRefused.{calls_until_refused, refusal}
use Rattle.klp_patch.specs.Calls.{HaveRun, HasRoomFor}
use Rattle.klp_patch.proofs.CallLemmas.{drop_past}
use Rattle.klp_patch.proofs.RanLemmas.{SoFar}

module _ (catalog : Catalog) (object : ℕ) (patches : List ℕ) (k patch : ℕ) (below : k < length patches) (is : patch ≡ get_or patches k patch) where
  -- what the next patch has, and those behind it
  pub parts-next : parts_in catalog object (drop k patches) ≡ parts_at catalog object patch ++ parts_in catalog object (drop (k + 1) patches)
  parts-next =
      let next : suc k ≡ k + 1 = omega arith in
      ap (parts_in catalog object) (drop-cons patches k patch below)
      ∙ ap (λ p. parts_at catalog object p ++ parts_in catalog object (drop (suc k) patches)) (sym is)
      ∙ ap (λ n. parts_at catalog object patch ++ parts_in catalog object (drop n patches)) next

  -- what the patches up to and with this one have
  pub parts-so_far : parts_in catalog object (take (k + 1) patches) ≡ parts_in catalog object (take k patches) ++ parts_at catalog object patch
  parts-so_far =
      let next : k + 1 ≡ suc k = omega arith in
      ap (λ n. parts_in catalog object (take n patches)) next
      ∙ ap (parts_in catalog object) (take-suc patches k patch below ∙ ap (λ p. take k patches ++ p ∷ []) (sym is))
      ∙ flat_map-append (parts_at catalog object) (take k patches) (patch ∷ [])
      ∙ ap (λ parts. parts_in catalog object (take k patches) ++ parts) (append-nil (parts_at catalog object patch))

pub parts-none_left : (catalog : Catalog) (object : ℕ) (patches : List ℕ) (k : ℕ) → length patches ≤ k → parts_in catalog object (drop k patches) ≡ []
parts-none_left catalog object patches k past = ap (parts_in catalog object) (drop_past patches k past)

-- ---- a list of parts and another behind it

-- what is behind a part that refuses doesn't matter
abbrev pub unless_found : {A : Type 0} → Option Part → List A → List A
unless_found None xs = xs
unless_found (Some part) xs = []

module _ (moving : Option Transition) where
  pub part_coming-append : (xs ys : List Part) → calls_until_refused moving (xs ++ ys) ≡ calls_until_refused moving xs ++ unless_found (find part_refuses xs) (calls_until_refused moving ys)
  part_coming-append [] ys = refl
  part_coming-append (x ∷ xs) ys = by (part_coming-append xs ys) (part_refuses x)
    where
      own : List Call
      own = part_call Pre x

      still : List Call
      still = still_call moving Post x

      by : calls_until_refused moving (xs ++ ys) ≡ calls_until_refused moving xs ++ unless_found (find part_refuses xs) (calls_until_refused moving ys)
          → (refuses : Bool) → own ++ cond refuses [] (still ++ calls_until_refused moving (xs ++ ys))
          ≡ (own ++ cond refuses [] (still ++ calls_until_refused moving xs)) ++ unless_found (cond refuses (Some x) (find part_refuses xs)) (calls_until_refused moving ys)
      by rest true = sym (append-nil (own ++ []))
      by rest false =
          ap (λ calls. own ++ (still ++ calls)) rest
          ∙ ap (λ calls. own ++ calls) (sym (append_assoc still (calls_until_refused moving xs) (unless_found (find part_refuses xs) (calls_until_refused moving ys))))
          ∙ sym (append_assoc own (still ++ calls_until_refused moving xs) (unless_found (find part_refuses xs) (calls_until_refused moving ys)))

pub before-append : (xs ys : List Part) → parts_before (xs ++ ys) ≡ parts_before xs ++ unless_found (find part_refuses xs) (parts_before ys)
before-append [] ys = refl
before-append (x ∷ xs) ys = by (before-append xs ys) (part_refuses x)
  where
    by : parts_before (xs ++ ys) ≡ parts_before xs ++ unless_found (find part_refuses xs) (parts_before ys)
        → (refuses : Bool) → cond refuses [] (x ∷ parts_before (xs ++ ys)) ≡ cond refuses [] (x ∷ parts_before xs) ++ unless_found (cond refuses (Some x) (find part_refuses xs)) (parts_before ys)
    by rest true = refl
    by rest false = ap (λ parts. x ∷ parts) rest

pub all-before : (xs : List Part) → find part_refuses xs ≡ None → parts_before xs ≡ xs
all-before [] none = refl
all-before (x ∷ xs) none = by (all-before xs) (part_refuses x) none
  where
    by : (find part_refuses xs ≡ None → parts_before xs ≡ xs) → (refuses : Bool) → cond refuses (Some x) (find part_refuses xs) ≡ None → cond refuses [] (x ∷ parts_before xs) ≡ x ∷ xs
    by later true wrong = let no : ⊥ = cc in absurd no
    by later false none = ap (λ parts. x ∷ parts) (later none)

-- ---- the calls of a module that comes, in two halves

abbrev refused_call : Option Part → List Call
refused_call None = []
refused_call (Some part) = part_call Pre part

-- the clean-up, where one refused
abbrev clean_up : Option Transition → List Part → Option Part → List Call
clean_up moving before None = []
clean_up moving before (Some part) = flat_map (part_going moving) before

module _ (moving : Option Transition) where
  part_coming-parts : (parts : List Part) → flat_map (part_coming moving) (parts_before parts) ++ refused_call (find part_refuses parts) ≡ calls_until_refused moving parts
  part_coming-parts [] = refl
  part_coming-parts (x ∷ xs) = by (part_coming-parts xs) (part_refuses x)
    where
      own : List Call
      own = part_call Pre x

      still : List Call
      still = still_call moving Post x

      by : flat_map (part_coming moving) (parts_before xs) ++ refused_call (find part_refuses xs) ≡ calls_until_refused moving xs
          → (refuses : Bool) → flat_map (part_coming moving) (cond refuses [] (x ∷ parts_before xs)) ++ refused_call (cond refuses (Some x) (find part_refuses xs))
          ≡ own ++ cond refuses [] (still ++ calls_until_refused moving xs)
      by rest true = sym (append-nil own)
      by rest false =
          append_assoc (own ++ still) (flat_map (part_coming moving) (parts_before xs)) (refused_call (find part_refuses xs))
          ∙ ap (λ calls. (own ++ still) ++ calls) rest ∙ append_assoc own still (calls_until_refused moving xs)

  refused-halves : (before : List Part) (found : Option Part) → refused_parts moving before found ≡ refused_call found ++ clean_up moving before found
  refused-halves before None = refl
  refused-halves before (Some part) = refl

  coming-halves : (parts : List Part) → coming_calls moving parts ≡ calls_until_refused moving parts ++ clean_up moving (parts_before parts) (find part_refuses parts)
  coming-halves parts =
      ap (λ calls. flat_map (part_coming moving) (parts_before parts) ++ calls) (refused-halves (parts_before parts) (find part_refuses parts))
      ∙ sym (append_assoc (flat_map (part_coming moving) (parts_before parts)) (refused_call (find part_refuses parts)) (clean_up moving (parts_before parts) (find part_refuses parts)))
      ∙ ap (λ calls. calls ++ clean_up moving (parts_before parts) (find part_refuses parts)) (part_coming-parts parts)

  -- none refuses
  pub coming-passed : (parts : List Part) → find part_refuses parts ≡ None → coming_calls moving parts ≡ calls_until_refused moving parts
  coming-passed parts none = coming-halves parts ∙ ap (λ found. calls_until_refused moving parts ++ clean_up moving (parts_before parts) found) none ∙ append-nil (calls_until_refused moving parts)

  -- one refuses
  pub coming-refused : (parts : List Part) (part : Part) → find part_refuses parts ≡ Some part
      → coming_calls moving parts ≡ calls_until_refused moving parts ++ going_calls moving (parts_before parts)
  coming-refused parts part is = coming-halves parts ∙ ap (λ found. calls_until_refused moving parts ++ clean_up moving (parts_before parts) found) is

  -- ---- what they may add and note

  pub going-weight : (weight : Call → ℕ) (parts : List Part) → sum_by weight (going_calls moving parts) ≡ sum_by weight (flat_map (going_may_run moving) parts)
  going-weight weight [] = refl
  going-weight weight (x ∷ xs) =
      omega (
        arith,
        sum_by-append weight (part_going moving x) (going_calls moving xs),
        sum_by-append weight (still_call moving PreUn x) (part_call PostUn x),
        sum_by-append weight (going_may_run moving x) (flat_map (going_may_run moving) xs),
        sum_by-append weight (part_call PostUn x) (still_call moving PreUn x),
        going-weight weight xs,
      )

  pub coming-weight : (weight : Call → ℕ) (parts : List Part)
      → sum_by weight (calls_until_refused moving parts) + sum_by weight (going_calls moving (parts_before parts)) ≤ sum_by weight (flat_map (coming_may_run moving) parts)
  coming-weight weight [] = omega arith
  coming-weight weight (x ∷ xs) = by (coming-weight weight xs) (part_refuses x)
    where
      pre : List Call
      pre = part_call Pre x

      post_un : List Call
      post_un = part_call PostUn x

      post : List Call
      post = still_call moving Post x

      pre_un : List Call
      pre_un = still_call moving PreUn x

      own : sum_by weight (coming_may_run moving x ++ flat_map (coming_may_run moving) xs)
          ≡ sum_by weight pre + (sum_by weight post_un + (sum_by weight post + (sum_by weight pre_un + sum_by weight (flat_map (coming_may_run moving) xs))))
      own =
          omega (
            arith,
            sum_by-append weight (coming_may_run moving x) (flat_map (coming_may_run moving) xs),
            sum_by-append weight (pre ++ post_un ++ post) pre_un,
            sum_by-append weight (pre ++ post_un) post,
            sum_by-append weight pre post_un,
          )

      by : sum_by weight (calls_until_refused moving xs) + sum_by weight (going_calls moving (parts_before xs)) ≤ sum_by weight (flat_map (coming_may_run moving) xs)
          → (refuses : Bool) → sum_by weight (pre ++ cond refuses [] (post ++ calls_until_refused moving xs)) + sum_by weight (going_calls moving (cond refuses [] (x ∷ parts_before xs)))
          ≤ sum_by weight (coming_may_run moving x ++ flat_map (coming_may_run moving) xs)
      by rest true = omega (arith, own, sum_by-append weight pre [])
      by rest false =
          omega (
            arith,
            own,
            sum_by-append weight pre (post ++ calls_until_refused moving xs),
            sum_by-append weight post (calls_until_refused moving xs),
            sum_by-append weight (part_going moving x) (going_calls moving (parts_before xs)),
            sum_by-append weight pre_un post_un,
            rest,
          )

-- ---- one turn of a loop over the patches

pub parts_so_far : (first now : Catalog) (w0 w1 : World) (l0 l1 : RecordList) (left all : List Call) (object patch : ℕ)
    → SoFar first now w0 w1 l0 l1 left all → parts_at now object patch ≡ parts_at first object patch
parts_so_far first now w0 w1 l0 l1 left all object patch far = ap (λ (k : Catalog). parts_at k object patch) far.ran.catalog

-- who refuses, where one is told
pub refusal-some : (found : Option Part) (answer : ℕ × ℤ) → Some answer ≡ option_map refusal found → (part : Part) × (found ≡ Some part) × (answer ≡ refusal part)
refusal-some None answer e = let no : ⊥ = cc in absurd no
refusal-some (Some part) answer e = (part, refl, cc)

pub refusal-none : (found : Option Part) → (◌≡◌ {A = Option (ℕ × ℤ)} None (option_map refusal found)) → found ≡ None
refusal-none None e = refl
refusal-none (Some part) e = let no : ⊥ = cc in absurd no

module _ (moving : Option Transition) (first now : Catalog) (object : ℕ) (patches : List ℕ) (k patch : ℕ) (same : parts_at now object patch ≡ parts_at first object patch)
    (below : k < length patches) (is : patch ≡ get_or patches k patch) where
  abbrev own : List Part
  own = parts_at now object patch

  abbrev left : List Part
  left = parts_in first object (drop k patches)

  abbrev behind : List Part
  behind = parts_in first object (drop (k + 1) patches)

  next : left ≡ own ++ behind
  next = parts-next first object patches k patch below is ∙ ap (λ parts. parts ++ behind) (sym same)

  pub going-next : going_calls moving left ≡ going_calls moving own ++ going_calls moving behind
  going-next = ap (going_calls moving) next ∙ flat_map-append (part_going moving) own behind

  pub part_coming-next : calls_until_refused moving left ≡ calls_until_refused moving own ++ unless_found (find part_refuses own) (calls_until_refused moving behind)
  part_coming-next = ap (calls_until_refused moving) next ∙ part_coming-append moving own behind

  -- it doesn't refuse
  module _ (none : find part_refuses own ≡ None) where
    pub passed-calls : calls_until_refused moving left ≡ calls_until_refused moving own ++ calls_until_refused moving behind
    passed-calls = part_coming-next ∙ ap (λ found. calls_until_refused moving own ++ unless_found found (calls_until_refused moving behind)) none

    pub passed-refused : find part_refuses left ≡ find part_refuses behind
    passed-refused = ap (find part_refuses) next ∙ find-append part_refuses own behind ∙ ap (λ found. option_or found (find part_refuses behind)) none

    pub passed-before : parts_in first object (take k patches) ++ parts_before left ≡ parts_in first object (take (k + 1) patches) ++ parts_before behind
    passed-before =
        let before = parts_in first object (take k patches) in
        ap (λ parts. before ++ parts_before parts) next
        ∙ ap (λ parts. before ++ parts) (before-append own behind ∙ ap (λ found. parts_before own ++ unless_found found (parts_before behind)) none
        ∙ ap (λ parts. parts ++ parts_before behind) (all-before own none ∙ same))
        ∙ sym (append_assoc before (parts_at first object patch) (parts_before behind))
        ∙ ap (λ parts. parts ++ parts_before behind) (sym (parts-so_far first object patches k patch below is))

  -- it refuses
  module _ (part : Part) (found : find part_refuses own ≡ Some part) where
    pub stopped-calls : calls_until_refused moving left ≡ calls_until_refused moving own ++ []
    stopped-calls = part_coming-next ∙ ap (λ refusing. calls_until_refused moving own ++ unless_found refusing (calls_until_refused moving behind)) found

    pub stopped-refused : find part_refuses left ≡ Some part
    stopped-refused = ap (find part_refuses) next ∙ find-append part_refuses own behind ∙ ap (λ refusing. option_or refusing (find part_refuses behind)) found

    pub stopped-before : parts_before own ≡ [] → parts_before left ≡ []
    stopped-before first_of_it =
        ap parts_before next ∙ before-append own behind ∙ ap (λ refusing. parts_before own ++ unless_found refusing (parts_before behind)) found
        ∙ ap (λ parts. parts ++ []) first_of_it

-- what the next patch has, and those behind it
pub may_run-next : (f : Part → List Call) (catalog : Catalog) (object : ℕ) (patches : List ℕ) (k patch : ℕ) → k < length patches → patch ≡ get_or patches k patch
    → flat_map f (parts_in catalog object (drop k patches)) ≡ flat_map f (parts_at catalog object patch) ++ flat_map f (parts_in catalog object (drop (k + 1) patches))
may_run-next f catalog object patches k patch below is =
    ap (flat_map f) (parts-next catalog object patches k patch below is)
    ∙ flat_map-append f (parts_at catalog object patch) (parts_in catalog object (drop (k + 1) patches))

-- ---- room

module _ (moving : Option Transition) (parts : List Part) (world : World) (log : RecordList) where
  pub room_to_go : HasRoomFor world log (flat_map (going_may_run moving) parts) → HasRoomFor world log (going_calls moving parts)
  room_to_go room =
      let allocs = going-weight moving (λ (c : Call). alloc_count c.script.edits) parts in
      let records = going-weight moving (λ (c : Call). length c.script.edits + alloc_count c.script.edits) parts in
      record { variables = omega (arith, allocs, room.variables); records = omega (arith, records, room.records) }

  module _ (room : HasRoomFor world log (flat_map (coming_may_run moving) parts)) where
    pub room_to_coming : HasRoomFor world log (calls_until_refused moving parts)
    room_to_coming =
        let allocs = coming-weight moving (λ (c : Call). alloc_count c.script.edits) parts in
        let records = coming-weight moving (λ (c : Call). length c.script.edits + alloc_count c.script.edits) parts in
        record { variables = omega (arith, allocs, room.variables); records = omega (arith, records, room.records) }

    -- once they came as far as they do, those before the one that refuses have room to be cleaned up
    pub room_to_clean : (first now : Catalog) (later : World) (logged : RecordList) → HaveRun first now world later log logged (calls_until_refused moving parts)
        → HasRoomFor later logged (going_calls moving (parts_before parts))
    room_to_clean first now later logged ran =
        let allocs = coming-weight moving (λ (c : Call). alloc_count c.script.edits) parts in
        let records = coming-weight moving (λ (c : Call). length c.script.edits + alloc_count c.script.edits) parts in
        record { variables = omega (arith, allocs, room.variables, ran.variables); records = omega (arith, records, room.records, ran.records, ran.room) }
