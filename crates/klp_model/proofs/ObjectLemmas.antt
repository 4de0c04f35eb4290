-- What the callbacks of a kind make of one variable over objects, and that they undo each other.
use Rattle.std.proofs.Common.{◌≡◌, ℕ, suc, ◌+◌, take, arith, Bool, true, false, not, cond, List, [], ◌∷◌, ◌++◌, Option, Some, None, refl, sym, ap, subst, ◌∙◌, append_assoc}
use Rattle.std.specs.List.{list_any, find, before_first, position_or_len}
use Rattle.std.proofs.lemmas.Bool.{or_parts}
use Rattle.klp_types.specs.declared.shadow.ShadowKey.{ShadowKey}
use Rattle.klp_types.specs.declared.callback.Which.{Which}
use Rattle.klp_types.specs.declared.callback.Which.TheVariants.{Pre, Post, PreUn, PostUn}
use Rattle.klp_types.specs.Setting.{PatchObject}
use Rattle.klp_types.specs.World.{Installed, World, ShadowValue, variable}
use Rattle.klp_types.specs.Script.{Script, is_success, effect, touches}
use Rattle.klp_types.specs.Callbacks.{Call, call_of, calls_of, script_for, is_refusing, refuses, refused_calls, enable_calls, after_calls}
use Rattle.klp_model.specs.Company.{script_or_empty, script_of, object_touches, one_touches, UndoesItself, EachUndoes, AreApart}
use Rattle.klp_model.specs.State.{is_among}
use Rattle.klp_types.specs.Script.{made_of}
use Rattle.klp_model.proofs.WorldLemmas.{script_at, script_leaves, effect_at, undone_at, calls_at, calls_at-append, IsLast, effect_last}

abbrev pub Objects : Type 0
Objects = List (ℕ × PatchObject)

abbrev pub object_at : ShadowKey → Option ShadowValue → Which → ℕ × PatchObject → Option ShadowValue
object_at key was which object = script_at key was (script_of which object)

-- what the callbacks of a kind make of one variable, object by object
abbrev pub objects_at : ShadowKey → Option ShadowValue → Which → Objects → Option ShadowValue
objects_at key was which [] = was
objects_at key was which (object ∷ objects) = objects_at key (object_at key was which object) which objects

one_call : (patch place : ℕ) (which : Which) (script : Option Script) (key : ShadowKey) (was : Option ShadowValue) (calls : List Call)
    → calls_at key was (call_of patch place which script ++ calls) ≡ calls_at key (script_at key was (script_or_empty script)) calls
one_call patch place which None key was calls = refl
one_call patch place which (Some script) key was calls = refl

pub calls_of_at : (patch : ℕ) (which : Which) (objects : Objects) (key : ShadowKey) (was : Option ShadowValue)
    → calls_at key was (calls_of patch which objects) ≡ objects_at key was which objects
calls_of_at patch which [] key was = refl
calls_of_at patch which (object ∷ objects) key was =
    one_call patch object.0 which (script_for which object.1.callbacks) key was (calls_of patch which objects)
    ∙ calls_of_at patch which objects key (object_at key was which object)

abbrev touched_by : ShadowKey → ℕ × PatchObject → Which → Bool
touched_by key object which = touches (script_of which object) key

object_leaves : (which : Which) (object : ℕ × PatchObject) (key : ShadowKey) (was : Option ShadowValue) → object_touches key object ≡ false → object_at key was which object ≡ was
object_leaves which object key was away = of_kind which
  where
    first : (touched_by key object Pre ≡ false) × (list_any (touched_by key object) (Post ∷ PreUn ∷ PostUn ∷ []) ≡ false)
    first = or_parts (touched_by key object Pre) (list_any (touched_by key object) (Post ∷ PreUn ∷ PostUn ∷ [])) away

    second : (touched_by key object Post ≡ false) × (list_any (touched_by key object) (PreUn ∷ PostUn ∷ []) ≡ false)
    second = or_parts (touched_by key object Post) (list_any (touched_by key object) (PreUn ∷ PostUn ∷ [])) first.1

    third : (touched_by key object PreUn ≡ false) × (list_any (touched_by key object) (PostUn ∷ []) ≡ false)
    third = or_parts (touched_by key object PreUn) (list_any (touched_by key object) (PostUn ∷ [])) second.1

    fourth : (touched_by key object PostUn ≡ false) × (false ≡ false)
    fourth = or_parts (touched_by key object PostUn) false third.1

    of_kind : (which : Which) → object_at key was which object ≡ was
    of_kind Pre = script_leaves (script_of Pre object) key was first.0
    of_kind Post = script_leaves (script_of Post object) key was second.0
    of_kind PreUn = script_leaves (script_of PreUn object) key was third.0
    of_kind PostUn = script_leaves (script_of PostUn object) key was fourth.0

-- objects that don't touch the variable leave it
pub objects_leave : (which : Which) (objects : Objects) (key : ShadowKey) (was : Option ShadowValue) → one_touches objects key ≡ false → objects_at key was which objects ≡ was
objects_leave which [] key was away = refl
objects_leave which (object ∷ objects) key was away =
    let parts = or_parts (object_touches key object) (one_touches objects key) away in
    ap (λ x. objects_at key x which objects) (object_leaves which object key was parts.0) ∙ objects_leave which objects key was parts.1

module _ (patch : ℕ) (world : World) (key : ShadowKey) where
  abbrev was : Option ShadowValue
  was = variable world key

  module _ (object : ℕ × PatchObject) (undoes : UndoesItself patch world object) where
    pre_undone : object_at key (object_at key was Pre object) PostUn object ≡ was
    pre_undone = undone_at patch (script_of PostUn object) (script_of Pre object) world undoes.pre key

    post_undone : object_at key (object_at key (object_at key was Pre object) Post object) PreUn object ≡ object_at key was Pre object
    post_undone =
        ap (λ x. object_at key (object_at key x Post object) PreUn object) (sym (effect_at patch world (script_of Pre object) key))
        ∙ undone_at patch (script_of PreUn object) (script_of Post object) (effect patch world (script_of Pre object)) undoes.post key
        ∙ effect_at patch world (script_of Pre object) key

  -- over all objects, post-unpatch undoes pre-patch
  pub all_pre_undone : (objects : Objects) → EachUndoes patch world objects → AreApart objects
      → objects_at key (objects_at key was Pre objects) PostUn objects ≡ was
  all_pre_undone [] undoes apart = refl
  all_pre_undone (object ∷ objects) undoes apart = by (object_touches key object) refl (all_pre_undone objects undoes.1 apart.1)
    where
      by : (t : Bool) → object_touches key object ≡ t → objects_at key (objects_at key was Pre objects) PostUn objects ≡ was
          → objects_at key (object_at key (objects_at key (object_at key was Pre object) Pre objects) PostUn object) PostUn objects ≡ was
      by true is rest =
          objects_leave PostUn objects key _ (apart.0 key is)
          ∙ ap (λ x. object_at key x PostUn object) (objects_leave Pre objects key (object_at key was Pre object) (apart.0 key is))
          ∙ pre_undone object undoes.0
      by false is rest =
          ap (λ x. objects_at key x PostUn objects) (object_leaves PostUn object key _ is)
          ∙ ap (λ x. objects_at key (objects_at key x Pre objects) PostUn objects) (object_leaves Pre object key was is)
          ∙ rest

  -- over all objects, pre-unpatch undoes post-patch
  pub all_post_undone : (objects : Objects) → EachUndoes patch world objects → AreApart objects
      → objects_at key (objects_at key (objects_at key was Pre objects) Post objects) PreUn objects ≡ objects_at key was Pre objects
  all_post_undone [] undoes apart = refl
  all_post_undone (object ∷ objects) undoes apart = by (object_touches key object) refl (all_post_undone objects undoes.1 apart.1)
    where
      by : (t : Bool) → object_touches key object ≡ t
          → objects_at key (objects_at key (objects_at key was Pre objects) Post objects) PreUn objects ≡ objects_at key was Pre objects
          → objects_at key (object_at key (objects_at key (object_at key (objects_at key (object_at key was Pre object) Pre objects) Post object) Post objects) PreUn object) PreUn objects
          ≡ objects_at key (object_at key was Pre object) Pre objects
      by true is rest =
          let away = apart.0 key is in
          objects_leave PreUn objects key _ away
          ∙ ap (λ x. object_at key x PreUn object) (objects_leave Post objects key _ away)
          ∙ ap (λ x. object_at key (object_at key x Post object) PreUn object) (objects_leave Pre objects key (object_at key was Pre object) away)
          ∙ post_undone object undoes.0
          ∙ sym (objects_leave Pre objects key (object_at key was Pre object) away)
      by false is rest =
          ap (λ x. objects_at key x PreUn objects) (object_leaves PreUn object key _ is)
          ∙ ap (λ x. objects_at key (objects_at key x Post objects) PreUn objects) (object_leaves Post object key _ is)
          ∙ ap (λ x. objects_at key (objects_at key (objects_at key x Pre objects) Post objects) PreUn objects) (object_leaves Pre object key was is)
          ∙ rest
          ∙ sym (ap (λ x. objects_at key x Pre objects) (object_leaves Pre object key was is))

-- an item more
pub before_first-cons : {A : Type 0} (p : A → Bool) (x : A) (xs : List A) → before_first p (x ∷ xs) ≡ cond (p x) [] (x ∷ before_first p xs)
before_first-cons p x xs =
    elim (p x) as (λ b. take (cond (not b) (1 + position_or_len p xs) 0) (x ∷ xs) ≡ cond b [] (x ∷ before_first p xs)) [
      | true ↦ refl
      | false ↦ let next : 1 + position_or_len p xs ≡ suc (position_or_len p xs) = omega arith in ap (λ n. take n (x ∷ xs)) next
    ]

-- where no object refuses, all take part
pub none_refuses : (objects : Objects) → find refuses objects ≡ None → before_first refuses objects ≡ objects
none_refuses [] e = refl
none_refuses (object ∷ objects) e = before_first-cons refuses object objects ∙ by (refuses object) e (none_refuses objects)
  where
    by : (t : Bool) → cond t (Some object) (find refuses objects) ≡ None → (find refuses objects ≡ None → before_first refuses objects ≡ objects)
        → cond t [] (object ∷ before_first refuses objects) ≡ object ∷ objects
    by true e rest = cc
    by false e rest = ap (λ rest. object ∷ rest) (rest e)

pub find_holds : (objects : Objects) (object : ℕ × PatchObject) → find refuses objects ≡ Some object → refuses object ≡ true
find_holds [] object e = cc
find_holds (first ∷ objects) object e = by (refuses first) refl e (find_holds objects object)
  where
    by : (t : Bool) → refuses first ≡ t → cond t (Some first) (find refuses objects) ≡ Some object
        → (find refuses objects ≡ Some object → refuses object ≡ true) → refuses object ≡ true
    by true is e rest = let same : first ≡ object = cc in ap refuses (sym same) ∙ is
    by false is e rest = rest e

-- a script that refuses makes no edit
refusing_leaves : (script : Option Script) (key : ShadowKey) (was : Option ShadowValue) → is_refusing script ≡ true → script_at key was (script_or_empty script) ≡ was
refusing_leaves None key was e = cc
refusing_leaves (Some script) key was e = by (is_success script.status) refl e
  where
    by : (t : Bool) → is_success script.status ≡ t → not t ≡ true → script_at key was script ≡ was
    by true is e = cc
    by false is e = ap (λ b. made_of key was (cond b script.edits [])) is

-- what an enabling makes of one variable where no object refuses, and where one does
pub enabled_at : (patch : ℕ) (objects : Objects) (key : ShadowKey) (was : Option ShadowValue) → find refuses objects ≡ None
    → calls_at key was (enable_calls patch objects) ≡ objects_at key was Pre (before_first refuses objects)
enabled_at patch objects key was none =
    calls_at-append key was (calls_of patch Pre (before_first refuses objects)) _
    ∙ ap (λ found. calls_at key (calls_at key was (calls_of patch Pre (before_first refuses objects))) (refused_calls patch (before_first refuses objects) found)) none
    ∙ calls_of_at patch Pre (before_first refuses objects) key was

pub refused_at : (patch : ℕ) (objects : Objects) (object : ℕ × PatchObject) (key : ShadowKey) (was : Option ShadowValue) → find refuses objects ≡ Some object
    → calls_at key was (enable_calls patch objects) ≡ objects_at key (objects_at key was Pre (before_first refuses objects)) PostUn (before_first refuses objects)
refused_at patch objects object key was found =
    calls_at-append key was (calls_of patch Pre (before_first refuses objects)) _
    ∙ ap (λ found. calls_at key (calls_at key was (calls_of patch Pre (before_first refuses objects))) (refused_calls patch (before_first refuses objects) found)) found
    ∙ ap (λ x. calls_at key x (refused_calls patch (before_first refuses objects) (Some object))) (calls_of_at patch Pre (before_first refuses objects) key was)
    ∙ one_call patch object.0 Pre (script_for Pre object.1.callbacks) key _ (calls_of patch PostUn (before_first refuses objects))
    ∙ ap (λ x. calls_at key x (calls_of patch PostUn (before_first refuses objects)))
    (refusing_leaves (script_for Pre object.1.callbacks) key (objects_at key was Pre (before_first refuses objects)) (find_holds objects object found))
    ∙ calls_of_at patch PostUn (before_first refuses objects) key _

-- Calls of the patch alone.
module _ (patch : ℕ) (older : List Installed) (away : is_among patch older ≡ false) where
  one_last : (place : ℕ) (which : Which) (script : Option Script) (calls : List Call)
      → ((world : World) → IsLast patch older world → IsLast patch older (after_calls world calls))
      → (world : World) → IsLast patch older world → IsLast patch older (after_calls world (call_of patch place which script ++ calls))
  one_last place which None calls keeps world last = keeps world last
  one_last place which (Some script) calls keeps world last = keeps (effect patch world script) (effect_last patch older away world script last)

  before_last : (which : Which) (objects : Objects) (calls : List Call)
      → ((world : World) → IsLast patch older world → IsLast patch older (after_calls world calls))
      → (world : World) → IsLast patch older world → IsLast patch older (after_calls world (calls_of patch which objects ++ calls))
  before_last which [] calls keeps world last = keeps world last
  before_last which (object ∷ objects) calls keeps world last =
      subst (λ cs. IsLast patch older (after_calls world cs))
      (sym (append_assoc (call_of patch object.0 which (script_for which object.1.callbacks)) (calls_of patch which objects) calls))
      (one_last object.0 which (script_for which object.1.callbacks) (calls_of patch which objects ++ calls) (before_last which objects calls keeps) world last)

  pub calls_last : (which : Which) (objects : Objects) (world : World) → IsLast patch older world → IsLast patch older (after_calls world (calls_of patch which objects))
  calls_last which [] world last = last
  calls_last which (object ∷ objects) world last =
      one_last object.0 which (script_for which object.1.callbacks) (calls_of patch which objects) (calls_last which objects) world last

  pub enable_last : (objects : Objects) (world : World) → IsLast patch older world → IsLast patch older (after_calls world (enable_calls patch objects))
  enable_last objects world last = before_last Pre (before_first refuses objects) _ (refused_last (find refuses objects)) world last
    where
      refused_last : (found : Option (ℕ × PatchObject)) (world : World) → IsLast patch older world
          → IsLast patch older (after_calls world (refused_calls patch (before_first refuses objects) found))
      refused_last None world last = last
      refused_last (Some object) world last =
          one_last object.0 Pre (script_for Pre object.1.callbacks) _ (calls_last PostUn (before_first refuses objects)) world last
