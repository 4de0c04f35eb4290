-- What fails one variable at a time fails in the words of the model.
use Rattle.std.proofs.Common.{◌≡◌, ℕ, Bool, true, false, ◌||◌, List, [], ◌∷◌, None, ◌^◌, cond, ltb, refl, sym, ap, ◌∙◌, inl, inr, subst}
use Rattle.std.specs.Prelude.{IsTrue}
use Rattle.std.specs.FinMap as finite
use Rattle.std.proofs.lemmas.Bool.{ltb-false}
use Rattle.klp_types.specs.declared.shadow.ShadowKey.{ShadowKey}
use Rattle.klp_types.specs.declared.callback.Which.{Which}
use Rattle.klp_types.specs.declared.callback.Which.TheVariants.{Pre, Post, PreUn, PostUn}
use Rattle.klp_types.specs.declared.edit.Edit.{Edit}
use Rattle.klp_types.specs.Setting.{Setting, PatchObject}
use Rattle.klp_types.specs.World.{World, key_cmp, variable}
use Rattle.klp_types.specs.Script.{Script, edits_made, made_of, edited_by, effect, touches, Undoes}
use Rattle.klp_model.specs.State.{State}
use Rattle.klp_model.specs.Company.{taking_part, script_of, one_touches, object_touches, EachUndoes, UndoesItself, AreApart, IsFairStart}
use Rattle.klp_lint.specs.Undone.{Values, IsRestored, AreRestored, EachRestores}
use Rattle.klp_lint.specs.Premises.{OneOf, IsNotUndone, TwoTouch, Fails, FailsOf, HoldEverywhere}
use Rattle.klp_lint.specs.declared.premise.Pair.{Pair}
use Rattle.klp_lint.specs.declared.premise.Pair.TheVariants as pair
use Rattle.klp_lint.specs.declared.premise.Premise.{Premise}
use Rattle.klp_lint.specs.declared.premise.Premise.TheVariants.{Moving, Installed, NotUndone, NotApart}

-- edits go key by key, as the law of klp_types says
abbrev pub ByKey : Type 0
ByKey = (patch : ℕ) (world : World) (edits : List Edit) (key : ShadowKey) → variable (edited_by patch world edits) key ≡ made_of key (variable world key) edits

-- a variable that no script touches stays, as the law says
abbrev pub Stays : Type 0
Stays = (patch : ℕ) (world : World) (script : Script) (key : ShadowKey) → touches script key ≡ false → variable (effect patch world script) key ≡ variable world key

both : ByKey → (patch : ℕ) (world : World) (done back : Script) (key : ShadowKey)
    → variable (effect patch (effect patch world done) back) key ≡ made_of key (made_of key (variable world key) (edits_made done)) (edits_made back)
both by_key patch world done back key =
    by_key patch (effect patch world done) (edits_made back) key ∙ ap (λ was. made_of key was (edits_made back)) (by_key patch world (edits_made done) key)

-- the value after the second callback of each pair, and the one that the first found
end : Pair → ℕ → World → ℕ × PatchObject → World
end pair.Pre patch world object = effect patch (effect patch world (script_of Pre object)) (script_of PostUn object)
end pair.Post patch world object = effect patch (effect patch (effect patch world (script_of Pre object)) (script_of Post object)) (script_of PreUn object)

after_pre : ByKey → (patch : ℕ) (world : World) (object : ℕ × PatchObject) (key : ShadowKey)
    → variable (effect patch (effect patch world (script_of Pre object)) (script_of PostUn object)) key ≡ variable world key
    → IsRestored pair.Pre object.1.callbacks key (variable world key)
after_pre by_key patch world object key e = sym (both by_key patch world (script_of Pre object) (script_of PostUn object) key) ∙ e

pre_after : ByKey → (patch : ℕ) (world : World) (object : ℕ × PatchObject) (key : ShadowKey)
    → IsRestored pair.Pre object.1.callbacks key (variable world key)
    → variable (effect patch (effect patch world (script_of Pre object)) (script_of PostUn object)) key ≡ variable world key
pre_after by_key patch world object key h = both by_key patch world (script_of Pre object) (script_of PostUn object) key ∙ h

abbrev there : ℕ → World → ℕ × PatchObject → World
there patch world object = effect patch world (script_of Pre object)

found : ByKey → (patch : ℕ) (world : World) (object : ℕ × PatchObject) (key : ShadowKey)
    → variable (effect patch (effect patch (there patch world object) (script_of Post object)) (script_of PreUn object)) key
    ≡ made_of key (made_of key (made_of key (variable world key) (edits_made (script_of Pre object))) (edits_made (script_of Post object))) (edits_made (script_of PreUn object))
found by_key patch world object key =
    both by_key patch (there patch world object) (script_of Post object) (script_of PreUn object) key
    ∙ ap (λ was. made_of key (made_of key was (edits_made (script_of Post object))) (edits_made (script_of PreUn object))) (by_key patch world (edits_made (script_of Pre object)) key)

post_after : ByKey → (patch : ℕ) (world : World) (object : ℕ × PatchObject) (key : ShadowKey)
    → IsRestored pair.Post object.1.callbacks key (variable world key)
    → variable (effect patch (effect patch (there patch world object) (script_of Post object)) (script_of PreUn object)) key ≡ variable (there patch world object) key
post_after by_key patch world object key h =
    found by_key patch world object key ∙ h ∙ sym (by_key patch world (edits_made (script_of Pre object)) key)

after_post : ByKey → (patch : ℕ) (world : World) (object : ℕ × PatchObject) (key : ShadowKey)
    → variable (effect patch (effect patch (there patch world object) (script_of Post object)) (script_of PreUn object)) key ≡ variable (there patch world object) key
    → IsRestored pair.Post object.1.callbacks key (variable world key)
after_post by_key patch world object key e =
    sym (found by_key patch world object key) ∙ e ∙ by_key patch world (edits_made (script_of Pre object)) key

-- objects that restore each variable of the world undo what they do
pub restoring_undoes : ByKey → (patch : ℕ) (world : World) (objects : List (ℕ × PatchObject)) → EachRestores (variable world) objects → EachUndoes patch world objects
restoring_undoes by_key patch world [] h = tt
restoring_undoes by_key patch world (object ∷ objects) h = (
  record {
    pre = λ key touched. pre_after by_key patch world object key (h.0 key).pre;
    post = λ key touched. post_after by_key patch world object key (h.0 key).post;
  },
  restoring_undoes by_key patch world objects h.1,
)

one_of : {P Q : ℕ × PatchObject → Type 0} (objects : List (ℕ × PatchObject)) → ((o : ℕ × PatchObject) → P o → Q o) → OneOf P objects → OneOf Q objects
one_of [] follows h = h
one_of (object ∷ objects) follows (inl p) = inl (follows object p)
one_of (object ∷ objects) follows (inr more) = inr (one_of objects follows more)

not_undone : ByKey → (two : Pair) (patch : ℕ) (world : World) (key : ShadowKey) (object : ℕ × PatchObject)
    → (IsRestored two object.1.callbacks key (variable world key) → ⊥) → IsNotUndone two patch world key object
not_undone by_key pair.Pre patch world key object unequal = λ e. unequal (after_pre by_key patch world object key e)
not_undone by_key pair.Post patch world key object unequal = λ e. unequal (after_post by_key patch world object key e)

pub fails_there : ByKey → (setting : Setting) (state : State) (patch : ℕ) (premise : Premise)
    → FailsOf (variable state.world) (taking_part setting state patch) premise → Fails setting patch state premise
fails_there by_key setting state patch Moving h = absurd h
fails_there by_key setting state patch Installed h = absurd h
fails_there by_key setting state patch (NotUndone place two key) h =
    one_of (taking_part setting state patch) (λ o p. (p.0, not_undone by_key two patch state.world key o p.1)) h
fails_there by_key setting state patch (NotApart first second key) h = h

-- scripts that undo each other restore also the variables that neither touches
restored : Stays → (patch : ℕ) (world : World) (done back : Script) (key : ShadowKey) → Undoes patch back done world
    → variable (effect patch (effect patch world done) back) key ≡ variable world key
restored stays patch world done back key undoes =
    elim (touches done key) as (λ a. touches done key ≡ a → variable (effect patch (effect patch world done) back) key ≡ variable world key) [
      | true ↦ λ a. undoes key (ap (λ t. t || touches back key) a)
      | false ↦ λ a. elim (touches back key) as (λ b. touches back key ≡ b → variable (effect patch (effect patch world done) back) key ≡ variable world key) [
        | true ↦ λ b. undoes key (ap (λ t. t || touches back key) a ∙ b)
        | false ↦ λ b. stays patch (effect patch world done) back key b ∙ stays patch world done key a
      ] refl
    ] refl

undone_at : Stays → (two : Pair) (patch : ℕ) (world : World) (key : ShadowKey) (object : ℕ × PatchObject) → UndoesItself patch world object
    → IsNotUndone two patch world key object → ⊥
undone_at stays pair.Pre patch world key object undoes unequal = unequal (restored stays patch world (script_of Pre object) (script_of PostUn object) key undoes.pre)
undone_at stays pair.Post patch world key object undoes unequal =
    unequal (restored stays patch (there patch world object) (script_of Post object) (script_of PreUn object) key undoes.post)

all_undone : Stays → (two : Pair) (patch : ℕ) (world : World) (key : ShadowKey) (place : ℕ) (objects : List (ℕ × PatchObject)) → EachUndoes patch world objects
    → OneOf (λ (o : ℕ × PatchObject). (o.0 ≡ place) × IsNotUndone two patch world key o) objects → ⊥
all_undone stays two patch world key place [] h one = absurd one
all_undone stays two patch world key place (object ∷ objects) h (inl here) = undone_at stays two patch world key object h.0 here.1
all_undone stays two patch world key place (object ∷ objects) h (inr more) = all_undone stays two patch world key place objects h.1 more

or_true : (a b : Bool) → b ≡ true → (a || b) ≡ true
or_true true b e = refl
or_true false b e = e

or_first : (a b : Bool) → a ≡ true → (a || b) ≡ true
or_first a b e = ap (λ t. t || b) e

pub one_is_touched : (key : ShadowKey) (place : ℕ) (objects : List (ℕ × PatchObject))
    → OneOf (λ (o : ℕ × PatchObject). (o.0 ≡ place) × (object_touches key o ≡ true)) objects → one_touches objects key ≡ true
one_is_touched key place [] one = absurd one
one_is_touched key place (object ∷ objects) (inl here) = or_first (object_touches key object) (one_touches objects key) here.1
one_is_touched key place (object ∷ objects) (inr more) = or_true (object_touches key object) (one_touches objects key) (one_is_touched key place objects more)

all_apart : (first second : ℕ) (key : ShadowKey) (objects : List (ℕ × PatchObject)) → AreApart objects → TwoTouch first second key objects → ⊥
all_apart first second key [] h two = absurd two
all_apart first second key (object ∷ objects) h (inl here) =
    let is = one_is_touched key second objects here.2 in
    let not_so = h.0 key here.1 in
    cc
all_apart first second key (object ∷ objects) h (inr more) = all_apart first second key objects h.1 more

pub fails_fair : Stays → (setting : Setting) (patch : ℕ) (state : State) (premise : Premise) → Fails setting patch state premise
    → IsFairStart setting patch state → ⊥
fails_fair stays setting patch state Moving fails fair = fails fair.still
fails_fair stays setting patch state Installed fails fair = let away = fair.away in cc
fails_fair stays setting patch state (NotUndone place two key) fails fair =
    all_undone stays two patch state.world key place (taking_part setting state patch) fair.undone fails
fails_fair stays setting patch state (NotApart first second key) fails fair =
    all_apart first second key (taking_part setting state patch) fair.apart fails

-- a variable that the scripts touch isn't there
abbrev Bare : World → ℕ × PatchObject → Type 0
Bare world object = (key : ShadowKey) → object_touches key object ≡ true → variable world key ≡ None

touch_pair : (a b c d : Bool) → IsTrue (a || d) → (a || (b || (c || (d || false)))) ≡ true
touch_pair true b c d e = refl
touch_pair false true c d e = refl
touch_pair false false true d e = refl
touch_pair false false false d e = ap (λ t. t || false) e

touch_inner : (a b c d : Bool) → IsTrue (b || c) → (a || (b || (c || (d || false)))) ≡ true
touch_inner true b c d e = refl
touch_inner false true c d e = refl
touch_inner false false c d e = ap (λ t. t || (d || false)) e

restores_bare : ByKey → (patch : ℕ) (world : World) (object : ℕ × PatchObject) → Bare world object
    → ((key : ShadowKey) → AreRestored object.1.callbacks key None) → UndoesItself patch world object
restores_bare by_key patch world object bare h =
    let own : Which → ShadowKey → Bool = λ which key. touches (script_of which object) key in
    record {
      pre = λ key touched.
          let none = bare key (touch_pair (own Pre key) (own Post key) (own PreUn key) (own PostUn key) touched) in
          pre_after by_key patch world object key (subst (IsRestored pair.Pre object.1.callbacks key) (sym none) (h key).pre);
      post = λ key touched.
          let none = bare key (touch_inner (own Pre key) (own Post key) (own PreUn key) (own PostUn key) touched) in
          post_after by_key patch world object key (subst (IsRestored pair.Post object.1.callbacks key) (sym none) (h key).post);
    }

-- objects that restore variables which aren't there undo what they do in each bare world
pub bare_undoes : ByKey → (patch : ℕ) (world : World) (objects : List (ℕ × PatchObject)) → ((key : ShadowKey) → one_touches objects key ≡ true → variable world key ≡ None)
    → EachRestores (λ _. None) objects → EachUndoes patch world objects
bare_undoes by_key patch world [] bare h = tt
bare_undoes by_key patch world (object ∷ objects) bare h = (
  restores_bare by_key patch world object (λ key e. bare key (or_first (object_touches key object) (one_touches objects key) e)) h.0,
  bare_undoes by_key patch world objects (λ key e. bare key (or_true (object_touches key object) (one_touches objects key) e)) h.1,
)

abbrev empty_world : World
empty_world = record { installed = []; shadow = finite.empty }

nothing_there : (key : ShadowKey) → variable empty_world key ≡ None
nothing_there key = finite.get-empty key_cmp key

-- what fails without variables fails in the empty world, which is bare
pub fails_everywhere : Stays → ByKey → (setting : Setting) (patch : ℕ) (state : State) (premise : Premise)
    → FailsOf (λ _. None) (taking_part setting state patch) premise → HoldEverywhere setting patch state → ⊥
fails_everywhere stays by_key setting patch state Moving fails hold = fails
fails_everywhere stays by_key setting patch state Installed fails hold = fails
fails_everywhere stays by_key setting patch state (NotUndone place two key) fails hold =
    all_undone stays two patch empty_world key place (taking_part setting state patch) (hold.undone empty_world (λ q _. nothing_there q))
    (one_of (taking_part setting state patch) (λ o p. (p.0, not_undone by_key two patch empty_world key o (λ restored. p.1 (subst (IsRestored two o.1.callbacks key) (nothing_there key) restored)))) fails)
fails_everywhere stays by_key setting patch state (NotApart first second key) fails hold =
    all_apart first second key (taking_part setting state patch) hold.apart fails
