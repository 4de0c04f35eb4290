-- Steps that only add rows keep the rule.
use Rattle.std.proofs.Common.{◌≡◌, ◌≢◌, ℕ, List, [], ◌∷◌, ◌++◌, set, refl, subst, sym, ◌∙◌, ⊎_elim}
use mathlib.Core.Option.{some}
use lib.ListN.{get_elem?}
use Rattle.left_right.specs.Register.{Admits, TurnsAt, Forks, Merges}
use Rattle.atomic_table.proofs.Lists.{at_set, at_snoc}
use Rattle.klp_live.specs.declared.published.Published.{Published}
use Rattle.klp_live.specs.declared.published.Known.{Known}
use Rattle.klp_live.specs.declared.published.View.{View}
use Rattle.klp_types.specs.Setting.{Setting}
use Rattle.klp_model.specs.State.{State}
use Rattle.logbook.specs.Pages.{Book}
use Rattle.klp_live.specs.Shown.{IsTable, EachBegins, known_of, Holds, IsSeen, Follows, RuleIs}
use Rattle.klp_live.specs.Passing.{IsRead}
use Rattle.klp_live.proofs.Fronts.{prefix_self, prefix_trans}

module _ (setting : Setting) (base : State) (book : Book) where
  carried : (x y : Published) → Follows setting base x y → (v : List Known) → EachBegins x v → EachBegins y v
  carried x y f [] b = tt
  carried x y f (k ∷ ks) b = (record { book = b.0.book ∙ f.book; rows = prefix_trans _ _ _ b.0.rows f.rows }, carried x y f ks b.1)

  begins_itself : (x : Published) → EachBegins x (known_of x ∷ [])
  begins_itself x = (record { book = refl; rows = prefix_self _ }, tt)

  pub itself : (x : Published) → IsTable setting base x → Follows setting base x x
  itself x t = record { table = t; book = refl; rows = prefix_self _ }

  pub admits : Admits (Holds setting base book) (record { known = [] })
  admits x views h = record {
    table = h.table;
    book_is = h.book_is;
    known = λ seat v at. ⊎_elim (h.known seat v) (λ (e : record { known = [] } ≡ v). subst (λ (u : View). EachBegins x u.known) e tt) (at_snoc views (record { known = [] }) v seat at);
  }

  pub rises : (seat : ℕ) (v : View) (x y : Published) → (IsTable setting base x → Follows setting base x y) → TurnsAt (Holds setting base book) seat v x y IsSeen
  rises seat v x y goes views h at =
      let f = goes h.table in
      let w : View = record { known = known_of y ∷ [] } in (
        w,
        record {
          table = f.table;
          book_is = sym f.book ∙ h.book_is;
          known = λ j u e. ⊎_elim (λ (t : (j ≡ seat) × (w ≡ u)). subst (λ (u : View). EachBegins y u.known) t.1 (begins_itself y))
              (λ (t : (j ≢ seat) × (get_elem? views j ≡ some u)). carried x y f u.known (h.known j u t.1))
              (at_set views seat j w u e);
        },
        record { before = carried x y f v.known (h.known seat v at); after = refl },
      )

  -- the same under a rule that says this
  pub rises_by : (holds : Published → List View → Type 0) (first : View) → RuleIs holds first setting base book → (seat : ℕ) (v : View) (x y : Published)
      → (IsTable setting base x → Follows setting base x y) → TurnsAt holds seat v x y IsSeen
  rises_by holds first rule seat v x y goes views h at = let r = rises seat v x y goes views (rule.gives x views h) at in (r.0, rule.given y _ r.1, r.2)

  -- each view is one that began, or one of these
  pub set_begins : (x : Published) (views : List View) → ((seat : ℕ) (v : View) → get_elem? views seat ≡ some v → EachBegins x v.known) → (seat : ℕ) (w : View) → EachBegins x w.known
      → (j : ℕ) (u : View) → get_elem? (set views seat w) j ≡ some u → EachBegins x u.known
  set_begins x views all seat w b j u e = ⊎_elim (λ (t : (j ≡ seat) × (w ≡ u)). subst (λ (u : View). EachBegins x u.known) t.1 b)
      (λ (t : (j ≢ seat) × (get_elem? views j ≡ some u)). all j u t.1) (at_set views seat j w u e)

  pub snoc_begins : (x : Published) (views : List View) → ((seat : ℕ) (v : View) → get_elem? views seat ≡ some v → EachBegins x v.known) → (w : View) → EachBegins x w.known
      → (j : ℕ) (u : View) → get_elem? (views ++ w ∷ []) j ≡ some u → EachBegins x u.known
  snoc_begins x views all w b j u e = ⊎_elim (all j u) (λ (t : w ≡ u). subst (λ (u : View). EachBegins x u.known) t b) (at_snoc views w u j e)

  pub admits_by : (holds : Published → List View → Type 0) (first : View) → RuleIs holds first setting base book → Admits holds first
  admits_by holds first rule x views h = let k = rule.gives x views h in
      rule.given x _ (record { table = k.table; book_is = k.book_is; known = snoc_begins x views k.known first (subst (λ (u : View). EachBegins x u.known) (sym rule.first_is) tt) })

  pub forks_by : (holds : Published → List View → Type 0) (first : View) → RuleIs holds first setting base book → (seat : ℕ) (v : View) → Forks holds seat v v v
  forks_by holds first rule seat v x views h at = let k = rule.gives x views h in let b = k.known seat v at in
      rule.given x _ (record { table = k.table; book_is = k.book_is; known = snoc_begins x (set views seat v) (set_begins x views k.known seat v b) v b })

  pub merges_by : (holds : Published → List View → Type 0) (first : View) → RuleIs holds first setting base book → (seat : ℕ) (v : View) (other : ℕ) (w : View)
      → Merges holds seat v other w w (record { known = [] })
  merges_by holds first rule seat v other w x views h at apart there = let k = rule.gives x views h in
      let b : EachBegins x w.known = ⊎_elim (λ (t : (other ≡ seat) × (w ≡ w)). absurd (apart t.0)) (λ (t : (other ≢ seat) × (get_elem? views other ≡ some w)). k.known other w t.1) (at_set views seat other w w there) in
      rule.given x _ (record { table = k.table; book_is = k.book_is; known = set_begins x (set views seat w) (set_begins x views k.known seat w b) other (record { known = [] }) tt })

  -- the rule that a call picks
  pub picked : RuleIs (Holds setting base book) (record { known = [] }) setting base book
  picked = record { gives = λ x views h. h; given = λ x views h. h; first_is = refl }

  -- a read keeps the rule
  pub reads_by : (holds : Published → List View → Type 0) (first : View) → RuleIs holds first setting base book → (seat : ℕ) (v : View) (x : Published)
      → TurnsAt holds seat v x x (IsRead setting base)
  reads_by holds first rule seat v x views h at =
      let k = rule.gives x views h in
      let r = rises_by holds first rule seat v x x (λ t. itself x t) views h at in
      (r.0, r.1, record { table = k.table; before = r.2.before; after = r.2.after })
