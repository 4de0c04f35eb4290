-- What is published, and the rule for it and for what readers know.
use Rattle.std.specs.Prelude.{◌≡◌, ℕ, List, [], ◌∷◌, length, Option, Some, None}
use mathlib.Core.List.{IsPrefix}
use mathlib.Core.Option.{some}
use lib.ListN.{get_elem?}
use Rattle.klp_types.specs.Setting.{Setting}
use Rattle.klp_model.specs.State.{State}
use Rattle.klp_model.specs.Legal.{IsLegal, state_after_history}
use Rattle.logbook.specs.Pages.{Book}
use Rattle.klp_live.specs.Dispatch.{IsDispatch, changed}
use Rattle.klp_live.specs.declared.published.Published.{Published}
use Rattle.klp_live.specs.declared.published.News.{News}
use Rattle.klp_live.specs.declared.published.Known.{Known}
use Rattle.klp_live.specs.declared.published.View.{View}

-- the published table after this news
abbrev pub with_news : Published → Option News → Published
with_news x None = x
with_news x (Some news) = record { table = changed x.table news.change; rows = news.rows; seen = news.seen }

-- a table of a legal history, with the number of its rows
pub record IsTable (setting : Setting) (base : State) (x : Published) : Type 0 where
  pub legal : IsLegal setting base x.seen.log
  pub table : IsDispatch setting (state_after_history setting base x.seen.log) x.table
  pub rows : x.rows ≡ length x.seen.log

-- what is known is a beginning of what is published
pub record Begins (x : Published) (k : Known) : Type 0 where
  pub book : k.seen.book ≡ x.seen.book
  pub rows : IsPrefix k.seen.log x.seen.log

-- each of these known histories is a beginning of what is published
abbrev pub EachBegins : Published → List Known → Type 0
EachBegins x [] = Unit {0}
EachBegins x (k ∷ ks) = Begins x k × EachBegins x ks

-- the history of what is published, as a reader knows it
abbrev pub known_of : Published → Known
known_of x = record { seen = x.seen }

-- the rule of a start: what is published is a table of its history, and readers know beginnings of that history
pub record Holds (setting : Setting) (base : State) (book : Book) (x : Published) (views : List View) : Type 0 where
  pub table : IsTable setting base x
  pub book_is : x.seen.book ≡ book
  pub known : (seat : ℕ) (v : View) → get_elem? views seat ≡ some v → EachBegins x v.known

-- the rule of a start says this and no more
pub record RuleIs (holds : Published → List View → Type 0) (first : View) (setting : Setting) (base : State) (book : Book) : Type 0 where
  pub gives : (x : Published) (views : List View) → holds x views → Holds setting base book x views
  pub given : (x : Published) (views : List View) → Holds setting base book x views → holds x views
  pub first_is : first ≡ record { known = [] }

-- whoever published or read `y` knew a beginning of its history before, and knows this history now
pub record IsSeen (v : View) (x y : Published) (w : View) : Type 0 where
  pub before : EachBegins y v.known
  pub after : w ≡ record { known = known_of y ∷ [] }

-- y is a table of the same history as x, with at least the rows of x
pub record Follows (setting : Setting) (base : State) (x y : Published) : Type 0 where
  pub table : IsTable setting base y
  pub book : x.seen.book ≡ y.seen.book
  pub rows : IsPrefix x.seen.log y.seen.log
