-- Observed items, one by one.
use Rattle.std.proofs.Common.{◌≡◌, List, [], ◌∷◌, ◌++◌, drop, get_or, refl, sym, ap, subst, ◌∙◌, append-nil, append_assoc}
use Rattle.klp_types.specs.declared.version.Version.{Version}
use Rattle.klp_model.specs.declared.seen.Seen.{Seen}
use Rattle.klp_model.specs.Observed.{Stacks}
use Rattle.klp_core.specs.Journaled.{Journaled}
use Rattle.klp_watch.specs.declared.cause.Cause.{Cause}
use Rattle.klp_watch.specs.declared.difference.Difference.TheVariants.{Premise}
use Rattle.klp_watch.specs.declared.observed.Observed.{Observed}
use Rattle.klp_watch.specs.declared.observed.Observed.TheVariants.{Seen as Item, Answered, Saw}
use Rattle.klp_watch.specs.Watching.{IsReported}
use Rattle.klp_watch.specs.Compared.{taken_of, taken_from, IsSoAt, IsDoneSo, IsReportedFor}

-- an empty list has no item
pub no_item : {A : Type 0} (first later : List A) (item : A) → [] ≡ first ++ item ∷ later → ⊥
no_item [] later item is = let no : ⊥ = cc in no
no_item (other ∷ first) later item is = let no : ⊥ = cc in no

-- what holds at each item of a list, and at one behind them, holds at each item of both
pub at_each : {A : Type 0} (P : List A → A → Type 0) (items : List A) (item : A) → P items item
    → ((first later : List A) (other : A) → items ≡ first ++ other ∷ later → P first other)
    → (first later : List A) (other : A) → items ++ item ∷ [] ≡ first ++ other ∷ later → P first other
at_each P [] item here before [] later other is = subst (P []) (ap (λ xs. get_or xs 0 item) is) here
at_each P [] item here before (own ∷ first) later other is = absurd (no_item first later other (ap (drop 1) is))
at_each P (own ∷ items) item here before [] later other is = subst (P []) (ap (λ xs. get_or xs 0 own) is) (before [] items own refl)
at_each P (own ∷ items) item here before (same ∷ first) later other is =
    let head : own ≡ same = ap (λ xs. get_or xs 0 own) is in
    at_each (λ xs x. P (same ∷ xs) x) items item (subst (λ x. P (x ∷ items) item) head here)
    (λ xs ys x parted. before (same ∷ xs) ys x (ap (λ y. y ∷ items) head ∙ ap (λ zs. same ∷ zs) parted))
    first later other (ap (drop 1) is)

-- what happens of the items, and of one more
pub taken_more : (items : List Observed) (item : Observed) → taken_from (items ++ item ∷ []) ≡ taken_from items ++ taken_of item
taken_more [] item = append-nil (taken_of item)
taken_more (first ∷ items) item =
    ap (λ xs. taken_of first ++ xs) (taken_more items item) ∙ sym (append_assoc (taken_of first) (taken_from items) (taken_of item))

-- an item that is done so is so
pub is_so : (now after : Journaled) (stacks : Stacks) (item : Observed) (new : List (List Version)) → IsDoneSo now after stacks item new → IsSoAt now item
is_so now after stacks (Item item) new done = tt
is_so now after stacks (Answered event answer) new done = done.1
is_so now after stacks (Saw sight) new done = done.2

-- an item that breaks a premise is told for it
pub premise_reported : (before after : Journaled) (stacks : Stacks) (item : Seen) (cause : Cause) → IsReported before after stacks item cause
    → IsReportedFor before after stacks (Item item) (Premise cause)
premise_reported before after stacks item cause reported = record { why = reported.why; left = reported.left }
