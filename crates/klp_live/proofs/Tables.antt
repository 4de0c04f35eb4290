-- What stands past the last site and the last task, and what events leave of a table.
use Rattle.std.proofs.Common.{◌≡◌, ℕ, zero, suc, ◌+◌, ◌-◌, ◌<◌, ◌≤◌, List, [], ◌∷◌, length, Option, None, Some, option_map, slice_index_or, nat_lt, Bool, true, false, if◌then◌else◌, refl, ap, sym, ◌∙◌, arith, length-append, ◌⊎◌, inl, inr, ⊎_elim, ℤ, slice_set, subst, map}
use Rattle.std.proofs.lemmas.Bool.Decides.{nat_tests}
use Rattle.std.proofs.lemmas.List.{get_or-set_same, get_or-set_other}
use Rattle.klp_types.specs.declared.row.SiteRow.{SiteRow}
use Rattle.klp_types.specs.declared.task.Task.{Task}
use Rattle.klp_live.specs.Dispatch.{own_state}
use Rattle.klp_types.specs.Image.{Object, symbols_of, object_of}
use Rattle.klp_types.specs.Setting.{Setting}
use Rattle.klp_model.specs.State.{State}
use Rattle.klp_model.specs.Rows.{row_of}
use Rattle.klp_model.specs.declared.event.Event.{Event}
use Rattle.klp_model.specs.declared.event.Reply.{Reply}
use Rattle.klp_model.specs.Allowed.{Allowed}
use Rattle.klp_model.specs.Run.{run}
use Rattle.klp_manager_state.specs.Managed.{setting_of}
use Rattle.klp_core.specs.Journaled.{Journaled, IsWellFormed, history_in}

module _ {A : Type 0} where
  pub or_past : (xs : List A) (i : ℕ) (d : A) → length xs ≤ i → slice_index_or xs i d ≡ d
  or_past [] i d le = refl
  or_past (x ∷ xs) zero d le = absurd (omega arith)
  or_past (x ∷ xs) (suc i) d le = or_past xs i d (omega arith)

no_object_in : (object : Object) (objects : List Object) (site : ℕ) (b : Bool) → nat_lt site (length object.symbols) ≡ b → length (symbols_of (object ∷ objects)) ≤ site
    → (length (symbols_of objects) ≤ site - length object.symbols → object_of objects (site - length object.symbols) ≡ None)
    → (if b then Some 0 else option_map suc (object_of objects (site - length object.symbols))) ≡ None
no_object_in object objects site true is le rest = absurd (grind (arith, nat_tests, length-append object.symbols (symbols_of objects)))
no_object_in object objects site false is le rest = ap (option_map suc) (rest (omega (arith, length-append object.symbols (symbols_of objects))))

pub no_object : (objects : List Object) (site : ℕ) → length (symbols_of objects) ≤ site → object_of objects site ≡ None
no_object [] site le = refl
no_object (object ∷ objects) site le = no_object_in object objects site (nat_lt site (length object.symbols)) refl le (no_object objects (site - length object.symbols))

pub no_row : (setting : Setting) (state : State) (site : ℕ) → length (symbols_of setting.image.objects) ≤ site → row_of setting state site ≡ None
no_row setting state site le = rw (no_object setting.image.objects site le) refl

pub below : (i n : ℕ) → (i < n) ⊎ (n ≤ i)
below zero zero = inr (omega arith)
below zero (suc n) = inl (omega arith)
below (suc i) zero = inr (omega arith)
below (suc i) (suc n) = ⊎_elim (λ (h : i < n). inl (omega arith)) (λ (h : n ≤ i). inr (omega arith)) (below i n)

-- a list that agrees with f up to its end, where f gives the rest
agrees : {A : Type 0} (xs : List A) (d : A) (f : ℕ → A) (n : ℕ) → length xs ≡ n → ((i : ℕ) → n ≤ i → f i ≡ d) → ((i : ℕ) → i < n → slice_index_or xs i d ≡ f i)
    → (i : ℕ) → slice_index_or xs i d ≡ f i
agrees xs d f n len rest front i = ⊎_elim (front i) (λ (h : n ≤ i). or_past xs i d (omega arith) ∙ sym (rest i h)) (below i n)

pub all_rows : (setting : Setting) (state : State) (rows : List (Option SiteRow)) → length rows ≡ 256 → length (symbols_of setting.image.objects) ≤ 256
    → ((site : ℕ) → site < 256 → slice_index_or rows site None ≡ row_of setting state site) → (site : ℕ) → slice_index_or rows site None ≡ row_of setting state site
all_rows setting state rows len few front = agrees rows None (row_of setting state) 256 len (λ i h. no_row setting state i (omega arith)) front

pub all_states : (state : State) (states : List (Option ℤ)) → length states ≡ 64 → length state.tasks ≡ 64
    → ((task : ℕ) → task < 64 → slice_index_or states task None ≡ own_state state task) → (task : ℕ) → slice_index_or states task None ≡ own_state state task
all_states state states len few front = agrees states None (own_state state) 64 len (λ i h. ap (option_map (λ (t : Task). t.state)) (or_past state.tasks i None (omega arith))) front

pub set_next : {A : Type 0} (xs : List A) (d : A) (f : ℕ → A) (n : ℕ) (x : A) → n < length xs → x ≡ f n → ((i : ℕ) → i < n → slice_index_or xs i d ≡ f i)
    → (i : ℕ) → i < n + 1 → slice_index_or (slice_set xs n x) i d ≡ f i
set_next xs d f n x at is front i le = ⊎_elim
    (λ (h : i < n). get_or-set_other xs n i x d (λ e. absurd (omega arith)) ∙ front i h)
    (λ (h : n ≤ i). let e : i ≡ n = omega arith in subst (λ (k : ℕ). slice_index_or (slice_set xs n x) k d ≡ f k) (sym e) (get_or-set_same xs n x d at ∙ is))
    (below i n)

-- a manager has a row for each task
pub tasks_stand : (m : Journaled) → IsWellFormed m → ((state : State) (events : List Event) → Allowed (setting_of m.managed) state → Allowed (setting_of m.managed) (run (setting_of m.managed) state events))
    → length m.managed.state.tasks ≡ 64
tasks_stand m well_formed stay =
    ap (λ (s : State). length s.tasks) well_formed.state ∙ (stay m.base (map (λ (p : Event × Reply). p.0) (history_in m.groups)) well_formed.allowed).rows
