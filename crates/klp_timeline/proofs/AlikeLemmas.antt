-- Who is told of together.
use Rattle.std.proofs.Common.{◌≡◌, ℕ, Bool, true, false, ◌&&◌, ◌||◌, cond, List, [], ◌∷◌, ◌++◌, map, Option, Some, None, ◌⊎◌, inl, inr, refl, sym, ap, ◌∙◌}
use Rattle.std.specs.Prelude.{Contains, filter}
use Rattle.std.specs.List.{list_any}
use Rattle.std.proofs.lemmas.Bool.{eq-eqb, eqb-true}
use Rattle.std.proofs.lemmas.List.Elements.{Contains-append_right}
use Rattle.std.proofs.lemmas.List.Folds.{list_any-append}
use Rattle.klp_timeline.specs.declared.moment.Stay.{Stay}
use Rattle.klp_timeline.specs.declared.moment.Sleep.{Sleep}
use Rattle.klp_timeline.specs.declared.moment.Sentence.{Sentence}
use Rattle.klp_timeline.specs.Stays.{is_same_stay_as}
use Rattle.klp_timeline.specs.Sentences.{is_end, is_alike, tasks_alike, slept, slept_from}
use Rattle.klp_timeline.proofs.AmongLemmas.{none_among, first_among, later_among, first_or_later}
use Rattle.klp_timeline.proofs.StayLemmas.{same_stay, is_own_stay}

same_end : (a b : Option ℕ) → is_end a b ≡ true → a ≡ b
same_end None None e = refl
same_end (Some to) (Some last) e = ap Some (eqb-true to last e)
same_end None (Some last) e = cc
same_end (Some to) None e = cc

is_own_end : (a : Option ℕ) → is_end a a ≡ true
is_own_end None = refl
is_own_end (Some to) = eq-eqb to to refl

alike_are : (a b : Sleep) → is_alike a b ≡ true → (a.stay ≡ b.stay) × (a.to ≡ b.to)
alike_are a b e = by (is_same_stay_as a.stay b.stay) refl e
  where
    by : (t : Bool) → is_same_stay_as a.stay b.stay ≡ t → (t && is_end a.to b.to) ≡ true → (a.stay ≡ b.stay) × (a.to ≡ b.to)
    by true is e = (same_stay a.stay b.stay is, same_end a.to b.to e)
    by false is e = cc

are_alike : (a b : Sleep) → a.stay ≡ b.stay → a.to ≡ b.to → is_alike a b ≡ true
are_alike a b stay to =
    ap (λ s. is_same_stay_as a.stay s && is_end a.to b.to) (sym stay) ∙ ap (λ t. is_same_stay_as a.stay a.stay && is_end a.to t) (sym to)
    ∙ ap (λ t. t && is_end a.to a.to) (is_own_stay a.stay) ∙ is_own_end a.to

-- the tasks of those that are alike to one
tasks_have : (own : Sleep) (sleeps : List Sleep) (sleep : Sleep) → Contains sleeps sleep → is_alike own sleep ≡ true → Contains (tasks_alike own sleeps) sleep.task
tasks_have own [] sleep among alike = absurd (none_among sleep among)
tasks_have own (other ∷ rest) sleep among alike = elim (first_or_later other rest sleep among) [
  | inl same ↦ here (is_alike own other) (ap (is_alike own) same ∙ alike) (ap (λ (s : Sleep). s.task) same)
  | inr later ↦ there (is_alike own other) (tasks_have own rest sleep later alike)
]
  where
    here : (b : Bool) → b ≡ true → other.task ≡ sleep.task
        → Contains (map (λ (s : Sleep). s.task) (cond b (other ∷ filter (is_alike own) rest) (filter (is_alike own) rest))) sleep.task
    here true e same = rw (← same) (first_among other.task (tasks_alike own rest))
    here false e same = cc

    there : (b : Bool) → Contains (tasks_alike own rest) sleep.task
        → Contains (map (λ (s : Sleep). s.task) (cond b (other ∷ filter (is_alike own) rest) (filter (is_alike own) rest))) sleep.task
    there true later = later_among other.task (tasks_alike own rest) sleep.task later
    there false later = later

-- a task of a sleeper that is alike
pub record IsAlikeTask (own : Sleep) (sleeps : List Sleep) (task : ℕ) : Type 0 where
  pub sleep : Sleep
  pub among : Contains sleeps sleep
  pub task_is : sleep.task ≡ task
  pub stay_is : sleep.stay ≡ own.stay
  pub to_is : sleep.to ≡ own.to

pub task_alike : (own : Sleep) (sleeps : List Sleep) (task : ℕ) → Contains (tasks_alike own sleeps) task → IsAlikeTask own sleeps task
task_alike own [] task among = absurd (none_among task among)
task_alike own (other ∷ rest) task among = by (is_alike own other) refl (task_alike own rest task) among
  where
    later : IsAlikeTask own rest task → IsAlikeTask own (other ∷ rest) task
    later found = record {
      sleep = found.sleep;
      among = later_among other rest found.sleep found.among;
      task_is = found.task_is;
      stay_is = found.stay_is;
      to_is = found.to_is;
    }

    here : is_alike own other ≡ true → other.task ≡ task → IsAlikeTask own (other ∷ rest) task
    here alike same = record {
      sleep = other;
      among = first_among other rest;
      task_is = same;
      stay_is = sym (alike_are own other alike).0;
      to_is = sym (alike_are own other alike).1;
    }

    by : (b : Bool) → is_alike own other ≡ b → (Contains (tasks_alike own rest) task → IsAlikeTask own rest task)
        → Contains (map (λ (s : Sleep). s.task) (cond b (other ∷ filter (is_alike own) rest) (filter (is_alike own) rest))) task
        → IsAlikeTask own (other ∷ rest) task
    by true alike more among = elim (first_or_later other.task (tasks_alike own rest) task among) [
      | inl same ↦ here alike same
      | inr others ↦ later (more others)
    ]
    by false alike more among = later (more among)

-- one of these sentences tells of a sleeper
pub record IsSlept (line : ℕ) (sleeps : List Sleep) (said : List Sentence) (sleep : Sleep) : Type 0 where
  pub own : Sleep
  pub among : Contains said (slept line own sleeps)
  pub names : Contains (tasks_alike own sleeps) sleep.task
  pub stay_is : own.stay ≡ sleep.stay
  pub to_is : own.to ≡ sleep.to

-- whether a stay like this is among these
abbrev has_like : List Sleep → Stay → Option ℕ → Bool
has_like sleeps stay to = list_any (λ (other : Sleep). is_same_stay_as stay other.stay && is_end to other.to) sleeps

own_slept : (line : ℕ) (sleeps before : List Sleep) (own : Sleep) (rest : List Sleep) (sleep : Sleep) → Contains sleeps sleep
    → own.stay ≡ sleep.stay → own.to ≡ sleep.to
    → (list_any (is_alike sleep) before ≡ true) ⊎ IsSlept line sleeps (slept_from line sleeps before (own ∷ rest)) sleep
own_slept line sleeps before own rest sleep among stay to = by (list_any (is_alike own) before) refl
  where
    first_of : (b : Bool) → b ≡ false
        → Contains (cond b [] (slept line own sleeps ∷ []) ++ slept_from line sleeps (before ++ own ∷ []) rest) (slept line own sleeps)
    first_of true e = cc
    first_of false e = first_among (slept line own sleeps) (slept_from line sleeps (before ++ own ∷ []) rest)

    by : (b : Bool) → list_any (is_alike own) before ≡ b
        → (list_any (is_alike sleep) before ≡ true) ⊎ IsSlept line sleeps (slept_from line sleeps before (own ∷ rest)) sleep
    by true is = inl (ap (λ s. has_like before s sleep.to) (sym stay) ∙ ap (has_like before own.stay) (sym to) ∙ is)
    by false is = inr (record {
      own = own;
      among = first_of (list_any (is_alike own) before) is;
      names = tasks_have own sleeps sleep among (are_alike own sleep stay to);
      stay_is = stay;
      to_is = to;
    })

later_slept : (line : ℕ) (sleeps before : List Sleep) (own : Sleep) (rest : List Sleep) (sleep : Sleep)
    → IsSlept line sleeps (slept_from line sleeps (before ++ own ∷ []) rest) sleep → IsSlept line sleeps (slept_from line sleeps before (own ∷ rest)) sleep
later_slept line sleeps before own rest sleep found = record {
  own = found.own;
  among = Contains-append_right (cond (list_any (is_alike own) before) [] (slept line own sleeps ∷ []))
      (slept_from line sleeps (before ++ own ∷ []) rest) (slept line found.own sleeps) found.among;
  names = found.names;
  stay_is = found.stay_is;
  to_is = found.to_is;
}

each_slept : (line : ℕ) (sleeps before rest : List Sleep) (sleep : Sleep) → Contains sleeps sleep → Contains rest sleep
    → (list_any (is_alike sleep) before ≡ true) ⊎ IsSlept line sleeps (slept_from line sleeps before rest) sleep
each_slept line sleeps before [] sleep among left = absurd (none_among sleep left)
each_slept line sleeps before (own ∷ rest) sleep among left = elim (first_or_later own rest sleep left) [
  | inl same ↦ own_slept line sleeps before own rest sleep among (ap (λ (s : Sleep). s.stay) same) (ap (λ (s : Sleep). s.to) same)
  | inr later ↦ next (each_slept line sleeps (before ++ own ∷ []) rest sleep among later)
]
  where
    only : (b : Bool) → is_alike sleep own ≡ b → (b || false) ≡ true → is_alike sleep own ≡ true
    only true is e = is
    only false is e = cc

    one_of : (b : Bool) → list_any (is_alike sleep) before ≡ b → (b || (is_alike sleep own || false)) ≡ true
        → (list_any (is_alike sleep) before ≡ true) ⊎ IsSlept line sleeps (slept_from line sleeps before (own ∷ rest)) sleep
    one_of true is e = inl is
    one_of false is e =
        (let alike = alike_are sleep own (only (is_alike sleep own) refl e) in own_slept line sleeps before own rest sleep among (sym alike.0) (sym alike.1))

    next : (list_any (is_alike sleep) (before ++ own ∷ []) ≡ true) ⊎ IsSlept line sleeps (slept_from line sleeps (before ++ own ∷ []) rest) sleep
        → (list_any (is_alike sleep) before ≡ true) ⊎ IsSlept line sleeps (slept_from line sleeps before (own ∷ rest)) sleep
    next (inl any) = one_of (list_any (is_alike sleep) before) refl (sym (list_any-append (is_alike sleep) before (own ∷ [])) ∙ any)
    next (inr found) = inr (later_slept line sleeps before own rest sleep found)

-- each that begins with a line is told of
pub all_slept : (line : ℕ) (sleeps : List Sleep) (sleep : Sleep) → Contains sleeps sleep → IsSlept line sleeps (slept_from line sleeps [] sleeps) sleep
all_slept line sleeps sleep among = elim (each_slept line sleeps [] sleeps sleep among among) [ inl none ↦ absurd (not_both none) | inr found ↦ found ]
  where
    not_both : false ≡ true → ⊥
    not_both e = cc

-- a sentence of these tells of those that are alike to one
pub record IsOfOne (line : ℕ) (sleeps : List Sleep) (sentence : Sentence) : Type 0 where
  pub own : Sleep
  pub is : slept line own sleeps ≡ sentence

pub slept_of_one : (line : ℕ) (sleeps before rest : List Sleep) (sentence : Sentence) → Contains (slept_from line sleeps before rest) sentence → IsOfOne line sleeps sentence
slept_of_one line sleeps before [] sentence among = absurd (none_among sentence among)
slept_of_one line sleeps before (own ∷ rest) sentence among =
    by (list_any (is_alike own) before) (slept_of_one line sleeps (before ++ own ∷ []) rest sentence) among
  where
    by : (b : Bool) → (Contains (slept_from line sleeps (before ++ own ∷ []) rest) sentence → IsOfOne line sleeps sentence)
        → Contains (cond b [] (slept line own sleeps ∷ []) ++ slept_from line sleeps (before ++ own ∷ []) rest) sentence → IsOfOne line sleeps sentence
    by true more among = more among
    by false more among = elim (first_or_later (slept line own sleeps) (slept_from line sleeps (before ++ own ∷ []) rest) sentence among) [
      | inl same ↦ record { own = own; is = same }
      | inr later ↦ more later
    ]
