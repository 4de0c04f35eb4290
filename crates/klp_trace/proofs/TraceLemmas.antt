-- The lines of a trace, read one after another.
use Rattle.std.proofs.Common.{◌≡◌, ℕ, suc, ◌+◌, ◌≤◌, ◌&&◌, Bool, true, false, nat_le, List, [], ◌∷◌, ◌++◌, map, length, Option, Some, None, refl, sym, ap, subst, ◌∙◌, append-nil, append_assoc, arith}
use Rattle.std.specs.Prelude.{unwrap_or, Result, Ok, Err, IfOk, MatchResult}
use Rattle.std.specs.Str.Lines.{lines}
use Rattle.std.proofs.lemmas.Bool.{and_parts}
use Rattle.std.proofs.lemmas.Bool.Decides.{nat_tests}
use Rattle.std.proofs.lemmas.List.{map-append, length-map}
use Rattle.klp_core.specs.Journaled.{Journaled}
use Rattle.klp_watch.specs.declared.observed.Observed.{Observed}
use Rattle.klp_trace.specs.declared.fault.TraceFaultKind.{TraceFaultKind}
use Rattle.klp_trace.specs.declared.fault.TraceFaultKind.TheVariants.{NoMemory}
use Rattle.klp_trace.specs.Traces.{Entry, entry_of, last_time, are_in_order, AreEntries, items_in, times_in, IsTraceOf, IsReadOn, IsLineFault, IsTraceFault}

-- of these lines those are left, and the ones before them are entries with these items and times
pub record IsReadTo (manager : Journaled) (lines left : List (List ℕ)) (items : List Observed) (times : List (Option ℕ)) (last : ℕ) : Type 0 where
  pub earlier : List (List ℕ)
  pub entries : List Entry
  pub parted : lines ≡ earlier ++ left
  pub read : AreEntries manager earlier entries
  pub items_are : items ≡ items_in entries
  pub times_are : times ≡ times_in entries
  pub last_is : last ≡ last_time 0 entries

pub nothing_read : (manager : Journaled) (lines left : List (List ℕ)) (items : List Observed) (times : List (Option ℕ)) (last : ℕ)
    → left ≡ lines → items ≡ [] → times ≡ [] → last ≡ 0 → IsReadTo manager lines left items times last
nothing_read manager lines left items times last left_is items_are times_are last_is = record {
  earlier = [];
  entries = [];
  parted = sym left_is;
  read = record { each = refl; in_order = refl };
  items_are = items_are;
  times_are = times_are;
  last_is = last_is;
}

last_time-append : (before : ℕ) (entries : List Entry) (entry : Entry) → last_time before (entries ++ entry ∷ []) ≡ unwrap_or entry.time (last_time before entries)
last_time-append before [] entry = refl
last_time-append before (first ∷ entries) entry = last_time-append (unwrap_or first.time before) entries entry

order-append : (before : ℕ) (entries : List Entry) (entry : Entry) → are_in_order before entries ≡ true
    → last_time before entries ≤ unwrap_or entry.time (last_time before entries) → are_in_order before (entries ++ entry ∷ []) ≡ true
order-append before [] entry order later =
    let test : nat_le before (unwrap_or entry.time before) ≡ true = grind (arith, nat_tests) in
    rw test refl
order-append before (first ∷ entries) entry order later =
    let time = unwrap_or first.time before in
    let parts = and_parts (nat_le before time) (are_in_order time entries) order in
    rw (parts.0, order-append time entries entry parts.1 later) refl

entries-append : (manager : Journaled) (earlier : List (List ℕ)) (entries : List Entry) (line : List ℕ) (entry : Entry)
    → AreEntries manager earlier entries → entry_of manager line ≡ Some entry → last_time 0 entries ≤ unwrap_or entry.time (last_time 0 entries)
    → AreEntries manager (earlier ++ line ∷ []) (entries ++ entry ∷ [])
entries-append manager earlier entries line entry read is later = record {
  each = map-append (entry_of manager) earlier (line ∷ [])
      ∙ ap (λ os. os ++ entry_of manager line ∷ []) read.each
      ∙ ap (λ (o : Option Entry). map Some entries ++ o ∷ []) is
      ∙ sym (map-append Some entries (entry ∷ []));
  in_order = order-append 0 entries entry read.in_order later;
}

pub one_read : (manager : Journaled) (lines left : List (List ℕ)) (items items-now : List Observed) (times times-now : List (Option ℕ)) (last time : ℕ) (line : List ℕ)
    → IsReadTo manager lines (line ∷ left) items times last → IsReadOn manager last line items times items-now times-now time
    → IsReadTo manager lines left items-now times-now time
one_read manager lines left items items-now times times-now last time line so_far on = record {
  earlier = so_far.earlier ++ line ∷ [];
  entries = so_far.entries ++ on.entry ∷ [];
  parted = so_far.parted ∙ sym (append_assoc so_far.earlier (line ∷ []) left);
  read = entries-append manager so_far.earlier so_far.entries line on.entry so_far.read on.is
      (subst (λ n. n ≤ unwrap_or on.entry.time n) so_far.last_is on.in_order);
  items_are = on.items_are ∙ ap (λ xs. xs ++ on.entry.item ∷ []) so_far.items_are ∙ sym (map-append (λ (e : Entry). e.item) so_far.entries (on.entry ∷ []));
  times_are = on.times_are ∙ ap (λ ts. ts ++ on.entry.time ∷ []) so_far.times_are ∙ sym (map-append (λ (e : Entry). e.time) so_far.entries (on.entry ∷ []));
  last_is = on.time_is ∙ ap (λ n. unwrap_or on.entry.time n) so_far.last_is ∙ sym (last_time-append 0 so_far.entries on.entry);
}

-- what was read of a line, and put behind the others
pub put_behind : (manager : Journaled) (last : ℕ) (line : List ℕ) (read : Result Entry TraceFaultKind) (result : Result ℕ TraceFaultKind)
    (items items-now : List Observed) (times times-now : List (Option ℕ)) (now : ℕ)
    → IfOk read (λ (entry : Entry). (entry_of manager line ≡ Some entry) × (last ≤ unwrap_or entry.time last))
    → MatchResult read
    (λ (entry : Entry). MatchResult result
    (λ n. (items-now ≡ items ++ entry.item ∷ []) × (times-now ≡ times ++ entry.time ∷ []) × (n ≡ unwrap_or entry.time last))
    (λ kind. kind ≡ NoMemory))
    (λ kind. result ≡ Err kind)
    → result ≡ Ok now → IsReadOn manager last line items times items-now times-now now
put_behind manager last line (Ok entry) (Ok n) items items-now times times-now now is put same =
    let own : n ≡ now = cc in
    record {
      entry = entry;
      is = is.0;
      in_order = is.1;
      time_is = sym own ∙ put.2;
      items_are = put.0;
      times_are = put.1;
    }
put_behind manager last line (Ok entry) (Err kind) items items-now times times-now now is put same = let no : ⊥ = cc in absurd no
put_behind manager last line (Err kind) result items items-now times times-now now is put same = let no : ⊥ = cc in absurd no

pub all_read : (manager : Journaled) (text : List ℕ) (items : List Observed) (times : List (Option ℕ)) (last : ℕ)
    → IsReadTo manager (lines text) [] items times last → IsTraceOf manager text items times
all_read manager text items times last so_far = record {
  entries = so_far.entries;
  read = subst (λ ls. AreEntries manager ls so_far.entries) (sym (so_far.parted ∙ append-nil so_far.earlier)) so_far.read;
  items_are = so_far.items_are;
  times_are = so_far.times_are;
}

same_length : (manager : Journaled) (lines : List (List ℕ)) (entries : List Entry) → map (entry_of manager) lines ≡ map Some entries → length entries ≡ length lines
same_length manager [] [] is = refl
same_length manager [] (entry ∷ entries) is = let no : ⊥ = cc in absurd no
same_length manager (line ∷ lines) [] is = let no : ⊥ = cc in absurd no
same_length manager (line ∷ lines) (entry ∷ entries) is =
    let later : map (entry_of manager) lines ≡ map Some entries = cc in
    ap suc (same_length manager lines entries later)

pub bad_line : (manager : Journaled) (lines left : List (List ℕ)) (items : List Observed) (times : List (Option ℕ)) (last : ℕ) (line : List ℕ) (kind : TraceFaultKind)
    → IsReadTo manager lines (line ∷ left) items times last → IsLineFault manager last line kind → IsTraceFault manager lines (length items + 1) kind
bad_line manager lines left items times last line kind so_far why = record {
  earlier = so_far.earlier;
  bad = line;
  later = left;
  entries = so_far.entries;
  parted = so_far.parted;
  number_is = ap (λ n. n + 1)
      (ap length so_far.items_are ∙ length-map so_far.entries (λ (e : Entry). e.item) ∙ same_length manager so_far.earlier so_far.entries so_far.read.each);
  read = so_far.read;
  why = subst (λ n. IsLineFault manager n line kind) so_far.last_is why;
}
