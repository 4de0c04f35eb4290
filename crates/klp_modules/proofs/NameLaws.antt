-- Laws of names and their numbers.
use Rattle.std.proofs.Common.{◌≡◌, ℕ, zero, suc, ◌+◌, ◌<◌, ◌≤◌, List, [], ◌∷◌, ◌++◌, length, get_or, map, take, Bool, true, false, cond, Option, Some, None, refl, ap, sym, ◌∙◌, subst, arith, length-append, inl, inr}
use Rattle.std.specs.Prelude.{option_map, bytes_eq, ◌==◌, string_bytes, String, not, slice_get, count_by, position, MatchOption, IfSome, option_and_then, ⊤, Err}
use Rattle.std.specs.declared.alloc.Global.{Global}
use Rattle.std.specs.List.{All, fold, position_or_len, list_any}
use Rattle.std.proofs.lemmas.List.{take_more, take-map, map_more, map-append, length-map, get_or_append_left, get_or_at}
use Rattle.std.proofs.lemmas.List.Elements.{All-from_get_or, All-weaker, All-take, All-push, All-cons, All-nil, All-head, All-tail}
use Rattle.std.proofs.lemmas.List.Quantifiers.{position-Some}
use Rattle.std.proofs.lemmas.Option.{slice_get-map, slice_get-get_or, slice_get_within, slice_get_past, get_or_from_slice_get}
use Rattle.std.proofs.lemmas.Bool.{ltb-false, le-ltb, cases_lt}
use Rattle.std.proofs.lemmas.Bool.Decides.{Decides-eqb}
use Rattle.std.specs.Bool.{one_answer}
use Rattle.std.proofs.lemmas.List.Folds.{list_any_none}
use Rattle.std.proofs.lemmas.List.Sums.{fails_before_first, prefix_len-le-length}
use Rattle.std.proofs.lemmas.Slice.Eq.{bytes_eq-Decides}
use Rattle.klp_types.specs.Image.{Symbol, Object, symbols_of}
use Rattle.klp_types.proofs.SiteLemmas.{symbols_of-take}
use Rattle.klp_modules.specs.Names.{ObjectNames, named_at, sites_where, first_site, symbol_names, picked, resolved, object_named, names_of, names_of_object}
use Rattle.klp_modules.specs.declared.fault.SymbolFault.TheVariants.{Missing}
use Rattle.klp_modules.specs.Kept.{texts_of, text_at, object_names, names_from, symbol_count, numbered_first_site, HasTexts, IsApart, Extends, AddsName, AddsNames, AddsObject, AreNumbered}
use Rattle.klp_modules.specs.declared.numbered.NumberedObject.{NumberedObject}

-- ---- texts

pub same_text : (a b : List ℕ) → bytes_eq a b ≡ true → a ≡ b
same_text a b h = (bytes_eq-Decides a b).0 h

pub bytes_eq-same : (a : List ℕ) → bytes_eq a a ≡ true
bytes_eq-same a = (bytes_eq-Decides a a).1 refl

-- the first place at which a test of the text passes
pub position_or_len-texts : (test : List ℕ → Bool) (keys : List (String Global)) →
    position_or_len (λ k. test (string_bytes k)) keys ≡ position_or_len test (texts_of keys)
position_or_len-texts test [] = refl
position_or_len-texts test (k ∷ keys) = rw (position_or_len-texts test keys)

pub position-texts : (test : List ℕ → Bool) (keys : List (String Global)) →
    position (λ k. test (string_bytes k)) keys ≡ position test (texts_of keys)
position-texts test keys = rw (position_or_len-texts test keys, ← length-map keys string_bytes)

-- the number of a name has its text
pub number_found : (name : List ℕ) (texts : List (List ℕ)) (number : ℕ) →
    position (bytes_eq name) texts ≡ Some number → (number < length texts) × (text_at texts number ≡ name)
number_found name texts number h =
    let at = position-Some (bytes_eq name) texts number [] h in
    (at.0, sym (same_text name (text_at texts number) at.1))

not_found : (b : Bool) (n : ℕ) → cond b (Some n) None ≡ None → b ≡ false
not_found true n h = let no : ⊥ = cc in absurd no
not_found false n h = refl

-- no text is a name without a number
pub number_absent : (name : List ℕ) (texts : List (List ℕ)) (number : ℕ) →
    position (bytes_eq name) texts ≡ None → number < length texts → bytes_eq name (text_at texts number) ≡ false
number_absent name texts number h below =
    let past : length texts ≤ position_or_len (bytes_eq name) texts =
    ltb-false (position_or_len (bytes_eq name) texts) (length texts) (not_found _ _ h) in
    fails_before_first (bytes_eq name) texts number [] (omega arith)

-- the place of a name without a number is behind all
pub place_absent : (name : List ℕ) (texts : List (List ℕ)) → position (bytes_eq name) texts ≡ None →
    position_or_len (bytes_eq name) texts ≡ length texts
place_absent name texts h =
    let past : length texts ≤ position_or_len (bytes_eq name) texts =
    ltb-false (position_or_len (bytes_eq name) texts) (length texts) (not_found _ _ h) in
    omega (arith, past, prefix_len-le-length (λ x. not (bytes_eq name x)) texts)

pub list_any_absent : (name : List ℕ) (texts : List (List ℕ)) → position (bytes_eq name) texts ≡ None →
    list_any (bytes_eq name) texts ≡ false
list_any_absent name texts h =
    list_any_none (bytes_eq name) texts
    (All-from_get_or (λ text. bytes_eq name text ≡ false) texts [] (λ n below. number_absent name texts n h below))

pub list_any-texts : (test : List ℕ → Bool) (keys : List (String Global)) →
    list_any (λ k. test (string_bytes k)) keys ≡ list_any test (texts_of keys)
list_any-texts test [] = refl
list_any-texts test (k ∷ keys) = rw (list_any-texts test keys)

-- ---- sites

pub sites_where-none : (test : List ℕ → Bool) (texts : List (List ℕ)) (site : ℕ) (numbers : List ℕ) →
    ((number : ℕ) → number < length texts → test (text_at texts number) ≡ false) → All (λ number. number < length texts) numbers →
    sites_where test site (map (text_at texts) numbers) ≡ []
sites_where-none test texts site [] none below = refl
sites_where-none test texts site (number ∷ numbers) none below =
    let fails : test (text_at texts number) ≡ false = none number (All-head (λ n. n < length texts) number numbers below) in
    rw fails (sites_where-none test texts (suc site) numbers none (All-tail (λ n. n < length texts) number numbers below))

-- a number stands for a name where it is the name's number
same_number : (name : List ℕ) (texts : List (List ℕ)) (number other : ℕ) →
    IsApart texts → number < length texts → text_at texts number ≡ name → other < length texts →
    bytes_eq name (text_at texts other) ≡ (other == number)
same_number name texts number other apart there text own =
    one_answer {P = other ≡ number} (bytes_eq name (text_at texts other)) (other == number) (
      (λ (h : bytes_eq name (text_at texts other) ≡ true). apart other number own there (sym (text ∙ same_text name (text_at texts other) h))),
      (λ (h : other ≡ number). ap (λ n. bytes_eq name (text_at texts n)) h ∙ (ap (bytes_eq name) text ∙ bytes_eq-same name)),
    )
    (Decides-eqb other number)

-- the sites of a name are those of its number
pub sites_where-texts : (name : List ℕ) (texts : List (List ℕ)) (number site : ℕ) (numbers : List ℕ) →
    IsApart texts → number < length texts → text_at texts number ≡ name → All (λ n. n < length texts) numbers →
    sites_where (bytes_eq name) site (map (text_at texts) numbers) ≡ sites_where (λ other. other == number) site numbers
sites_where-texts name texts number site [] apart there text below = refl
sites_where-texts name texts number site (other ∷ numbers) apart there text below =
    let own : other < length texts = All-head (λ n. n < length texts) other numbers below in
    rw (
      same_number name texts number other apart there text own,
      sites_where-texts name texts number (suc site) numbers apart there text (All-tail (λ n. n < length texts) other numbers below),
    )

pub nowhere : (objects : List NumberedObject) → position_or_len (λ (object : NumberedObject). false) objects ≡ length objects
nowhere [] = refl
nowhere (object ∷ objects) = omega (arith, nowhere objects)

position-false : (objects : List NumberedObject) → position (λ (object : NumberedObject). false) objects ≡ None
position-false objects = rw (nowhere objects, le-ltb (length objects) (length objects) (omega arith))

pub first_site-names : (texts : List (List ℕ)) (objects : List NumberedObject) (o : ℕ) →
    first_site (names_from texts objects) o ≡ numbered_first_site objects o
first_site-names texts [] o = refl
first_site-names texts (object ∷ objects) zero = refl
first_site-names texts (object ∷ objects) (suc o) =
    omega (arith, length-map object.symbols.items (text_at texts), first_site-names texts objects o)

pub first_site-count : (objects : List NumberedObject) (o : ℕ) (object : NumberedObject) →
    slice_get objects o ≡ Some object → numbered_first_site objects o + length object.symbols.items ≤ symbol_count objects
first_site-count [] o object found = let no : ⊥ = cc in absurd no
first_site-count (x ∷ xs) zero object found = let same : x ≡ object = cc in rw same (omega arith)
first_site-count (x ∷ xs) (suc o) object found = omega (arith, first_site-count xs o object found)

pub slice_get-names : (texts : List (List ℕ)) (objects : List NumberedObject) (o : ℕ) →
    slice_get (names_from texts objects) o ≡ option_map (object_names texts) (slice_get objects o)
slice_get-names texts objects o = slice_get-map (object_names texts) objects o

-- an object that is there has its texts
pub texts_there : (texts : List (List ℕ)) (objects : List NumberedObject) (o : ℕ) (object : NumberedObject) →
    All (HasTexts texts) objects → slice_get objects o ≡ Some object → HasTexts texts object
texts_there texts objects o object all found =
    subst (λ (x : NumberedObject). HasTexts texts x) (get_or_from_slice_get objects o object object found)
    (all o object (slice_get_within objects o object found))

-- ---- the object of a name

position_or_len-names : (texts : List (List ℕ)) (test : List ℕ → Bool) (own : NumberedObject → Bool) (objects : List NumberedObject) →
    All (HasTexts texts) objects → ((object : NumberedObject) → HasTexts texts object → test (text_at texts object.name) ≡ own object) →
    position_or_len (λ (object : ObjectNames). test object.name) (names_from texts objects) ≡ position_or_len own objects
position_or_len-names texts test own [] all same = refl
position_or_len-names texts test own (object ∷ objects) all same =
    rw (
      same object (All-head (HasTexts texts) object objects all),
      position_or_len-names texts test own objects (All-tail (HasTexts texts) object objects all) same,
    )

position-names : (texts : List (List ℕ)) (test : List ℕ → Bool) (own : NumberedObject → Bool) (objects : List NumberedObject) →
    All (HasTexts texts) objects → ((object : NumberedObject) → HasTexts texts object → test (text_at texts object.name) ≡ own object) →
    position (λ (object : ObjectNames). test object.name) (names_from texts objects) ≡ position own objects
position-names texts test own objects all same =
    rw (position_or_len-names texts test own objects all same, length-map objects (object_names texts))

pub object_named-number : (texts : List (List ℕ)) (objects : List NumberedObject) (name : List ℕ) (number : ℕ) →
    All (HasTexts texts) objects → IsApart texts → position (bytes_eq name) texts ≡ Some number →
    object_named (names_from texts objects) name ≡ position (λ (object : NumberedObject). object.name == number) objects
object_named-number texts objects name number all apart h =
    let at = number_found name texts number h in
    position-names texts (bytes_eq name) (λ (object : NumberedObject). object.name == number) objects all
    (λ object there. same_number name texts number object.name apart at.0 at.1 there.name)

pub object_named-absent : (texts : List (List ℕ)) (objects : List NumberedObject) (name : List ℕ) →
    All (HasTexts texts) objects → position (bytes_eq name) texts ≡ None → object_named (names_from texts objects) name ≡ None
object_named-absent texts objects name all h =
    position-names texts (bytes_eq name) (λ object. false) objects all (λ object there. number_absent name texts object.name h there.name)
    ∙ position-false objects

-- ---- the symbol that a name and a position pick

none_picked : (object : Option NumberedObject) (texts : List (List ℕ)) (name : List ℕ) (site place : ℕ) →
    position (bytes_eq name) texts ≡ None → MatchOption object ⊤ (HasTexts texts) →
    picked (sites_where (bytes_eq name) site (symbol_names (option_map (object_names texts) object))) place ≡ Err Missing
none_picked None texts name site place h there = refl
none_picked (Some object) texts name site place h there =
    rw (sites_where-none (bytes_eq name) texts site object.symbols.items (λ number below. number_absent name texts number h below) there.symbols)

texts_if_there : (texts : List (List ℕ)) (objects : List NumberedObject) (o : ℕ) (found : Option NumberedObject) →
    All (HasTexts texts) objects → slice_get objects o ≡ found → MatchOption found ⊤ (HasTexts texts)
texts_if_there texts objects o None all h = tt
texts_if_there texts objects o (Some object) all h = texts_there texts objects o object all h

pub resolved_absent : (texts : List (List ℕ)) (objects : List NumberedObject) (o place : ℕ) (name : List ℕ) →
    All (HasTexts texts) objects → position (bytes_eq name) texts ≡ None →
    resolved (names_from texts objects) o name place ≡ Err Missing
resolved_absent texts objects o place name all h =
    rw (slice_get-names texts objects o)
    (none_picked (slice_get objects o) texts name (first_site (names_from texts objects) o) place h
    (texts_if_there texts objects o (slice_get objects o) all refl))

pub resolved_past : (texts : List (List ℕ)) (objects : List NumberedObject) (o place : ℕ) (name : List ℕ) →
    length objects ≤ o → resolved (names_from texts objects) o name place ≡ Err Missing
resolved_past texts objects o place name past =
    rw (slice_get-names texts objects o, slice_get_past objects o past)

pub resolved_found : (texts : List (List ℕ)) (objects : List NumberedObject) (o place number : ℕ) (name : List ℕ) (object : NumberedObject) →
    All (HasTexts texts) objects → IsApart texts → position (bytes_eq name) texts ≡ Some number → slice_get objects o ≡ Some object →
    resolved (names_from texts objects) o name place
    ≡ picked (sites_where (λ other. other == number) (numbered_first_site objects o) object.symbols.items) place
resolved_found texts objects o place number name object all apart h found =
    let at = number_found name texts number h in
    let there = texts_there texts objects o object all found in
    rw (
      slice_get-names texts objects o,
      found,
      first_site-names texts objects o,
      sites_where-texts name texts number (numbered_first_site objects o) object.symbols.items apart at.0 at.1 there.symbols,
    )

-- ---- a new name

pub adds_none : (texts : List (List ℕ)) (name : List ℕ) (number : ℕ) →
    position (bytes_eq name) texts ≡ Some number → AddsName texts texts name number
adds_none texts name number h =
    let found = number_found name texts number h in
    record {
      there = found.0;
      text = found.1;
      extends = record { longer = omega arith; same = λ n below. refl };
      apart = λ apart. apart;
    }

-- the new text is none of the others
new_text : (texts : List (List ℕ)) (name : List ℕ) → position (bytes_eq name) texts ≡ None → (i j : ℕ) →
    i < length texts → j ≡ length texts → text_at (texts ++ name ∷ []) i ≡ text_at (texts ++ name ∷ []) j → ⊥
new_text texts name h i j below is same =
    let last : get_or (texts ++ name ∷ []) j [] ≡ name = get_or_at texts name [] [] j (sym is) in
    let first : get_or (texts ++ name ∷ []) i [] ≡ get_or texts i [] = get_or_append_left texts (name ∷ []) [] i below in
    let found : bytes_eq name (text_at texts i) ≡ true = (bytes_eq-Decides name (text_at texts i)).1 (sym (sym first ∙ (same ∙ last))) in
    let absent : bytes_eq name (text_at texts i) ≡ false = number_absent name texts i h below in
    let no : ⊥ = cc in no

pub adds_one : (texts : List (List ℕ)) (name : List ℕ) →
    position (bytes_eq name) texts ≡ None → AddsName texts (texts ++ name ∷ []) name (length texts)
adds_one texts name h =
    let size : length (texts ++ name ∷ []) ≡ length texts + 1 = length-append texts (name ∷ []) in
    let last : get_or (texts ++ name ∷ []) (length texts) [] ≡ name = get_or_at texts name [] [] (length texts) refl in
    let before = λ (n : ℕ) (below : n < length texts). get_or_append_left texts (name ∷ []) [] n below in
    record {
      there = omega arith;
      text = last;
      extends = record { longer = omega arith; same = before };
      apart = λ apart i j i_there j_there same.
          elim (cases_lt i (length texts)) [
            | inl i_old ↦ elim (cases_lt j (length texts)) [
              | inl j_old ↦ apart i j i_old j_old (sym (before i i_old) ∙ (same ∙ before j j_old))
              | inr j_new ↦ absurd (new_text texts name h i j i_old (omega arith) same)
            ]
            | inr i_new ↦ elim (cases_lt j (length texts)) [
              | inl j_old ↦ absurd (new_text texts name h j i j_old (omega arith) (sym same))
              | inr j_new ↦ omega arith
            ]
          ];
    }

-- ---- names in order

extends_all : (old new : List (List ℕ)) (numbers : List ℕ) → Extends old new → All (λ n. n < length old) numbers →
    map (text_at new) numbers ≡ map (text_at old) numbers
extends_all old new [] extends below = refl
extends_all old new (number ∷ numbers) extends below =
    let first : text_at new number ≡ text_at old number = extends.same number (All-head (λ n. n < length old) number numbers below) in
    rw (first, extends_all old new numbers extends (All-tail (λ n. n < length old) number numbers below))

extends_twice : (a b c : List (List ℕ)) → Extends a b → Extends b c → Extends a c
extends_twice a b c first second = record {
  longer = omega (arith, first.longer, second.longer);
  same = λ number below.
      let inside : number < length b = omega (arith, first.longer, below) in second.same number inside ∙ first.same number below;
}

pub adds_first : (old new : List (List ℕ)) (name : List ℕ) (number : ℕ) → AddsName old new name number →
    AddsNames old new (name ∷ []) (number ∷ [])
adds_first old new name number h = record {
  there = All-cons (λ n. n < length new) number [] h.there (All-nil (λ n. n < length new));
  texts = ap (λ (text : List ℕ). text ∷ []) h.text;
  extends = h.extends;
  apart = h.apart;
}

pub adds_more : (old middle new : List (List ℕ)) (names : List (List ℕ)) (numbers : List ℕ) (name : List ℕ) (number : ℕ) →
    AddsNames old middle names numbers → AddsName middle new name number →
    AddsNames old new (names ++ name ∷ []) (numbers ++ number ∷ [])
adds_more old middle new names numbers name number h more =
    let longer : (n : ℕ) → n < length middle → n < length new = λ n below. omega (arith, more.extends.longer, below) in
    let kept : All (λ n. n < length new) numbers = All-weaker (λ n. n < length middle) (λ n. n < length new) longer numbers h.there in
    record {
      there = All-push (λ n. n < length new) numbers number kept more.there;
      texts = map-append (text_at new) numbers (number ∷ [])
          ∙ (ap (λ (texts : List (List ℕ)). texts ++ text_at new number ∷ []) (extends_all middle new numbers more.extends h.there ∙ h.texts)
          ∙ ap (λ (text : List ℕ). names ++ text ∷ []) more.text);
      extends = extends_twice old middle new h.extends more.extends;
      apart = λ apart. more.apart (h.apart apart);
    }

-- an object whose names and symbols' names these are
pub adds_object : (old new : List (List ℕ)) (names : ObjectNames) (object : NumberedObject) →
    AddsNames old new (names.name ∷ names.symbols) (object.name ∷ object.symbols.items) → AddsObject old new names object
adds_object old new names object h =
    let name_is : text_at new object.name ≡ names.name = cc (h.texts) in
    let symbols_are : map (text_at new) object.symbols.items ≡ names.symbols = cc (h.texts) in
    record {
      there = record {
        name = All-head (λ n. n < length new) object.name object.symbols.items h.there;
        symbols = All-tail (λ n. n < length new) object.name object.symbols.items h.there;
      };
      names_are = rw (name_is, symbols_are);
      extends = h.extends;
      apart = h.apart;
    }

-- one symbol more
pub adds_symbol : (old middle new : List (List ℕ)) (given : Object) (k : ℕ) (name : List ℕ) (first number : ℕ) (numbers more : List ℕ) →
    AddsNames old middle (given.name ∷ take k (map (λ (s : Symbol). s.name) given.symbols)) (first ∷ numbers) →
    AddsName middle new name number → slice_get (map (λ (s : Symbol). s.name) given.symbols) k ≡ Some name → more ≡ numbers ++ number ∷ [] →
    AddsNames old new (given.name ∷ take (k + 1) (map (λ (s : Symbol). s.name) given.symbols)) (first ∷ more)
adds_symbol old middle new given k name first number numbers more h own at pushed =
    let names : List (List ℕ) = map (λ (s : Symbol). s.name) given.symbols in
    let below : k < length (map (λ (s : Symbol). s.name) given.symbols) = slice_get_within names k name at in
    let front : take (k + 1) (map (λ (s : Symbol). s.name) given.symbols) ≡ take k (map (λ (s : Symbol). s.name) given.symbols) ++ name ∷ [] =
    take_more names k [] below ∙ ap (λ (text : List ℕ). take k names ++ text ∷ []) (get_or_from_slice_get names k name [] at) in
    rw (front, pushed) (adds_more old middle new (given.name ∷ take k names) (first ∷ numbers) name number h own)

-- what is read of a symbol, by its number in the object
pub symbol_read : (objects : List Object) (o k : ℕ) (given : Object) (name : List ℕ) →
    slice_get objects o ≡ Some given →
    Some name ≡ option_map (λ (s : Symbol). s.name) (option_and_then (λ (found : Object). slice_get found.symbols k) (slice_get objects o)) →
    slice_get (map (λ (s : Symbol). s.name) given.symbols) k ≡ Some name
symbol_read objects o k given name found is =
    slice_get-map (λ (s : Symbol). s.name) given.symbols k
    ∙ sym (is ∙ ap (λ (x : Option Object). option_map (λ (s : Symbol). s.name) (option_and_then (λ (found : Object). slice_get found.symbols k) x)) found)

pub if_some : {A : Type 0} (o : Option A) (P : A → Type 0) → ((x : A) → o ≡ Some x → P x) → IfSome o P
if_some None P f = tt
if_some (Some x) P f = f x refl

-- ---- objects in order

extends_object : (old new : List (List ℕ)) (object : NumberedObject) → Extends old new → HasTexts old object →
    object_names new object ≡ object_names old object
extends_object old new object extends there =
    rw (extends.same object.name there.name, extends_all old new object.symbols.items extends there.symbols)

extends_objects : (old new : List (List ℕ)) (objects : List NumberedObject) → Extends old new → All (HasTexts old) objects →
    names_from new objects ≡ names_from old objects
extends_objects old new [] extends all = refl
extends_objects old new (object ∷ objects) extends all =
    rw (
      extends_object old new object extends (All-head (HasTexts old) object objects all),
      extends_objects old new objects extends (All-tail (HasTexts old) object objects all),
    )

still_there : (old new : List (List ℕ)) → Extends old new → (object : NumberedObject) → HasTexts old object → HasTexts new object
still_there old new extends object there = record {
  name = omega (arith, extends.longer, there.name);
  symbols = All-weaker (λ n. n < length old) (λ n. n < length new) (λ n below. omega (arith, extends.longer, below)) object.symbols.items there.symbols;
}

symbol_count-append : (xs : List NumberedObject) (x : NumberedObject) → symbol_count (xs ++ x ∷ []) ≡ symbol_count xs + length x.symbols.items
symbol_count-append [] x = omega arith
symbol_count-append (y ∷ xs) x = omega (arith, symbol_count-append xs x)

pub one_object_more : (old new : List (List ℕ)) (objects : List Object) (numbered more : List NumberedObject) (o : ℕ) (x : NumberedObject) →
    AreNumbered old numbered (take o objects) → o < length objects →
    IfSome (slice_get objects o) (λ given. AddsObject old new (names_of_object given) x) → more ≡ numbered ++ x ∷ [] →
    AreNumbered new more (take (o + 1) objects)
one_object_more old new objects numbered more o x h below adds pushed =
    let none : Object = record { name = []; symbols = [] } in
    let given : Object = get_or objects o none in
    let own : AddsObject old new (names_of_object (get_or objects o (record { name = []; symbols = [] }))) x =
    subst (λ (found : Option Object). IfSome found (λ given. AddsObject old new (names_of_object given) x)) (slice_get-get_or objects o none below) adds in
    let kept : All (HasTexts new) numbered = All-weaker (HasTexts old) (HasTexts new) (still_there old new own.extends) numbered h.there in
    let count : length x.symbols.items ≡ length given.symbols =
    sym (length-map x.symbols.items (text_at new)) ∙ (ap (λ (n : ObjectNames). length n.symbols) own.names_are ∙ length-map given.symbols (λ (s : Symbol). s.name)) in
    rw pushed (record {
      apart = own.apart h.apart;
      there = All-push (HasTexts new) numbered x kept own.there;
      names = map-append (object_names new) numbered (x ∷ [])
          ∙ (ap (λ (names : List ObjectNames). names ++ object_names new x ∷ []) (extends_objects old new numbered own.extends h.there ∙ h.names)
          ∙ (ap (λ (n : ObjectNames). names_of (take o objects) ++ n ∷ []) own.names_are
          ∙ sym (map_more names_of_object objects o none below)));
      symbols = symbol_count-append numbered x
          ∙ sym (ap length (symbols_of-take objects o none below) ∙ (length-append (symbols_of (take o objects)) given.symbols ∙ omega (arith, h.symbols, count)));
    })

pub numbered_all : (texts : List (List ℕ)) (numbered : List NumberedObject) (objects : List Object) →
    AreNumbered texts numbered objects → length numbered ≡ length objects
numbered_all texts numbered objects h =
    sym (length-map numbered (object_names texts)) ∙ (ap length h.names ∙ length-map objects names_of_object)

-- ---- the symbol of a site

fold_same : (name : List ℕ) (texts : List (List ℕ)) (number start : ℕ) (numbers : List ℕ) →
    IsApart texts → number < length texts → text_at texts number ≡ name → All (λ n. n < length texts) numbers →
    fold (λ sum text. sum + cond (bytes_eq name text) 1 0) start (map (text_at texts) numbers)
    ≡ fold (λ sum other. sum + cond (other == number) 1 0) start numbers
fold_same name texts number start [] apart there text below = refl
fold_same name texts number start (other ∷ numbers) apart there text below =
    let same = same_number name texts number other apart there text (All-head (λ n. n < length texts) other numbers below) in
    fold_same name texts number (start + cond (bytes_eq name (text_at texts other)) 1 0) numbers apart there text
    (All-tail (λ n. n < length texts) other numbers below)
    ∙ ap (λ (b : Bool). fold (λ sum other. sum + cond (other == number) 1 0) (start + cond b 1 0) numbers) same

count_same : (name : List ℕ) (texts : List (List ℕ)) (number : ℕ) (numbers : List ℕ) →
    IsApart texts → number < length texts → text_at texts number ≡ name → All (λ n. n < length texts) numbers →
    count_by (bytes_eq name) (map (text_at texts) numbers) ≡ count_by (λ other. other == number) numbers
count_same name texts number numbers apart there text below = fold_same name texts number 0 numbers apart there text below

pub named_is : (texts : List (List ℕ)) (object : NumberedObject) (o place number : ℕ) →
    HasTexts texts object → IsApart texts → slice_get object.symbols.items place ≡ Some number →
    named_at o (map (text_at texts) object.symbols.items) place
    ≡ Some (record { object = o; name = text_at texts number; position = count_by (λ other. other == number) (take (place + 1) object.symbols.items) })
named_is texts object o place number there apart at =
    let numbers : List ℕ = object.symbols.items in
    let below : place < length object.symbols.items = slice_get_within numbers place number at in
    let inside : number < length texts =
    subst (λ (n : ℕ). n < length texts) (get_or_from_slice_get numbers place number 0 at) (there.symbols place 0 below) in
    let found : slice_get (map (text_at texts) object.symbols.items) place ≡ Some (text_at texts number) =
    slice_get-map (text_at texts) numbers place ∙ ap (option_map (text_at texts)) at in
    let counted : count_by (bytes_eq (text_at texts number)) (take (place + 1) (map (text_at texts) object.symbols.items))
    ≡ count_by (λ other. other == number) (take (place + 1) object.symbols.items) =
    ap (count_by (bytes_eq (text_at texts number))) (take-map (text_at texts) (place + 1) numbers)
    ∙ count_same (text_at texts number) texts number (take (place + 1) numbers) apart inside refl
    (All-take (λ n. n < length texts) (place + 1) numbers there.symbols) in
    rw (found, counted)
