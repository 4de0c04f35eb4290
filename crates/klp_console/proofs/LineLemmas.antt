-- Items that are said one after another.
use Rattle.std.proofs.Common.{◌≡◌, ℕ, zero, suc, ◌+◌, ◌<◌, Bool, true, false, cond, List, [], ◌∷◌, ◌++◌, length, take, get_or, refl, sym, ap, ◌∙◌, subst, append-nil, append_assoc, arith}
use Rattle.std.specs.Prelude.{Option, Some, None, slice_get, option_map, filter}
use Rattle.std.proofs.lemmas.List.{take_more}
use Rattle.std.proofs.lemmas.List.Elements.{filter_more}
use Rattle.std.proofs.lemmas.Option.{get_or_from_slice_get, slice_get_within}
use Rattle.klp_types.specs.Image.{Symbol}
use Rattle.klp_console_io.specs.Gathered.{Gathered}
use Rattle.klp_console_io.specs.Written.{Written}
use Rattle.klp_console_io.specs.Says.{Says}
use Rattle.klp_console.specs.Queries.{lines_of}

-- one item more at the end
lines_of-push : {A : Type 0} (text : A → List ℕ) (items : List A) (item : A) → lines_of text (items ++ item ∷ []) ≡ lines_of text items ++ text item
lines_of-push text [] item = append-nil (text item)
lines_of-push text (first ∷ items) item =
    ap (λ more. text first ++ more) (lines_of-push text items item) ∙ sym (append_assoc (text first) (lines_of text items) (text item))

-- it is said behind the others
said_next : {A : Type 0} (text : A → List ℕ) (items more : List A) (item : A) (said : List ℕ) (before after : Gathered × Written)
    → more ≡ items ++ item ∷ [] → said ≡ text item
    → Says before after (lines_of text items ++ said) → Says before after (lines_of text more)
said_next text items more item said before after longer same says =
    subst (Says before after)
    (ap (λ own. lines_of text items ++ own) same ∙ sym (lines_of-push text items item) ∙ ap (lines_of text) (sym longer))
    says

-- the item at an index is said behind those before it
pub said_item : {A : Type 0} (text : A → List ℕ) (items : List A) (i : ℕ) (item : A) (said : List ℕ) (before after : Gathered × Written)
    → i < length items → item ≡ get_or items i item → said ≡ text item
    → Says before after (lines_of text (take i items) ++ said) → Says before after (lines_of text (take (i + 1) items))
said_item text items i item said before after within at same says =
    said_next text (take i items) (take (i + 1) items) item said before after
    (take_more items i item within ∙ ap (λ own. take i items ++ own ∷ []) (sym at))
    same says

-- the item at an index passes the test, and is said
pub said_passing : {A : Type 0} (text : A → List ℕ) (passes : A → Bool) (items : List A) (i : ℕ) (item : A) (before after : Gathered × Written)
    → i < length items → item ≡ get_or items i item → passes item ≡ true
    → Says before after (lines_of text (filter passes (take i items)) ++ text item) → Says before after (lines_of text (filter passes (take (i + 1) items)))
said_passing text passes items i item before after within at passed says =
    said_next text (filter passes (take i items)) (filter passes (take (i + 1) items)) item (text item) before after
    (filter_more passes items i item within
    ∙ ap (λ own. filter passes (take i items) ++ cond (passes own) (own ∷ []) []) (sym at)
    ∙ ap (λ test. filter passes (take i items) ++ cond test (item ∷ []) []) passed)
    refl says

-- it doesn't pass, and isn't said
pub unsaid_failing : {A : Type 0} (text : A → List ℕ) (passes : A → Bool) (items : List A) (i : ℕ) (item : A) (before after : Gathered × Written)
    → i < length items → item ≡ get_or items i item → passes item ≡ false
    → Says before after (lines_of text (filter passes (take i items))) → Says before after (lines_of text (filter passes (take (i + 1) items)))
unsaid_failing text passes items i item before after within at fails says =
    subst (λ kept. Says before after (lines_of text kept))
    (sym (filter_more passes items i item within
    ∙ ap (λ own. filter passes (take i items) ++ cond (passes own) (own ∷ []) []) (sym at)
    ∙ ap (λ test. filter passes (take i items) ++ cond test (item ∷ []) []) fails
    ∙ append-nil (filter passes (take i items))))
    says

-- the item that is there gives this
at_view : {A B : Type 0} (view : A → B) (found : Option A) (x : B) → Some x ≡ option_map view found → (item : A) × (found ≡ Some item) × (x ≡ view item)
at_view view None x is = cc
at_view view (Some item) x is = (item, refl, cc)

-- the item that is found at an index is said behind those before it
pub said_found : {A : Type 0} (text : A → List ℕ) (items : List A) (i : ℕ) (item : A) (said : List ℕ) (before after : Gathered × Written)
    → slice_get items i ≡ Some item → said ≡ text item
    → Says before after (lines_of text (take i items) ++ said) → Says before after (lines_of text (take (i + 1) items))
said_found text items i item said before after found same says =
    said_item text items i item said before after (slice_get_within items i item found) (sym (get_or_from_slice_get items i item item found)) same says

-- and so is what it gives
pub said_view : {A B : Type 0} (view : A → B) (line : B → List ℕ) (items : List A) (i : ℕ) (x : B) (said : List ℕ) (before after : Gathered × Written)
    → Some x ≡ option_map view (slice_get items i) → said ≡ line x
    → Says before after (lines_of (λ item. line (view item)) (take i items) ++ said) → Says before after (lines_of (λ item. line (view item)) (take (i + 1) items))
said_view view line items i x said before after is same says =
    let own = at_view view (slice_get items i) x is in
    said_found (λ item. line (view item)) items i own.0 said before after own.1 (same ∙ ap line own.2) says

-- below the length some item is found
pub found_within : {A B : Type 0} (view : A → B) (items : List A) (i : ℕ) → i < length items → None ≡ option_map view (slice_get items i) → ⊥
found_within view [] i within is = omega arith
found_within view (item ∷ items) zero within is = cc
found_within view (item ∷ items) (suc i) within is = found_within view items i (omega arith) is

-- the symbol that is there has these parts
pub symbol_found : (found : Option Symbol) (name : List ℕ) (address : ℕ) (body : List ℕ)
    → Some name ≡ option_map (λ (s : Symbol). s.name) found → Some address ≡ option_map (λ (s : Symbol). s.address) found → Some body ≡ option_map (λ (s : Symbol). s.body) found
    → found ≡ Some (record { name = name; address = address; body = body })
symbol_found None name address body is_name is_address is_body = cc
symbol_found (Some symbol) name address body is_name is_address is_body =
    let named : symbol.name ≡ name = cc in
    let placed : symbol.address ≡ address = cc in
    let made : symbol.body ≡ body = cc in
    λ i. Some (record { name = named i; address = placed i; body = made i })
