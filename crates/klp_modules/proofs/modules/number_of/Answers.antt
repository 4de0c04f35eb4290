use Rattle.std.proofs.Common.{◌≡◌, ℕ, List, length, ◌++◌, ◌∷◌, [], ◌∙◌, ap, sym, None, false}
use Rattle.std.specs.Prelude.{position, bytes_eq, string_bytes}
use Rattle.std.specs.List.{list_any, position_or_len}
use Rattle.std.proofs.lemmas.List.{map-append}
use Rattle.klp_modules.specs.Kept.{texts_of}
use Rattle.klp_modules.proofs.NameLaws.{position-texts, position_or_len-texts, list_any-texts, list_any_absent, place_absent, adds_none, adds_one}
use Rattle.klp_modules.proofs.modules.number_of.Goals as goal

pub returns-in-Some : goal.returns-in-Some
returns-in-Some c =
    adds_none _ _ _ (sym (position-texts (bytes_eq c.args.name.now) c.args.names.now.keys) ∙ sym c.in-Some.ensures.index)

pub returns : goal.returns
returns c =
    let none : position (bytes_eq c.args.name.now) (texts_of c.args.names.now.keys) ≡ None =
    sym (position-texts (bytes_eq c.args.name.now) c.args.names.now.keys) ∙ sym c.in_default.ensures.index in
    let name_is : string_bytes c.in_ok-from_str.field-0 ≡ c.args.name.now = c.in_ok-from_str.ensures.ok in
    let test_is : bytes_eq (string_bytes c.in_ok-from_str.field-0) ≡ bytes_eq c.args.name.now = ap bytes_eq name_is in
    let absent : list_any (bytes_eq (string_bytes c.in_ok-from_str.field-0)) (texts_of c.args.names.now.keys) ≡ false =
    rw test_is (list_any_absent c.args.name.now (texts_of c.args.names.now.keys) none) in
    let new_key = list_any-texts (bytes_eq (string_bytes c.in_ok-from_str.field-0)) c.args.names.now.keys ∙ absent in
    let keys = rw new_key at c.in_ok-number.ensures.keys in
    let texts_are : texts_of c.insert_full.new.self.keys ≡ texts_of c.args.names.now.keys ++ c.args.name.now ∷ [] =
    ap texts_of keys ∙ (map-append string_bytes c.args.names.now.keys (c.in_ok-from_str.field-0 ∷ [])
    ∙ ap (λ (text : List ℕ). texts_of c.args.names.now.keys ++ text ∷ []) name_is) in
    let place : position_or_len (bytes_eq (string_bytes c.in_ok-from_str.field-0)) (texts_of c.args.names.now.keys) ≡ length (texts_of c.args.names.now.keys) =
    rw test_is (place_absent c.args.name.now (texts_of c.args.names.now.keys) none) in
    let number_is : c.in_ok-number.number ≡ length (texts_of c.args.names.now.keys) =
    c.in_ok-number.ensures.index ∙ (position_or_len-texts (bytes_eq (string_bytes c.in_ok-from_str.field-0)) c.args.names.now.keys ∙ place) in
    rw (texts_are, number_is) (adds_one (texts_of c.args.names.now.keys) c.args.name.now none)
