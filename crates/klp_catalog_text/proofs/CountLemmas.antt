-- Lines that have a fixed number of words.
use Rattle.std.proofs.Common.{◌≡◌, ◌≢◌, ℕ, List, [], ◌∷◌, length, Option, Err, refl}
use Rattle.klp_words.specs.Steps.{◌>>=◌}
use Rattle.std.specs.Prelude.{Ok}
use Rattle.klp_catalog_text.specs.declared.fault.TextFaultKind.TheVariants.{WrongCount}
use Rattle.klp_catalog_text.specs.declared.line.CatalogLine.TheVariants as line
use Rattle.klp_catalog_text.specs.Lines.{only_name, object_line, target_line, symbol_line, func_line}

pub object_by : (words : List (List ℕ)) → object_line words ≡ (only_name words >>= λ n. Ok (line.Object n))
object_by [] = refl
object_by (name ∷ []) = refl
object_by (name ∷ word ∷ words) = refl

pub target_by : (words : List (List ℕ)) → target_line words ≡ (only_name words >>= λ n. Ok (line.Target n))
target_by [] = refl
target_by (name ∷ []) = refl
target_by (name ∷ word ∷ words) = refl

pub symbol_count : (words : List (List ℕ)) → length words ≢ 3 → symbol_line words ≡ Err WrongCount
symbol_count [] h = refl
symbol_count (a ∷ []) h = refl
symbol_count (a ∷ b ∷ []) h = refl
symbol_count (a ∷ b ∷ c ∷ []) h = absurd (h refl)
symbol_count (a ∷ b ∷ c ∷ d ∷ words) h = refl

pub func_count : (target : Option (List ℕ)) (words : List (List ℕ)) → length words ≢ 3 → func_line target words ≡ Err WrongCount
func_count target [] h = refl
func_count target (a ∷ []) h = refl
func_count target (a ∷ b ∷ []) h = refl
func_count target (a ∷ b ∷ c ∷ []) h = absurd (h refl)
func_count target (a ∷ b ∷ c ∷ d ∷ words) h = refl
