-- Reading a text of names line by line.
use Rattle.std.proofs.Common.{◌≡◌, ◌==◌, if◌then◌else◌, add-one, ℕ, suc, ◌+◌, ◌≤◌, Bool, true, false, List, [], ◌∷◌, length, Err, refl, sym, ◌∙◌, arith}
use Rattle.std.proofs.lemmas.List.Splits.{length-slice_split}
use Rattle.std.proofs.lemmas.List.Sums.{count_by-le-length}
use Rattle.std.specs.List.{slice_split}
use Rattle.std.specs.Str.Lines.{lines, lines_of_parts}
use Rattle.klp_names.specs.declared.fault.NamesFaultKind.{NamesFaultKind}
use Rattle.klp_names.specs.declared.fault.NamesFaultKind.TheVariants.{NoMemory}
use Rattle.klp_names.specs.Names.{Names}
use Rattle.klp_names.specs.Text.{with_line, with_lines, names_of, IsOutcome, IsFaultOf}

-- the first lines of the text tell the names, and these are left
pub record IsReadTo (text : List ℕ) (number : ℕ) (rest : List (List ℕ)) (names : Names) : Type 0 where
  pub same : with_lines (suc number) rest names ≡ names_of text
  pub count : number + length rest ≡ length (lines text)

-- a line that isn't read is the text's first faulty one, unless memory ran out
pub fault_here : (text : List ℕ) (number : ℕ) (line : List ℕ) (rest : List (List ℕ)) (names after : Names) → IsReadTo text number (line ∷ rest) names
    → (kind : NamesFaultKind) → IsOutcome names (with_line names line) after (Err kind) → IsFaultOf text (number + 1) kind
fault_here text number line rest names after read NoMemory outcome = tt
fault_here text number line rest names after read kind outcome = sym read.same ∙ rw (outcome.0, add-one) refl
