-- Reading a text line by line.
use Rattle.std.proofs.Common.{◌≡◌, ◌==◌, if◌then◌else◌, add-one, ℕ, suc, ◌+◌, ◌≤◌, Bool, true, false, List, [], ◌∷◌, length, Result, Ok, Err, refl, sym, ap, ◌∙◌, arith}
use Rattle.std.proofs.lemmas.List.Splits.{length-slice_split}
use Rattle.std.proofs.lemmas.List.Sums.{count_by-le-length}
use Rattle.std.specs.List.{slice_split}
use Rattle.std.specs.Str.Lines.{lines, lines_of_parts}
use Rattle.klp_catalog_text.specs.declared.fault.TextFaultKind.{TextFaultKind}
use Rattle.klp_catalog_text.specs.declared.fault.TextFaultKind.TheVariants.{NoMemory}
use Rattle.klp_catalog_text.specs.declared.fault.TextFault.{TextFault}
use Rattle.klp_catalog_text.specs.Plan.{Plan}
use Rattle.klp_catalog_text.specs.Gives.{Fails}
use Rattle.klp_words.specs.Steps.{◌>>=◌}
use Rattle.klp_catalog_text.specs.Draft.{Draft, empty_draft}
use Rattle.klp_catalog_text.specs.Text.{with_line, at_line, with_lines, finished, finished_with, plan_of, NoFaultBefore, IsReached, IsFaultOf}

-- the first lines of the text give the draft, and these are left
pub record IsReadTo (text : List ℕ) (number : ℕ) (rest : List (List ℕ)) (draft : Draft) : Type 0 where
  pub same : with_lines (suc number) rest draft ≡ with_lines 1 (lines text) empty_draft
  pub count : number + length rest ≡ length (lines text)

-- there are no more lines than bytes, but for a last one
lines_few : (parts : List (List ℕ)) → length (lines_of_parts parts) ≤ length parts
lines_few [] = omega arith
lines_few (part ∷ []) = last_few (length part == 0)
  where
    last_few : (empty : Bool) → length (if empty then [] else part ∷ []) ≤ 1
    last_few true = omega arith
    last_few false = omega arith
lines_few (part ∷ next ∷ parts) = omega (arith, lines_few (next ∷ parts))

pub length-lines : (text : List ℕ) → length (lines text) ≤ length text + 1
length-lines text = omega (arith, lines_few (slice_split (λ b. b == 10) text), length-slice_split (λ b. b == 10) text, count_by-le-length (λ b. b == 10) text)

weaker : (line : ℕ) (read : Result Plan TextFault) → NoFaultBefore (suc line) read → NoFaultBefore line read
weaker line (Ok plan) h = tt
weaker line (Err fault) h = λ some. let later = h some in omega arith

at_end : (line : ℕ) (read : Result Plan TextFaultKind) → NoFaultBefore line (at_line 0 read)
at_end line (Ok plan) = tt
at_end line (Err kind) = λ some. absurd (omega arith)

-- what is left of the text has no fault at an earlier line
no_earlier : (line : ℕ) (rest : List (List ℕ)) (draft : Draft) → NoFaultBefore line (with_lines line rest draft >>= finished)
no_earlier line [] draft = at_end line (finished_with draft.handler draft)
no_earlier line (text ∷ more) draft = by (with_line draft text) (λ next. no_earlier (suc line) more next)
  where
    by : (read : Result Draft TextFaultKind) → ((next : Draft) → NoFaultBefore (suc line) (with_lines (suc line) more next >>= finished))
        → NoFaultBefore line ((at_line line read >>= with_lines (suc line) more) >>= finished)
    by (Ok next) later = weaker line (with_lines (suc line) more next >>= finished) (later next)
    by (Err kind) later = λ some. omega arith

module _ (text : List ℕ) (number : ℕ) (line : List ℕ) (rest : List (List ℕ)) (draft : Draft) (read : IsReadTo text number (line ∷ rest) draft) where
  plan_is : plan_of text ≡ (with_lines (suc number) (line ∷ rest) draft >>= finished)
  plan_is = ap (λ r. r >>= finished) (sym read.same)

  ran_out : IsReached text (number + 1)
  ran_out = record {
    from_one = omega arith;
    in_text = omega (arith, read.count);
    first = rw (add-one, plan_is) (no_earlier (suc number) (line ∷ rest) draft);
  }

  faulty : (kind : TextFaultKind) → with_line draft line ≡ Err kind → plan_of text ≡ Err (record { line = number + 1; kind = kind })
  faulty kind h = plan_is ∙ rw (h, add-one) refl

  -- a line that isn't read is the text's first faulty one, unless memory ran out
  pub fault_here : (kind : TextFaultKind) → Fails kind (with_line draft line) → IsFaultOf text (number + 1) kind
  fault_here NoMemory h = ran_out
  fault_here kind h = faulty kind h
