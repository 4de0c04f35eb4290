-- What the marks of a catalog say, line by line.
use Rattle.std.proofs.Common.{◌≡◌, ℕ, Bool, true, false, ◌||◌, List, [], ◌∷◌, refl, sym, ap, ◌∙◌}
use Rattle.std.specs.List.{list_any}
use Rattle.klp_lint_findings.specs.declared.marks.Mark.{Mark}
use Rattle.klp_lint_findings.specs.Deciding.{is_unknown}
use Rattle.klp_lint_findings.specs.Marking.{is_unknown_line}

or_assoc : (a b c : Bool) → ((a || b) || c) ≡ (a || (b || c))
or_assoc true b c = refl
or_assoc false b c = refl

or_false : (a : Bool) → (a || false) ≡ a
or_false true = refl
or_false false = refl

-- a line was read, and its mark added
pub line_done : (before after : List Mark) (line : List ℕ) (lines rest : List (List ℕ)) (whole : Bool)
    → list_any is_unknown after ≡ (list_any is_unknown before || is_unknown_line line) → lines ≡ line ∷ rest
    → (list_any is_unknown before || list_any is_unknown_line lines) ≡ whole
    → (list_any is_unknown after || list_any is_unknown_line rest) ≡ whole
line_done before after line lines rest whole added cut so_far =
    ap (λ b. b || list_any is_unknown_line rest) added
    ∙ or_assoc (list_any is_unknown before) (is_unknown_line line) (list_any is_unknown_line rest)
    ∙ ap (λ ls. list_any is_unknown before || list_any is_unknown_line ls) (sym cut)
    ∙ so_far

-- no line is left
pub all_done : (marks : List Mark) (lines : List (List ℕ)) (whole : Bool) → lines ≡ []
    → (list_any is_unknown marks || list_any is_unknown_line lines) ≡ whole → list_any is_unknown marks ≡ whole
all_done marks lines whole none so_far =
    sym (or_false (list_any is_unknown marks))
    ∙ ap (λ ls. list_any is_unknown marks || list_any is_unknown_line ls) (sym none)
    ∙ so_far
