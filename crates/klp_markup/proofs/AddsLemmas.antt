-- Adding one text after another.
use Rattle.std.proofs.Common.{◌≡◌, ℕ, false, List, [], ◌++◌, ◌∙◌, sym, ap, append_assoc, append-nil}
use Rattle.klp_markup.specs.Adds.{Written, Adds}

pub adds_append : (a b c : Written) (t u : List ℕ) → Adds a b t → Adds b c u → Adds a c (t ++ u)
adds_append a b c t u first second = record {
  adds = λ (calm : c.is_short ≡ false).
      let (still, behind) = second.adds calm in
      let (was, before) = first.adds still in
      (was, behind ∙ ap (λ text. text ++ u) before ∙ append_assoc a.text t u);
}

pub adds_nothing : (a : Written) → Adds a a []
adds_nothing a = record { adds = λ (calm : a.is_short ≡ false). (calm, sym (append-nil a.text)) }
