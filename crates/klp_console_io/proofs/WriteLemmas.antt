-- Bytes that are written in several writes.
use Rattle.std.proofs.Common.{◌≡◌, ℕ, ◌+◌, ◌-◌, ◌<◌, List, ◌++◌, length, take, drop, sym, ap, ◌∙◌, subst, arith, length-drop}
use Rattle.std.specs.Prelude.{Option}
use Rattle.std.proofs.Math.Seq.{take-length, take-add}
use Rattle.std.specs.Io.KnownBytes.{Appends}
use Rattle.std.proofs.KnownBytes.{Appends-trans}

-- all that is left from an index on
pub rest_of : (i : ℕ) (bytes : List ℕ) → take (length bytes - i) (drop i bytes) ≡ drop i bytes
rest_of i bytes = ap (λ n. take n (drop i bytes)) (sym (length-drop i bytes)) ∙ take-length (drop i bytes)

-- from an index within on some byte is left
pub some_left : (i : ℕ) (bytes : List ℕ) → i < length bytes → 0 < length (drop i bytes)
some_left i bytes within = omega (arith, length-drop i bytes)

-- n bytes more are taken
pub more_taken : (old now new : Option (List ℕ)) (bytes : List ℕ) (i n : ℕ) → Appends old now (take i bytes) → Appends now new (take n (take (length bytes - i) (drop i bytes))) → Appends old new (take (i + n) bytes)
more_taken old now new bytes i n before more =
    subst (Appends old new)
    (ap (λ rest. take i bytes ++ take n rest) (rest_of i bytes) ∙ sym (take-add i n bytes))
    (Appends-trans old now new (take i bytes) (take n (take (length bytes - i) (drop i bytes))) before more)
