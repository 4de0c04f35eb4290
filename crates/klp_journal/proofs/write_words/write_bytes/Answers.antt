use Rattle.std.proofs.Common.{◌≡◌, suc, ◌+◌, ◌*◌, ◌++◌, [], ◌∷◌, take, sym, ap, ◌∙◌, append_assoc, arith}
use Rattle.std.specs.Int.{w64, from_le_bytes}
use Rattle.std.proofs.lemmas.List.{get_or_default, take_rest}
use Rattle.klp_journal.specs.Words.{byte_words}
use Rattle.klp_journal.proofs.PartLemmas.{byte_words_more}
use Rattle.klp_journal.proofs.write_words.write_bytes.Goals as goal

pub loop-k-preserved : goal.loop-k-preserved
loop-k-preserved c =
    let bytes = c.args.bytes.now in
    let one : suc c.loop-k.k ≡ c.loop-k.k + 1 = omega arith in
    record {
      written = c.push_reserved.ensures.items ∙ ap (λ xs. xs ++ c.first_word.result ∷ []) c.loop-k.invariant.written
          ∙ append_assoc c.args.words.now.items (byte_words c.loop-k.k bytes) (c.first_word.result ∷ [])
          ∙ ap (λ xs. c.args.words.now.items ++ xs) (ap (λ w. byte_words c.loop-k.k bytes ++ w ∷ []) (c.first_word.ensures ∙ ap (λ xs. from_le_bytes w64 (take 8 xs)) (take_rest bytes (8 * c.loop-k.k)))
          ∙ sym (byte_words_more c.loop-k.k bytes) ∙ ap (λ n. byte_words n bytes) one);
      count = omega arith;
      room = omega arith;
    }

pub returns-clause-range : goal.returns-clause-range
returns-clause-range c = λ k d l. omega (arith, c.type_inv.bytes k, get_or_default c.args.bytes.now k d 0 l)
