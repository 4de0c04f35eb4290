use Rattle.std.proofs.Common.{◌≡◌, ℕ, ◌++◌, List, length, sym, subst, arith}
use Rattle.klp_journal.specs.Words.{words_of, IsRecord}
use Rattle.klp_journal.specs.Small.{row_of}
use Rattle.klp_journal.specs.declared.small.SmallRecord.{SmallRecord}
use Rattle.klp_journal.proofs.LastLemmas.{is_last}
use Rattle.klp_journal.proofs.small.small.Goals as goal
use Rattle.klp_journal.proofs.small.small.Goals.{in-520, in-513, in-519}

-- the words end with this record, which has three
abbrev Found : List ℕ → SmallRecord → Type 0
Found words newest = (older : List ℕ) × ((words ≡ older ++ words_of (row_of newest)) × (3 ≡ length (words_of (row_of newest))) × IsRecord (row_of newest))

pub returns : goal.returns
returns c =
    let words = c.args.words.now in
    elim c.match-words-last.branch [
      | in-520 w ↦
          subst (Found words) (sym w.record-is) (is_last words 8 2 c.requires (omega arith) w.in-520.is (row_of w.hook-record.result) w.hook-record.ensures)
      | in-513 w ↦
          subst (Found words) (sym w.record-is) (is_last words 1 2 c.requires (omega arith) w.in-513.is (row_of w.resting-record.result) w.resting-record.ensures)
      | in-519 w ↦
          subst (Found words) (sym w.record-is) (is_last words 7 2 c.requires (omega arith) w.in-519.is (row_of w.no_entry-record.result) w.no_entry-record.ensures)
    ]
