use Rattle.klp_journal.proofs.PartLemmas.{value_read, other_length}
use Rattle.klp_journal.proofs.read_words.read_value.Goals as goal

pub returns-then-words-count : goal.returns-then-words-count
returns-then-words-count c = other_length c.args.count c.args.words.now c.if-words-count.true

pub returns : goal.returns
returns c =
    value_read c.args.count c.args.words.now c.unpack.new.bytes c.unpadded.result c.if-count-gt64.false c.if-words-count.false c.unpack.ensures.range c.unpack.ensures.bytes c.unpadded.ensures
