use Rattle.std.proofs.Common.{◌≡◌, arith, refl}
use Rattle.std.specs.Prelude.{codes}
use Rattle.std.proofs.lemmas.Slice.Eq.{text_from_reads}
use Rattle.klp_console_commands.proofs.line.keyword_of.Goals as goal

pub returns-in-shadow : goal.returns-in-shadow
returns-in-shadow c =
    let e : c.args.word.now ≡ codes "shadow" = text_from_reads _ (codes "shadow") (omega arith) (omega arith, (omega arith, (omega arith, (omega arith, (omega arith, (omega arith, tt)))))) in
    rw e refl

pub returns-in-cat : goal.returns-in-cat
returns-in-cat c =
    let e : c.args.word.now ≡ codes "cat" = text_from_reads _ (codes "cat") (omega arith) (omega arith, (omega arith, (omega arith, tt))) in
    rw e refl

pub returns-in-insmod : goal.returns-in-insmod
returns-in-insmod c =
    let e : c.args.word.now ≡ codes "insmod" = text_from_reads _ (codes "insmod") (omega arith) (omega arith, (omega arith, (omega arith, (omega arith, (omega arith, (omega arith, tt)))))) in
    rw e refl

pub returns-in-rmmod : goal.returns-in-rmmod
returns-in-rmmod c =
    let e : c.args.word.now ≡ codes "rmmod" = text_from_reads _ (codes "rmmod") (omega arith) (omega arith, (omega arith, (omega arith, (omega arith, (omega arith, tt))))) in
    rw e refl

pub returns-in-ls : goal.returns-in-ls
returns-in-ls c =
    let e : c.args.word.now ≡ codes "ls" = text_from_reads _ (codes "ls") (omega arith) (omega arith, (omega arith, tt)) in
    rw e refl

pub returns-in-stack : goal.returns-in-stack
returns-in-stack c =
    let e : c.args.word.now ≡ codes "stack" = text_from_reads _ (codes "stack") (omega arith) (omega arith, (omega arith, (omega arith, (omega arith, (omega arith, tt))))) in
    rw e refl

pub returns-in-rewind : goal.returns-in-rewind
returns-in-rewind c =
    let e : c.args.word.now ≡ codes "rewind" = text_from_reads _ (codes "rewind") (omega arith) (omega arith, (omega arith, (omega arith, (omega arith, (omega arith, (omega arith, tt)))))) in
    rw e refl
