use Rattle.std.proofs.Common.{◌≡◌, arith, refl}
use Rattle.std.specs.Prelude.{codes}
use Rattle.std.proofs.lemmas.Slice.Eq.{text_from_reads}
use Rattle.klp_console_commands.proofs.line.keyword_of_four.Goals as goal

pub returns-in-task : goal.returns-in-task
returns-in-task c =
    let e : c.args.word.now ≡ codes "task" = text_from_reads _ (codes "task") (omega arith) (omega arith, (omega arith, (omega arith, (omega arith, tt)))) in
    rw e refl

pub returns-in-poll : goal.returns-in-poll
returns-in-poll c =
    let e : c.args.word.now ≡ codes "poll" = text_from_reads _ (codes "poll") (omega arith) (omega arith, (omega arith, (omega arith, (omega arith, tt)))) in
    rw e refl

pub returns-in-echo : goal.returns-in-echo
returns-in-echo c =
    let e : c.args.word.now ≡ codes "echo" = text_from_reads _ (codes "echo") (omega arith) (omega arith, (omega arith, (omega arith, (omega arith, tt)))) in
    rw e refl

pub returns-in-load : goal.returns-in-load
returns-in-load c =
    let e : c.args.word.now ≡ codes "load" = text_from_reads _ (codes "load") (omega arith) (omega arith, (omega arith, (omega arith, (omega arith, tt)))) in
    rw e refl

pub returns-in-pick : goal.returns-in-pick
returns-in-pick c =
    let e : c.args.word.now ≡ codes "pick" = text_from_reads _ (codes "pick") (omega arith) (omega arith, (omega arith, (omega arith, (omega arith, tt)))) in
    rw e refl

pub returns-in-runs : goal.returns-in-runs
returns-in-runs c =
    let e : c.args.word.now ≡ codes "runs" = text_from_reads _ (codes "runs") (omega arith) (omega arith, (omega arith, (omega arith, (omega arith, tt)))) in
    rw e refl

pub returns-in-mark : goal.returns-in-mark
returns-in-mark c =
    let e : c.args.word.now ≡ codes "mark" = text_from_reads _ (codes "mark") (omega arith) (omega arith, (omega arith, (omega arith, (omega arith, tt)))) in
    rw e refl

pub returns-in-seal : goal.returns-in-seal
returns-in-seal c =
    let e : c.args.word.now ≡ codes "seal" = text_from_reads _ (codes "seal") (omega arith) (omega arith, (omega arith, (omega arith, (omega arith, tt)))) in
    rw e refl
