use Rattle.klp_console.proofs.AnswerExamples.{sent_pending, sent_failed, sent_number, sent_bytes, sent_freed, sent_woken}
use Rattle.klp_console.proofs.examples.replies_are_sent_like_this.Goals as goal

pub returns-clause-pending : goal.returns-clause-pending
returns-clause-pending c = sent_pending

pub returns-clause-failed : goal.returns-clause-failed
returns-clause-failed c = sent_failed

pub returns-clause-number : goal.returns-clause-number
returns-clause-number c = sent_number

pub returns-clause-bytes : goal.returns-clause-bytes
returns-clause-bytes c = sent_bytes

pub returns-clause-freed : goal.returns-clause-freed
returns-clause-freed c = sent_freed

pub returns-clause-woken : goal.returns-clause-woken
returns-clause-woken c = sent_woken
