use Rattle.std.proofs.Common.{◌≡◌, drop}
use Rattle.klp_timeline.specs.Course.{course_from, course_of}
use Rattle.klp_timeline.proofs.course.latest_course.Given as goal

abbrev pub invariant-loop-sentence : goal.invariant-loop-sentence
invariant-loop-sentence l = course_from l.course (drop l.sentence-index l.fn.sentences) ≡ course_of l.fn.sentences
