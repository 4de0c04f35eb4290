-- What is said of a whole log.
use Rattle.std.specs.Prelude.{Bool, true, false}
use Rattle.klp_contradictions.specs.declared.verdict.LogVerdict.{LogVerdict}
use Rattle.klp_contradictions.specs.declared.verdict.LogVerdict.TheVariants.{Explained, Broken, NotExplained, NotSeen}

-- by whether all was read that a verdict needs, whether a sample contradicts the rules, and whether a run shows each
-- sample: without all that is needed nothing else is said, and a contradiction outweighs a run
abbrev pub verdict_of : Bool → Bool → Bool → LogVerdict
verdict_of false is_broken is_explained = NotSeen
verdict_of true true is_explained = Broken
verdict_of true false true = Explained
verdict_of true false false = NotExplained
