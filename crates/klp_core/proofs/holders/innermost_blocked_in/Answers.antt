use Rattle.std.proofs.Common.{◌≡◌, option_map, ◌∙◌, rules, tests}
use Rattle.std.specs.Prelude.{find, reverse}
use Rattle.std.proofs.lemmas.Iterator.Adapters.{YieldsList-from_rev_slice}
use Rattle.std.proofs.lemmas.Iterator.Search.{find_from_yields_List}
use Rattle.klp_tasks.specs.Members.{has}
use Rattle.klp_core.proofs.holders.innermost_blocked_in.Goals as goal

pub returns : goal.returns
returns c =
    let found : option_map (λ y. y.now) c.find.result ≡ find (has c.args.blocked.now) (reverse c.args.frames.now) =
    find_from_yields_List (has c.args.blocked.now) _ _ c.find.result c.find.ensures.ran (YieldsList-from_rev_slice c.args.frames.now cc) (λ x b q k. search (rules, tests)) in
    c.copied.ensures ∙ found
