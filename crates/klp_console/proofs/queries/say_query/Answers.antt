use Rattle.std.proofs.Common.{◌≡◌, ℕ, List, [], ◌++◌, ap}
use Rattle.std.specs.Prelude.{Result, Ok, Err}
use Rattle.std.specs.Result.{result_and, result_unwrap_or}
use Rattle.klp_model.specs.declared.event.Refusal.{Refusal}
use Rattle.klp_console.specs.Refusals.{refusal_text}
use Rattle.klp_console.specs.Queries.{query_text, shown_text}
use Rattle.klp_console.proofs.queries.say_query.Goals as goal

-- a refusal is said alone
shown_text-refused : (query : Result (List ℕ) Refusal) (refusal : Refusal) → ◌≡◌ {A = Result (Unit {0}) Refusal} (Err refusal) (result_and query (Ok (tt {0}))) → result_unwrap_or query [] ++ refusal_text refusal ≡ shown_text query
shown_text-refused (Ok text) refusal is = cc
shown_text-refused (Err own) refusal is =
    let same : refusal ≡ own = cc in
    ap refusal_text same

pub returns-in-Err-clause-says : goal.returns-in-Err-clause-says
returns-in-Err-clause-says g c =
    rw (← shown_text-refused (query_text c.args.manager.now c.args.query.now) c.in-Err.refusal c.in-Err.ensures.result)
    (c.what_is_said_adds_up.ensures.adds_up _ _ _ _ _ c.in-Err.ensures.says c.say_refusal.ensures)
