use Rattle.klp_console.proofs.runs.say_count.Goals as goal

pub returns-in-Some : goal.returns-in-Some
returns-in-Some g c =
    let adds_up = c.what_is_said_adds_up.ensures.adds_up in
    rw c.in-Some.is (adds_up _ _ _ _ _ c.say-in-Some.ensures c.number.ensures)
