use Rattle.klp_console.proofs.values.say_value.Goals as goal

pub returns-in-Some : goal.returns-in-Some
returns-in-Some g c = rw (← c.in-Some.ensures) c.number-in-Some.ensures

pub returns-in-None : goal.returns-in-None
returns-in-None g c =
    let adds_up = c.what_is_said_adds_up.ensures.adds_up in
    rw (← c.in-None.ensures, ← c.bytes.ensures) (adds_up _ _ _ _ _ c.say.ensures c.hex.ensures)
