use Rattle.klp_console.proofs.values.say_value_line.Goals as goal

pub returns : goal.returns
returns g c =
    let adds_up = c.what_is_said_adds_up.ensures.adds_up in
    adds_up _ _ _ _ _ (adds_up _ _ _ _ _ c.say.ensures c.say_value.ensures) c.say-2.ensures
