use Rattle.klp_console.proofs.text.say_version.Goals as goal

pub returns-in-Original : goal.returns-in-Original
returns-in-Original g c =
    let adds_up = c.what_is_said_adds_up.ensures.adds_up in
    rw c.in-Original.is (adds_up _ _ _ _ _ (adds_up _ _ _ _ _ c.say.ensures c.address.ensures) c.say-in-Original.ensures)
