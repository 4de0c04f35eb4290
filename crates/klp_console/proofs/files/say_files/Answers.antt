use Rattle.klp_console.proofs.files.say_files.Goals as goal

pub returns : goal.returns
returns g c = c.what_is_said_adds_up.ensures.adds_up _ _ _ _ _ c.say.ensures c.say_object_lines.ensures
