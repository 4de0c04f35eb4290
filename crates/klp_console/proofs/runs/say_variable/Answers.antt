use Rattle.klp_console.proofs.runs.say_variable.Goals as goal

pub returns-in-Some : goal.returns-in-Some
returns-in-Some g c = rw (← c.in-Some.ensures) c.say_value_line.ensures
