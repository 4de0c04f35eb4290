use Rattle.klp_console_promises.proofs.console.serve.Goals as goal

pub returns : goal.returns
returns g c = c.serve.ensures
