use Rattle.klp_catalog.proofs.catalog.Catalog.place.Goals as goal

pub returns-in_err-place-clause-once : goal.returns-in_err-place-clause-once
returns-in_err-place-clause-once g c = c.in_ok-found.ensures.keeps.once c.args.object

pub returns-clause-once : goal.returns-clause-once
returns-clause-once g c = c.in_ok-found.ensures.keeps.once c.args.object
