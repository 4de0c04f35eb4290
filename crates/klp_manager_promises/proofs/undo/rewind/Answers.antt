use Rattle.klp_manager_promises.proofs.undo.rewind.Goals as goal

pub returns-clause-rewound : goal.returns-clause-rewound
returns-clause-rewound g c = c.rewind.ensures.rewound
