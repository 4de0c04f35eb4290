use Rattle.std.proofs.Common.{◌≡◌, ◌++◌, false, drop}
use Rattle.klp_markup.specs.Tasks.{names_text}
use Rattle.klp_markup.proofs.tasks.add_names.Given as goal

-- what is written, and what is left to be
abbrev pub invariant-loop-place : goal.invariant-loop-place
invariant-loop-place l = l.sheet.is_short ≡ false
    → (l.initial.sheet.is_short ≡ false)
    × (l.sheet.text ++ names_text l.names l.count l.place (drop l.place l.tasks) ≡ l.initial.sheet.text ++ names_text l.names l.count 0 l.tasks)
