-- Lists of tasks, as a page spells them.
use Rattle.std.specs.Prelude.{ℕ, suc, ◌+◌, ◌-◌, ◌==◌, nat_lt, List, [], ◌∷◌, ◌++◌, codes, length, take, if◌then◌else◌}
use Rattle.std.specs.Fmt.{decimal}
use Rattle.klp_names.specs.Names.{Names, name_of}
use Rattle.klp_markup.specs.declared.tasks.TheConstants.{MAX_NAMED}
use Rattle.klp_markup.specs.Called.{called_text}

-- the word for one, or for another number
abbrev pub plural : ℕ → List ℕ → List ℕ → List ℕ
plural count one more = if count == 1 then one else more

-- of many tasks the first are named
abbrev pub named : ℕ → ℕ
named count = if nat_lt (MAX_NAMED + 1) count then MAX_NAMED else count

-- what stands before the name at this place, where there are so many tasks
abbrev pub join : ℕ → ℕ → List ℕ
join place count = if place == 0 then [] else if place + 1 == count then codes " and " else codes ", "

-- a task's number, and what it is called, if that is known
abbrev pub task_text : Names → ℕ → List ℕ
task_text names task = decimal task ++ called_text (name_of names.named task)

abbrev pub names_text : Names → ℕ → ℕ → List ℕ → List ℕ
names_text names count place [] = []
names_text names count place (task ∷ tasks) = join place count ++ task_text names task ++ names_text names count (suc place) tasks

abbrev pub more_text : ℕ → List ℕ
more_text count = if count == 0 then [] else codes " and " ++ decimal count ++ codes " more"

-- each of them: `task 1`, or `tasks 1, 2 and 3`
unfoldable pub each_text : Names → List ℕ → List ℕ
each_text names tasks = let count = length tasks in plural count (codes "task ") (codes "tasks ") ++ names_text names count 0 tasks

-- `task 1`, `tasks 1, 2 and 3`, or `tasks 1, 2, .. and 14 more`
unfoldable pub tasks_text : Names → List ℕ → List ℕ
tasks_text names tasks = let count = length tasks in
    plural count (codes "task ") (codes "tasks ") ++ names_text names count 0 (take (named count) tasks) ++ more_text (count - named count)
