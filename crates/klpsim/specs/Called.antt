-- Which program a path names.
use Rattle.std.specs.Prelude.{ℕ, Bool, true, nat_eq, ◌&&◌, ◌-◌, if◌then◌else◌, List, [], ◌∷◌, codes, length, take}
use Rattle.std.specs.List.{ends_with}
use Rattle.klpsim.specs.declared.called.CalledProgram.{CalledProgram}
use Rattle.klpsim.specs.declared.called.CalledProgram.TheVariants.{Klpsim, Klpwatch, Klppage, Klplint, Klpsee, Klpko}

-- nothing, or a path up to a slash
abbrev is_folder : List ℕ → Bool
is_folder [] = true
is_folder path = ends_with nat_eq path (codes "/")

-- the last part of the path is the name
abbrev pub ends_in : List ℕ → List ℕ → Bool
ends_in path name = ends_with nat_eq path name && is_folder (take (length path - length name) path)

abbrev pub program_at : List ℕ → CalledProgram
program_at path = if ends_in path (codes "klpwatch") then Klpwatch
    else if ends_in path (codes "klppage") then Klppage
    else if ends_in path (codes "klplint") then Klplint
    else if ends_in path (codes "klpsee") then Klpsee
    else if ends_in path (codes "klpko") then Klpko
    else Klpsim
