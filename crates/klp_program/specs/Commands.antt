-- klpsim's commands, as the reader of words has them.
use Rattle.std.specs.Prelude.{◌≡◌, true, false, List, if◌then◌else◌, codes, bytes_eq, Option, Some, None}
use Rattle.clap.specs.Words.{App, Row, Rule, Text, app_of, first_of, new_app, new_rule, with_rule, with_subcommand}
use Rattle.clap.specs.declared.builder.command.Command.{Command}
use Rattle.clap.specs.declared.builder.command.Command.TheViews.{out-Command as fields_of}
use Rattle.klp_program.specs.Asked.{Asked, console, live}

abbrev pub required : Rule → Rule
required rule = record rule { required = true }

-- a catalog, or none
abbrev pub console_app : App
console_app = with_rule (new_app (codes "console")) (new_rule (codes "CATALOG"))

-- a catalog and steps
abbrev pub live_app : App
live_app = with_rule (with_rule (new_app (codes "live")) (required (new_rule (codes "CATALOG")))) (required (new_rule (codes "STEPS")))

-- one of the two, or neither. The words are those behind the program's name
abbrev pub klpsim_app : App
klpsim_app =
    let named : App = record (new_app (codes "klpsim")) { top = record (new_app (codes "klpsim")).top { no_binary_name = true } } in
    with_subcommand (with_subcommand named console_app.top) live_app.top

-- the command is this one, and has no argument that holds for its subcommands too
pub record IsCommand (command : Command) (app : App) : Type 0 where
  pub is_app : app_of command ≡ app
  pub local : (fields_of command).has_globals ≡ false

abbrev live_by : Option Text → Option Text → Option Asked
live_by (Some catalog) (Some steps) = Some (live catalog steps)
live_by catalog steps = None

-- what the subcommand that was met asks for, by the values of its arguments
abbrev pub asked_in : Option (Text × List Row) → Option Asked
asked_in None = Some (console None)
asked_in (Some met) = if bytes_eq met.0 (codes "live") then live_by (first_of (codes "CATALOG") met.1) (first_of (codes "STEPS") met.1)
    else Some (console (first_of (codes "CATALOG") met.1))
