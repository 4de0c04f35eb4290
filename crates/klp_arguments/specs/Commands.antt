-- The command of each program, as the reader of words has it.
use Rattle.std.specs.Prelude.{◌≡◌, true, false, codes, Some}
use Rattle.clap.specs.Words.{App, Rule, Text, app_of, new_app, new_rule, rule_of, with_rule}
use Rattle.clap.specs.declared.builder.action.ArgAction.TheVariants.{Append, SetTrue}
use Rattle.clap.specs.declared.builder.arg.Arg.{Arg}
use Rattle.clap.specs.declared.builder.command.Command.{Command}
use Rattle.klp_arguments.specs.declared.program.Program.{Program}
use Rattle.klp_arguments.specs.declared.program.Program.TheVariants.{Klpwatch, Klppage, Klplint, Klpsee, Klpko}

abbrev pub name_of : Program → Text
name_of Klpwatch = codes "klpwatch"
name_of Klppage = codes "klppage"
name_of Klplint = codes "klplint"
name_of Klpsee = codes "klpsee"
name_of Klpko = codes "klpko"

-- a program without arguments, which has a version. The words are those behind its name
abbrev pub bare : Text → App
bare name = record (new_app name) { top = record (new_app name).top { no_binary_name = true; has_version = true } }

abbrev pub required : Text → Rule
required id = record (new_rule id) { required = true }

abbrev pub trace : Rule
trace = record (new_rule (codes "TRACE")) { long = Some (codes "trace") }

-- `o` is 111
abbrev pub folder : Rule
folder = record (new_rule (codes "FOLDER")) { short = Some 111 }

-- an option that is given or not
abbrev pub flag : Text → Text → Rule
flag id long = record (new_rule id) { long = Some long; action = Some SetTrue }

abbrev pub json : Rule
json = flag (codes "JSON") (codes "json")

-- one file or more
abbrev pub logs : Rule
logs = record (required (codes "LOG")) { action = Some Append }

abbrev pub follow : Rule
follow = flag (codes "FOLLOW") (codes "follow")

-- an option with a value
abbrev pub valued : Text → Text → Rule
valued id long = record (new_rule id) { long = Some long }

-- what a log doesn't show of its patches
abbrev pub known : Rule
known = valued (codes "CATALOG") (codes "catalog")

abbrev pub metrics : Rule
metrics = flag (codes "METRICS") (codes "metrics")

abbrev pub watch_app : App
watch_app = with_rule (with_rule (bare (codes "klpwatch")) (required (codes "CATALOG"))) (required (codes "TRACE"))

abbrev pub page_app : App
page_app =
    let catalog = with_rule (bare (codes "klppage")) (required (codes "CATALOG")) in
    with_rule (with_rule (with_rule catalog (new_rule (codes "SCRIPT"))) (new_rule (codes "NAMES"))) trace

abbrev pub lint_app : App
lint_app = with_rule (with_rule (with_rule (bare (codes "klplint")) (required (codes "CATALOG"))) (new_rule (codes "SCRIPT"))) json

-- for the answer to logs
abbrev pub answer_app : App
answer_app = with_rule (with_rule (with_rule (bare (codes "klpsee")) logs) folder) json

abbrev pub see_app : App
see_app = with_rule (with_rule (with_rule answer_app known) follow) metrics

-- one module or more
abbrev pub patches : Rule
patches = record (required (codes "PATCH")) { action = Some Append }

abbrev pub symbols : Rule
symbols = valued (codes "SYMBOLS") (codes "symbols")

-- given once or more
abbrev pub objects : Rule
objects = record (valued (codes "MODULE") (codes "module")) { action = Some Append }

abbrev pub traceable : Rule
traceable = valued (codes "TRACEABLE") (codes "traceable")

-- the layout of the structs
abbrev pub layout : Rule
layout = valued (codes "BTF") (codes "btf")

abbrev pub kernel : Rule
kernel = valued (codes "KERNEL") (codes "kernel")

-- what is asked of which modules
abbrev pub question_app : App
question_app =
    let listed = with_rule (with_rule (bare (codes "klpko")) patches) (flag (codes "LIST") (codes "list")) in
    with_rule listed (flag (codes "MATRIX") (codes "matrix"))

-- for what the tables of modules say
abbrev pub table_app : App
table_app = with_rule (with_rule question_app layout) json

-- for what is known of the kernel, too
abbrev pub known_app : App
known_app = with_rule (with_rule (with_rule table_app symbols) objects) traceable

abbrev pub module_app : App
module_app = with_rule (with_rule known_app kernel) (flag (codes "CUT") (codes "cut"))

-- the command is this one
abbrev pub IsCommand : Command → App → Type 0
IsCommand command app = app_of command ≡ app

-- the argument is read by this rule, and holds for the program alone
pub record IsArg (arg : Arg) (rule : Rule) : Type 0 where
  pub is_rule : rule_of arg ≡ rule
  pub local : arg.global ≡ false
