-- Steps that may fail.
use Rattle.std.specs.Prelude.{Result, Ok, Err}
use Rattle.klp_elf.specs.declared.fault.LookFault.{LookFault}
use Rattle.klp_tables.specs.declared.fault.TableFault.{TableFault}
use Rattle.klp_tables.specs.declared.fault.TableFault.TheVariants.{Look}

-- runs the second step on the value of the first, if that didn't fail
infixl 10 ◌>>=◌
abbrev pub ◌>>=◌ : {A B E : Type 0} → Result A E → (A → Result B E) → Result B E
(Ok x) >>= f = f x
(Err e) >>= f = Err e

-- a look at a place of a table
abbrev pub looked : {A : Type 0} → Result A LookFault → Result A TableFault
looked (Ok x) = Ok x
looked (Err fault) = Err (Look fault)
