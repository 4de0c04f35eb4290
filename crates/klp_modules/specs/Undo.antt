-- Undo: a record, put back, restores the loaded flag of its object.
use Rattle.std.specs.Prelude.{slice_set}
use Rattle.klp_types.specs.declared.record.Record.{Record}
use Rattle.klp_types.specs.declared.record.Record.TheVariants.{LoadedFlag}
use Rattle.klp_modules.specs.Names.{ModuleTable}

-- the modules with one flag restored from the record. A record of another kind changes nothing, nor does one of an
-- object that doesn't exist
abbrev pub put_back : ModuleTable → Record → ModuleTable
put_back table (LoadedFlag object was) = record table { loaded = slice_set table.loaded object was }
put_back table other = table
