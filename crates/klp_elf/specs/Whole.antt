-- A file that was read is that of its bytes.
use Rattle.std.specs.Prelude.{ℕ, ◌≡◌, List}
use Rattle.klp_elf.specs.Tables.{relocations_in, section_names_of, sections_of, symbol_names_in, symbols_in}
use Rattle.klp_elf.specs.declared.elf.Elf.{Elf}
use Rattle.klp_elf.specs.declared.row.Section.{Section}
use Rattle.klp_elf.specs.declared.table.SymbolTable.{SymbolTable}

-- the symbols of a file with these sections
pub record IsSymbolTable (bytes : List ℕ) (sections : List Section) (table : SymbolTable) : Type 0 where
  pub symbols : table.symbols.items ≡ symbols_in bytes sections
  pub names : table.names.now ≡ symbol_names_in bytes sections

pub record IsElf (bytes : List ℕ) (elf : Elf) : Type 0 where
  pub same_bytes : elf.bytes.now ≡ bytes
  pub sections : elf.sections.items ≡ sections_of bytes
  pub section_names : elf.section_names.now ≡ section_names_of bytes
  pub symbols : elf.symbols.items ≡ symbols_in bytes (sections_of bytes)
  pub symbol_names : elf.symbol_names.now ≡ symbol_names_in bytes (sections_of bytes)
  pub relocations : elf.relocations.items ≡ relocations_in bytes (sections_of bytes)
