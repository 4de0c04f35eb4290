-- The rows of a file's tables, each by the bytes from a place on.
use Rattle.std.specs.Prelude.{ℕ, ◌+◌, ◌%◌, ◌==◌, nat_lt, if◌then◌else◌, List, slice_index}
use Rattle.klp_elf.specs.Numbers.{number_at}
use Rattle.klp_elf.specs.declared.row.Section.{Section}
use Rattle.klp_elf.specs.declared.row.SectionKind.{SectionKind}
use Rattle.klp_elf.specs.declared.row.SectionKind.TheVariants.{Symbols, Relocations, NoBytes, Bytes}
use Rattle.klp_elf.specs.declared.row.Symbol.{Symbol}
use Rattle.klp_elf.specs.declared.row.SymbolKind.{SymbolKind}
use Rattle.klp_elf.specs.declared.row.SymbolKind.TheVariants.{Object, Function, Other as OtherSymbol}
use Rattle.klp_elf.specs.declared.row.SymbolSection.{SymbolSection}
use Rattle.klp_elf.specs.declared.row.SymbolSection.TheVariants.{Undefined, In, Livepatch, Nowhere}
use Rattle.klp_elf.specs.declared.row.Relocation.{Relocation}
use Rattle.klp_elf.specs.declared.row.RelocationKind.{RelocationKind}
use Rattle.klp_elf.specs.declared.row.RelocationKind.TheVariants.{Address, Distance, ShortAddress, Other as OtherRelocation}

-- SHT_SYMTAB is 2, SHT_RELA 4; SHT_NULL, 0, and SHT_NOBITS, 8, have no bytes
abbrev pub section_kind : ℕ → SectionKind
section_kind code =
    if code == 2 then Symbols else if code == 4 then Relocations else if code == 0 then NoBytes else if code == 8 then NoBytes else Bytes

-- STT_OBJECT is 1, STT_FUNC 2, in the lower four bits
abbrev pub symbol_kind : ℕ → SymbolKind
symbol_kind info = if info % 16 == 1 then Object else if info % 16 == 2 then Function else OtherSymbol

-- SHN_UNDEF is 0, SHN_LIVEPATCH 0xff20; other numbers from 0xff00 on are no sections
abbrev pub symbol_section : ℕ → SymbolSection
symbol_section number =
    if number == 0 then Undefined else if nat_lt number 0xff00 then In number else if number == 0xff20 then Livepatch else Nowhere

-- R_X86_64_64 is 1; R_X86_64_PC32 2, R_X86_64_PLT32 4; R_X86_64_32 10, R_X86_64_32S 11
abbrev pub relocation_kind : ℕ → RelocationKind
relocation_kind code =
    if code == 1 then Address else if code == 2 then Distance else if code == 4 then Distance
    else if code == 10 then ShortAddress else if code == 11 then ShortAddress else OtherRelocation

abbrev pub section_at : ℕ → List ℕ → Section
section_at at bytes = record {
  name = number_at 4 at bytes;
  kind = section_kind (number_at 4 (at + 4) bytes);
  flags = number_at 8 (at + 8) bytes;
  offset = number_at 8 (at + 24) bytes;
  size = number_at 8 (at + 32) bytes;
  link = number_at 4 (at + 40) bytes;
  info = number_at 4 (at + 44) bytes;
  entry_size = number_at 8 (at + 56) bytes;
}

abbrev pub symbol_at : ℕ → List ℕ → Symbol
symbol_at at bytes = record {
  name = number_at 4 at bytes;
  kind = symbol_kind (slice_index bytes (at + 4));
  section = symbol_section (number_at 2 (at + 6) bytes);
  value = number_at 8 (at + 8) bytes;
  size = number_at 8 (at + 16) bytes;
}

-- a relocation in a table for this section
abbrev pub relocation_at : ℕ → ℕ → List ℕ → Relocation
relocation_at section at bytes = record {
  section = section;
  offset = number_at 8 at bytes;
  kind = relocation_kind (number_at 4 (at + 8) bytes);
  symbol = number_at 4 (at + 12) bytes;
  addend = number_at 8 (at + 16) bytes;
}
