-- What an image stores: the objects as they were given, and a table of the sites.
use Rattle.std.specs.Prelude.{◌≡◌, ℕ, ◌+◌, ◌^◌, ◌<◌, ◌≤◌, FitsSigned, Bool, false, List, [], ◌∷◌, ◌++◌, length, map, take, drop}
use Rattle.std.specs.Int.{w32}
use Rattle.std.specs.List.{All, AllZip}
use Rattle.klp_types.specs.Image.{Symbol, Object, symbols_of}
use Rattle.klp_types.specs.Bytes.{entry_offset, entry_end, entry_address, nop, with_entry, patched, displacement, call}
use Rattle.klp_text.specs.TextImage.{IsWithinLimits}
use Rattle.klp_text.specs.declared.stored.StoredSymbol.{StoredSymbol}

-- the site of each object's first symbol; the first object begins at this site
abbrev pub first_sites_from : ℕ → List Object → List ℕ
first_sites_from site [] = []
first_sites_from site (object ∷ objects) = site ∷ first_sites_from (site + length object.symbols) objects

-- a body with these five bytes over its entry site, which begins at this offset
abbrev pub with_entry_at : ℕ → List ℕ → List ℕ → List ℕ
with_entry_at offset entry body = take offset body ++ entry ++ drop (offset + 5) body

-- a body is long enough for its entry site
abbrev pub IsLong : Symbol → Type 0
IsLong symbol = entry_end symbol.body ≤ length symbol.body

-- a call at the entry site reaches the handler
abbrev pub IsNear : ℕ → Symbol → Type 0
IsNear handler symbol = FitsSigned w32 (displacement handler (entry_address symbol))

-- the symbol ends within the addresses of 64 bits
abbrev pub IsInRange : Symbol → Type 0
IsInRange symbol = symbol.address + length symbol.body < 2 ^ 64

-- a symbol with the bytes that it has now, and the call that its entry site has while it is hooked
pub record IsStored (handler : ℕ) (stored : StoredSymbol) (symbol : Symbol) : Type 0 where
  pub address : stored.address ≡ entry_address symbol
  pub offset : stored.offset ≡ entry_offset symbol.body
  pub call : stored.call ≡ call handler (entry_address symbol)
  pub body : stored.body.items ≡ (patched handler stored.hooked symbol).body

-- a symbol that isn't hooked
pub record IsResting (handler : ℕ) (stored : StoredSymbol) (symbol : Symbol) : Type 0 where
  pub address : stored.address ≡ entry_address symbol
  pub offset : stored.offset ≡ entry_offset symbol.body
  pub call : stored.call ≡ call handler (entry_address symbol)
  pub flag : stored.hooked ≡ false
  pub body : stored.body.items ≡ with_entry nop symbol.body

-- which of the sites are hooked
abbrev pub hooked_of : List StoredSymbol → List Bool
hooked_of stored = map (λ (s : StoredSymbol). s.hooked) stored

-- the tables agree with the objects
pub record IsKept (handler : ℕ) (objects : List Object) (loaded : List Bool) (first_sites : List ℕ) (stored : List StoredSymbol) : Type 0 where
  pub limits : IsWithinLimits objects
  pub long : All IsLong (symbols_of objects)
  pub near : All (IsNear handler) (symbols_of objects)
  pub in_range : All IsInRange (symbols_of objects)
  pub each_loaded : length loaded ≡ length objects
  pub first_sites_are : first_sites ≡ first_sites_from 0 objects
  pub stored_are : AllZip (IsStored handler) stored (symbols_of objects)
