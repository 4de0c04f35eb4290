-- The symbols of a name, and those of one object among them.
use Rattle.std.specs.Prelude.{ℕ, suc, ◌==◌, List, [], ◌∷◌, if◌then◌else◌}
use Rattle.klp_modules.specs.declared.numbered.NumberedSymbol.{NumberedSymbol}
use Rattle.klp_modules.specs.declared.named_sites.NamedSite.{NamedSite}

-- the sites of an object's symbols
abbrev pub sites_of : ℕ → List NamedSite → List ℕ
sites_of object [] = []
sites_of object (named ∷ rest) = if named.object == object then named.site ∷ sites_of object rest else sites_of object rest

-- the symbols whose name has this number; the first symbol has this site
abbrev pub named_from : ℕ → ℕ → List NumberedSymbol → List NamedSite
named_from number site [] = []
named_from number site (symbol ∷ rest) =
    if symbol.name == number then record { object = symbol.object; site = site } ∷ named_from number (suc site) rest
    else named_from number (suc site) rest
