-- What a function may return that also takes memory.
use Rattle.std.specs.Prelude.{◌≡◌, Result, Ok, Err}
use Rattle.klp_catalog_text.specs.declared.fault.TextFaultKind.{TextFaultKind}
use Rattle.klp_catalog_text.specs.declared.fault.TextFaultKind.TheVariants.{NoMemory}

-- the fault is the one of the definition, or NoMemory, which is always allowed
abbrev pub Fails : {Y : Type 0} → TextFaultKind → Result Y TextFaultKind → Type 0
Fails NoMemory read = Unit {0}
Fails kind read = read ≡ Err kind

-- the result, seen through `view`, is the one of the definition, unless memory runs out
abbrev pub Gives : {X Y : Type 0} → (X → Y) → Result X TextFaultKind → Result Y TextFaultKind → Type 0
Gives view (Ok x) read = read ≡ Ok (view x)
Gives view (Err kind) read = Fails kind read

-- the same for a function that changes a value to `next`
abbrev pub Becomes : {X Y : Type 0} → Result X TextFaultKind → Y → Result Y TextFaultKind → Type 0
Becomes (Ok x) next read = read ≡ Ok next
Becomes (Err kind) next read = Fails kind read
