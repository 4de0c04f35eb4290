-- Why rows that are read one by one can't be read.
use Rattle.std.proofs.Common.{◌≡◌, ℕ, ◌+◌, ◌*◌, ◌-◌, ◌<◌, ◌≤◌, List, [], ◌∷◌, ◌++◌, length, map, Option, Some, None, Result, Ok, Err, false, refl, sym, ap, ◌∙◌, subst, arith, inl, inr, ◌⊎◌, length-append}
use Rattle.std.proofs.lemmas.List.{length-map}
use Rattle.std.proofs.lemmas.List.Concat.{flat_map-append}
use Rattle.std.specs.List.{All, flat_map}
use Rattle.klp_elf.specs.declared.elf.Elf.{Elf}
use Rattle.klp_elf.specs.declared.look.Place.{Place}
use Rattle.klp_tables.specs.Faults.{functions_in, room_behind, FailsAtObject, FailsAtRow, HasMoreRows, HasOtherSize, IsFormFault, IsFunctionsFault, IsObjectFault, IsObjectTableFault, IsPatchFault, IsStaticFault}
use Rattle.klp_elf.specs.Looks.{pointer_at}
use Rattle.klp_elf.specs.declared.look.Pointer.TheVariants.{To}
use Rattle.klp_tables.specs.Forms.{form_of}
use Rattle.klp_tables.specs.Rows.{has_functions, has_size, moved, object_at, object_row, row_of, row_place, IsBegun, IsTable, ObjectFacts}
use Rattle.klp_tables.specs.declared.fault.TableFault.{TableFault}
use Rattle.klp_tables.specs.declared.finding.Form.{Form}
use Rattle.klp_tables.specs.declared.layout.Layout.{Layout}
use Rattle.klp_tables.specs.declared.fault.TableFault.TheVariants.{Layout as OtherSize, NoMemory}
use Rattle.klp_tables.specs.declared.limits.TheConstants.{MAX_FUNCTIONS, MAX_OBJECTS}
use Rattle.klp_tables.specs.declared.patch.Object.{Object}

module _ {A R : Type 0} (f : A → R) (row : ℕ → Result (Option R) TableFault) (xs : List A) where
  -- the row behind those that were read fails
  pub fails_behind : (limit : ℕ) (fault : TableFault) → IsBegun row (map f xs) → length xs ≤ limit → row (length xs) ≡ Err fault
      → FailsAtRow row limit fault
  fails_behind limit fault begun few fails =
      (map f xs, begun, subst (λ n. n ≤ limit) (sym (length-map xs f)) few, ap row (length-map xs f) ∙ fails)

  pub more_behind : (limit : ℕ) → IsBegun row (map f xs) → length xs ≡ limit + 1 → HasMoreRows row limit
  more_behind limit begun count = (map f xs, begun, length-map xs f ∙ count)

  pub other_size : (elf : Elf) (table : Place) (width wanted : ℕ) → IsTable row (map f xs) → wanted ≡ width * (length xs + 1)
      → has_size elf table wanted ≡ false → HasOtherSize row elf table width (OtherSize table wanted)
  other_size elf table width wanted is e size =
      (map f xs, is, ap (has_size elf table) here ∙ size, ap (OtherSize table) (sym here))
    where
      here : width * (length (map f xs) + 1) ≡ wanted
      here = ap (λ n. width * (n + 1)) (length-map xs f) ∙ sym e

-- a fault among others
module _ {A B C : Type 0} where
  pub or_first : A ⊎ B → A ⊎ (B ⊎ C)
  or_first (inl a) = inl a
  or_first (inr b) = inr (inl b)

  pub or_second : A ⊎ C → A ⊎ (B ⊎ C)
  or_second (inl a) = inl a
  or_second (inr c) = inr (inr c)

-- a fault of the rows is one of the table
pub or_wider : {A B C D : Type 0} → A ⊎ (B ⊎ C) → A ⊎ (B ⊎ (C ⊎ D))
or_wider (inl a) = inl a
or_wider (inr (inl b)) = inr (inl b)
or_wider (inr (inr c)) = inr (inr (inl c))

-- the functions of an object fail
pub functions_fail : (elf : Elf) (layout : Layout) (place : Place) (room : ℕ) (facts : ObjectFacts) (fault : TableFault)
    → object_at elf layout.object place ≡ Ok (Some facts) → (fault ≡ NoMemory) ⊎ IsFunctionsFault elf layout.function facts.functions room fault
    → (fault ≡ NoMemory) ⊎ IsObjectFault elf layout place room fault
functions_fail elf layout place room facts fault read (inl e) = inl e
functions_fail elf layout place room facts fault read (inr fails) = inr (inr (facts, read, fails))

-- the object behind those that were read fails
pub object_fails : (elf : Elf) (layout : Layout) (table : Place) (objects : List Object) (k room : ℕ) (place : Place) (fault : TableFault)
    → IsBegun (object_row elf layout.object table) (map row_of objects) → All (has_functions elf layout.function) objects
    → length objects ≡ k → k ≤ MAX_OBJECTS → room ≡ room_behind objects → place ≡ row_place table layout.object.size k
    → IsObjectFault elf layout place room fault → FailsAtObject elf layout table fault
object_fails elf layout table objects k room place fault begun functions count few is_room is_place fails = (
  objects,
  record { rows = begun; functions = functions },
  subst (λ n. n ≤ MAX_OBJECTS) (sym count) few,
  subst (λ n. IsObjectFault elf layout (row_place table layout.object.size n) (room_behind objects) fault) (sym count)
      (subst (λ r. IsObjectFault elf layout (row_place table layout.object.size k) r fault) is_room
      (subst (λ p. IsObjectFault elf layout p room fault) is_place fails)),
)

pub object_fault : {Z : Type 0} (elf : Elf) (layout : Layout) (table : Place) (objects : List Object) (k room : ℕ) (place : Place)
    (fault : TableFault) → IsBegun (object_row elf layout.object table) (map row_of objects) → All (has_functions elf layout.function) objects
    → length objects ≡ k → k ≤ MAX_OBJECTS → room ≡ room_behind objects → place ≡ row_place table layout.object.size k
    → (fault ≡ NoMemory) ⊎ IsObjectFault elf layout place room fault → (fault ≡ NoMemory) ⊎ (FailsAtObject elf layout table fault ⊎ Z)
object_fault elf layout table objects k room place fault begun functions count few is_room is_place (inl e) = inl e
object_fault elf layout table objects k room place fault begun functions count few is_room is_place (inr fails) =
    inr (inl (object_fails elf layout table objects k room place fault begun functions count few is_room is_place fails))

-- the tables of the struct that was found fail
pub table_fails : (elf : Elf) (layout : Layout) (patch table : Place) (fault : TableFault)
    → pointer_at elf (moved patch layout.patch.objects) ≡ Ok (To table)
    → (fault ≡ NoMemory) ⊎ IsObjectTableFault elf layout table fault → (fault ≡ NoMemory) ⊎ IsStaticFault elf layout patch fault
table_fails elf layout patch table fault points (inl e) = inl e
table_fails elf layout patch table fault points (inr fails) = inr (inr (inr (inr (table, points, fails))))

pub patch_fails : (elf : Elf) (layout : Layout) (form : Form) (fault : TableFault) → form_of elf layout.patch ≡ Ok form
    → (fault ≡ NoMemory) ⊎ IsFormFault elf layout form fault → (fault ≡ NoMemory) ⊎ IsPatchFault elf layout fault
patch_fails elf layout form fault found (inl e) = inl e
patch_fails elf layout form fault found (inr fails) = inr (inr (form, found, fails))

-- an object more leaves room for so many functions less
pub room_more : (xs : List Object) (x : Object) (room : ℕ) → room ≡ room_behind xs → room - length x.functions.items ≡ room_behind (xs ++ x ∷ [])
room_more xs x room is =
    rw (flat_map-append functions_in xs (x ∷ []), length-append (flat_map functions_in xs) (flat_map functions_in (x ∷ [])), is)
    (simp length-append (omega arith))
