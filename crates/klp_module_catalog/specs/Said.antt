-- What a catalog says of livepatches, and what the tables of their modules say.
use Rattle.std.specs.Prelude.{ℕ, ◌≡◌, ◌==◌, ◌&&◌, bytes_eq, Bool, true, false, List, [], ◌∷◌, map, take, Option, Some, None, option_map, slice_get, if◌then◌else◌, Ok}
use Rattle.std.specs.List.{list_any}
use Rattle.klp_types.specs.declared.limits.TheConstants.{MAX_NAME}
use Rattle.klp_types.specs.declared.callback.Which.{Which}
use Rattle.klp_types.specs.declared.callback.Which.TheVariants.{Pre, Post, PreUn, PostUn}
use Rattle.klp_types.specs.Callbacks.{is_kind}
use Rattle.klp_types.specs.Compatible.{SystemState}
use Rattle.klp_types.specs.Image.{Object as ImageObject, Symbol}
use Rattle.klp_types.specs.Setting.{Callback}
use Rattle.klp_words.specs.Words.{is_name_byte}
use Rattle.klp_catalog_text.specs.Plan.{Plan, PlanFunction, PlanPatch, PlanTarget}
use Rattle.klp_catalog_text.specs.Text.{plan_of}
use Rattle.klp_tables.specs.declared.patch.Function.{Function}
use Rattle.klp_tables.specs.declared.patch.Object.{Object}
use Rattle.klp_tables.specs.declared.patch.State.{State}
use Rattle.klp_tables.specs.declared.patch.Replaces.{Replaces}
use Rattle.klp_tables.specs.declared.patch.Replaces.TheVariants.{No, Yes, Unknown}
use Rattle.klp_module_matrix.specs.Names.{name_of_row}
use Rattle.klp_module_fit.specs.declared.NamedPatch.{NamedPatch}
use Rattle.klp_module_symbols.specs.Kernel.{RowFacts}
use Rattle.klp_module_symbols.specs.Symbols.{ObjectFacts, SymbolFacts, objects_of}
use Rattle.klp_module_catalog.specs.Marks.{AreMarked}

-- a function that a patch changes: the symbol, its position, and the name of the new function as a catalog has it
pub record SaidFunction : Type 0 where
  pub symbol : List ℕ
  pub position : ℕ
  pub new_name : List ℕ

-- an object that a patch changes: its name, its functions in order, and which callbacks it has
pub record SaidTarget : Type 0 where
  pub object : Option (List ℕ)
  pub functions : List SaidFunction
  pub pre : Bool
  pub post : Bool
  pub preun : Bool
  pub postun : Bool

-- a patch: its name, whether it is cumulative, its system states and its objects in order
pub record SaidPatch : Type 0 where
  pub name : List ℕ
  pub replace : Bool
  pub states : List SystemState
  pub targets : List SaidTarget

-- a byte of a new function's name: what a catalog can't have there is a `-` (45)
abbrev pub spelled_byte : ℕ → ℕ
spelled_byte b = if is_name_byte b then b else 45

-- the name of a new function as a catalog has it: no longer than the longest, and a `-` if there is none
abbrev pub spelled_name : List ℕ → List ℕ
spelled_name [] = 45 ∷ []
spelled_name (b ∷ bytes) = map spelled_byte (take MAX_NAME (b ∷ bytes))

abbrev pub said_function : PlanFunction → SaidFunction
said_function f = record { symbol = f.symbol; position = f.sympos; new_name = f.new_name }

abbrev pub has_kind : Which → List Callback → Bool
has_kind which callbacks = list_any (λ (c : Callback). is_kind c.which which) callbacks

abbrev pub said_target : List ImageObject → PlanTarget → SaidTarget
said_target objects t = record {
  object = option_map (λ (o : ImageObject). o.name) (slice_get objects t.object);
  functions = map said_function t.functions;
  pre = has_kind Pre t.callbacks;
  post = has_kind Post t.callbacks;
  preun = has_kind PreUn t.callbacks;
  postun = has_kind PostUn t.callbacks;
}

-- what a catalog says of a patch
abbrev pub said_patch : List ImageObject → PlanPatch → SaidPatch
said_patch objects p = record { name = p.name; replace = p.replace; states = p.states; targets = map (said_target objects) p.targets }

abbrev pub row_function : Function → SaidFunction
row_function f = record { symbol = f.old_name.now; position = f.position; new_name = spelled_name f.new_name.now }

abbrev pub row_target : Object → SaidTarget
row_target o = record {
  object = Some (name_of_row o.row);
  functions = map row_function o.functions.items;
  pre = o.row.callbacks.pre_patch;
  post = o.row.callbacks.post_patch;
  preun = o.row.callbacks.pre_unpatch;
  postun = o.row.callbacks.post_unpatch;
}

abbrev pub row_state : State → SystemState
row_state s = record { id = s.id; version = s.version }

-- a patch whose code sets whether it replaces others is written as one that doesn't, and marked
abbrev pub is_cumulative : Replaces → Bool
is_cumulative Yes = true
is_cumulative No = false
is_cumulative Unknown = false

-- what the tables of a module say of a patch
abbrev pub row_patch : NamedPatch → SaidPatch
row_patch p = record {
  name = p.name.now;
  replace = is_cumulative p.patch.now.replaces;
  states = map row_state p.patch.now.states.items;
  targets = map row_target p.patch.now.objects.items;
}

-- a symbol has an address of the kernel, if one is known
abbrev pub is_address : ℕ → Option ℕ → Bool
is_address address None = true
is_address address (Some known) = address == known

abbrev pub is_symbol : Symbol → SymbolFacts → Bool
is_symbol symbol wanted = bytes_eq symbol.name wanted.name && is_address symbol.address wanted.address

-- the symbols are these, in order
abbrev pub are_symbols : List Symbol → List SymbolFacts → Bool
are_symbols [] [] = true
are_symbols (symbol ∷ symbols) (one ∷ wanted) = is_symbol symbol one && are_symbols symbols wanted
are_symbols symbols wanted = false

abbrev pub is_object : ImageObject → ObjectFacts → Bool
is_object object wanted = bytes_eq object.name wanted.name && are_symbols object.symbols wanted.symbols

-- the objects are these, in order, each with its symbols
abbrev pub are_objects : List ImageObject → List ObjectFacts → Bool
are_objects [] [] = true
are_objects (object ∷ objects) (one ∷ wanted) = is_object object one && are_objects objects wanted
are_objects objects wanted = false

-- The text is a catalog that has exactly these patches, in this order, and says of each what its tables say. Its objects
-- have the symbols that it should have over a kernel with these rows, and it marks what isn't known.
pub record IsCatalogOf (text : List ℕ) (rows : List RowFacts) (patches : List NamedPatch) : Type 0 where
  pub plan : Plan
  pub is_plan : plan_of text ≡ Ok plan
  pub says : map (said_patch plan.objects) plan.patches ≡ map row_patch patches
  pub objects : are_objects plan.objects (objects_of rows patches) ≡ true
  pub marks : AreMarked text (objects_of rows patches) patches
