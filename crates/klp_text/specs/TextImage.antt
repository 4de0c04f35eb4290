-- What a contract sees of an image: the image as it was given, which of its objects are loaded, and which of its
-- sites are hooked.
use Rattle.std.specs.Prelude.{ℕ, ◌≤◌, ◌<◌, Bool, true, false, List, length, replicate, slice_get, slice_set, slice_index_or, Option, None, option_map, option_and_then, if◌then◌else◌}
use Rattle.klp_types.specs.Image.{Symbol, Object, Image, symbols_of}
use Rattle.klp_types.specs.Bytes.{text_where}

pub record TextImage : Type 0 where
  -- as it was given, with the bytes that the entry sites had then
  pub image : Image
  -- for each object, whether it is loaded
  pub loaded : List Bool
  -- for each site, whether it is hooked
  pub hooked : List Bool

-- how many sites an image has
abbrev pub site_count : Image → ℕ
site_count image = length (symbols_of image.objects)

-- an image when it is made: only object 0 is loaded, and nothing is hooked
abbrev pub opening : ℕ → List Object → TextImage
opening handler objects = record {
  image = record { handler = handler; objects = objects };
  loaded = slice_set (replicate (length objects) false) 0 true;
  hooked = replicate (length (symbols_of objects)) false;
}

abbrev pub is_hooked_at : TextImage → ℕ → Bool
is_hooked_at text site = slice_index_or text.hooked site false

-- the symbols of a loaded object, with the bytes that a processor would run; None if it isn't loaded
abbrev pub text_at : TextImage → ℕ → Option (List Symbol)
text_at text object = if slice_index_or text.loaded object false then text_where text.image (is_hooked_at text) object else None

-- the bytes of one symbol of a loaded object
abbrev pub bytes_at : TextImage → ℕ → ℕ → Option (List ℕ)
bytes_at text object number =
    option_map (λ (symbol : Symbol). symbol.body) (option_and_then (λ symbols. slice_get symbols number) (text_at text object))

-- the limits of every image: at least object 0, and at most 17 objects and 256 sites
pub record IsWithinLimits (objects : List Object) : Type 0 where
  pub kernel : 0 < length objects
  pub few_objects : length objects ≤ 17
  pub few_sites : length (symbols_of objects) ≤ 256
