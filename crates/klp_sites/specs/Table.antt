-- The image and the stacks of its sites, in step.
use Rattle.std.specs.Prelude.{◌≡◌, ℕ, Bool, not, List, [], length, map, replicate}
use Rattle.klp_types.specs.declared.version.Entry.{Entry}
use Rattle.klp_types.specs.Entries.{is_empty}
use Rattle.klp_types.specs.Image.{Image}
use Rattle.klp_text.specs.TextImage.{TextImage, site_count}
use Rattle.klp_stack.specs.Stack.{entries_at}

pub record SiteTable : Type 0 where
  -- the image as it was given, without hooks
  pub image : Image
  -- for each object, whether it is loaded
  pub loaded : List Bool
  -- for each site its entries, newest first
  pub stacks : List (List Entry)

-- whether a stack has an entry: only then is its site hooked
abbrev pub is_stacked : List Entry → Bool
is_stacked entries = not (is_empty entries)

-- whether a site is hooked; false if there is no such site
abbrev pub is_hooked_at : List (List Entry) → ℕ → Bool
is_hooked_at stacks site = is_stacked (entries_at stacks site)

-- the image at this moment, with a hook at each site that has an entry
abbrev pub image_of : SiteTable → TextImage
image_of table = record { image = table.image; loaded = table.loaded; hooked = map is_stacked table.stacks }

-- an image and the stacks are in step
pub record IsInStep (image : TextImage) (stacks : List (List Entry)) : Type 0 where
  -- each site has a stack
  pub each_stack : length stacks ≡ site_count image.image
  -- a site is hooked exactly when its stack has an entry
  pub hooks : image.hooked ≡ map is_stacked stacks

-- the table at the start: the image as it was given, and no entries
abbrev pub opening : TextImage → SiteTable
opening image = record { image = image.image; loaded = image.loaded; stacks = replicate (site_count image.image) [] }
