-- What is compared of two states when a patch is gone again.
use Rattle.std.specs.Prelude.{◌≡◌, ℕ, Bool, true}
use Rattle.klp_types.specs.declared.shadow.ShadowKey.{ShadowKey}
use Rattle.klp_types.specs.Setting.{Setting}
use Rattle.klp_types.specs.World.{variable}
use Rattle.klp_model.specs.State.{State}
use Rattle.klp_model.specs.Entries.{entries_of}
use Rattle.klp_model.specs.Bytes.{text_of}

-- two states have the same footprint, with the variables of these keys
pub record SameFootprint (setting : Setting) (keys : ShadowKey → Bool) (a b : State) : Type 0 where
  pub loaded : a.loaded ≡ b.loaded
  pub bytes : (object : ℕ) → text_of setting a object ≡ text_of setting b object
  pub entries : (site : ℕ) → entries_of setting a site ≡ entries_of setting b site
  -- the patches with the values of their states; ids and versions are in the catalog
  pub installed : a.world.installed ≡ b.world.installed
  pub pinned : a.pinned ≡ b.pinned
  pub variables : (key : ShadowKey) → keys key ≡ true → variable a.world key ≡ variable b.world key
