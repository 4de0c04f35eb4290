-- Saying a text: it is gathered behind what was, and some of the first bytes are written.
use Rattle.std.specs.Prelude.{◌≡◌, ℕ, ◌+◌, ◌-◌, ◌<◌, ◌≤◌, true, false, List, [], ◌++◌, ◌⊎◌, length}
use Rattle.std.specs.Io.KnownBytes.{Appends}
use Rattle.klp_console_io.specs.Written.{Written}
use Rattle.klp_console_io.specs.Gathered.{Gathered}
use Rattle.klp_types.specs.declared.limits.TheConstants.{ANSWER_ROOM}

-- no write failed, and none took nothing
abbrev pub IsWell : Written → Written → Type 0
IsWell before after = (after.failures ≡ before.failures) × (after.stalls ≡ before.stalls)

-- the sink is to blame: one write failed, or one took nothing
abbrev pub IsToBlame : Written → Written → Type 0
IsToBlame before after =
    ((after.failures ≡ before.failures + 1) × (after.stalls ≡ before.stalls)) ⊎ ((after.failures ≡ before.failures) × (after.stalls ≡ before.stalls + 1))

-- The sink took the first bytes, `gone`, of what there was to write, and `rest` was left.
pub record Moves (before after : Written) (bytes gone rest : List ℕ) : Type 0 where
  pub cut : bytes ≡ gone ++ rest
  pub taken : Appends before.taken after.taken gone

-- The rest is gathered, and fits the room if what was gathered before did; or the sink is to blame, and at least one
-- byte is lost.
abbrev pub Leaves : Gathered × Written → Gathered × Written → List ℕ → Type 0
Leaves before after rest =
    ((after.0.has_failed ≡ false) × (after.0.bytes ≡ rest) × IsWell before.1 after.1 × (length before.0.bytes ≤ ANSWER_ROOM → length rest ≤ ANSWER_ROOM))
    ⊎ ((after.0.has_failed ≡ true) × IsToBlame before.1 after.1 × (0 < length rest))

-- The text was said: its bytes come behind those that were gathered. The first bytes of all of these, `gone`, were
-- written, and the rest is gathered or lost. Written bytes are no longer held. If the sink hasn't failed, either
-- nothing was written or all held bytes were.
pub record Spoken (before after : Gathered × Written) (text : List ℕ) : Type 0 where
  pub gone : List ℕ
  pub rest : List ℕ
  pub moves : Moves before.1 after.1 (before.0.bytes ++ text) gone rest
  pub leaves : Leaves before after rest
  pub held : after.0.held ≡ before.0.held - length gone
  pub whole : after.0.has_failed ≡ false → (gone ≡ []) ⊎ (after.0.held ≡ 0)

-- After a failure nothing is said, and nothing changes.
unfoldable pub Speaks : Gathered × Written → Gathered × Written → List ℕ → Type 0
Speaks before after text = (before.0.has_failed ≡ true → after ≡ before) × (before.0.has_failed ≡ false → Spoken before after text)

-- Saying a text, as one fact: between `before` and `after` it was said, or nothing changed since the sink had failed.
pub record Says (before after : Gathered × Written) (text : List ℕ) : Type 0 where
  pub speaks : Speaks before after text
