-- The bucket of a shadow variable's key.
use Rattle.std.specs.Prelude.{ℕ, ◌+◌, ◌*◌, ◌/◌, ◌%◌}
use Rattle.klp_types.specs.declared.shadow.ShadowKey.{ShadowKey}

-- the bucket of a key: the object times the factor, plus the id, times the factor again, all with 64 bits; the top
-- six bits of that, as the kernel's hash takes them
unfoldable pub bucket_of : ShadowKey → ℕ
bucket_of key =
    ((key.obj * 7046029254386353131 % 18446744073709551616 + key.id) % 18446744073709551616 * 7046029254386353131) % 18446744073709551616
    / 288230376151711744
