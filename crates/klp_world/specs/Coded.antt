-- Codes of this crate's types, by which their values are compared.
use Rattle.std.specs.Prelude.{ℕ, List, refl}
use Rattle.std.specs.Coded.{Coded, code_by, coded×, coded_list, coded_ℕ}
use Rattle.std.specs.FinMap as finite
use Rattle.klp_types.specs.declared.shadow.ShadowKey.{ShadowKey}
use Rattle.klp_types.specs.World.{Installed}
use Rattle.klp_types.specs.World.{World, Shadow}
use Rattle.klp_world.specs.Slots.{Slots}

abbrev pub key_code : Coded ShadowKey
key_code = code_by (ℕ × ℕ) (coded× coded_ℕ coded_ℕ) (λ k. (k.obj, k.id)) (λ p. record { obj = p.0; id = p.1 }) (λ _. refl)

abbrev pub installed_code : Coded Installed
installed_code =
    code_by (ℕ × List (ℕ × ℕ)) (coded× coded_ℕ (coded_list (coded× coded_ℕ coded_ℕ))) (λ i. (i.patch, i.values))
    (λ p. record { patch = p.0; values = p.1 }) (λ _. refl)

abbrev pub shadow_code : Coded Shadow
shadow_code = finite.code key_code (coded_list coded_ℕ)

abbrev pub slots_code : Coded Slots
slots_code = finite.code key_code coded_ℕ

abbrev pub world_code : Coded World
world_code =
    code_by (List Installed × Shadow) (coded× (coded_list installed_code) shadow_code) (λ w. (w.installed, w.shadow))
    (λ p. record { installed = p.0; shadow = p.1 }) (λ _. refl)
