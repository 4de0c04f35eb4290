-- Whole texts, computed.
use Rattle.std.proofs.Common.{◌≡◌, Ok, Err, refl}
use Rattle.std.specs.Prelude.{codes}
use Rattle.hex.specs.Hex.{decode_pairs}
use Rattle.klp_catalog_text.specs.declared.fault.TextFaultKind.TheVariants.{WrongCount}
use Rattle.klp_catalog_text.specs.Text.{plan_of}
use Rattle.klp_catalog_text.specs.Examples.{small_text, small_plan, longer_text, longer_plan}

pub small : plan_of small_text ≡ Ok small_plan
unfolding decode_pairs
small = refl

pub longer : plan_of longer_text ≡ Ok longer_plan
unfolding decode_pairs
longer = refl

pub cut : plan_of (codes "handler ffffffff81000000\nobject vmlinux\nsymbol f ffffffff81001000 e80000000090c3\npatch p\ntarget vmlinux\nfunc .klp.sym.vmlinux.f,0") ≡ Err (record { line = 6; kind = WrongCount })
unfolding decode_pairs
cut = refl
