use Rattle.std.proofs.Common.{ap, subst, w64}
use Rattle.std.proofs.lemmas.Int.{to_z-of_z}
use Rattle.std.specs.Fmt.{signed_decimal}
use Rattle.klp_console_io.specs.Says.{Says}
use Rattle.klp_console.proofs.replies.say_pre_failed.Goals as goal

pub returns : goal.returns
returns g c =
    let adds_up = c.what_is_said_adds_up.ensures.adds_up in
    -- the status that is said is the one that was passed
    let status = to_z-of_z w64 c.args.status c.ranges.status in
    adds_up _ _ _ _ _
    (adds_up _ _ _ _ _
    (adds_up _ _ _ _ _
    (adds_up _ _ _ _ _
    (adds_up _ _ _ _ _
    (adds_up _ _ _ _ _ c.say.ensures c.say_name.ensures)
    c.say-2.ensures)
    c.say_name-2.ensures)
    c.say-3.ensures)
    (subst (Says _ _) (ap signed_decimal status) c.signed.ensures))
    c.say-4.ensures
