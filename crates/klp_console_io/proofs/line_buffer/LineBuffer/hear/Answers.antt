use Rattle.std.proofs.Common.{◌≡◌, ℕ, ◌+◌, ◌<◌, ◌++◌, length, ap, ◌∙◌, arith, rules, length-append}
use Rattle.klp_types.specs.declared.limits.TheConstants.{MAX_CONSOLE_LINE}
use Rattle.klp_console_io.proofs.LineLemmas.{lines_and_rest-in_front, one_line_along, one_line_still, first_of_piece, finishes, goes_on}
use Rattle.klp_console_io.proofs.line_buffer.LineBuffer.hear.Goals as goal

pub returns-then-is_err-clause-too_long : goal.returns-then-is_err-clause-too_long
returns-then-is_err-clause-too_long c =
    let old = one_line_along c.self.inside.bytes.items c.args.self.now c.self.view_is c.self.invariant in
    let front = c.cut.result.0.now in
    let first = first_of_piece c.cut.result.1 (λ r. r.now) c.args.piece.now front c.cut.ensures.front c.cut.ensures.whole c.cut.ensures.rest in
    let no_room : MAX_CONSOLE_LINE < length c.self.inside.bytes.items + length front = search rules in
    let long : MAX_CONSOLE_LINE < length (c.args.self.now ++ front) = omega (arith, length-append {A = ℕ}, ap length c.self.view_is) in
    (c.args.self.now ++ front, first.0, lines_and_rest-in_front c.args.self.now c.args.piece.now front first.0 old first.1, long)

pub invariant_of-self-2 : goal.invariant_of-self-2
invariant_of-self-2 c =
    let taken : c.try_extend_from_slice.new.self.items ≡ c.self.inside.bytes.items ++ c.cut.result.0.now = search rules in
    one_line_still c.self.inside.bytes.items c.try_extend_from_slice.new.self.items c.cut.result.0.now c.self.invariant c.cut.ensures.front taken

pub returns-clause-finished : goal.returns-clause-finished
returns-clause-finished c =
    let front = c.cut.result.0.now in
    let old = one_line_along c.self.inside.bytes.items c.args.self.now c.self.view_is c.self.invariant in
    let taken : c.try_extend_from_slice.new.self.items ≡ c.self.inside.bytes.items ++ front = search rules in
    finishes c.cut.result.1 (λ r. r.now) c.args.self.now c.try_extend_from_slice.new.self.items c.args.piece.now front old
    (taken ∙ ap (λ line. line ++ front) c.self.view_is) c.cut.ensures.rest

pub returns-clause-unfinished : goal.returns-clause-unfinished
returns-clause-unfinished c =
    let front = c.cut.result.0.now in
    let taken : c.try_extend_from_slice.new.self.items ≡ c.self.inside.bytes.items ++ front = search rules in
    let whole = one_line_still c.self.inside.bytes.items c.try_extend_from_slice.new.self.items front c.self.invariant c.cut.ensures.front taken in
    goes_on c.cut.result.1 c.args.self.now c.try_extend_from_slice.new.self.items c.args.piece.now front whole
    (taken ∙ ap (λ line. line ++ front) c.self.view_is) c.cut.ensures.whole

pub returns-clause-limit : goal.returns-clause-limit
returns-clause-limit c = search rules
