-- Answers with numbers and bytes, computed.
use Rattle.std.proofs.Common.{◌≡◌, [], ◌∷◌, Some, Ok, negsuc, refl}
use Rattle.std.specs.Prelude.{codes}
use Rattle.std.specs.Fmt.{digits}
use Rattle.hex.specs.Hex.{encode_with}
use Rattle.klp_types.specs.declared.version.Version.TheVariants.{Original, New}
use Rattle.klp_model.specs.declared.event.Reply.TheVariants.{Pending, PreFailed, Value, Freed, Woken}
use Rattle.klp_console_commands.specs.declared.request.Query.TheVariants as query
use Rattle.klp_console.specs.Replies.{answer_text}
use Rattle.klp_console.specs.Queries.{functions_text, variable_text, query_text, shown_text}
use Rattle.klp_console.specs.Examples.{catalog, manager}

pub sent_pending : answer_text catalog (Ok (Pending 12)) ≡ codes "pending 12\n"
unfolding digits encode_with
sent_pending = refl

pub sent_failed : answer_text catalog (Ok (PreFailed 0 1 (negsuc 15))) ≡ codes "prefailed p m -16\n"
unfolding digits encode_with
sent_failed = refl

pub sent_number : answer_text catalog (Ok (Value (5 ∷ 0 ∷ 0 ∷ 0 ∷ 0 ∷ 0 ∷ 0 ∷ 0 ∷ []))) ≡ codes "value 5\n"
unfolding digits encode_with
sent_number = refl

pub sent_bytes : answer_text catalog (Ok (Value (10 ∷ 255 ∷ []))) ≡ codes "value x0aff\n"
unfolding digits encode_with
sent_bytes = refl

pub sent_freed : answer_text catalog (Ok (Freed 0)) ≡ codes "freed 0\n"
unfolding digits encode_with
sent_freed = refl

pub sent_woken : answer_text catalog (Ok (Woken (Original 0 ∷ New 0 2 ∷ Original 3 ∷ Original 4 ∷ []))) ≡ codes "woken .klp.sym.vmlinux.f,1 p:2 .klp.sym.vmlinux.d,2 .klp.sym.m.g,1\n"
unfolding digits encode_with
sent_woken = refl

pub read_patch_state : shown_text (query_text manager (query.PatchState 1)) ≡ codes "0\n"
unfolding digits encode_with
read_patch_state = refl

pub read_functions : shown_text (query_text manager (query.Object 0 0)) ≡ codes "f,1\nh,1\n"
unfolding digits encode_with
read_functions = refl

pub read_of_the_module : shown_text (query_text manager (query.Object 0 1)) ≡ codes "g,1\n"
unfolding digits encode_with
read_of_the_module = refl

pub read_second : functions_text catalog 2 0 ≡ codes "d,2\n"
unfolding digits encode_with
read_second = refl

pub read_mark : shown_text (query_text manager query.Mark) ≡ codes "0\n"
unfolding digits encode_with
read_mark = refl

pub read_variable : variable_text (Some (5 ∷ 0 ∷ 0 ∷ 0 ∷ 0 ∷ 0 ∷ 0 ∷ 0 ∷ [])) ≡ codes "value 5\n"
unfolding digits encode_with
read_variable = refl

pub looked_text : shown_text (query_text manager (query.Text 0)) ≡ codes "f ffffffff81001000 e8fbefffff90c3\nh ffffffff81002000 e8fbdfffffc3\nd ffffffff81003000 0f1f440000c3\nd ffffffff81004000 0f1f440000c3\n"
unfolding digits encode_with
looked_text = refl

pub looked_stack : shown_text (query_text manager (query.Stack 0)) ≡ codes "c f_c ffffffffc0003000\np f_p ffffffffc0001000\n"
unfolding digits encode_with
looked_stack = refl

pub looked_nop : shown_text (query_text manager (query.Stack 1)) ≡ codes "c nop\np h_p ffffffffc0001100\n"
unfolding digits encode_with
looked_nop = refl

pub looked_older : shown_text (query_text manager (query.Pick 1 0)) ≡ codes "p f_p ffffffffc0001000\n"
unfolding digits encode_with
looked_older = refl

pub looked_original : shown_text (query_text manager (query.Pick 1 2)) ≡ codes "original ffffffff81003005\n"
unfolding digits encode_with
looked_original = refl

pub looked_runs : shown_text (query_text manager (query.Runs 0 0)) ≡ codes "runs 1 2 3 0\n"
unfolding digits encode_with
looked_runs = refl

pub looked_runs_of_two : shown_text (query_text manager (query.Runs 0 1)) ≡ codes "runs 4 5 - -\n"
unfolding digits encode_with
looked_runs_of_two = refl
