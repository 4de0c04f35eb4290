-- Two servings of the same lines do the same, as far as the journal has room.
use Rattle.std.proofs.Common.{◌≡◌, ◌≢◌, ℕ, ◌+◌, ◌-◌, ◌<◌, ◌≤◌, Bool, true, false, List, [], ◌∷◌, ◌++◌, length, take, refl, sym, ap, subst, ◌∙◌, arith, ⊎_elim, length-append}
use Rattle.std.specs.Prelude.{codes, Option, Some, None, Result, Ok, Err, IfOk, OnErr, if◌then◌else◌}
use Rattle.std.specs.Fmt.{decimal}
use Rattle.std.specs.Io.KnownBytes.{Appends}
use Rattle.std.proofs.lemmas.List.{map-append, take-map, length-map}
use mathlib.Core.List.{IsPrefix}
use Rattle.klp_model.specs.declared.event.Event.{Event}
use Rattle.klp_model.specs.declared.event.Reply.{Reply}
use Rattle.klp_model.specs.declared.event.Refusal.{Refusal}
use Rattle.klp_model.specs.declared.event.Refusal.TheVariants.{JournalFull, NotFound}
use Rattle.klp_model.specs.Legal.{History, state_after_history}
use Rattle.klp_model.specs.Run.{answer}
use Rattle.klp_model.specs.State.{State, is_installed}
use Rattle.klp_modules.specs.Names.{names_of}
use Rattle.klp_catalog_text.specs.Draft.{patch_names_of}
use Rattle.klp_journal.specs.Journal.{Group, has_room}
use Rattle.klp_manager_state.specs.Events.{after_event}
use Rattle.klp_manager_state.specs.Managed.{Managed, setting_of}
use Rattle.klp_core.specs.Journaled.{Journaled, history_in}
use Rattle.klp_core.specs.Rewinding.{IsRewound}
use Rattle.klp_core.specs.Taking.{Appends as AppendsGroup, unless_full}
use Rattle.klp_console_commands.specs.declared.fault.LineFault.{LineFault}
use Rattle.klp_console_commands.specs.declared.request.Request.{Request}
use Rattle.klp_console_commands.specs.declared.request.Request.TheVariants.{Take, ForceNothing, Rewind, Seal, Ask}
use Rattle.klp_console_commands.specs.declared.request.Query.{Query}
use Rattle.klp_console_commands.specs.declared.request.Query.TheVariants as query
use Rattle.klp_console_commands.specs.Names.{NameResolver}
use Rattle.klp_console_commands.specs.Lines.{request_of}
use Rattle.klp_console.specs.Answered.{Answer, IsAnswered, IsTakenAs, IsRewoundAs, IsDone, IsDoneIf, names_in, replied, seen}
use Rattle.klp_console.specs.Alike.{AreAlike, NoneIsFull}
use Rattle.klp_console.specs.Lines.{AreAnswered, texts_of}
use Rattle.klp_console.specs.Queries.{query_text}
use Rattle.klp_console.specs.Refusals.{refusal_text}
use Rattle.klp_console.specs.Replies.{done_text, answer_text}
use Rattle.klp_console.specs.Served.{Console, HasWriteFailed}

abbrev pub IsNotFull : Answer → Type 0
IsNotFull answer = answer.text ≢ refusal_text JournalFull

as_many : (a b : Journaled) → AreAlike a b → length a.groups ≡ length b.groups
as_many a b alike =
    sym (length-map a.groups (λ (g : Group). (g.event, g.reply))) ∙ ap length alike.events ∙ length-map b.groups (λ (g : Group). (g.event, g.reply))

same_managed : (a b : Managed) → a.image ≡ b.image → a.catalog ≡ b.catalog → a.state ≡ b.state → a ≡ b
same_managed a b image catalog state =
    ap (λ i. record { image = i; catalog = a.catalog; state = a.state }) image ∙ ap (λ c. record { image = b.image; catalog = c; state = a.state }) catalog
    ∙ ap (λ s. record { image = b.image; catalog = b.catalog; state = s }) state

where_same : (a b a1 b1 : Journaled) → AreAlike a b → a1 ≡ a → b1 ≡ b → AreAlike a1 b1
where_same a b a1 b1 alike p q = record {
  managed = ap (λ (m : Journaled). m.managed) p ∙ alike.managed ∙ sym (ap (λ (m : Journaled). m.managed) q);
  base = ap (λ (m : Journaled). m.base) p ∙ alike.base ∙ sym (ap (λ (m : Journaled). m.base) q);
  events = ap (λ (m : Journaled). history_in m.groups) p ∙ alike.events ∙ sym (ap (λ (m : Journaled). history_in m.groups) q);
}

-- an answer that tells of no full journal is that of the rules
by_the_rules : (room : Bool) (own r : Result Reply Refusal) → r ≡ unless_full room own → (r ≡ Err JournalFull → ⊥) → r ≡ own
by_the_rules room (Err refusal) r is not = is
by_the_rules true (Ok reply) r is not = is
by_the_rules false (Ok reply) r is not = absurd (not is)

sent_by : (a a1 : Journaled) (event : Event) (x : Answer) → IsNotFull x → (taken : IsTakenAs a a1 event x) → taken.reply ≡ answer (setting_of a.managed) a.managed.state event
sent_by a a1 event x not taken =
    by_the_rules (has_room a.groups) (answer (setting_of a.managed) a.managed.state event) taken.reply taken.taken.answered
    (λ full. not (ap (λ (y : Answer). y.text) taken.sent ∙ ap (answer_text a1.managed.catalog) full))

history_on : (a a1 : Journaled) (event : Event) (reply : Reply) → AppendsGroup a a1 event reply → history_in a1.groups ≡ history_in a.groups ++ (event, reply) ∷ []
history_on a a1 event reply on =
    ap history_in on.groups ∙ map-append (λ (g : Group). (g.event, g.reply)) a.groups (on.group ∷ [])
    ∙ ap (λ (e : Event × Reply). history_in a.groups ++ e ∷ []) (ap (λ e. (e, on.group.reply)) on.logged.event_is ∙ ap (λ r. (event, r)) on.logged.reply_is)

taken_alike : (a b a1 b1 : Journaled) (event : Event) → AreAlike a b → (r : Result Reply Refusal) → IfOk r (λ reply. AppendsGroup a a1 event reply) → OnErr r (a1 ≡ a)
    → IfOk r (λ reply. AppendsGroup b b1 event reply) → OnErr r (b1 ≡ b) → AreAlike a1 b1
taken_alike a b a1 b1 event alike (Ok reply) on none other none_other = record {
  managed = on.left ∙ ap (λ m. after_event m event) alike.managed ∙ sym other.left;
  base = on.base ∙ alike.base ∙ sym other.base;
  events = history_on a a1 event reply on ∙ ap (λ (h : History). h ++ (event, reply) ∷ []) alike.events ∙ sym (history_on b b1 event reply other);
}
taken_alike a b a1 b1 event alike (Err refusal) none same none_other other = where_same a b a1 b1 alike same other

looks_alike : (managed : Managed) (base other : State) (groups more : List Group) → length groups ≡ length more → (query : Query)
    → query_text (record { managed = managed; base = base; groups = groups }) query ≡ query_text (record { managed = managed; base = other; groups = more }) query
looks_alike managed base other groups more e (query.Enabled patch) = refl
looks_alike managed base other groups more e (query.Transition patch) = refl
looks_alike managed base other groups more e (query.PatchState task) = refl
looks_alike managed base other groups more e query.Patches = refl
looks_alike managed base other groups more e (query.Patch patch) = refl
looks_alike managed base other groups more e (query.Object patch object) = refl
looks_alike managed base other groups more e (query.Variable key) = refl
looks_alike managed base other groups more e (query.Text object) = refl
looks_alike managed base other groups more e (query.Stack site) = refl
looks_alike managed base other groups more e (query.Pick task site) = refl
looks_alike managed base other groups more e (query.Runs patch object) = refl
looks_alike managed base other groups more e query.Mark = ap (λ n. Ok (decimal n ++ codes "\n")) e

shows_alike : (a b : Journaled) → AreAlike a b → (query : Query) → query_text a query ≡ query_text b query
shows_alike a b alike query =
    ap (λ (m : Managed). query_text (record { managed = m; base = a.base; groups = a.groups }) query) alike.managed
    ∙ looks_alike b.managed a.base b.base a.groups b.groups (as_many a b alike) query

rewound_alike : (a b a1 b1 : Journaled) (mark : ℕ) → AreAlike a b → IsRewound a a1 mark → IsRewound b b1 mark → AreAlike a1 b1
rewound_alike a b a1 b1 mark alike back other =
    let events : history_in (take mark a.groups) ≡ history_in (take mark b.groups) =
    sym (take-map (λ (g : Group). (g.event, g.reply)) mark a.groups) ∙ ap (take mark) alike.events ∙ take-map (λ (g : Group). (g.event, g.reply)) mark b.groups in
    let state : a1.managed.state ≡ b1.managed.state =
    back.state ∙ ap (λ (m : Managed). state_after_history (setting_of m) a.base (history_in (take mark a.groups))) alike.managed
    ∙ ap (λ s. state_after_history (setting_of b.managed) s (history_in (take mark a.groups))) alike.base
    ∙ ap (state_after_history (setting_of b.managed) b.base) events ∙ sym other.state in record {
      managed = same_managed a1.managed b1.managed
          (back.image ∙ ap (λ (m : Managed). m.image) alike.managed ∙ sym other.image)
          (back.catalog ∙ ap (λ (m : Managed). m.catalog) alike.managed ∙ sym other.catalog) state;
      base = back.base ∙ alike.base ∙ sym other.base;
      events = ap history_in back.groups ∙ events ∙ sym (ap history_in other.groups);
    }

-- one line
module _ (a b a1 b1 : Journaled) (x y : Answer) (alike : AreAlike a b) (fits : IsNotFull x) (fits_too : IsNotFull y) where
  Same : Type 0
  Same = (x ≡ y) × AreAlike a1 b1

  taken_both : (event : Event) → IsTakenAs a a1 event x → IsTakenAs b b1 event y → Same
  unfolding Same
  taken_both event one two =
      let same : one.reply ≡ two.reply =
      sent_by a a1 event x fits one ∙ ap (λ (m : Managed). answer (setting_of m) m.state event) alike.managed ∙ sym (sent_by b b1 event y fits_too two) in
      let left : AreAlike a1 b1 =
      taken_alike a b a1 b1 event alike one.reply one.taken.accepted one.taken.refused
      (subst (λ r. IfOk r (λ reply. AppendsGroup b b1 event reply)) (sym same) two.taken.accepted) (subst (λ r. OnErr r (b1 ≡ b)) (sym same) two.taken.refused) in
      (one.sent ∙ ap (λ (m : Managed). replied m.catalog one.reply) left.managed ∙ ap (replied b1.managed.catalog) same ∙ sym two.sent, left)

  rewound_both : (mark : ℕ) → IsRewoundAs a a1 mark x → IsRewoundAs b b1 mark y → Same
  unfolding Same
  rewound_both mark one two =
      ⊎_elim
      (λ p. ⊎_elim (λ q. (p.2 ∙ sym q.2, rewound_alike a b a1 b1 mark alike p.1 q.1)) (λ q. absurd (omega (arith, p.0, q.0, as_many a b alike))) two)
      (λ p. ⊎_elim (λ q. absurd (omega (arith, p.0, q.0, as_many a b alike))) (λ q. (p.2 ∙ sym q.2, where_same a b a1 b1 alike p.1 q.1)) two)
      one

  done_both : (request : Request) → IsDone a a1 request x → IsDone b b1 request y → Same
  unfolding Same
  done_both (Take event) one two = taken_both event one two
  done_both (ForceNothing patch) one two = (
    one.1 ∙ ap (λ (m : Managed). seen (if is_installed m.state patch then Ok done_text else Err NotFound)) alike.managed ∙ sym two.1,
    where_same a b a1 b1 alike one.0 two.0,
  )
  done_both (Rewind mark) one two = rewound_both mark one two
  done_both Seal one two = (
    one.1 ∙ sym two.1,
    record {
      managed = ap (λ (m : Journaled). m.managed) one.0 ∙ alike.managed ∙ sym (ap (λ (m : Journaled). m.managed) two.0);
      base = ap (λ (m : Journaled). m.base) one.0 ∙ ap (λ (m : Managed). m.state) alike.managed ∙ sym (ap (λ (m : Journaled). m.base) two.0);
      events = ap (λ (m : Journaled). history_in m.groups) one.0 ∙ sym (ap (λ (m : Journaled). history_in m.groups) two.0);
    },
  )
  done_both (Ask query) one two = (one.1 ∙ ap seen (shows_alike a b alike query) ∙ sym two.1, where_same a b a1 b1 alike one.0 two.0)

  done_if_both : (asked : Option (Result Request LineFault)) → IsDoneIf a a1 asked x → IsDoneIf b b1 asked y → Same
  unfolding Same
  done_if_both None one two = (one.1 ∙ sym two.1, where_same a b a1 b1 alike one.0 two.0)
  done_if_both (Some (Err fault)) one two = (one.1 ∙ sym two.1, where_same a b a1 b1 alike one.0 two.0)
  done_if_both (Some (Ok request)) one two = done_both request one two

  answered_both : (line : List ℕ) → IsAnswered a a1 line x → IsAnswered b b1 line y → (x ≡ y) × AreAlike a1 b1
  unfolding Same
  answered_both line one two =
      let names : names_in b ≡ names_in a =
      ap (λ (m : Managed). let made : NameResolver = record { patches = patch_names_of m.catalog.patches; objects = names_of m.image.objects } in made) (sym alike.managed) in
      done_if_both (request_of (names_in a) line) one.done (subst (λ n. IsDoneIf b b1 (request_of n line) y) names two.done)

-- so many bytes end in the last of these answers, or before it
abbrev pub StopsAt : ℕ → List Answer → Type 0
StopsAt gone [] = ⊥
StopsAt gone (last ∷ []) = gone < length last.text
StopsAt gone (first ∷ next ∷ answers) = (length first.text ≤ gone) × StopsAt (gone - length first.text) (next ∷ answers)

stops_at : (early : List Answer) (last : Answer) (gone : ℕ) → length (texts_of early) ≤ gone → gone < length (texts_of (early ++ last ∷ [])) → StopsAt gone (early ++ last ∷ [])
stops_at [] last gone whole less = let l : length (last.text ++ []) ≡ length last.text + 0 = length-append last.text [] in omega arith
stops_at (first ∷ []) last gone whole less =
    let own : length (first.text ++ []) ≡ length first.text + 0 = length-append first.text [] in
    let all : length (first.text ++ (last.text ++ [])) ≡ length first.text + length (last.text ++ []) = length-append first.text (last.text ++ []) in
    let l : length (last.text ++ []) ≡ length last.text + 0 = length-append last.text [] in (omega arith, omega arith)
stops_at (first ∷ next ∷ early) last gone whole less =
    let own : length (first.text ++ texts_of (next ∷ early)) ≡ length first.text + length (texts_of (next ∷ early)) = length-append first.text (texts_of (next ∷ early)) in
    let all : length (first.text ++ texts_of (next ∷ early ++ last ∷ [])) ≡ length first.text + length (texts_of (next ∷ early ++ last ∷ [])) = length-append first.text (texts_of (next ∷ early ++ last ∷ [])) in
    (omega arith, stops_at (next ∷ early) last (gone - length first.text) (omega arith) (omega arith))

first_same : (l c : List ℕ) (ls cs : List (List ℕ)) → IsPrefix (l ∷ ls) (c ∷ cs) → (l ≡ c) × IsPrefix ls cs
first_same l c ls cs p = (cc (p.1), (p.0, cc (p.1)))

-- the lines behind one that both answered alike, where the same is known of what is left of these
rest_both : (all : List (List ℕ)) (c d a1 b1 : Journaled) (x y : Answer) (gone : ℕ)
    → ((lines others : List (List ℕ)) (xs ys : List Answer) (gone : ℕ) → IsPrefix lines all → IsPrefix others all → AreAlike c d → AreAnswered c a1 lines xs → AreAnswered d b1 others ys
    → NoneIsFull xs → NoneIsFull ys → StopsAt gone xs → StopsAt gone ys → (lines ≡ others) × AreAlike a1 b1)
    → (lines others : List (List ℕ)) (xs ys : List Answer) → IsPrefix lines all → IsPrefix others all → AreAlike c d → x ≡ y → AreAnswered c a1 lines xs → AreAnswered d b1 others ys
    → NoneIsFull xs → NoneIsFull ys → StopsAt gone (x ∷ xs) → StopsAt gone (y ∷ ys) → (lines ≡ others) × AreAlike a1 b1
rest_both all c d a1 b1 x y gone again [] [] [] [] p q alike same one two fits fits_too stops stops_too = (refl, where_same c d a1 b1 alike one two)
rest_both all c d a1 b1 x y gone again [] (o ∷ others) [] [] p q alike same one two fits fits_too stops stops_too = absurd two
rest_both all c d a1 b1 x y gone again (l ∷ lines) others [] ys p q alike same one two fits fits_too stops stops_too = absurd one
rest_both all c d a1 b1 x y gone again [] others (x2 ∷ xs) ys p q alike same one two fits fits_too stops stops_too = absurd one
rest_both all c d a1 b1 x y gone again [] others [] (y2 ∷ ys) p q alike same one two fits fits_too stops stops_too =
    let e : length x.text ≡ length y.text = ap (λ (z : Answer). length z.text) same in
    let less : gone < length x.text = stops in
    let more : length y.text ≤ gone = stops_too.0 in absurd (omega arith)
rest_both all c d a1 b1 x y gone again (l ∷ lines) others (x2 ∷ xs) [] p q alike same one two fits fits_too stops stops_too =
    let e : length x.text ≡ length y.text = ap (λ (z : Answer). length z.text) same in
    let less : gone < length y.text = stops_too in
    let more : length x.text ≤ gone = stops.0 in absurd (omega arith)
rest_both all c d a1 b1 x y gone again (l ∷ lines) others (x2 ∷ xs) (y2 ∷ ys) p q alike same one two fits fits_too stops stops_too =
    again (l ∷ lines) others (x2 ∷ xs) (y2 ∷ ys) (gone - length x.text) p q alike one two fits fits_too stops.1
    (subst (λ n. StopsAt (gone - n) (y2 ∷ ys)) (sym (ap (λ (z : Answer). length z.text) same)) stops_too.1)

-- all lines
lines_both : (all lines others : List (List ℕ)) (xs ys : List Answer) (a b a1 b1 : Journaled) (gone : ℕ) → IsPrefix lines all → IsPrefix others all → AreAlike a b
    → AreAnswered a a1 lines xs → AreAnswered b b1 others ys → NoneIsFull xs → NoneIsFull ys → StopsAt gone xs → StopsAt gone ys → (lines ≡ others) × AreAlike a1 b1
lines_both all [] others [] ys a b a1 b1 gone p q alike one two fits fits_too stops stops_too = absurd stops
lines_both all [] others (x ∷ xs) ys a b a1 b1 gone p q alike one two fits fits_too stops stops_too = absurd one
lines_both all (line ∷ lines) others [] ys a b a1 b1 gone p q alike one two fits fits_too stops stops_too = absurd one
lines_both all (line ∷ lines) [] (x ∷ xs) [] a b a1 b1 gone p q alike one two fits fits_too stops stops_too = absurd stops_too
lines_both all (line ∷ lines) [] (x ∷ xs) (y ∷ ys) a b a1 b1 gone p q alike one two fits fits_too stops stops_too = absurd two
lines_both all (line ∷ lines) (other ∷ others) (x ∷ xs) [] a b a1 b1 gone p q alike one two fits fits_too stops stops_too = absurd two
lines_both [] (line ∷ lines) (other ∷ others) (x ∷ xs) (y ∷ ys) a b a1 b1 gone p q alike one two fits fits_too stops stops_too = absurd (cc (p.1))
lines_both (c ∷ all) (line ∷ lines) (other ∷ others) (x ∷ xs) (y ∷ ys) a b a1 b1 gone p q alike one two fits fits_too stops stops_too =
    let own = first_same line c lines all p in
    let its = first_same other c others all q in
    let same : other ≡ line = its.0 ∙ sym own.0 in
    let both = answered_both a b one.0 two.0 x y alike fits.0 fits_too.0 line one.1 (subst (λ l. IsAnswered b two.0 l y) same two.1) in
    let rest =
    rest_both all one.0 two.0 a1 b1 x y gone
    (λ lines others xs ys gone. lines_both all lines others xs ys one.0 two.0 a1 b1 gone)
    lines others xs ys own.1 its.1 both.1 both.0 one.2 two.2 fits.1 fits_too.1 stops stops_too in
    (ap (λ l. l ∷ lines) (sym same) ∙ ap (λ ls. other ∷ ls) rest.0, rest.1)

stops_there : (answers : List Answer) (gone rest : List ℕ) (early : List Answer) (last : Answer) → answers ≡ early ++ last ∷ [] → texts_of answers ≡ gone ++ rest
    → 0 < length rest → length (texts_of early) ≤ length gone → StopsAt (length gone) answers
stops_there answers gone rest early last sent cut missing whole =
    subst (StopsAt (length gone)) (sym sent) (stops_at early last (length gone) whole (omega (arith, sym (ap (λ t. length (texts_of t)) sent) ∙ ap length cut ∙ length-append gone rest)))

-- how many bytes were written is told by what the sink took
as_much : (before after other : Option (List ℕ)) (taken gone went : List ℕ) → before ≡ Some taken → after ≡ other → Appends before after gone → Appends before other went → length gone ≡ length went
as_much before after other taken gone went is same one two =
    by after (subst (λ o. Appends o after gone) is one) (subst (λ o. Appends (Some taken) o went) (sym same) (subst (λ o. Appends o other went) is two))
  where
    by : (o : Option (List ℕ)) → Appends (Some taken) o gone → Appends (Some taken) o went → length gone ≡ length went
    by None one two = absurd one
    by (Some all) one two = omega (arith, ap length one ∙ length-append taken gone, ap length two ∙ length-append taken went)

pub sent_by_the_bytes : (before after other : Console) (all : List (List ℕ)) (taken : List ℕ) → (one : HasWriteFailed before after) → (two : HasWriteFailed before other)
    → IsPrefix one.lines all → IsPrefix two.lines all → before.written.taken ≡ Some taken → after.written.taken ≡ other.written.taken
    → NoneIsFull one.answers → NoneIsFull two.answers → (one.lines ≡ two.lines) × AreAlike after.manager other.manager
sent_by_the_bytes before after other all taken one two p q known same fits fits_too =
    let much : length one.stops.gone ≡ length two.stops.gone = as_much before.written.taken after.written.taken other.written.taken taken one.stops.gone two.stops.gone known same one.stops.written two.stops.written in
    lines_both all one.lines two.lines one.answers two.answers before.manager before.manager after.manager other.manager (length one.stops.gone) p q
    (record { managed = refl; base = refl; events = refl }) one.reads.answered two.reads.answered fits fits_too
    (stops_there one.answers one.stops.gone one.stops.rest one.stops.early one.stops.last one.stops.sent one.stops.cut one.stops.missing one.stops.whole)
    (subst (λ n. StopsAt n two.answers) (sym much)
    (stops_there two.answers two.stops.gone two.stops.rest two.stops.early two.stops.last two.stops.sent two.stops.cut two.stops.missing two.stops.whole))
