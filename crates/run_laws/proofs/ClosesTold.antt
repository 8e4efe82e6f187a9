-- What a coroutine notes of the ends of Jobs: behind each Finish stands the Close of its done channel, or the note that this had been
-- closed; and a done channel is closed nowhere else.
use Rattle.std.specs.Prelude.{◌≡◌, ℕ, ◌<◌, nat_lt, Bool, true, false, List, [], ◌∷◌, ◌++◌, Option, refl}
use Rattle.std.specs.List.{list_all}
use Rattle.std.proofs.Common.{sym, ap, subst, arith}
use Rattle.std.proofs.lemmas.Bool.Decides.{nat_tests}
use Rattle.std.proofs.lemmas.List.{append-nil}
use Rattle.channel_model.specs.declared.acts.ChannelNote.{ChannelNote}
use Rattle.channel_model.specs.declared.acts.ChannelNote.TheVariants as heard_as
use Rattle.job_model.specs.declared.acts.End.{End}
use Rattle.job_model.specs.declared.acts.JobAct.{JobAct}
use Rattle.job_model.specs.declared.acts.JobAct.TheVariants.{EndBody, Finish, Gone}
use Rattle.job_model.specs.Done.{done_channel}
use Rattle.note_book.specs.declared.book.Item.{Item}
use Rattle.note_book.specs.declared.book.Item.TheVariants as item
use Rattle.call_meaning.specs.Telling.{Told, on_jobs, JobFact, IsCancelling, ParentIs, items_in, did}
use Rattle.call_meaning.specs.ChannelCalls.{Call, Answer, PlainCall, Wakes, Closes}
use Rattle.call_meaning.specs.JobCalls.{NotAttached, Chain, EndsBody, BreaksOff, value_of}
use Rattle.call_meaning.proofs.JobTellings.{items_in-append}
use Rattle.script_grammar.specs.declared.instructions.Instruction.{Instruction}
use Rattle.script_grammar.specs.declared.instructions.Instruction.TheVariants as line
use Rattle.script_grammar.specs.Programs.{Program}
use Rattle.script_grammar.specs.WellFormed.{IsProgram}
use Rattle.script_meaning.specs.Shapes.{base_of}
use Rattle.script_meaning.specs.Configs.{Config}
use Rattle.script_meaning.specs.Lines.{LineCalls, clauses_at}
use Rattle.script_meaning.specs.Moves.{Move}
use Rattle.script_meaning.specs.Books.{Spawns, Begins, Reaches}
use Rattle.script_meaning.proofs.JobDebts.{Parents, AllKnown, known_left, known_right}
use Rattle.script_meaning.proofs.GroupNotes.{AllPass, PassesCalls, AllSpentPass, is_answer, close_note, job_note, both, all_none, job_fact, noted_all, wakes_all, closes_all, cancels_channel_all, plain_all, try_all, select_all, settle_all, gives_up_all, resumed_all, taken_back_all, saw_all, saw_end_all, fail_all, starts_all, both_all, passes_all, breaks_all}
use Rattle.script_meaning.proofs.GentleNotes.{is_no_finish, is_gentle, is_gentle_call, below_dones, mild_allows, is_mild_call}
use Rattle.script_laws.proofs.DonePlacesAsked.{declared}

-- ---- the notes

abbrev pub finish_note : ℕ → End → Item
finish_note row end = job_note (Finish row end)

abbrev pub had_closed : ℕ → ℕ → Item
had_closed c v = item.Channel (heard_as.AlreadyClosed c v)

pub data ClosesDones (base : ℕ) : List Item → Type 0 where
  none : ClosesDones base []
  gentle : (i : Item) (more : List Item) → is_gentle base i ≡ true → ClosesDones base more → ClosesDones base (i ∷ more)
  closes : (row : ℕ) (end : End) (more : List Item) → ClosesDones base more
      → ClosesDones base (finish_note row end ∷ close_note (done_channel base row) (value_of end) ∷ more)
  had_been : (row : ℕ) (end : End) (v : ℕ) (more : List Item) → ClosesDones base more
      → ClosesDones base (finish_note row end ∷ had_closed (done_channel base row) v ∷ more)

pub closes_then : (base : ℕ) (xs ys : List Item) → ClosesDones base xs → ClosesDones base ys → ClosesDones base (xs ++ ys)
closes_then base _ ys ClosesDones.none k = k
closes_then base _ ys (ClosesDones.gentle i more e h) k = ClosesDones.gentle i (more ++ ys) e (closes_then base more ys h k)
closes_then base _ ys (ClosesDones.closes row end more h) k = ClosesDones.closes row end (more ++ ys) (closes_then base more ys h k)
closes_then base _ ys (ClosesDones.had_been row end v more h) k = ClosesDones.had_been row end v (more ++ ys) (closes_then base more ys h k)

gentle_closes : (base : ℕ) (items : List Item) → list_all (is_gentle base) items ≡ true → ClosesDones base items
gentle_closes base [] h = ClosesDones.none
gentle_closes base (i ∷ items) h = let two = both (is_gentle base i) (list_all (is_gentle base) items) h
    in ClosesDones.gentle i items two.0 (gentle_closes base items two.1)

-- ---- what is told

abbrev pub DonesTold : ℕ → List Told → Type 0
DonesTold base told = ClosesDones base (items_in told)

told_then : (base : ℕ) (xs ys : List Told) → DonesTold base xs → DonesTold base ys → DonesTold base (xs ++ ys)
told_then base xs ys h k = subst (ClosesDones base) (sym (items_in-append xs ys)) (closes_then base (items_in xs) (items_in ys) h k)

told_as : (base : ℕ) (xs ys : List Told) → xs ≡ ys → DonesTold base ys → DonesTold base xs
told_as base xs ys e h = subst (DonesTold base) (sym e) h

gentle_told : (base : ℕ) (told : List Told) → AllPass (is_gentle base) told → DonesTold base told
gentle_told base told h = gentle_closes base (items_in told) h

answers_gentle : (base : ℕ) (n : ChannelNote) → is_answer n ≡ true → is_gentle_call base n ≡ true
answers_gentle base (heard_as.Made act) e = cc
answers_gentle base other e = refl

gentle_mild : (base : ℕ) (n : ChannelNote) → is_mild_call base n ≡ true → is_gentle_call base n ≡ true
gentle_mild base (heard_as.Made act) e = e
gentle_mild base other e = refl

gentle_allows : (base : ℕ) → PassesCalls (is_gentle base)
gentle_allows base = record {
  acts = λ act e. gentle_mild base (heard_as.Made act) ((mild_allows base).acts act e);
  answers = λ n e. answers_gentle base n e;
  starts = λ row. refl;
  cancels = λ row reason. refl;
  saw = λ row. refl;
  saw_end = λ row end. refl;
  fail = λ code. refl;
}

all_spent : (base : ℕ) (calls : List Call) → AllSpentPass (is_gentle base) calls
unfolding AllSpentPass
all_spent base [] = tt
all_spent base (call ∷ calls) = (refl, all_spent base calls)

refusal_gentle : (base parent : ℕ) (scoped : Bool) (group : List Told) → NotAttached parent scoped group → DonesTold base group
refusal_gentle base parent _ _ (NotAttached.parent_ended scoped) =
    gentle_told base _ (job_fact (is_gentle base) _ _ (noted_all (is_gentle base) _ [] refl (all_none (is_gentle base))))
refusal_gentle base parent _ _ other = gentle_told base _ (noted_all (is_gentle base) _ [] refl (all_none (is_gentle base)))

-- ---- the ends that follow

wakes_told : (base c : ℕ) (wakes : List Told) → Wakes c wakes → DonesTold base wakes
wakes_told base c wakes w = gentle_told base wakes (wakes_all (is_gentle base) (gentle_allows base) c wakes w)

-- behind a Finish its done channel is closed
finish_told : (base row : ℕ) (end : End) (closing more : List Told) → Closes (done_channel base row) (value_of end) closing
    → DonesTold base more → DonesTold base (did (Finish row end) ∷ (closing ++ more))
unfolding items_in
finish_told base row end _ more (Closes.now wakes w) k =
    ClosesDones.closes row end (items_in (wakes ++ more)) (told_then base wakes more (wakes_told base (done_channel base row) wakes w) k)
finish_told base row end _ more (Closes.before u wakes w) k =
    ClosesDones.had_been row end u (items_in (wakes ++ more))
    (told_then base wakes more (wakes_told base (done_channel base row) wakes w) k)

nothing_told : (base : ℕ) → DonesTold base []
nothing_told base = gentle_told base [] (all_none (is_gentle base))

-- an act on a Job that is no Finish
deed_told : (base : ℕ) (act : JobAct) (more : List Told) → is_no_finish act ≡ true → DonesTold base more → DonesTold base (did act ∷ more)
unfolding items_in
deed_told base act more e k = ClosesDones.gentle (job_note act) (items_in more) e k

fact_told : (base : ℕ) (fact : JobFact) (more : List Told) → DonesTold base more → DonesTold base (on_jobs fact ∷ more)
unfolding items_in
fact_told base fact more k = k

chain_told : (base row : ℕ) (group : List Told) → Chain base row group → DonesTold base group
chain_told base _ _ (Chain.stops row) = fact_told base _ [] (nothing_told base)
chain_told base _ _ (Chain.root end closing c) = told_as base _ (did (Finish 0 end) ∷ (closing ++ []))
    (ap (λ l. did (Finish 0 end) ∷ l) (sym (append-nil closing))) (finish_told base 0 end closing [] c (nothing_told base))
chain_told base row group (Chain.goes_up _ parent end closing more _ n c h e) =
    told_as base group _ e (finish_told base row end closing (did (Gone row) ∷ on_jobs (ParentIs row parent) ∷ more) c
    (deed_told base (Gone row) _ refl (fact_told base _ more (chain_told base parent more h))))

ends_told : (base row v : ℕ) (group : List Told) → EndsBody base row v group → DonesTold base group
ends_told base row v _ (EndsBody.ends_body chain c) = deed_told base (EndBody row v) chain refl (chain_told base row chain c)

breaks_told : (base : ℕ) (parents : Parents) (k row : ℕ) (failure : Option ℕ) (group : List Told) → AllKnown parents group
    → BreaksOff base k row failure group → DonesTold base group
breaks_told base parents k row failure group known b =
    let parts = subst (AllKnown parents) b.all known in
    told_as base group _ b.all (told_then base b.cancels (on_jobs (IsCancelling row) ∷ b.end)
    (gentle_told base b.cancels (breaks_all (is_gentle base) (gentle_allows base) parents k row failure b.cancels
    (known_left parents b.cancels (on_jobs (IsCancelling row) ∷ b.end) parts) b.breaks))
    (fact_told base _ b.end (ends_told base row 0 b.end b.ends)))

-- ---- moves

low : (n c : ℕ) → nat_lt c n ≡ true → c < n
low n c e = grind (arith, nat_tests)

plain_told : (base : ℕ) (call : Call) (group : List Told) (a : Answer) → PlainCall call group a → DonesTold base group
plain_told base call group a h = gentle_told base group (plain_all (is_gentle base) (gentle_allows base) call group a (λ e. refl) h)

line_told : (p : Program) (k : ℕ) (x : Config) (i : Instruction) (group : List Told) (a : Answer) → LineCalls p k x i group a
    → DonesTold (base_of p) group
line_told p k x _ _ _ (LineCalls.send c o g a h) = plain_told (base_of p) _ g a h
line_told p k x _ _ _ (LineCalls.receive c g a h) = plain_told (base_of p) _ g a h
line_told p k x _ _ _ (LineCalls.each c g a h) = plain_told (base_of p) _ g a h
line_told p k x _ _ _ (LineCalls.trysend c o g a h) = gentle_told (base_of p) g
    (try_all (is_gentle (base_of p)) (gentle_allows (base_of p)) _ g a (λ e. refl) h)
line_told p k x _ _ _ (LineCalls.tryreceive c g a h) = gentle_told (base_of p) g
    (try_all (is_gentle (base_of p)) (gentle_allows (base_of p)) _ g a (λ e. refl) h)
line_told p k x _ _ _ (LineCalls.select g a h) = gentle_told (base_of p) g
    (select_all (is_gentle (base_of p)) (gentle_allows (base_of p)) _ g a (all_spent (base_of p) (clauses_at p k x)) h)
line_told p k x _ _ _ (LineCalls.join job row g a n h) =
    fact_told (base_of p) _ g (gentle_told (base_of p) g (both_all (is_gentle (base_of p)) (gentle_allows (base_of p)) p row g a (λ e. refl)
    h))
line_told p k x _ _ _ (LineCalls.await job row g a n h) =
    gentle_told (base_of p) g (both_all (is_gentle (base_of p)) (gentle_allows (base_of p)) p row g a (λ e. refl) h)

move_told : (p : Program) (k : ℕ) (parents : Parents) (x : Config) (group : List Told) (y : Config) → IsProgram p → AllKnown parents group
    → Move p k x group y → DonesTold (base_of p) group
move_told p k parents _ _ _ ok q (Move.runs x s) = fact_told (base_of p) _ [] (nothing_told (base_of p))
move_told p k parents _ _ _ ok q (Move.calls x y i g a at h f) = line_told p k x i g a h
move_told p k parents _ _ _ ok q (Move.resumes x y w i outcome a s at m f) =
    gentle_told (base_of p) _ (resumed_all (is_gentle (base_of p)) (gentle_allows (base_of p)) w outcome _ _)
move_told p k parents _ _ _ ok q (Move.cancelled x w s) =
    gentle_told (base_of p) _ (taken_back_all (is_gentle (base_of p)) (gentle_allows (base_of p)) w _)
move_told p k parents _ _ _ ok q (Move.gives_up x w g s h) =
    gentle_told (base_of p) _ (saw_all (is_gentle (base_of p)) (gentle_allows (base_of p)) _ g
    (gives_up_all (is_gentle (base_of p)) (gentle_allows (base_of p)) w g h))
move_told p k parents _ _ _ ok q (Move.sees_job x y job row end s at n f) =
    gentle_told (base_of p) _ (saw_end_all (is_gentle (base_of p)) (gentle_allows (base_of p)) row end)
move_told p k parents _ _ _ ok q (Move.closes x c g at h) =
    gentle_told (base_of p) g (closes_all (is_gentle (base_of p)) (gentle_allows (base_of p)) c 0 g
    (below_dones (base_of p) c (low (base_of p) c (declared p k x.line (line.Close c) ok at.line_is))) h)
move_told p k parents _ _ _ ok q (Move.cancels_channel x c g at h) =
    gentle_told (base_of p) g (cancels_channel_all (is_gentle (base_of p)) (gentle_allows (base_of p)) c g
    (below_dones (base_of p) c (low (base_of p) c (declared p k x.line (line.CancelChannel c) ok at.line_is))) h)
move_told p k parents _ _ _ ok q (Move.yields x at) = fact_told (base_of p) _ [] (nothing_told (base_of p))
move_told p k parents _ _ _ ok q (Move.launches x block how job now at) = deed_told (base_of p) _ [] refl (nothing_told (base_of p))
move_told p k parents _ _ _ ok q (Move.launch_refused x block how job g at h) = refusal_gentle (base_of p) _ false g h
move_told p k parents _ _ _ ok q (Move.enters x supervisor row now at) = deed_told (base_of p) _ [] refl (nothing_told (base_of p))
move_told p k parents _ _ _ ok q (Move.enter_refused x supervisor g at h) = refusal_gentle (base_of p) _ true g h
move_told p k parents _ _ _ ok q (Move.starts x job row g at n h) =
    gentle_told (base_of p) g (starts_all (is_gentle (base_of p)) (gentle_allows (base_of p)) row g h)
move_told p k parents _ _ _ ok q (Move.cancels x job row newly g at n h) =
    gentle_told (base_of p) g (passes_all (is_gentle (base_of p)) (gentle_allows (base_of p)) parents row _ newly g q h)
move_told p k parents _ _ _ ok q (Move.fails x v at) = gentle_told (base_of p) _
    (fail_all (is_gentle (base_of p)) (gentle_allows (base_of p)) v)
move_told p k parents _ _ _ ok q (Move.results x o at) = nothing_told (base_of p)
move_told p k parents _ _ _ ok q (Move.repeats x n at) = nothing_told (base_of p)
move_told p k parents _ _ _ ok q (Move.turns_again x head n es at e) = nothing_told (base_of p)
move_told p k parents _ _ _ ok q (Move.turns_no_more x head es at e) = nothing_told (base_of p)
move_told p k parents _ _ _ ok q (Move.receives_again x head es at e) = nothing_told (base_of p)
move_told p k parents _ _ _ ok q (Move.ends_scope x y s end g all a at e h c f is) =
    told_as (base_of p) all _ is (told_then (base_of p) end g (ends_told (base_of p) s.row 0 end h) (plain_told (base_of p) _ g a c))
move_told p k parents _ _ _ ok q (Move.scope_ended x w n v s) =
    gentle_told (base_of p) _ (settle_all (is_gentle (base_of p)) (gentle_allows (base_of p)) w _ [] (all_none (is_gentle (base_of p))))
move_told p k parents _ _ _ ok q (Move.sees_scope x y s end t e f) =
    gentle_told (base_of p) _ (saw_end_all (is_gentle (base_of p)) (gentle_allows (base_of p)) s.row end)
move_told p k parents _ _ _ ok q (Move.breaks_scope x y s failure break g all a t e h c f is) =
    told_as (base_of p) all _ is (told_then (base_of p) break g
    (breaks_told (base_of p) parents k s.row failure break (known_left parents break g (subst (AllKnown parents) is q)) h)
    (plain_told (base_of p) _ g a c))
move_told p k parents _ _ _ ok q (Move.breaks x failure g s e h) = breaks_told (base_of p) parents k k failure g q h
move_told p k parents _ _ _ ok q (Move.ends x g s e h) = ends_told (base_of p) k x.result g h
move_told p k parents _ _ _ ok q other =
    gentle_told (base_of p) _ (saw_all (is_gentle (base_of p)) (gentle_allows (base_of p)) _ [] (all_none (is_gentle (base_of p))))

spawns_told : (p : Program) (base : ℕ) (blocks : List ℕ) (x y : Config) (group : List Told) → Spawns p blocks x group y
    → DonesTold base group
spawns_told p base _ _ _ _ (Spawns.done x) = nothing_told base
spawns_told p base _ _ _ _ (Spawns.attaches block blocks x y now more h) = deed_told base _ more refl (spawns_told p base blocks _ y more h)
spawns_told p base _ _ _ _ (Spawns.refused block blocks x g h) = refusal_gentle base _ false g h

begins_told : (p : Program) (k : ℕ) (group : List Told) (x : Config) → Begins p k group x → DonesTold (base_of p) group
begins_told p _ _ _ (Begins.root group x s) = spawns_told p (base_of p) _ _ x group s
begins_told p _ _ _ (Begins.child k n) = nothing_told (base_of p)

-- so it is of all that a coroutine tells
pub reach_told : (p : Program) (k : ℕ) (parents : Parents) (told : List Told) (x : Config) → IsProgram p → AllKnown parents told
    → Reaches p k told x → DonesTold (base_of p) told
reach_told p k parents _ _ ok q (Reaches.begins group x b) = begins_told p k group x b
reach_told p k parents all _ ok q (Reaches.goes_on before group _ x y r m e) =
    let parts = subst (AllKnown parents) e q in
    told_as (base_of p) all _ e (told_then (base_of p) before group
    (reach_told p k parents before x ok (known_left parents before group parts) r)
    (move_told p k parents x group y ok (known_right parents before group parts) m))
