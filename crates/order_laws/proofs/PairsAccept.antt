-- The books are the parts of two legal histories, each is one that its coroutine may write in them, and the run came to rest.
use Rattle.std.specs.Prelude.{◌≡◌, ◌≢◌, ℕ, zero, suc, ◌<◌, ◌==◌, Bool, false, List, [], ◌∷◌, ◌++◌, length, Some, None, refl, if◌then◌else◌}
use Rattle.std.specs.List.{list_any}
use Rattle.std.proofs.lemmas.Bool.Decides.{nat_tests}
use Rattle.std.proofs.Common.{sym, ap, ◌∙◌, subst, inr, arith}
use Rattle.channel_model.specs.declared.acts.Act.{Act}
use Rattle.channel_model.specs.declared.acts.Entry.{Entry}
use Rattle.channel_model.specs.declared.acts.Act.TheVariants.{Put, Close}
use Rattle.channel_model.specs.declared.acts.ChannelNote.TheVariants.{Empty}
use Rattle.channel_model.specs.declared.acts.Kind.TheVariants.{Buffered, Signal}
use Rattle.channel_model.specs.Channels.{Shape}
use Rattle.channel_model.specs.Histories.{replay, replay_from, acts_of, Legal, LegalFrom}
use Rattle.job_model.specs.declared.acts.End.TheVariants.{Completed}
use Rattle.job_model.specs.declared.acts.JobAct.TheVariants.{Attach, EndBody, Finish, Gone}
use Rattle.job_model.specs.declared.acts.JobAct.{JobAct}
use Rattle.job_model.specs.declared.acts.JobEntry.{JobEntry}
use Rattle.job_model.specs.Trees.{Shape as JobShape, plain}
use Rattle.job_model.specs.Histories.{replay as replay_jobs, replay_from as replay_jobs_from, acts_of as job_acts_of, Legal as LegalJobs, LegalFrom as LegalJobsFrom}
use Rattle.note_book.specs.declared.book.Item.{Item}
use Rattle.note_book.specs.Items.{channel_acts_in, job_acts_in}
use Rattle.call_meaning.specs.Telling.{Told, on_channels, on_jobs, MayRun, OwesNoEnd, ParentIs, NoReceiver, FitsUpTo, StandsWithRoom, made, heard, did, items_in}
use Rattle.call_meaning.specs.ChannelCalls.{Done, sends, receives, AtOnce, PlainCall, TryCall, Spurns, Overflows, Wakes, Closes}
use Rattle.call_meaning.specs.JobCalls.{Chain, EndsBody}
use Rattle.call_meaning.specs.Endings.{ClosesAtOnce}
use Rattle.call_meaning.specs.Facts.{ToldHolds, end_at}
use Rattle.call_meaning.specs.Stories.{Moment, beginning, IsTrue, with_told}
use Rattle.script_grammar.specs.declared.instructions.Instruction.TheVariants as line
use Rattle.script_grammar.specs.declared.instructions.Launching.TheVariants as how
use Rattle.script_grammar.specs.declared.instructions.Operand.TheVariants as operand
use Rattle.script_grammar.specs.Tags.{coroutine_count, layouts_from}
use Rattle.script_meaning.specs.declared.stage.Stage.TheVariants.{Running, Ended}
use Rattle.script_meaning.specs.Shapes.{base_of, floor_shape, job_shape}
use Rattle.script_meaning.specs.Configs.{Config, fresh, at_stage, next, past_launch}
use Rattle.script_meaning.specs.Lines.{LineCalls, After}
use Rattle.script_meaning.specs.Moves.{Move}
use Rattle.script_meaning.specs.Books.{Spawns, Begins, Reaches, Runs, BooksOf, story, book_at, is_refusal}
use Rattle.script_meaning.specs.Idle.{IsLeft, HasNoWait}
use Rattle.script_laws.proofs.TreesAtRest.{at_rest}
use Rattle.script_laws.proofs.NothingOwed.{nothing_is_owed}
use Rattle.run_laws.specs.Ends.{IsRunAtRest}
use Rattle.order_laws.specs.StaleAnswers.{program, books, channels, jobs, by, done_by, book_of_main, book_of_child}

-- ---- the histories

abbrev at : List Entry → List JobEntry → Moment
at c j = record { channels = c; jobs = j }

abbrev now : Moment
now = at channels jobs

abbrev the_shape : Shape
the_shape = (Buffered 2, 16384) ∷ (Signal, 1) ∷ (Signal, 1) ∷ []

shape_is : floor_shape program ≡ the_shape
unfolding layouts_from
shape_is = refl

legal_at : Legal the_shape channels
unfolding LegalFrom
legal_at = grind arith

legal_channels : Legal (floor_shape program) channels
legal_channels = subst (λ (z : Shape). Legal z channels) (sym shape_is) legal_at

abbrev the_rows : JobShape
the_rows = record { coroutines = 2; rows = 2 }

rows_are : job_shape program ≡ the_rows
unfolding layouts_from
rows_are = refl

jobs_legal_at : LegalJobs the_rows jobs
unfolding LegalJobsFrom
jobs_legal_at = grind arith

legal_jobs : LegalJobs (job_shape program) jobs
legal_jobs = subst (λ (z : JobShape). LegalJobs z jobs) (sym rows_are) jobs_legal_at

-- no other tag made an entry
other_0 : (k : ℕ) → (0 == suc (suc k)) ≡ false
other_0 k = grind (arith, nat_tests)

other_1 : (k : ℕ) → (1 == suc (suc k)) ≡ false
other_1 k = grind (arith, nat_tests)

skip : (who k : ℕ) (act : Act) (es : List Entry) → (who == k) ≡ false → acts_of k (by who act ∷ es) ≡ acts_of k es
unfolding acts_of
skip who k act es f = ap (λ (b : Bool). if b then act ∷ acts_of k es else acts_of k es) f

skip_job : (who k : ℕ) (act : JobAct) (es : List JobEntry) → (who == k) ≡ false
    → job_acts_of k (done_by who act ∷ es) ≡ job_acts_of k es
unfolding job_acts_of
skip_job who k act es f = ap (λ (b : Bool). if b then act ∷ job_acts_of k es else job_acts_of k es) f

-- the parts of the histories after the first entry, and so on
abbrev after_sent : List Entry
after_sent = by 1 (Close 2 0) ∷ by 1 (Close 1 0) ∷ []

abbrev root_closed : List Entry
root_closed = by 1 (Close 1 0) ∷ []

abbrev after_gone : List JobEntry
after_gone = done_by 1 (Finish 0 (Completed 0)) ∷ []

abbrev after_finished : List JobEntry
after_finished = done_by 1 (Gone 1) ∷ after_gone

abbrev after_child : List JobEntry
after_child = done_by 1 (Finish 1 (Completed 0)) ∷ after_finished

abbrev after_main : List JobEntry
after_main = done_by 1 (EndBody 1 0) ∷ after_child

abbrev after_launch : List JobEntry
after_launch = done_by 0 (EndBody 0 0) ∷ after_main

channel_parts : (k : ℕ) → acts_of k channels ≡ channel_acts_in (book_at k books)
unfolding acts_of
channel_parts zero = refl
channel_parts (suc zero) = refl
channel_parts (suc (suc k)) = skip 0 (suc (suc k)) (Put 0 0 1) after_sent (other_0 k)
    ∙ skip 1 (suc (suc k)) (Close 2 0) root_closed (other_1 k)
    ∙ skip 1 (suc (suc k)) (Close 1 0) [] (other_1 k)

job_parts : (k : ℕ) → job_acts_of k jobs ≡ job_acts_in (book_at k books)
unfolding job_acts_of
job_parts zero = refl
job_parts (suc zero) = refl
job_parts (suc (suc k)) = skip_job 0 (suc (suc k)) (Attach 0 1 plain 1 false) after_launch (other_0 k)
    ∙ skip_job 0 (suc (suc k)) (EndBody 0 0) after_main (other_0 k)
    ∙ skip_job 1 (suc (suc k)) (EndBody 1 0) after_child (other_1 k)
    ∙ skip_job 1 (suc (suc k)) (Finish 1 (Completed 0)) after_finished (other_1 k)
    ∙ skip_job 1 (suc (suc k)) (Gone 1) after_gone (other_1 k)
    ∙ skip_job 1 (suc (suc k)) (Finish 0 (Completed 0)) [] (other_1 k)

-- the beginnings of the histories up to these entries
abbrev sent : List Entry
sent = by 0 (Put 0 0 1) ∷ []

abbrev child_closed : List Entry
child_closed = by 0 (Put 0 0 1) ∷ by 1 (Close 2 0) ∷ []

abbrev launched : List JobEntry
launched = done_by 0 (Attach 0 1 plain 1 false) ∷ []

abbrev main_done : List JobEntry
main_done = launched ++ done_by 0 (EndBody 0 0) ∷ []

abbrev child_done : List JobEntry
child_done = main_done ++ done_by 1 (EndBody 1 0) ∷ []

abbrev child_finished : List JobEntry
child_finished = child_done ++ done_by 1 (Finish 1 (Completed 0)) ∷ []

abbrev child_gone : List JobEntry
child_gone = child_finished ++ done_by 1 (Gone 1) ∷ []

-- this was so when the beginnings a and x of the histories had gone on by b and y, and c and z were to come; and then the rest
so_then : (k : ℕ) (items : List Item) (told : Told) (more : List Told) (a b c : List Entry) (x y z : List JobEntry)
    → acts_of k (a ++ b) ≡ channel_acts_in items → job_acts_of k (x ++ y) ≡ job_acts_in items
    → ToldHolds (floor_shape program) told (replay (a ++ b)) (replay_jobs (x ++ y))
    → IsTrue (story program k (at ((a ++ b) ++ c) ((x ++ y) ++ z))) (with_told told items) (at (a ++ b) (x ++ y)) more
    → IsTrue (story program k (at ((a ++ b) ++ c) ((x ++ y) ++ z))) items (at a x) (told ∷ more)
unfolding IsTrue
so_then k items told more a b c x y z calls acts holds rest = (
  at (a ++ b) (x ++ y),
  record {
    not_before = record { channels = (b, refl); jobs = (y, refl) };
    not_after = record { channels = (c, refl); jobs = (z, refl) };
    channel_acts = calls;
    job_acts = acts;
    holds = holds;
  },
  rest,
)

told_all : (k : ℕ) (items : List Item) (earlier : Moment) → IsTrue (story program k now) items earlier []
unfolding IsTrue
told_all k items earlier = tt

-- ---- main

abbrev told_by_main : List Told
told_by_main =
    on_jobs (MayRun 0)
    ∷ made (Put 0 0 1)
    ∷ on_channels (FitsUpTo 0 0)
    ∷ on_channels (StandsWithRoom 0 0)
    ∷ did (Attach 0 1 plain 1 false)
    ∷ did (EndBody 0 0)
    ∷ on_jobs (OwesNoEnd 0)
    ∷ []

abbrev main_1 : Config
main_1 = at_stage Running (fresh 0)

abbrev main_2 : Config
main_2 = next main_1

abbrev main_3 : Config
main_3 = next (past_launch program 0 None main_2)

abbrev main_ended : Config
main_ended = at_stage Ended main_3

fits : Overflows 0 0 (on_channels (FitsUpTo 0 0) ∷ on_channels (StandsWithRoom 0 0) ∷ [])
fits = record { drops = _; spurns = _; dropped = record { dropped = []; all = refl }; spurned = Spurns.stays; all = refl }

main_reaches : Reaches program 0 told_by_main main_ended
unfolding layouts_from
main_reaches =
    Reaches.goes_on _ (did (EndBody 0 0) ∷ on_jobs (OwesNoEnd 0) ∷ []) _ main_3 _
    (Reaches.goes_on _ (did (Attach 0 1 plain 1 false) ∷ []) _ main_2 main_3
    (Reaches.goes_on _ (made (Put 0 0 1) ∷ on_channels (FitsUpTo 0 0) ∷ on_channels (StandsWithRoom 0 0) ∷ []) _ main_1 main_2
    (Reaches.goes_on _ (on_jobs (MayRun 0) ∷ []) _ (fresh 0) main_1
    (Reaches.begins [] (fresh 0) (Begins.root [] (fresh 0) (Spawns.done (fresh 0))))
    (Move.runs (fresh 0) refl) refl)
    (Move.calls main_1 main_2 (line.Send 0 (operand.Number 1)) _ Done (record { stage = refl; line_is = refl })
    (LineCalls.send 0 (operand.Number 1) _ Done (PlainCall.at_once (sends 0 1) _ Done (AtOnce.puts 0 1 0 _ fits)))
    (After.sent 0 (operand.Number 1))) refl)
    (Move.launches main_2 0 how.Plain None false (record { stage = refl; line_is = refl })) refl)
    (Move.ends main_3 _ refl refl (EndsBody.ends_body _ (Chain.stops 0))) refl

main_true : IsTrue (story program 0 now) [] beginning told_by_main
unfolding acts_of job_acts_of replay_from replay_jobs_from
main_true =
    so_then 0 _ (on_jobs (MayRun 0)) _ [] [] channels [] [] jobs refl refl refl
    (so_then 0 _ (made (Put 0 0 1)) _ [] [] channels [] [] jobs refl refl tt
    (so_then 0 _ (on_channels (FitsUpTo 0 0)) _ [] sent after_sent [] [] jobs refl refl refl
    (so_then 0 _ (on_channels (StandsWithRoom 0 0)) _ sent [] after_sent [] [] jobs refl refl refl
    (so_then 0 _ (did (Attach 0 1 plain 1 false)) _ sent [] after_sent [] [] jobs refl refl tt
    (so_then 0 _ (did (EndBody 0 0)) _ sent [] after_sent [] launched after_launch refl refl tt
    (so_then 0 _ (on_jobs (OwesNoEnd 0)) _ sent [] after_sent launched (done_by 0 (EndBody 0 0) ∷ []) after_main refl refl (inr refl)
    (told_all 0 _ _)))))))

main_runs : Runs program 0 now book_of_main main_ended
unfolding items_in
main_runs = record { told = told_by_main; written = refl; reaches = main_reaches; is_true = main_true }

-- ---- the coroutine, which finds the channel empty

abbrev told_by_child : List Told
told_by_child =
    on_jobs (MayRun 1)
    ∷ heard (Empty 0)
    ∷ did (EndBody 1 0)
    ∷ did (Finish 1 (Completed 0))
    ∷ made (Close 2 0)
    ∷ on_channels (NoReceiver 2)
    ∷ did (Gone 1)
    ∷ on_jobs (ParentIs 1 0)
    ∷ did (Finish 0 (Completed 0))
    ∷ made (Close 1 0)
    ∷ on_channels (NoReceiver 1)
    ∷ []

abbrev child_1 : Config
child_1 = at_stage Running (fresh 1)

abbrev child_2 : Config
child_2 = next child_1

abbrev child_ended : Config
child_ended = at_stage Ended child_2

one_is_other : ◌≢◌ {A = ℕ} 1 0
one_is_other e = cc

wakes_none : (c : ℕ) → Wakes c (on_channels (NoReceiver c) ∷ [])
wakes_none c = record { places = []; all = refl }

child_reaches : Reaches program 1 told_by_child child_ended
unfolding layouts_from
child_reaches =
    Reaches.goes_on _ (did (EndBody 1 0)
    ∷ did (Finish 1 (Completed 0))
    ∷ made (Close 2 0)
    ∷ on_channels (NoReceiver 2)
    ∷ did (Gone 1)
    ∷ on_jobs (ParentIs 1 0)
    ∷ did (Finish 0 (Completed 0))
    ∷ made (Close 1 0)
    ∷ on_channels (NoReceiver 1)
    ∷ []) _ child_2 _
    (Reaches.goes_on _ (heard (Empty 0) ∷ []) _ child_1 child_2
    (Reaches.goes_on _ (on_jobs (MayRun 1) ∷ []) _ (fresh 1) child_1
    (Reaches.begins [] (fresh 1) (Begins.child 1 one_is_other))
    (Move.runs (fresh 1) refl) refl)
    (Move.calls child_1 child_2 (line.TryReceive 0) _ Done (record { stage = refl; line_is = refl })
    (LineCalls.tryreceive 0 _ Done (TryCall.blocks (receives 0))) (After.tried_to_get 0)) refl)
    (Move.ends child_2 _ refl refl (EndsBody.ends_body _
    (Chain.goes_up 1 0 (Completed 0) (made (Close 2 0) ∷ on_channels (NoReceiver 2) ∷ [])
    (did (Finish 0 (Completed 0)) ∷ made (Close 1 0) ∷ on_channels (NoReceiver 1) ∷ []) _
    one_is_other (Closes.now _ (wakes_none 2))
    (Chain.root (Completed 0) _ (Closes.now _ (wakes_none 1))) refl))) refl

child_true : IsTrue (story program 1 now) [] beginning told_by_child
unfolding acts_of job_acts_of replay_from replay_jobs_from
child_true =
    so_then 1 _ (on_jobs (MayRun 1)) _ [] [] channels [] launched after_launch refl refl refl
    (so_then 1 _ (heard (Empty 0)) _ [] [] channels launched [] after_launch refl refl (record { not_closed = refl; nothing = refl })
    (so_then 1 _ (did (EndBody 1 0)) _ [] sent after_sent launched (done_by 0 (EndBody 0 0) ∷ []) after_main refl refl tt
    (so_then 1 _ (did (Finish 1 (Completed 0))) _ sent [] after_sent main_done (done_by 1 (EndBody 1 0) ∷ []) after_child refl refl tt
    (so_then 1 _ (made (Close 2 0)) _ sent [] after_sent child_done (done_by 1 (Finish 1 (Completed 0)) ∷ []) after_finished refl refl tt
    (so_then 1 _ (on_channels (NoReceiver 2)) _ sent (by 1 (Close 2 0) ∷ []) root_closed child_finished [] after_finished refl refl refl
    (so_then 1 _ (did (Gone 1)) _ child_closed [] root_closed child_finished [] after_finished refl refl tt
    (so_then 1 _ (on_jobs (ParentIs 1 0)) _ child_closed [] root_closed child_finished (done_by 1 (Gone 1) ∷ []) after_gone refl refl refl
    (so_then 1 _ (did (Finish 0 (Completed 0))) _ child_closed [] root_closed child_gone [] after_gone refl refl tt
    (so_then 1 _ (made (Close 1 0)) _ child_closed [] root_closed child_gone after_gone [] refl refl tt
    (so_then 1 _ (on_channels (NoReceiver 1)) _ child_closed root_closed [] jobs [] [] refl refl refl
    (told_all 1 _ _)))))))))))

child_runs : Runs program 1 now book_of_child child_ended
unfolding items_in
child_runs = record { told = told_by_child; written = refl; reaches = child_reaches; is_true = child_true }

-- ---- the run

abbrev ends_at : ℕ → Config
ends_at zero = main_ended
ends_at (suc n) = child_ended

runs : (k : ℕ) → k < coroutine_count program → Runs program k now (book_at k books) (ends_at k)
unfolding layouts_from
runs zero lt = main_runs
runs (suc zero) lt = child_runs
runs (suc (suc k)) lt = absurd (omega (arith, lt))

count : length books ≡ coroutine_count program
unfolding layouts_from
count = refl

closes : (k : ℕ) → ClosesAtOnce (base_of program) (book_at k books)
closes zero = (tt, (tt, (tt, tt)))
closes (suc zero) = (tt, (tt, (refl, (tt, (tt, (refl, (tt, tt)))))))
closes (suc (suc k)) = tt

no_refusal : (k : ℕ) → list_any (is_refusal (base_of program)) (book_at k books) ≡ false
no_refusal zero = refl
no_refusal (suc zero) = refl
no_refusal (suc (suc k)) = refl

books_of : BooksOf program books channels jobs
books_of = record {
  count = count;
  legal_channels = legal_channels;
  legal_jobs = legal_jobs;
  channel_parts = channel_parts;
  job_parts = job_parts;
  ends_at = ends_at;
  runs = runs;
  closes = closes;
  no_refusal = no_refusal;
}

no_wait : (k : ℕ) → HasNoWait k (replay channels)
unfolding replay_from
no_wait k v u = u

left : (k : ℕ) → k < coroutine_count program → IsLeft k (ends_at k) (book_at k books) (replay channels) jobs (ends_at k).stage
unfolding layouts_from
left zero lt = (refl, no_wait 0)
left (suc zero) lt = (refl, no_wait 1)
left (suc (suc k)) lt = absurd (omega (arith, lt))

ended : end_at (replay_jobs jobs 0) ≡ Some (Completed 0)
unfolding replay_jobs_from
ended = refl

pub rests_in_pairs : IsRunAtRest program books channels jobs (Some (Completed 0))
unfolding books_of
rests_in_pairs = (
  books_of,
  record {
    left = left;
    nothing_owed = nothing_is_owed program books channels jobs books_of;
    rest = at_rest program books channels jobs books_of;
    ended = ended;
  },
)
