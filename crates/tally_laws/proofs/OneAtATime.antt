-- A coroutine places clauses of one wait at a time, and settles that one.
use Rattle.std.specs.Prelude.{◌≡◌, ℕ, true, ◌&&◌, List, [], ◌∷◌, ◌++◌, Option, Some, None, refl}
use Rattle.std.proofs.Common.{ap, sym, ◌∙◌, subst, arith, ⊎_elim}
use Rattle.std.proofs.lemmas.Bool.{cases_lt, and_from}
use Rattle.std.proofs.lemmas.Option.{same_Some}
use Rattle.co_base.specs.declared.names.WaitId.{WaitId}
use Rattle.channel_model.specs.declared.acts.Act.{Act}
use Rattle.channel_model.specs.declared.acts.Act.TheVariants.{Offer, Await, Settle}
use Rattle.channel_model.specs.declared.acts.Entry.{Entry}
use Rattle.channel_model.specs.Channels.{same_wait}
use Rattle.channel_model.proofs.Waits.{same_wait-refl}
use Rattle.job_model.specs.declared.acts.JobEntry.{JobEntry}
use Rattle.note_book.specs.declared.book.Item.{Item}
use Rattle.note_book.specs.declared.book.Item.TheVariants as item
use Rattle.note_book.specs.Items.{channel_acts_in}
use Rattle.call_meaning.specs.Telling.{Told, note, items_in}
use Rattle.call_meaning.specs.Stories.{Moment}
use Rattle.script_grammar.specs.Programs.{Program}
use Rattle.script_grammar.specs.Tags.{coroutine_count}
use Rattle.script_meaning.specs.Configs.{Config}
use Rattle.script_meaning.specs.Books.{Runs, BooksOf, book_at}
use Rattle.script_meaning.proofs.Payments.{act_list}
use Rattle.script_meaning.proofs.ActsFollowed.{call_told, act_in_note}
use Rattle.script_meaning.proofs.ChannelStories.{act_of_note}
use Rattle.script_meaning.proofs.WaitsTold.{WaitsTold, is_waitless, named_by, all_told}
use Rattle.tally_laws.specs.Settlings.{has_one_wait, AreBooks}
use Rattle.tally_laws.proofs.Summing.{item_past}

-- an act that neither names nor settles a wait leaves the wait that the coroutine has
waitless : (o : Option WaitId) (a : Option Act) (acts : List Act) → is_waitless a ≡ true
    → has_one_wait o (act_list a ++ acts) ≡ has_one_wait o acts
waitless o (Some (Offer c q v w n)) acts e = cc
waitless o (Some (Await c q w n)) acts e = cc
waitless o (Some (Settle w outcome)) acts e = cc
waitless o other acts e = refl

-- an act that names the wait, where there is none yet, or this one
begins_one : (w : WaitId) (a : Act) (acts : List Act) → named_by a ≡ Some w → has_one_wait (Some w) acts ≡ true
    → has_one_wait None (a ∷ acts) ≡ true
begins_one w (Offer c q v u n) acts e h = subst (λ x. has_one_wait (Some x) acts ≡ true) (sym (same_Some u w e)) h
begins_one w (Await c q u n) acts e h = subst (λ x. has_one_wait (Some x) acts ≡ true) (sym (same_Some u w e)) h
begins_one w other acts e h = cc

joins_one : (w : WaitId) (a : Act) (acts : List Act) → named_by a ≡ Some w → has_one_wait (Some w) acts ≡ true
    → has_one_wait (Some w) (a ∷ acts) ≡ true
joins_one w (Offer c q v u n) acts e h = subst (λ x. (same_wait x w && has_one_wait (Some x) acts) ≡ true) (sym (same_Some u w e))
    (and_from (same_wait w w) _ (same_wait-refl w) h)
joins_one w (Await c q u n) acts e h = subst (λ x. (same_wait x w && has_one_wait (Some x) acts) ≡ true) (sym (same_Some u w e))
    (and_from (same_wait w w) _ (same_wait-refl w) h)
joins_one w other acts e h = cc

ends_one : (w : WaitId) (acts : List Act) → has_one_wait None acts ≡ true → (same_wait w w && has_one_wait None acts) ≡ true
ends_one w acts h = and_from (same_wait w w) _ (same_wait-refl w) h

-- something told, before what is told later
told_first : (o : Option WaitId) (t : Told) (more : List Told) → is_waitless (call_told t) ≡ true
    → has_one_wait o (channel_acts_in (items_in more)) ≡ true → has_one_wait o (channel_acts_in (items_in (t ∷ more))) ≡ true
unfolding items_in
told_first o (note (item.Channel n)) more q h = ap (λ l. has_one_wait o (l ++ channel_acts_in (items_in more))) (act_of_note n)
    ∙ (waitless o (act_in_note n) (channel_acts_in (items_in more)) q ∙ h)
told_first o other more q h = h

told_one : (o o' : Option WaitId) (told : List Told) → WaitsTold o told o' → has_one_wait o (channel_acts_in (items_in told)) ≡ true
unfolding items_in
told_one _ _ _ (WaitsTold.none o) = refl
told_one _ _ _ (WaitsTold.other o o' t more q h) = told_first o t more q (told_one o o' more h)
told_one _ _ _ (WaitsTold.begins w o a more q h) = begins_one w a (channel_acts_in (items_in more)) q (told_one (Some w) o more h)
told_one _ _ _ (WaitsTold.joins w o a more q h) = joins_one w a (channel_acts_in (items_in more)) q (told_one (Some w) o more h)
told_one _ _ _ (WaitsTold.ends w outcome o more q h) = ends_one w (channel_acts_in (items_in more)) (told_one None o more h)
told_one _ _ _ (WaitsTold.taken_back w o more h) = ends_one w (channel_acts_in (items_in more)) (told_one None o more h)
told_one _ _ _ (WaitsTold.revokes w o more h) = ends_one w (channel_acts_in (items_in more)) (told_one None o more h)
told_one _ _ _ (WaitsTold.dispatched w row outcome o more h) = ends_one w (channel_acts_in (items_in more)) (told_one None o more h)
told_one _ _ _ (WaitsTold.withdrawn w row outcome o more h) = ends_one w (channel_acts_in (items_in more)) (told_one None o more h)
told_one _ _ _ (WaitsTold.late w row outcome o more h) = ends_one w (channel_acts_in (items_in more)) (told_one None o more h)

-- the book of a coroutine
book_one : (p : Program) (k : ℕ) (now : Moment) (book : List Item) (x : Config) → Runs p k now book x
    → has_one_wait None (channel_acts_in book) ≡ true
book_one p k now book x r = subst (λ b. has_one_wait None (channel_acts_in b) ≡ true) r.written
    (told_one None _ r.told (all_told p k r.told x r.reaches))

pub books_of_run : (p : Program) (books : List (List Item)) (channels : List Entry) (jobs : List JobEntry) → BooksOf p books channels jobs
    → AreBooks books channels
books_of_run p books channels jobs of = record {
  parts = of.channel_parts;
  one_wait = λ k. ⊎_elim
      (λ l. book_one p k _ (book_at k books) (of.ends_at k) (of.runs k l))
      (λ l. ap (λ b. has_one_wait None (channel_acts_in b)) (item_past [] books k (omega (arith, of.count, l))))
      (cases_lt k (coroutine_count p));
}
