-- The numbers with one note more are those of the notes with it.
use Rattle.std.specs.Prelude.{◌≡◌, ℕ, ◌+◌, cond, List, [], ◌∷◌, ◌++◌, length, refl}
use Rattle.std.proofs.Common.{sym, ap, ◌∙◌, subst, arith, append-nil, length-append}
use Rattle.channel_model.specs.declared.acts.Act.{Act}
use Rattle.channel_model.specs.declared.acts.Act.TheVariants.{Hand, Put, Offer, Take, Drop, Spurn, Drain, WakeClosed, Withdraw, Settle}
use Rattle.channel_model.specs.declared.acts.ChannelNote.TheVariants as of_channel
use Rattle.channel_model.specs.declared.acts.Settled.{Settled}
use Rattle.channel_model.specs.declared.acts.Settled.TheVariants as settled
use Rattle.job_model.specs.declared.acts.End.{End}
use Rattle.job_model.specs.declared.acts.End.TheVariants as ends
use Rattle.job_model.specs.declared.acts.JobAct.{JobAct}
use Rattle.job_model.specs.declared.acts.JobAct.TheVariants.{Attach, Finish}
use Rattle.job_model.specs.declared.acts.JobNote.TheVariants as of_job
use Rattle.note_book.specs.declared.book.Item.{Item}
use Rattle.note_book.specs.declared.book.Item.TheVariants as item
use Rattle.note_book.specs.Items.{channel_acts_in, job_acts_in}
use Rattle.note_book.proofs.Appended.{channel_acts_in-append, job_acts_in-append}
use Rattle.tally_laws.specs.Counts.{Counts, added}
use Rattle.tally_laws.specs.JobTallies.{attaches_one, completes_one, cancels_one, job_tally_of}
use Rattle.tally_laws.specs.Tallies.{empty, with_act, tally_of}
use Rattle.tally_laws.proofs.OneWaits.{act_last}
use Rattle.tally_book.specs.declared.numbers.ActNumbers.{ActNumbers}
use Rattle.tally_book.specs.declared.numbers.JobNumbers.{JobNumbers}
use Rattle.tally_book.specs.declared.numbers.Numbers.{Numbers}
use Rattle.tally_book.specs.Numbers.{with_act_in, with_outcome, settled_with, with_job_act_in, with_end_in, acts_with, jobs_with, with_note, AreWithin}
use Rattle.tally_book.specs.Kept.{tally_in, job_tally_in, AreOf}
use Rattle.channel_model.proofs.Apart.{how_many_push}

-- ---- one act on channels

z : (n : ℕ) → n ≡ n + 0
z n = omega arith

-- numbers to which these counts are added
by_adding : (n m : ActNumbers) (k : Counts) (o p : ℕ)
    → m.hands ≡ n.hands + k.hands
    → m.puts ≡ n.puts + k.puts
    → m.offers ≡ n.offers + k.offers
    → m.takes ≡ n.takes + k.takes
    → m.drops ≡ n.drops + k.drops
    → m.spurns ≡ n.spurns + k.spurns
    → m.drains ≡ n.drains + k.drains
    → m.wakes ≡ n.wakes + k.wakes
    → m.withdraws ≡ n.withdraws + k.withdraws
    → m.taken_back ≡ n.taken_back + k.taken_back
    → m.settles ≡ n.settles + k.settles
    → m.values ≡ n.values + k.values
    → m.given_up ≡ n.given_up + k.given_up
    → m.ended ≡ n.ended + k.ended
    → m.open_offers ≡ o → m.plain_offers ≡ p
    → tally_in m ≡ record { counts = added (tally_in n).counts k; open_offers = o; plain_offers = p }
by_adding n m k o p e0 e1 e2 e3 e4 es e5 e6 e7 e8 e9 e10 e11 e12 eo ep =
    λ i. record {
      counts = record {
        hands = e0 i;
        puts = e1 i;
        offers = e2 i;
        takes = e3 i;
        drops = e4 i;
        spurns = es i;
        drains = e5 i;
        wakes = e6 i;
        withdraws = e7 i;
        taken_back = e8 i;
        settles = e9 i;
        values = e10 i;
        given_up = e11 i;
        ended = e12 i;
      };
      open_offers =
          eo i;
      plain_offers = ep i;
    }

settle_step : (n : ActNumbers) (w : _) (outcome : Settled)
    → tally_in (with_outcome (settled_with n) outcome) ≡ with_act (tally_in n) (Settle w outcome)
settle_step n w (settled.Value k v) = by_adding n _ _ _ _ (z n.hands) (z n.puts) (z n.offers) (z n.takes) (z n.drops) (z n.spurns)
    (z n.drains) (z n.wakes) (z n.withdraws) (z n.taken_back) refl refl (z n.given_up) refl refl refl
settle_step n w (settled.Undelivered v) = by_adding n _ _ _ _ (z n.hands) (z n.puts) (z n.offers) (z n.takes) (z n.drops) (z n.spurns)
    (z n.drains) (z n.wakes) (z n.withdraws) (z n.taken_back) refl (z n.values) refl refl refl refl
settle_step n w other = by_adding n _ _ _ _ (z n.hands) (z n.puts) (z n.offers) (z n.takes) (z n.drops) (z n.spurns) (z n.drains)
    (z n.wakes) (z n.withdraws) (z n.taken_back) refl (z n.values) (z n.given_up) refl refl refl

act_step : (n : ActNumbers) (a : Act) → tally_in (with_act_in n a) ≡ with_act (tally_in n) a
act_step n (Hand c p v) = by_adding n _ _ _ _ refl (z n.puts) (z n.offers) (z n.takes) (z n.drops) (z n.spurns) (z n.drains) (z n.wakes)
    (z n.withdraws) (z n.taken_back) (z n.settles) (z n.values) (z n.given_up) (z n.ended) refl refl
act_step n (Put c p v) = by_adding n _ _ _ _ (z n.hands) refl (z n.offers) (z n.takes) (z n.drops) (z n.spurns) (z n.drains) (z n.wakes)
    (z n.withdraws) (z n.taken_back) (z n.settles) (z n.values) (z n.given_up) (z n.ended) refl refl
act_step n (Offer c p v w k) = by_adding n _ _ _ _ (z n.hands) (z n.puts) refl (z n.takes) (z n.drops) (z n.spurns) (z n.drains) (z n.wakes)
    (z n.withdraws) (z n.taken_back) (z n.settles) (z n.values) (z n.given_up) (z n.ended) refl refl
act_step n (Take c p v) = by_adding n _ _ _ _ (z n.hands) (z n.puts) (z n.offers) refl (z n.drops) (z n.spurns) (z n.drains) (z n.wakes)
    (z n.withdraws) (z n.taken_back) (z n.settles) (z n.values) (z n.given_up) (z n.ended) refl refl
act_step n (Drop c p v) = by_adding n _ _ _ _ (z n.hands) (z n.puts) (z n.offers) (z n.takes) refl (z n.spurns) (z n.drains) (z n.wakes)
    (z n.withdraws) (z n.taken_back) (z n.settles) (z n.values) (z n.given_up) (z n.ended) refl refl
act_step n (Spurn c p v) = by_adding n _ _ _ _ (z n.hands) (z n.puts) (z n.offers) (z n.takes) (z n.drops) refl (z n.drains) (z n.wakes)
    (z n.withdraws) (z n.taken_back) (z n.settles) (z n.values) (z n.given_up) (z n.ended) refl refl
act_step n (Drain c p v) = by_adding n _ _ _ _ (z n.hands) (z n.puts) (z n.offers) (z n.takes) (z n.drops) (z n.spurns) refl (z n.wakes)
    (z n.withdraws) (z n.taken_back) (z n.settles) (z n.values) (z n.given_up) (z n.ended) refl refl
act_step n (WakeClosed c p) = by_adding n _ _ _ _ (z n.hands) (z n.puts) (z n.offers) (z n.takes) (z n.drops) (z n.spurns) (z n.drains) refl
    (z n.withdraws) (z n.taken_back) (z n.settles) (z n.values) (z n.given_up) (z n.ended) refl refl
act_step n (Withdraw w why) = by_adding n _ _ _ _ (z n.hands) (z n.puts) (z n.offers) (z n.takes) (z n.drops) (z n.spurns) (z n.drains)
    (z n.wakes) refl refl (z n.settles) (z n.values) (z n.given_up) (z n.ended) refl refl
act_step n (Settle w outcome) = settle_step n w outcome
act_step n other = by_adding n _ _ _ _ (z n.hands) (z n.puts) (z n.offers) (z n.takes) (z n.drops) (z n.spurns) (z n.drains) (z n.wakes)
    (z n.withdraws) (z n.taken_back) (z n.settles) (z n.values) (z n.given_up) (z n.ended) refl refl

-- ---- one act on Jobs

job_adding : (n m : JobNumbers) (a b c : ℕ) → m.attached ≡ n.attached + a → m.completed ≡ n.completed + b → m.cancelled ≡ n.cancelled + c
    → job_tally_in m ≡ record { attached = n.attached + a; completed = n.completed + b; cancelled = n.cancelled + c }
job_adding n m a b c ea eb ec = λ i. record { attached = ea i; completed = eb i; cancelled = ec i }

end_step : (n : JobNumbers) (q : ℕ) (end : End)
    → job_tally_in (with_end_in n end)
    ≡ record {
      attached = n.attached + 0;
      completed = n.completed + cond (completes_one (Finish q end)) 1 0;
      cancelled =
          n.cancelled + cond (cancels_one (Finish q end)) 1 0;
    }
end_step n q (ends.Completed v) = job_adding n _ 0 1 0 (z n.attached) refl (z n.cancelled)
end_step n q (ends.Cancelled cause) = job_adding n _ 0 0 1 (z n.attached) (z n.completed) refl

job_step : (n : JobNumbers) (a : JobAct)
    → job_tally_in (with_job_act_in n a)
    ≡ record {
      attached = n.attached + cond (attaches_one a) 1 0;
      completed = n.completed + cond (completes_one a) 1 0;
      cancelled =
          n.cancelled + cond (cancels_one a) 1 0;
    }
job_step n (Attach p q kind tag cancelled) = job_adding n _ 1 0 0 refl (z n.completed) (z n.cancelled)
job_step n (Finish q end) = end_step n q end
job_step n other = job_adding n _ 0 0 0 (z n.attached) (z n.completed) (z n.cancelled)

job_last : (acts : List JobAct) (a : JobAct)
    → job_tally_of (acts ++ a ∷ [])
    ≡ record {
      attached = (job_tally_of acts).attached + cond (attaches_one a) 1 0;
      completed =
          (job_tally_of acts).completed + cond (completes_one a) 1 0;
      cancelled = (job_tally_of acts).cancelled + cond (cancels_one a) 1 0;
    }
job_last acts a = λ i. record {
  attached = how_many_push attaches_one acts a i;
  completed = how_many_push completes_one acts a i;
  cancelled =
      how_many_push cancels_one acts a i;
}

-- ---- one note

acts_more : (n : ActNumbers) (items : List Item) (x : Item) → tally_in n ≡ tally_of (channel_acts_in items)
    → tally_in (acts_with n x) ≡ tally_of (channel_acts_in (items ++ x ∷ []))
acts_more n items (item.Channel (of_channel.Made act)) h =
    act_step n act ∙ (ap (λ t. with_act t act) h ∙ (sym (act_last empty (channel_acts_in items) act)
    ∙ ap tally_of (sym (channel_acts_in-append items (item.Channel (of_channel.Made act) ∷ [])))))
acts_more n items other h = h ∙ ap tally_of (sym (channel_acts_in-append items (other ∷ []) ∙ append-nil (channel_acts_in items)))

jobs_more : (n : JobNumbers) (items : List Item) (x : Item) → job_tally_in n ≡ job_tally_of (job_acts_in items)
    → job_tally_in (jobs_with n x) ≡ job_tally_of (job_acts_in (items ++ x ∷ []))
jobs_more n items (item.Job (of_job.Made act)) h =
    job_step n act
    ∙ (ap (λ t. record {
      attached = t.attached + cond (attaches_one act) 1 0;
      completed = t.completed + cond (completes_one act) 1 0;
      cancelled = t.cancelled + cond (cancels_one act) 1 0;
    }) h
    ∙ (sym (job_last (job_acts_in items) act) ∙ ap job_tally_of (sym (job_acts_in-append items (item.Job (of_job.Made act) ∷ [])))))
jobs_more n items other h = h ∙ ap job_tally_of (sym (job_acts_in-append items (other ∷ []) ∙ append-nil (job_acts_in items)))

one_more : (n : Numbers) (items : List Item) (x : Item) → AreOf items n → AreWithin (with_note n x)
    → AreOf (items ++ x ∷ []) (with_note n x)
one_more n items x h within = record {
  notes = let a = h.notes in let b : length (items ++ x ∷ []) ≡ length items + 1 = length-append items (x ∷ []) in omega (arith, a, b);
  acts = acts_more n.acts items x h.acts;
  jobs = jobs_more n.jobs items x h.jobs;
  within = within;
}

pub noted_more : (n m : Numbers) (items items' : List Item) (x : Item) → AreOf items n → m ≡ with_note n x → AreWithin m → items' ≡ items
    ++ x ∷ [] → AreOf items' m
noted_more n m items items' x h e within f = subst (λ l. AreOf l m) (sym f)
    (subst (AreOf (items ++ x ∷ [])) (sym e) (one_more n items x h (subst AreWithin e within)))
