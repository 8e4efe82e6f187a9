-- The floors of all are ended into those of the root, one after the other.
use Rattle.std.specs.Prelude.{◌≡◌, ◌≢◌, ℕ, ◌<◌, ◌≤◌, Bool, true, false, List, [], ◌∷◌, ◌++◌, length, map, Option, refl}
use Rattle.std.specs.List.{All}
use Rattle.std.proofs.Common.{sym, ap, ◌∙◌, subst, arith}
use Rattle.std.proofs.lemmas.List.{map-append, length-map}
use Rattle.std.proofs.lemmas.List.Elements.{All-head, All-tail, All-cons, All-nil, All-push, All-weaker, All-map}
use mathlib.Core.Logic.{dite}
use native.Mathlib.Decide.{ℕ_discrete}
use Rattle.std.proofs.lemmas.Bool.{or_left, or_right}
use Rattle.channel_model.specs.Histories.{acts_of, Legal}
use Rattle.channel_model.specs.Floors.{Floor as ChannelFloor}
use Rattle.job_model.specs.declared.acts.End.{End}
use Rattle.job_model.specs.Histories.{acts_of as job_acts_of, Legal as LegalJobs}
use Rattle.job_model.specs.Floors.{Floor, AtStep, HasClaims, is_claimed_by}
use Rattle.note_book.specs.declared.book.Item.{Item}
use Rattle.call_meaning.specs.Facts.{end_at}
use Rattle.script_grammar.specs.Programs.{Program}
use Rattle.script_grammar.specs.WellFormed.{IsProgram}
use Rattle.script_grammar.specs.Tags.{coroutine_count}
use Rattle.script_meaning.specs.Polls.{Frame}
use Rattle.run_laws.specs.Sights.{Sight, Keeps, KnowsTags, SawMore, CountUp}
use Rattle.shared_floors.specs.Meetings.{EndedOnChannels, EndedOnJobs}
use Rattle.run_laws.specs.LastRounds.{AllRested, HasRested, KnowsAllOf, tags_seen, books_seen}
use Rattle.run_laws.specs.Ends.{IsBroughtTo, NoOthers, IsSpare, books_in, IsRunInOneOrderIf}
use Rattle.run_laws.proofs.Hearing.{rested_still, known_still}
use Rattle.run_laws.proofs.Prefixes.{prefix_then}
use Rattle.co_base.proofs.Orders.{order_then}
use Rattle.run_laws.proofs.RunsEnd.{run_rests}

-- what was brought there stays there
pub brought_still : (p : Program) (c c' b : ChannelFloor) (j j' i : Floor) (s : Sight) → EndedOnChannels c c' b → EndedOnJobs j j' i
    → IsBroughtTo p c j s → IsBroughtTo p c' j' s
brought_still p c c' b j j' i s calls jobs h = record {
  keeps = h.keeps;
  shape = calls.shape ∙ h.shape;
  job_shape = jobs.shape ∙ h.job_shape;
  caller = calls.callers s.frame.tag ∙ or_left (c.callers s.frame.tag) (b.callers s.frame.tag) h.caller;
  job_caller = jobs.callers s.frame.tag ∙ or_left (j.callers s.frame.tag) (i.callers s.frame.tag) h.job_caller;
  seen = record {
    channels = prefix_then _ _ _ h.seen.channels calls.longer;
    jobs = prefix_then _ _ _ h.seen.jobs jobs.longer;
    order = order_then _ _ _ h.seen.order calls.order;
    job_order = order_then _ _ _ h.seen.job_order jobs.order;
  };
  same = record { calls = calls.mine s.frame.tag h.caller ∙ h.same.calls; jobs = jobs.mine s.frame.tag h.job_caller ∙ h.same.jobs };
  kept = λ r t e. jobs.kept r t (h.kept r t e);
  claims = λ r. jobs.my_claims s.frame.tag h.job_caller r ∙ h.claims r;
}

-- and that of one more comes there
pub brought_now : (p : Program) (c c' : ChannelFloor) (j j' : Floor) (root : Sight) (s : Sight) → EndedOnChannels c c' s.channels
    → EndedOnJobs j j' s.jobs → IsBroughtTo p c j root → Keeps p root → Keeps p s → IsBroughtTo p c' j' s
brought_now p c c' j j' root s calls jobs there kr k = record {
  keeps = k;
  shape = calls.shape ∙ there.shape ∙ kr.stands.channels ∙ sym k.stands.channels;
  job_shape = jobs.shape ∙ there.job_shape ∙ kr.stands.jobs ∙ sym k.stands.jobs;
  caller = calls.callers s.frame.tag ∙ or_right (c.callers s.frame.tag) (s.channels.callers s.frame.tag) k.stands.of_channels;
  job_caller = jobs.callers s.frame.tag ∙ or_right (j.callers s.frame.tag) (s.jobs.callers s.frame.tag) k.stands.of_jobs;
  seen = record { channels = calls.heard; jobs = jobs.heard; order = calls.heard_order; job_order = jobs.heard_order };
  same = record { calls = calls.theirs s.frame.tag k.stands.of_channels; jobs = jobs.theirs s.frame.tag k.stands.of_jobs };
  kept = λ r t e. jobs.heard_claims r t e;
  claims = λ r. jobs.their_claims s.frame.tag k.stands.of_jobs r;
}

module _ {X : Type 0} (at : X → Sight) where
  pub all_brought : (p : Program) (c c' : ChannelFloor) (j j' : Floor) (xs : List X) (root x : X) → EndedOnChannels c c' (at x).channels
      → EndedOnJobs j j' (at x).jobs → IsBroughtTo p c j (at root) → Keeps p (at x)
      → All (λ z. IsBroughtTo p c j (at z)) xs → All (λ z. IsBroughtTo p c' j' (at z)) (xs ++ x ∷ [])
  all_brought p c c' j j' xs root x ec ej there k h =
      All-push (λ z. IsBroughtTo p c' j' (at z)) xs x
      (All-weaker (λ z. IsBroughtTo p c j (at z)) (λ z. IsBroughtTo p c' j' (at z))
      (λ z b. brought_still p c c' (at x).channels j j' (at x).jobs (at z) ec ej b) xs h)
      (brought_now p c c' j j' (at root) (at x) ec ej there there.keeps k)

  pub all_still : (p : Program) (c c' b : ChannelFloor) (j j' i : Floor) (xs : List X) → EndedOnChannels c c' b → EndedOnJobs j j' i
      → All (λ z. IsBroughtTo p c j (at z)) xs → All (λ z. IsBroughtTo p c' j' (at z)) xs
  all_still p c c' b j j' i xs ec ej h = All-weaker (λ z. IsBroughtTo p c j (at z)) (λ z. IsBroughtTo p c' j' (at z))
      (λ z q. brought_still p c c' b j j' i (at z) ec ej q) xs h

  pub books_push : (root x : X) (xs : List X) (notes : List (List Item)) (note : List Item) → notes ≡ books_seen at (root ∷ xs)
      → note ≡ (at x).frame.book → notes ++ note ∷ [] ≡ books_seen at (root ∷ (xs ++ x ∷ []))
  books_push root x xs notes note e q = ap (λ l. l ++ note ∷ []) e ∙ ap (λ n. books_seen at (root ∷ xs) ++ n ∷ []) q
      ∙ sym (map-append (λ z. (at z).frame.book) (root ∷ xs) (x ∷ []))

  -- what holds of each holds of all
  all_are : (P : X → Type 0) → ((x : X) → P x) → (xs : List X) → All P xs
  all_are P h [] = All-nil P
  all_are P h (x ∷ xs) = All-cons P x xs (h x) (all_are P h xs)

  sights : List X → List Sight
  sights xs = map at xs

  same_tags : (xs : List X) → map (λ s. s.frame.tag) (map at xs) ≡ tags_seen at xs
  same_tags [] = refl
  same_tags (x ∷ xs) = ap (λ l. (at x).frame.tag ∷ l) (same_tags xs)

  same_books : (xs : List X) → books_in (map at xs) ≡ books_seen at xs
  same_books [] = refl
  same_books (x ∷ xs) = ap (λ l. (at x).frame.book ∷ l) (same_books xs)

  -- the run is over; and if the floors of all know one order of both histories, it went along one
  pub run_over : (p : Program) (root0 root1 : X) (others : List X) (c : ChannelFloor) (j : Floor) (end : Option End) → IsProgram p
      → length (root0 ∷ others) ≡ coroutine_count p → CountUp 0 (tags_seen at (root0 ∷ others)) → AllRested at p (root0 ∷ others)
      → SawMore (at root0) (at root1) → AtStep (at root0).jobs (at root1).jobs (λ tree. end_at (tree 0) ≡ end)
      → IsBroughtTo p c j (at root1) → All (λ z. IsBroughtTo p c j (at z)) others → NoOthers p c j → Legal c.shape c.seen
      → LegalJobs j.shape j.seen → HasClaims j → (T : Type 0) → (T → (x : X) → (at x).jobs.joint ≡ true)
      → IsRunInOneOrderIf T p (books_seen at (root1 ∷ others)) c.seen j.seen end
  run_over p root0 root1 others c j end ok count tags rested more look root there none legal legal_jobs claims T joint =
      subst (λ b. IsRunInOneOrderIf T p b c.seen j.seen end) (same_books (root1 ∷ others))
      (run_rests p rested.first (map at (root1 ∷ others)) c j end (record {
        ok = ok;
        count = length-map (root1 ∷ others) at ∙ count;
        tags = subst (CountUp 0) (sym (same_tags (root1 ∷ others))) (subst (λ n. CountUp 0 (n ∷ tags_seen at others)) (sym tag) tags);
        rested = All-map (HasRested p rested.first) at (root1 ∷ others)
            (All-cons (λ z. HasRested p rested.first (at z)) root1 others
            (rested_still p rested.first (at root0) (at root1) more
            (All-head (λ z. HasRested p rested.first (at z)) root0 others rested.rested))
            (All-tail (λ z. HasRested p rested.first (at z)) root0 others rested.rested));
        known = All-map (KnowsAllOf rested.first) at (root1 ∷ others)
            (All-cons (λ z. KnowsAllOf rested.first (at z)) root1 others
            (known_still rested.first (at root0) (at root1) more
            (All-head (λ z. KnowsAllOf rested.first (at z)) root0 others rested.known))
            (All-tail (λ z. KnowsAllOf rested.first (at z)) root0 others rested.known));
        brought = All-map (IsBroughtTo p c j) at (root1 ∷ others) (All-cons (λ z. IsBroughtTo p c j (at z)) root1 others root there);
        others = none;
        legal = legal;
        legal_jobs = legal_jobs;
        root_claimed = claims.root;
        seen = (
          look.moment,
          prefix_then _ _ _ was.knew.jobs (prefix_then _ _ _ was.rested.polled.jobs.longer (prefix_then _ _ _ was.since.jobs look.after)),
          prefix_then _ _ _ look.before root.seen.jobs,
          look.holds,
        );
      }) T (λ t. All-map (λ s. s.jobs.joint ≡ true) at (root1 ∷ others)
      (all_are (λ z. (at z).jobs.joint ≡ true) (joint t) (root1 ∷ others))))
    where
      tag : (at root1).frame.tag ≡ (at root0).frame.tag
      tag = ap (λ (f : Frame). f.tag) more.frame

      was : HasRested p rested.first (at root0)
      was = All-head (λ z. HasRested p rested.first (at z)) root0 others rested.rested

-- nobody else did anything
pub none_else : (p : Program) (c c' b : ChannelFloor) (j j' i : Floor) (may_call may_act : ℕ → Bool) → EndedOnChannels c c' b
    → EndedOnJobs j j' i → IsSpare p b i → KnowsTags p 0 may_call may_act
    → ((k : ℕ) → may_call k ≡ false → acts_of k c'.seen ≡ []) → ((k : ℕ) → may_act k ≡ false → job_acts_of k j'.seen ≡ [])
    → ((r k : ℕ) → may_act k ≡ false → r ≢ 0 → is_claimed_by k (j'.claims r) ≡ false) → NoOthers p c' j'
none_else p c c' b j j' i may_call may_act calls jobs spare tags none none_jobs unclaimed = record {
  calls = λ k le. by_place k le (λ k. acts_of k c'.seen ≡ []) (calls.theirs (coroutine_count p) spare.caller
      ∙ spare.calls) (λ lt. none k (tags refl k lt).0);
  jobs = λ k le. by_place k le (λ k. job_acts_of k j'.seen ≡ []) (jobs.theirs (coroutine_count p) spare.job_caller
      ∙ spare.jobs) (λ lt. none_jobs k (tags refl k lt).1);
  claims = λ r k le n. by_place k le (λ k. is_claimed_by k (j'.claims r) ≡ false) (jobs.their_claims (coroutine_count p) spare.job_caller r
      ∙ spare.claims r n) (λ lt. unclaimed r k (tags refl k lt).1 n);
}
  where
    by_place : (k : ℕ) → coroutine_count p ≤ k → (P : ℕ → Type 0) → P (coroutine_count p) → (coroutine_count p < k → P k) → P k
    by_place k le P here past = dite (ℕ_discrete (coroutine_count p) k) (λ e. subst P e here) (λ ne. past (omega (arith, le, ne)))
