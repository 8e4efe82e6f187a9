-- The cancellations with which a body breaks off.
use Rattle.std.specs.Prelude.{◌≡◌, ◌≢◌, ◌⊎◌, ℕ, Bool, true, false, ◌||◌, List, [], ◌∷◌, ◌++◌, map, Option, Some, None, Result, is_some, refl}
use Rattle.std.specs.List.{list_any, list_all}
use Rattle.std.proofs.Common.{sym, ap, ◌∙◌, subst, ⊎_elim}
use Rattle.co_base.specs.declared.names.Memory.{Memory}
use Rattle.job_model.specs.declared.acts.JobState.TheVariants.{Cancelling}
use Rattle.job_model.specs.declared.acts.Reason.{Reason}
use Rattle.job_model.specs.declared.acts.Reason.TheVariants as reasons
use Rattle.job_model.specs.declared.acts.JobAct.{JobAct}
use Rattle.job_model.specs.declared.acts.JobAct.TheVariants.{EndBody}
use Rattle.job_model.specs.Trees.{Job, Tree, is_cancellable, state_of}
use Rattle.job_model.specs.Acts.{ends_body}
use Rattle.job_model.specs.Needs.{OwnsBody, Holds}
use Rattle.job_model.specs.Families.{IsCancellingOrEnded}
use Rattle.job_model.specs.Cancels.{own_cancel, IsCancelBelow, AreCancelsBelow}
use Rattle.job_model.specs.Failures.{FailsUp}
use Rattle.job_model.specs.Laws.{has_ended}
use Rattle.job_model.specs.Histories.{replay, Legal}
use Rattle.job_model.specs.Floors.{Floor, MayCall, Looked, Added, AtStep}
use Rattle.job_model.proofs.Spans.{nothing_more, added_looked, looked_moment}
use Rattle.job_model.proofs.Below.{cancelling_lasts}
use Rattle.job_model.proofs.Own.{prefix_keeps, owned_body_kept, owned_not_ended, owned_cancelling, may_end_cancelled}
use Rattle.job_model.proofs.Families.{replay_families}
use Rattle.note_book.specs.Items.{job_acts_in}
use Rattle.note_book.proofs.Appended.{job_acts_in-append}
use Rattle.call_meaning.specs.Telling.{Told, on_jobs, IsCancelling, FailedUp, items_in, did}
use Rattle.call_meaning.specs.Facts.{IsAlive, JobFactHolds}
use Rattle.call_meaning.specs.JobCalls.{reason_for, Passes, Breaks}
use Rattle.call_meaning.specs.Seen.{SeenOnJobs, tree_in}
use Rattle.call_meaning.proofs.JobTellings.{items_in-append, acts_did, told_fact, told_then, told_so, told_after}
use Rattle.job_tree.specs.Passes.{IsPass, IsPartOfPass, is_cancel}
use Rattle.job_tree.specs.Failures.{IsFailedUp, BeginsToFailUp, HasBegunToFailUp}
use Rattle.job_tree.proofs.Looks.{may_later, holds_later}
use Rattle.job_tree.proofs.PassesTold.{told_noted, pass_acts, pass_noted, all_append, below_cancels, own_cancels}
use Rattle.scope_builders.specs.Calls.{BeginsToBreak}
use Rattle.scope_builders.specs.Parts.{AreCancels, BreakAnswer, IsBroken, HasBegunToBreak, IsCancelledFirst}

-- ---- Cancels end no body

cancel_ends_none : (tree : Tree) (row r : ℕ) (act : JobAct) → IsCancelBelow tree row act → ends_body r act ≡ false
cancel_ends_none tree row r (EndBody q v) h = absurd h
cancel_ends_none tree row r other h = refl

below_ends_none : (tree : Tree) (row r : ℕ) (acts : List JobAct) → AreCancelsBelow tree row acts → list_any (ends_body r) acts ≡ false
below_ends_none tree row r [] h = refl
below_ends_none tree row r (x ∷ xs) h = ap (λ b. b || list_any (ends_body r) xs) (cancel_ends_none tree row r x h.0)
    ∙ below_ends_none tree row r xs h.1

append_ends_none : (r : ℕ) (xs ys : List JobAct) → list_any (ends_body r) xs ≡ false → list_any (ends_body r) ys ≡ false
    → list_any (ends_body r) (xs ++ ys) ≡ false
append_ends_none r [] ys e f = f
append_ends_none r (x ∷ xs) ys e f = by_test (ends_body r x) refl e (λ k. append_ends_none r xs ys k f)
  where
    by_test : (b : Bool) → ends_body r x ≡ b → (b || list_any (ends_body r) xs) ≡ false
        → (list_any (ends_body r) xs ≡ false → list_any (ends_body r) (xs ++ ys) ≡ false)
        → (ends_body r x || list_any (ends_body r) (xs ++ ys)) ≡ false
    by_test true k h rest = cc
    by_test false k h rest = ap (λ b. b || list_any (ends_body r) (xs ++ ys)) k ∙ rest h

own_ends_none : (r row : ℕ) (reason : Reason) (newly : Bool) → list_any (ends_body r) (own_cancel newly row reason) ≡ false
own_ends_none r row reason true = refl
own_ends_none r row reason false = refl

up_ends_none : (tree : Tree) (row r : ℕ) (acts : List JobAct) → FailsUp tree row acts → list_any (ends_body r) acts ≡ false
up_ends_none tree _ r _ (FailsUp.ends row s) = refl
up_ends_none tree _ r _ (FailsUp.stops row p acts g a c) = below_ends_none tree p r acts c
up_ends_none tree _ r _ (FailsUp.goes_on row p acts more all g a c u e) = ap (list_any (ends_body r)) e
    ∙ append_ends_none r acts more (below_ends_none tree p r acts c) (up_ends_none tree p r more u)

-- ---- all of them are Cancels

up_cancels : (tree : Tree) (row : ℕ) (acts : List JobAct) → FailsUp tree row acts → list_all is_cancel acts ≡ true
up_cancels tree _ _ (FailsUp.ends row s) = refl
up_cancels tree _ _ (FailsUp.stops row p acts g a c) = below_cancels tree p acts c
up_cancels tree _ _ (FailsUp.goes_on row p acts more all g a c u e) = ap (list_all is_cancel) e
    ∙ all_append acts more (below_cancels tree p acts c) (up_cancels tree p more u)

begun_up_cancels : (tree : Tree) (row : ℕ) (acts : List JobAct) → BeginsToFailUp tree row acts → list_all is_cancel acts ≡ true
begun_up_cancels tree _ _ (BeginsToFailUp.in_pass row p newly acts g c) =
    all_append (own_cancel newly p (reasons.Child row)) acts (own_cancels p (reasons.Child row) newly) (below_cancels tree p acts c)
begun_up_cancels tree _ _ (BeginsToFailUp.goes_on row p acts more all g a c u e) = ap (list_all is_cancel) e
    ∙ all_append acts more (below_cancels tree p acts c) (begun_up_cancels tree p more u)

pass_cancels : {row : ℕ} {reason : Reason} {newly : Bool} {a b : SeenOnJobs} {count : ℕ} → (h : IsPass row reason newly a b count)
    → AreCancels h.told
pass_cancels {row} {reason} {newly} {a} {b} h =
    let below = below_cancels (tree_in b) row h.group.below h.cancels in
    ap (list_all is_cancel) (pass_acts h) ∙ all_append (own_cancel newly row reason) h.group.below (own_cancels row reason newly) below

climb_acts : (row : ℕ) (up : List JobAct) → job_acts_in (items_in (map did up ++ on_jobs (FailedUp row up) ∷ [])) ≡ up
unfolding items_in
climb_acts row up = ap job_acts_in (items_in-append (map did up) (on_jobs (FailedUp row up) ∷ []) ∙ nothing_more (items_in (map did up)))
    ∙ acts_did up

told_cancels : (xs ys : List Told) → AreCancels xs → AreCancels ys → AreCancels (xs ++ ys)
told_cancels xs ys h k =
    ap (list_all is_cancel) (ap job_acts_in (items_in-append xs ys) ∙ job_acts_in-append (items_in xs) (items_in ys))
    ∙ all_append (job_acts_in (items_in xs)) (job_acts_in (items_in ys)) h k

none_cancels : AreCancels []
unfolding items_in
none_cancels = refl

-- the body is still the caller's after a pass
passed_owned : (row : ℕ) {q : ℕ} {reason : Reason} {newly : Bool} {a b : SeenOnJobs} {count : ℕ} → Legal b.floor.shape b.floor.seen
    → IsPass q reason newly a b count → OwnsBody a.who (tree_in a row) → OwnsBody a.who (tree_in b row)
passed_owned row {q} {reason} {newly} {a} {b} l h m =
    let own = own_cancel newly q reason in
    let none = append_ends_none row own h.group.below (own_ends_none row q reason newly)
    (below_ends_none (tree_in b) q row h.group.below h.cancels) in
    owned_body_kept a.who row (own ++ h.group.below) [] a.floor b.floor l (pass_noted h).added none m

-- ---- the cases

asked_breaks : (who row : ℕ) (newly : Bool) (told : List Told) → Passes row reasons.Request newly told → Breaks who row None told
asked_breaks who row true told h = Breaks.asked told h
asked_breaks who row false told h = Breaks.had_been None told h

-- on request
pub broken_request : {row : ℕ} {failure : Option ℕ} {newly : Bool} {a b : SeenOnJobs} {count : ℕ} → failure ≡ None
    → Legal b.floor.shape b.floor.seen → OwnsBody a.who (tree_in a row) → IsPass row reasons.Request newly a b count
    → IsBroken row failure a b
broken_request {row} {failure} {newly} {a} is l m h = record {
  told = h.told;
  breaks = subst (λ (f : Option ℕ). Breaks a.who row f h.told) (sym is) (asked_breaks a.who row newly h.told h.group);
  cancels = pass_cancels h;
  noted = h.noted;
  owned = passed_owned row l h m;
  here = h.all.here;
}

own_breaks : (who row f : ℕ) (newly : Bool) (told : List Told) → (newly ≡ true → row ≢ who) → Passes row (reasons.Own f) newly told
    → Breaks who row (Some f) told
own_breaks who row f true told n h = Breaks.scope_fails f told (n refl) h
own_breaks who row f false told n h = Breaks.had_been (Some f) told h

-- it was not newly cancelled, or is not the coroutine's own
pub not_both : (newly : Bool) (row who : ℕ) → ((newly ≡ true) × (row ≢ who)) ⊎ (newly ≡ false) → newly ≡ true → row ≢ who
not_both newly row who h n = ⊎_elim (λ a. a.1) (λ b. absurd (let k : true ≡ false = sym n ∙ b in cc)) h

-- by a failure, without taking it up: the Job had been cancelled, or is a scope's
pub broken_own : {row f : ℕ} {failure : Option ℕ} {newly : Bool} {a b : SeenOnJobs} {count : ℕ} → failure ≡ Some f
    → (newly ≡ true → row ≢ a.who)
    → Legal b.floor.shape b.floor.seen → OwnsBody a.who (tree_in a row) → IsPass row (reasons.Own f) newly a b count
    → IsBroken row failure a b
broken_own {row} {f} {failure} {newly} {a} is n l m h = record {
  told = h.told;
  breaks = subst (λ (o : Option ℕ). Breaks a.who row o h.told) (sym is) (own_breaks a.who row f newly h.told n h.group);
  cancels = pass_cancels h;
  noted = h.noted;
  owned = passed_owned row l h m;
  here = h.all.here;
}

alive : (x : Option Job) → is_some x ≡ true → has_ended x ≡ false → IsAlive x
alive None s e = cc
alive (Some j) s e = e

owned_some : (who : ℕ) (x : Option Job) → OwnsBody who x → is_some x ≡ true
owned_some who None h = absurd h
owned_some who (Some j) h = refl

fails_so : (who row f : ℕ) (up : List JobAct) (newly : Bool) (pass : List Told) → newly ≡ true → row ≡ who
    → Passes row (reasons.Own f) newly pass → Breaks who row (Some f) (pass ++ (map did up ++ on_jobs (FailedUp row up) ∷ []))
fails_so who row f up true pass n e h = Breaks.fails f up pass _ e h refl
fails_so who row f up false pass n e h = cc

-- by a failure of the coroutine, which was taken up
pub broken_up : {row f : ℕ} {failure : Option ℕ} {newly : Bool} {a b c : SeenOnJobs} {count : ℕ} → failure ≡ Some f → newly ≡ true
    → row ≡ a.who
    → Legal b.floor.shape b.floor.seen → Legal c.floor.shape c.floor.seen → OwnsBody a.who (tree_in a row)
    → IsPass row (reasons.Own f) newly a b count → IsFailedUp row b c → IsBroken row failure a c
broken_up {row} {f} {failure} {newly} {a} {b} {c} is n e lb lc m h u =
    let who : ℕ = a.who in
    let tree : Tree = tree_in c in
    let owned_b : OwnsBody who (tree_in b row) = passed_owned row lb h m in
    let added : Added b.who u.acts [] b.floor c.floor = subst (λ (l : List JobAct). Added b.who l [] b.floor c.floor) (acts_did u.acts)
    u.noted.added in
    let up_added : Added who u.acts [] b.floor c.floor = subst (λ n. Added n u.acts [] b.floor c.floor) h.noted.who added in
    let owned_c = owned_body_kept who row u.acts [] b.floor c.floor lc up_added (up_ends_none tree row row u.acts u.up) owned_b in
    let sound = (replay_families c.floor.shape c.floor.seen lc).rows row in
    let lives : IsAlive (tree row) = alive (tree row) (owned_some who (tree row) owned_c) (owned_not_ended who (tree row) owned_c sound) in
    let up : List Told = map did u.acts ++ on_jobs (FailedUp row u.acts) ∷ [] in
    record {
      told = h.told ++ up;
      breaks = subst (λ (o : Option ℕ). Breaks who row o (h.told ++ up)) (sym is) (fails_so who row f u.acts newly h.told n e h.group);
      cancels = told_cancels h.told up (pass_cancels h) (ap (list_all is_cancel) (climb_acts row u.acts) ∙ up_cancels tree row u.acts u.up);
      noted = told_then h.noted (told_so (FailedUp row u.acts) u.noted (u.up, lives));
      owned = owned_c;
      here = prefix_keeps IsCancellingOrEnded cancelling_lasts c.floor.shape b.floor.seen c.floor.seen row lc up_added.longer h.all.here;
    }

-- ---- a part, where there was no memory

-- in the pass
pub part_begun : {row : ℕ} {failure : Option ℕ} {a b : SeenOnJobs} → IsPartOfPass row (reason_for failure) a b
    → HasBegunToBreak row failure a b
part_begun {row} {failure} {a} {b} h =
    let own = own_cancel h.newly row (reason_for failure) in
    let below = below_cancels (tree_in b) row h.below h.cancels in
    record {
      told = map did (own ++ h.below);
      begun = BeginsToBreak.in_pass failure h.newly h.below h.cancels;
      cancels = ap (list_all is_cancel) (acts_did (own ++ h.below))
          ∙ all_append own h.below (own_cancels row (reason_for failure) h.newly) below;
      noted = told_noted h.noted;
    }

begun_up : (who row f : ℕ) (newly : Bool) (tree : Tree) (pass : List Told) (up : List JobAct) → newly ≡ true → row ≡ who
    → Passes row (reasons.Own f) newly pass → BeginsToFailUp tree row up → BeginsToBreak who row tree (Some f) (pass ++ map did up)
begun_up who row f true tree pass up n e h u = BeginsToBreak.going_up f pass up e h u
begun_up who row f false tree pass up n e h u = cc

-- after the pass
pub broken_later : {row f : ℕ} {newly : Bool} {a b c : SeenOnJobs} {count : ℕ} → newly ≡ true → row ≡ a.who
    → IsPass row (reasons.Own f) newly a b count → HasBegunToFailUp row b c → HasBegunToBreak row (Some f) a c
broken_later {row} {f} {newly} {a} {b} {c} n e h m = record {
  told = h.told ++ map did m.acts;
  begun = begun_up a.who row f newly (tree_in c) h.told m.acts n e h.group m.up;
  cancels = told_cancels h.told (map did m.acts) (pass_cancels h)
      (ap (list_all is_cancel) (acts_did m.acts) ∙ begun_up_cancels (tree_in c) row m.acts m.up);
  noted = told_then h.noted (told_noted m.noted);
}

-- the reason is known
pub part_request : {row : ℕ} {failure : Option ℕ} {a b : SeenOnJobs} → failure ≡ None → IsPartOfPass row reasons.Request a b
    → HasBegunToBreak row failure a b
part_request {row} {a = a} {b = b} e h =
    let none : HasBegunToBreak row None a b = part_begun h in
    subst (λ (o : Option ℕ). HasBegunToBreak row o a b) (sym e) none

-- the failure is known
pub broken_as : (row : ℕ) {f : ℕ} {failure : Option ℕ} (a b : SeenOnJobs) (r : Result (Unit {0}) Memory) → failure ≡ Some f
    → BreakAnswer row (Some f) a b r → BreakAnswer row failure a b r
broken_as row a b r e h = subst (λ (o : Option ℕ). BreakAnswer row o a b r) (sym e) h

-- ---- the whole first part

pub owned_looked : (who row : ℕ) (a b : Floor) → Legal b.shape b.seen → Looked who [] a b → OwnsBody who (replay a.seen row)
    → OwnsBody who (replay b.seen row)
owned_looked who row a b l h m = owned_body_kept who row [] [] a b l (added_looked who [] a b h) refl m

pub call_looked : (who row : ℕ) (a b : Floor) → Legal b.shape b.seen → Looked who [] a b → MayCall who row a → MayCall who row b
call_looked who row a b l h m = may_later who row a b h.same h.longer l m

pub reason_looked : (who row : ℕ) (reason : Reason) (a b : Floor) → Legal b.shape b.seen → Looked who [] a b
    → Holds a.shape (replay a.seen) who row reason → Holds b.shape (replay b.seen) who row reason
reason_looked who row reason a b l h m = holds_later who row reason a b h.same h.longer l m

-- no memory
pub cancelled_some : {row : ℕ} {failure : Option ℕ} {a b c : SeenOnJobs} → Looked a.who [] a.floor b.floor → b.who ≡ a.who
    → b.items ≡ a.items
    → HasBegunToBreak row failure b c → HasBegunToBreak row failure a c
cancelled_some {row} {failure} {a} {b} {c} h w e m = record {
  told = m.told;
  begun = subst (λ n. BeginsToBreak n row (tree_in c) failure m.told) w m.begun;
  cancels = m.cancels;
  noted = told_after w e (added_looked a.who [] a.floor b.floor h) m.noted;
}

-- the Job was cancelled so
pub cancelled_so : {row : ℕ} {failure : Option ℕ} {a b d : SeenOnJobs} → Looked a.who [] a.floor b.floor → b.who ≡ a.who → b.items ≡ a.items
    → Legal d.floor.shape d.floor.seen → IsBroken row failure b d → IsCancelledFirst row failure a d
cancelled_so {row} {failure} {a} {b} {d} look w e l h =
    let sound = (replay_families d.floor.shape d.floor.seen l).rows row in
    let owned : OwnsBody a.who (tree_in d row) = subst (λ n. OwnsBody n (tree_in d row)) w h.owned in
    let told = told_after w e (added_looked a.who [] a.floor b.floor look) h.noted in
    record {
      told = h.told;
      breaks = subst (λ n. Breaks n row failure h.told) w h.breaks;
      cancels = h.cancels;
      noted = told_so (IsCancelling row) told (owned_cancelling a.who (tree_in d row) owned sound h.here);
      may = may_end_cancelled a.who (tree_in d row) owned h.here;
    }

cancelling_past : (x : Option Job) → state_of x ≡ Some Cancelling → IsCancellingOrEnded x
cancelling_past None e = cc
cancelling_past (Some j) e = ap is_cancellable (let k : j.state ≡ Cancelling = cc in k)

-- it was seen Cancelling
pub cancelled_seen : {row : ℕ} {failure : Option ℕ} {a b : SeenOnJobs} → b.who ≡ a.who → b.items ≡ a.items
    → Legal b.floor.shape b.floor.seen
    → OwnsBody a.who (tree_in a row) → Looked a.who [] a.floor b.floor
    → AtStep a.floor b.floor (λ tree. state_of (tree row) ≡ Some Cancelling)
    → IsCancelledFirst row failure a b
cancelled_seen {row} {failure} {a} {b} w e l m look at =
    let added = added_looked a.who [] a.floor b.floor look in
    let owned = owned_body_kept a.who row [] [] a.floor b.floor l added refl m in
    let past = cancelling_past (replay at.moment row) at.holds in
    let here = prefix_keeps IsCancellingOrEnded cancelling_lasts b.floor.shape at.moment b.floor.seen row l at.before past in
    let so = looked_moment a.who [] a.floor b.floor (JobFactHolds (IsCancelling row)) look at in
    record {
      told = [];
      breaks = Breaks.seen failure;
      cancels = none_cancels;
      noted = told_fact (IsCancelling row) w e added so;
      may = may_end_cancelled a.who (tree_in b row) owned here;
    }
