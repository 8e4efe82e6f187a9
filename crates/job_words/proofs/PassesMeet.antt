-- What a pass has seen after it met another, or took it in.
use Rattle.std.specs.Prelude.{◌≡◌, ℕ, Bool, true, false, ◌||◌, List, [], ◌++◌, Option, Some, None, if◌then◌else◌, refl}
use Rattle.co_base.specs.Orders.{Side}
use Rattle.std.proofs.Common.{sym, ap, ◌∙◌, subst, ne_eqb, append-nil}
use mathlib.Core.List.{IsPrefix}
use Rattle.worded.specs.declared.view.View.{View}
use Rattle.worded.specs.Views.{has_tag}
use Rattle.joined_words.specs.Seen.{view_of}
use Rattle.worded.specs.Histories.{entries_of}
use Rattle.worded.specs.Exchanges.{Met, TookIn}
use Rattle.worded.proofs.StepsOfSeats.{still_own}
use Rattle.worded.proofs.TagsHeld.{has_tag-or}
use Rattle.job_model.specs.Histories.{acts_of}
use Rattle.job_model.specs.Floors.{Looked, is_claimed_by}
use Rattle.job_model.specs.Trees.{is_among}
use Rattle.word_rules.specs.declared.size.ForestSize.{ForestSize}
use Rattle.word_rules.specs.declared.deed.Deed.{Deed}
use Rattle.word_rules.specs.Deeds.{shape_of, doer, history_of, rows_claimed, first_claim, nothing_done, store_of, IsDone, Fits}
use Rattle.job_words.specs.Passes.{Seen, floor_of, floor_seen}
use Rattle.job_words.specs.Meetings.{HasSeen, SameOf, NothingOf, NothingSeenOf, MeetAnswer, EndAnswer}
use Rattle.job_words.proofs.StepsAsCalls.{looked_of}
use Rattle.job_words.proofs.DeedsAddUp.{store_more, IsDone-rest, history-append, acts_of-deeds, no_deeds, claims_kept, claims_mine}

-- ---- two beginnings of one history

pub has_seen : (size k : ForestSize) (tags us : List ℕ) (xs log : List Deed) (before after : List Side) → IsPrefix xs log
    → IsPrefix before after → IsDone (shape_of size) log → HasSeen (floor_of k tags xs before) (floor_of size us log after)
has_seen size k tags us xs log before after p order h =
    let d = (IsDone-rest (shape_of size) xs p.0 (subst (IsDone (shape_of size)) (sym p.1) h)).1 in
    record {
      longer = (history_of p.0, sym (history-append xs p.0) ∙ ap history_of p.1);
      claims = λ r t c. ap (λ l. (store_of l).claimer r) (sym p.1) ∙ ap (λ s. s.claimer r) (store_more xs p.0)
          ∙ claims_kept (shape_of size) (store_of xs) p.0 r t d c;
      order = order;
    }

-- what one caller did follows from its deeds
pub same_of : (size k : ForestSize) (tags us : List ℕ) (who : ℕ) (xs log : List Deed) (before after : List Side)
    → IsDone (shape_of k) xs → IsDone (shape_of size) log → entries_of doer who log ≡ entries_of doer who xs
    → SameOf who (floor_of k tags xs before) (floor_of size us log after)
same_of size k tags us who xs log before after hx h e = record {
  acts = acts_of-deeds who log ∙ ap (λ l. acts_of who (history_of l)) e ∙ sym (acts_of-deeds who xs);
  rows = λ r. claims_mine (shape_of size) nothing_done log who r h
      ∙ ap (λ l. is_claimed_by who (first_claim r) || is_among r (rows_claimed l)) e
      ∙ sym (claims_mine (shape_of k) nothing_done xs who r hx);
}

-- whose deeds are none, its acts are
pub no_acts : (who : ℕ) (log : List Deed) → entries_of doer who log ≡ [] → acts_of who (history_of log) ≡ []
unfolding acts_of
no_acts who log e = acts_of-deeds who log ∙ of_none (no_deeds who log e).0
  where
    of_none : history_of (entries_of doer who log) ≡ [] → acts_of who (history_of (entries_of doer who log)) ≡ []
    of_none n = ap (acts_of who) n

pub nothing_of : (size : ForestSize) (tags : List ℕ) (who : ℕ) (log : List Deed) (order : List Side) → IsDone (shape_of size) log
    → entries_of doer who log ≡ [] → NothingOf who (floor_of size tags log order)
nothing_of size tags who log order h e = record {
  acts = no_acts who log e;
  rows = λ r ne. claims_mine (shape_of size) nothing_done log who r h
      ∙ ap (λ l. is_claimed_by who (first_claim r) || is_among r l) (no_deeds who log e).1
      ∙ ap (λ b. is_claimed_by who (if b then zero_claim else None) || false) (ne_eqb r 0 ne);
}
  where
    zero_claim : Option ℕ
    zero_claim = Some 0

abbrev callers_of : List ℕ → ℕ → Bool
callers_of ts t = has_tag t ts

-- in what a pass has seen
pub nothing_seen_of : (v : View Deed ForestSize) → IsDone (shape_of v.key) v.seen → (t : ℕ) → entries_of doer t v.seen ≡ []
    → NothingSeenOf t v
nothing_seen_of v h t e = nothing_of v.key v.tags t v.seen [] h e

-- ---- a meeting

pub meet_answer : (size : ForestSize) (v b w : Seen) → v.key ≡ size → v.heard_tags ≡ [] → IsDone (shape_of v.key) v.seen
    → IsPrefix v.order w.order × IsPrefix b.order w.order → Met (IsDone (shape_of size)) (Fits size) doer (view_of v) b.seen (view_of w)
    → MeetAnswer (floor_seen v) (floor_seen b) (floor_seen w)
meet_answer size v b w key idle hv order m = subst (λ (x : View Deed ForestSize). MeetAnswer (floor_seen v) (floor_seen b)
    (floor_of x.key x.tags x.seen w.order)) (sym m.now) (record {
      same = record {
        shape = refl;
        alone = refl;
        callers = ap callers_of (ap (λ l. v.tags ++ l) idle ∙ append-nil v.tags);
        order = order.0;
        joint = refl;
      };
      goes_on = has_seen v.key v.key v.tags (v.tags ++ v.heard_tags) v.seen log v.order w.order (m.others, refl) order.0 done;
      told = has_seen v.key b.key b.tags (v.tags ++ v.heard_tags) b.seen log b.order w.order m.told order.1 done;
      own = λ t h. same_of v.key v.key v.tags (v.tags ++ v.heard_tags) t v.seen log v.order w.order hv done
          (still_own doer t v.seen m.others (m.apart t h));
    })
  where
    log : List Deed
    log = v.seen ++ m.others

    done : IsDone (shape_of v.key) log
    done = subst (λ (k : ForestSize). IsDone (shape_of k) log) (sym key) m.is_legal

-- a meeting with a seat of another part, as its callers see it
pub met_looked : (size : ForestSize) (who : ℕ) (v w : Seen) {seen : List Deed} → v.key ≡ size → v.heard_tags ≡ []
    → has_tag who v.tags ≡ true → IsPrefix v.order w.order → Met (IsDone (shape_of size)) (Fits size) doer (view_of v) seen (view_of w)
    → Looked who [] (floor_seen v) (floor_seen w)
met_looked size who v w key idle own order m =
    let n = no_deeds who m.others (m.apart who own) in
    subst (λ (x : View Deed ForestSize). Looked who [] (floor_seen v) (floor_of x.key x.tags x.seen w.order)) (sym m.now)
    (subst (λ (l : List ℕ). Looked who [] (floor_seen v) (floor_of v.key l (v.seen ++ m.others) w.order))
    (sym (ap (λ (l : List ℕ). v.tags ++ l) idle ∙ append-nil v.tags))
    (looked_of v.key v.tags v.seen m.others who [] v.order w.order
    (subst (λ (k : ForestSize). IsDone (shape_of k) (v.seen ++ m.others)) (sym key) m.is_legal) n.0 n.1 order))

-- ---- a pass that ends

pub end_answer : (size : ForestSize) (v u w : Seen) → v.key ≡ size → IsDone (shape_of v.key) v.seen → IsDone (shape_of u.key) u.seen
    → IsPrefix v.order w.order × IsPrefix u.order w.order
    → TookIn (IsDone (shape_of size)) (Fits size) doer (view_of v) (view_of u) (view_of w)
    → EndAnswer (floor_seen v) (floor_seen u) (floor_seen w)
end_answer size v u w key hv hu order m = subst (λ (x : View Deed ForestSize). EndAnswer (floor_seen v) (floor_seen u)
    (floor_of x.key x.tags x.seen w.order)) (sym m.now) (record {
      shape = refl;
      joint = refl;
      callers = λ t. has_tag-or t v.tags u.tags;
      goes_on = has_seen v.key v.key v.tags (v.tags ++ u.tags) v.seen log v.order w.order (m.others, refl) order.0 done;
      told = has_seen v.key u.key u.tags (v.tags ++ u.tags) u.seen log u.order w.order m.told order.1 done;
      own = λ t h. same_of v.key v.key v.tags (v.tags ++ u.tags) t v.seen log v.order w.order hv done
          (still_own doer t v.seen m.others (m.apart t h));
      taken = λ t h. same_of v.key u.key u.tags (v.tags ++ u.tags) t u.seen log u.order w.order hu done (m.given_to t h);
    })
  where
    log : List Deed
    log = v.seen ++ m.others

    done : IsDone (shape_of v.key) log
    done = subst (λ (k : ForestSize). IsDone (shape_of k) log) (sym key) m.is_legal
