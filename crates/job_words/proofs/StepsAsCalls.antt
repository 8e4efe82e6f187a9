-- What steps come to as calls of a floor.
use Rattle.std.specs.Prelude.{◌≡◌, ℕ, Bool, true, false, ◌||◌, List, [], ◌∷◌, ◌++◌, Option, Some, None, is_some, if◌then◌else◌, refl}
use Rattle.co_base.proofs.Orders.{order_then}
use Rattle.std.proofs.Common.{sym, ap, ◌∙◌, subst, arith, append_assoc, append-nil}
use Rattle.std.proofs.lemmas.Bool.{eq-eqb, false≢true}
use mathlib.Core.List.{IsPrefix}
use Rattle.co_base.specs.Orders.{Side}
use Rattle.job_model.specs.declared.acts.JobAct.{JobAct}
use Rattle.job_model.specs.Trees.{IsShape, Tree, is_among}
use Rattle.job_model.specs.Histories.{replay, acts_of}
use Rattle.job_model.specs.Floors.{Floor, HasClaims, Claimed, Looked, Made, AtStep, is_claimed_by}
use Rattle.job_model.proofs.Histories.{acts_of-append}
use Rattle.worded.specs.Views.{has_tag}
use Rattle.worded.specs.Histories.{entries_of}
use Rattle.worded.proofs.TagsAndPrefixes.{entries_of-append}
use Rattle.word_rules.specs.declared.size.ForestSize.{ForestSize}
use Rattle.word_rules.specs.declared.deed.Deed.{Deed}
use Rattle.word_rules.specs.declared.deed.Deed.TheVariants.{Act, Claim, StoreLink, StoreJob}
use Rattle.word_rules.specs.Deeds.{shape_of, doer, history_of, rows_claimed, nothing_done, store_of, IsDone}
use Rattle.job_words.specs.Passes.{Seen, floor_of, floor_seen, Sees, Goes, Does}
use Rattle.job_words.proofs.DeedsAddUp.{store_more, IsDone-rest, history-append, claimed-append, no_acts, no_deeds, claims_kept, claims_fresh, claims_mine, attacher_claimed, claims_within}

-- ---- the laws of what was seen

pub has_claims : (size : ForestSize) (tags : List ℕ) (log : List Deed) (order : List Side) → IsShape (shape_of size)
    → IsDone (shape_of size) log → HasClaims (floor_of size tags log order)
has_claims size tags log order s h = record {
  root = claims_root log h;
  attached = λ r t a. attacher_claimed (shape_of size) log r t h a;
  within = λ r le. claims_within (shape_of size) log (omega (arith, s.some, s.fit)) h r le;
}
  where
    claims_root : (ds : List Deed) → IsDone (shape_of size) ds → (store_of ds).claimer 0 ≡ Some 0
    claims_root ds k = claims_kept (shape_of size) nothing_done ds 0 0 k refl

-- ---- one step, or several

pub claimed_of : (size : ForestSize) (tags us : List ℕ) (xs rest : List Deed) (before after : List Side) (who : ℕ) (rows : List ℕ)
    → IsDone (shape_of size) (xs ++ rest) → rows_claimed (entries_of doer who rest) ≡ rows
    → Claimed who rows (floor_of size tags xs before) (floor_of size us (xs ++ rest) after)
claimed_of size tags us xs rest before after who rows h e = let d = (IsDone-rest (shape_of size) xs rest h).1 in record {
  kept = λ r t k. ap (λ s. s.claimer r) (store_more xs rest) ∙ claims_kept (shape_of size) (store_of xs) rest r t d k;
  fresh = λ r k. claims_fresh (shape_of size) (store_of xs) rest who r d (ap (is_among r) e ∙ k);
  mine = λ r. ap (λ s. is_claimed_by who (s.claimer r)) (store_more xs rest) ∙ claims_mine (shape_of size) (store_of xs) rest who r d
      ∙ ap (λ l. is_claimed_by who ((store_of xs).claimer r) || is_among r l) e;
  alone = λ k. absurd (false≢true k);
}

pub mine_of : (xs rest : List Deed) (who : ℕ) → history_of (entries_of doer who rest) ≡ []
    → acts_of who (history_of (xs ++ rest)) ≡ acts_of who (history_of xs)
mine_of xs rest who e =
    ap (acts_of who) (history-append xs rest) ∙ acts_of-append who (history_of xs) (history_of rest)
    ∙ ap (λ l. acts_of who (history_of xs) ++ l) (no_acts who rest e) ∙ append-nil (acts_of who (history_of xs))

pub looked_of : (size : ForestSize) (tags : List ℕ) (xs rest : List Deed) (who : ℕ) (rows : List ℕ) (before after : List Side)
    → IsDone (shape_of size) (xs ++ rest) → history_of (entries_of doer who rest) ≡ [] → rows_claimed (entries_of doer who rest) ≡ rows
    → IsPrefix before after → Looked who rows (floor_of size tags xs before) (floor_of size tags (xs ++ rest) after)
looked_of size tags xs rest who rows before after h m e order = record {
  same = record { shape = refl; alone = refl; callers = refl; order = order; joint = refl };
  longer = (history_of rest, sym (history-append xs rest));
  mine = mine_of xs rest who m;
  alone = λ k. absurd (false≢true k);
  spare = omega arith;
  claims = claimed_of size tags tags xs rest before after who rows h e;
}

-- a call that made no entry
pub looked : (who : ℕ) (rows : List ℕ) (v w : Seen) → Goes who rows v w → Looked who rows (floor_seen v) (floor_seen w)
looked who rows v w g =
    subst (λ (f : Floor). Looked who rows (floor_seen v) f) (sym is)
    (looked_of v.key v.tags v.seen g.rest who rows v.order w.order (subst (IsDone (shape_of v.key)) g.seen g.done) g.mine g.rows g.order)
  where
    is : floor_seen w ≡ floor_of v.key v.tags (v.seen ++ g.rest) w.order
    is = λ i. floor_of (g.key i) (g.tags i) (g.seen i) w.order

own_entry : (who : ℕ) (act : JobAct) → history_of (Act (record { who = who; act = act }) ∷ []) ≡ record { who = who; act = act } ∷ []
unfolding history_of
own_entry who act = refl

abbrev callers_of : List ℕ → ℕ → Bool
callers_of ts t = has_tag t ts

-- a call that made this act, after steps without an entry, and what was before it
pub made_with : (who : ℕ) (act : JobAct) (rows : List ℕ) (word old : ℕ) (v m w : Seen) → Goes who rows v m
    → (d : Does who (Act (record { who = who; act = act })) word old m w)
    → (x : Made who act rows (floor_seen v) (floor_seen w)) × (x.before ≡ history_of (m.seen ++ d.others))
unfolding rows_claimed
made_with who act rows word old v m w g d = (
  record {
    same = record {
      shape = ap shape_of (d.key ∙ g.key);
      alone = refl;
      callers = ap callers_of (d.tags ∙ g.tags);
      order = order_then v.order m.order w.order g.order d.order;
      joint = refl;
    };
    before = history_of (m.seen ++ d.others);
    longer = (history_of more, sym (ap history_of there ∙ history-append v.seen more));
    mine = ap (λ l. acts_of who (history_of l)) there ∙ mine_of v.seen more who no_entry;
    last = ap history_of d.seen ∙ history-append (m.seen ++ d.others) (e ∷ [])
        ∙ ap (λ l. history_of (m.seen ++ d.others) ++ l) (own_entry who act);
    alone = λ k. absurd (false≢true k);
    spare = omega arith;
    claims = subst (λ (x : ForestSize × List Deed). Claimed who rows (floor_seen v) (floor_of x.0 w.tags x.1 w.order))
        (λ i. (sym (d.key ∙ g.key) i, sym (seen ∙ append_assoc v.seen more (e ∷ [])) i))
        (claimed_of v.key v.tags w.tags v.seen (more ++ e ∷ []) v.order w.order who rows done claims);
  },
  refl,
)
  where
    e : Deed
    e = Act (record { who = who; act = act })

    more : List Deed
    more = g.rest ++ d.others

    there : m.seen ++ d.others ≡ v.seen ++ more
    there = ap (λ l. l ++ d.others) g.seen ∙ append_assoc v.seen g.rest d.others

    seen : w.seen ≡ (v.seen ++ more) ++ e ∷ []
    seen = d.seen ∙ ap (λ l. l ++ e ∷ []) there

    mine_more : entries_of doer who more ≡ entries_of doer who g.rest
    mine_more = entries_of-append doer who g.rest d.others ∙ ap (λ l. entries_of doer who g.rest ++ l) d.apart
        ∙ append-nil (entries_of doer who g.rest)

    no_entry : history_of (entries_of doer who more) ≡ []
    no_entry = ap history_of mine_more ∙ g.mine

    nothing_claimed : rows_claimed (entries_of doer who (e ∷ [])) ≡ []
    nothing_claimed = ap (λ b. rows_claimed (if b then e ∷ [] else [])) (eq-eqb who who refl)

    claims : rows_claimed (entries_of doer who (more ++ e ∷ [])) ≡ rows
    claims = ap rows_claimed (entries_of-append doer who more (e ∷ []))
        ∙ claimed-append (entries_of doer who more) (entries_of doer who (e ∷ []))
        ∙ ap (λ l. rows_claimed (entries_of doer who more) ++ l) nothing_claimed ∙ append-nil (rows_claimed (entries_of doer who more))
        ∙ ap rows_claimed mine_more ∙ g.rows

    done : IsDone (shape_of v.key) (v.seen ++ (more ++ e ∷ []))
    done = subst (λ (k : ForestSize). IsDone (shape_of k) (v.seen ++ (more ++ e ∷ []))) g.key
        (subst (IsDone (shape_of m.key)) (seen ∙ append_assoc v.seen more (e ∷ [])) d.done)

pub made : (who : ℕ) (act : JobAct) (rows : List ℕ) (word old : ℕ) (v m w : Seen) → Goes who rows v m
    → Does who (Act (record { who = who; act = act })) word old m w → Made who act rows (floor_seen v) (floor_seen w)
made who act rows word old v m w g d = (made_with who act rows word old v m w g d).0

-- ---- steps one after another

pub goes_trans : (who : ℕ) (rows more : List ℕ) (u v w : Seen) → Goes who rows u v → Goes who more v w → Goes who (rows ++ more) u w
goes_trans who rows more u v w a b = record {
  rest = a.rest ++ b.rest;
  seen = b.seen ∙ ap (λ l. l ++ b.rest) a.seen ∙ append_assoc u.seen a.rest b.rest;
  mine = ap history_of (entries_of-append doer who a.rest b.rest) ∙ history-append (entries_of doer who a.rest) (entries_of doer who b.rest)
      ∙ ap (λ l. l ++ history_of (entries_of doer who b.rest)) a.mine ∙ b.mine;
  rows = ap rows_claimed (entries_of-append doer who a.rest b.rest)
      ∙ claimed-append (entries_of doer who a.rest) (entries_of doer who b.rest)
      ∙ ap (λ l. l ++ rows_claimed (entries_of doer who b.rest)) a.rows ∙ ap (λ l. rows ++ l) b.rows;
  tags = b.tags ∙ a.tags;
  key = b.key ∙ a.key;
  giving = b.giving ∙ a.giving;
  order = order_then u.order v.order w.order a.order b.order;
  idle = b.idle;
  done = subst (λ (k : ForestSize). IsDone (shape_of k) w.seen) a.key b.done;
}

own_deed : (who : ℕ) (others : List Deed) (d : Deed) → doer d ≡ who → entries_of doer who others ≡ []
    → entries_of doer who (others ++ d ∷ []) ≡ d ∷ []
own_deed who others d is e = entries_of-append doer who others (d ∷ []) ∙ ap (λ l. l ++ entries_of doer who (d ∷ [])) e
    ∙ ap (λ b. if b then d ∷ [] else []) (eq-eqb (doer d) who is)

-- a deed that is no entry
pub does_goes : (who : ℕ) (d : Deed) (rows : List ℕ) (word old : ℕ) (v w : Seen) → doer d ≡ who → history_of (d ∷ []) ≡ []
    → rows_claimed (d ∷ []) ≡ rows → Does who d word old v w → Goes who rows v w
does_goes who d rows word old v w is e c g = record {
  rest = g.others ++ d ∷ [];
  seen = g.seen ∙ append_assoc v.seen g.others (d ∷ []);
  mine = ap history_of (own_deed who g.others d is g.apart) ∙ e;
  rows = ap rows_claimed (own_deed who g.others d is g.apart) ∙ c;
  tags = g.tags;
  key = g.key;
  giving = g.giving;
  order = g.order;
  idle = g.idle;
  done = g.done;
}

pub claim_goes : (who r word old : ℕ) (v w : Seen) → Does who (Claim who r) word old v w → Goes who (r ∷ []) v w
unfolding history_of rows_claimed
claim_goes who r word old v w g = does_goes who (Claim who r) (r ∷ []) word old v w refl refl refl g

pub link_goes : (who r n word old : ℕ) (v w : Seen) → Does who (StoreLink who r n) word old v w → Goes who [] v w
unfolding history_of rows_claimed
link_goes who r n word old v w g = does_goes who (StoreLink who r n) [] word old v w refl refl refl g

pub job_goes : (who r n word old : ℕ) (v w : Seen) → Does who (StoreJob who r n) word old v w → Goes who [] v w
unfolding history_of rows_claimed
job_goes who r n word old v w g = does_goes who (StoreJob who r n) [] word old v w refl refl refl g

pub prefix_of : (who : ℕ) (rows : List ℕ) (v w : Seen) → Goes who rows v w → IsPrefix (history_of v.seen) (history_of w.seen)
prefix_of who rows v w g = (history_of g.rest, sym (ap history_of g.seen ∙ history-append v.seen g.rest))

-- what was so of what was then seen was so at a step
pub at_step : (who : ℕ) (rows more : List ℕ) (u v w : Seen) (P : Tree → Type 0) → Goes who rows u v → Goes who more v w
    → P (replay (history_of v.seen)) → AtStep (floor_seen u) (floor_seen w) P
at_step who rows more u v w P a b p = record {
  moment = history_of v.seen;
  after = prefix_of who rows u v a;
  before =
      prefix_of who more v w b;
  holds = p;
}

pub sees_goes : (who : ℕ) (v w : Seen) → Sees who v w → Goes who [] v w
sees_goes who v w s = record {
  rest = s.others;
  seen = s.seen;
  mine = (no_deeds who s.others s.apart).0;
  rows =
      (no_deeds who s.others s.apart).1;
  tags = s.tags;
  key = s.key;
  giving = s.giving;
  order = s.order;
  idle = s.idle;
  done = s.done;
}

-- a claim that was seen lasts
pub claims_last : (who : ℕ) (rows : List ℕ) (v w : Seen) (r : ℕ) → Goes who rows v w → is_some ((store_of v.seen).claimer r) ≡ true
    → is_some ((store_of w.seen).claimer r) ≡ true
claims_last who rows v w r g a = by_claim ((store_of v.seen).claimer r) refl a
  where
    by_claim : (x : Option ℕ) → (store_of v.seen).claimer r ≡ x → is_some x ≡ true → is_some ((store_of w.seen).claimer r) ≡ true
    by_claim None e k = cc
    by_claim (Some t) e k =
        let d = (IsDone-rest (shape_of v.key) v.seen g.rest (subst (IsDone (shape_of v.key)) g.seen g.done)).1 in
        ap (λ l. is_some ((store_of l).claimer r)) g.seen ∙ ap (λ s. is_some (s.claimer r)) (store_more v.seen g.rest)
        ∙ ap is_some (claims_kept (shape_of v.key) (store_of v.seen) g.rest r t d e)
