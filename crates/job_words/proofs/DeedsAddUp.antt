-- Lists of deeds that go on.
use Rattle.std.specs.Prelude.{◌≡◌, ℕ, ◌==◌, ◌<◌, ◌≤◌, Bool, true, false, ◌||◌, List, [], ◌∷◌, ◌++◌, Option, Some, None, if◌then◌else◌, refl}
use Rattle.std.proofs.Common.{sym, ap, ◌∙◌, arith}
use Rattle.std.proofs.lemmas.Bool.{eqb-true, eq-eqb}
use Rattle.job_model.specs.declared.acts.JobAct.{JobAct}
use Rattle.job_model.specs.declared.acts.JobAct.TheVariants.{Attach, Start}
use Rattle.job_model.specs.Trees.{Shape, is_among}
use Rattle.job_model.specs.Acts.{attaches}
use Rattle.job_model.specs.Histories.{replay, replay_from, Legal, LegalFrom, acts_of}
use Rattle.job_model.specs.Floors.{attacher, is_claimed_by}
use Rattle.worded.specs.Histories.{entries_of}
use Rattle.word_rules.specs.declared.deed.Deed.{Deed}
use Rattle.word_rules.specs.declared.deed.Deed.TheVariants.{Act, Claim, StoreLink, StoreJob}
use Rattle.word_rules.specs.Deeds.{doer, history_of, rows_claimed, Store, put, nothing_done, after_deed, store_from, store_of, IsStored, DeedNeeds, DoneFrom, IsDone}
use Rattle.job_model.proofs.Steps.{not_named}

pub store_from-append : (s : Store) (xs ys : List Deed) → store_from s (xs ++ ys) ≡ store_from (store_from s xs) ys
unfolding store_from
store_from-append s [] ys = refl
store_from-append s (d ∷ ds) ys = store_from-append (after_deed s d) ds ys

pub store_push : (xs : List Deed) (d : Deed) → store_of (xs ++ d ∷ []) ≡ after_deed (store_of xs) d
unfolding store_from
store_push xs d = store_from-append nothing_done xs (d ∷ [])

pub store_more : (xs ys : List Deed) → store_of (xs ++ ys) ≡ store_from (store_of xs) ys
store_more xs ys = store_from-append nothing_done xs ys

pub DoneFrom-append : (shape : Shape) (s : Store) (xs ys : List Deed) → DoneFrom shape s xs → DoneFrom shape (store_from s xs) ys
    → DoneFrom shape s (xs ++ ys)
unfolding store_from DoneFrom
DoneFrom-append shape s [] ys h k = k
DoneFrom-append shape s (d ∷ ds) ys h k = (h.0, DoneFrom-append shape (after_deed s d) ds ys h.1 k)

pub DoneFrom-parts : (shape : Shape) (s : Store) (xs ys : List Deed) → DoneFrom shape s (xs ++ ys) → DoneFrom shape s xs
    × DoneFrom shape (store_from s xs) ys
unfolding store_from DoneFrom
DoneFrom-parts shape s [] ys h = (tt, h)
DoneFrom-parts shape s (d ∷ ds) ys h = let r = DoneFrom-parts shape (after_deed s d) ds ys h.1 in ((h.0, r.0), r.1)

pub IsDone_push : (shape : Shape) (xs : List Deed) (d : Deed) → IsDone shape xs → DeedNeeds shape (store_of xs) d
    → IsDone shape (xs ++ d ∷ [])
unfolding store_from DoneFrom
IsDone_push shape xs d h k = DoneFrom-append shape nothing_done xs (d ∷ []) h (k, tt)

pub IsDone-rest : (shape : Shape) (xs ys : List Deed) → IsDone shape (xs ++ ys) → IsDone shape xs × DoneFrom shape (store_of xs) ys
IsDone-rest shape xs ys h = DoneFrom-parts shape nothing_done xs ys h

pub history-append : (xs ys : List Deed) → history_of (xs ++ ys) ≡ history_of xs ++ history_of ys
unfolding history_of
history-append [] ys = refl
history-append (Act e ∷ ds) ys = ap (λ l. e ∷ l) (history-append ds ys)
history-append (Claim who r ∷ ds) ys = history-append ds ys
history-append (StoreLink who r w ∷ ds) ys = history-append ds ys
history-append (StoreJob who r w ∷ ds) ys = history-append ds ys

pub claimed-append : (xs ys : List Deed) → rows_claimed (xs ++ ys) ≡ rows_claimed xs ++ rows_claimed ys
unfolding rows_claimed
claimed-append [] ys = refl
claimed-append (Act e ∷ ds) ys = claimed-append ds ys
claimed-append (Claim who r ∷ ds) ys = ap (λ l. r ∷ l) (claimed-append ds ys)
claimed-append (StoreLink who r w ∷ ds) ys = claimed-append ds ys
claimed-append (StoreJob who r w ∷ ds) ys = claimed-append ds ys

pub tree_from : (s : Store) (ds : List Deed) → (store_from s ds).tree ≡ replay_from s.tree (history_of ds)
unfolding store_from history_of replay_from
tree_from s [] = refl
tree_from s (Act e ∷ ds) = tree_from (after_deed s (Act e)) ds
tree_from s (Claim who r ∷ ds) = tree_from (after_deed s (Claim who r)) ds
tree_from s (StoreLink who r w ∷ ds) = tree_from (after_deed s (StoreLink who r w)) ds
tree_from s (StoreJob who r w ∷ ds) = tree_from (after_deed s (StoreJob who r w)) ds

-- the tree that deeds leave is that of their entries
pub tree_is : (ds : List Deed) → (store_of ds).tree ≡ replay (history_of ds)
tree_is ds = tree_from nothing_done ds

pub legal_from : (shape : Shape) (s : Store) (ds : List Deed) → DoneFrom shape s ds → LegalFrom shape s.tree (history_of ds)
unfolding DoneFrom history_of LegalFrom
legal_from shape s [] h = tt
legal_from shape s (Act e ∷ ds) h = (h.0.0, legal_from shape (after_deed s (Act e)) ds h.1)
legal_from shape s (Claim who r ∷ ds) h = legal_from shape (after_deed s (Claim who r)) ds h.1
legal_from shape s (StoreLink who r w ∷ ds) h = legal_from shape (after_deed s (StoreLink who r w)) ds h.1
legal_from shape s (StoreJob who r w ∷ ds) h = legal_from shape (after_deed s (StoreJob who r w)) ds h.1

-- and their entries are legal
pub is_legal : (shape : Shape) (ds : List Deed) → IsDone shape ds → Legal shape (history_of ds)
is_legal shape ds h = legal_from shape nothing_done ds h

-- ---- whose deeds

pub apart_first : (who : ℕ) (d : Deed) (ds : List Deed) → entries_of doer who (d ∷ ds) ≡ [] → (doer d ≡ who → ⊥)
    × (entries_of doer who ds ≡ [])
apart_first who d ds h = by_test (doer d == who) refl h
  where
    by_test : (b : Bool) → (doer d == who) ≡ b → (if b then d ∷ entries_of doer who ds else entries_of doer who ds) ≡ []
        → (doer d ≡ who → ⊥) × (entries_of doer who ds ≡ [])
    by_test true e k = cc
    by_test false e k = (λ u. let v : true ≡ false = sym (eq-eqb (doer d) who u) ∙ e in cc, k)

-- the entries of one caller are among its deeds
pub acts_of-deeds : (who : ℕ) (ds : List Deed) → acts_of who (history_of ds) ≡ acts_of who (history_of (entries_of doer who ds))
unfolding history_of acts_of
acts_of-deeds who [] = refl
acts_of-deeds who (Act e ∷ ds) = by_test (e.who == who) refl (acts_of-deeds who ds)
  where
    by_test : (b : Bool) → (e.who == who) ≡ b → acts_of who (history_of ds) ≡ acts_of who (history_of (entries_of doer who ds))
        → (if b then e.act ∷ acts_of who (history_of ds) else acts_of who (history_of ds)) ≡
        acts_of who (history_of (if b then Act e ∷ entries_of doer who ds else entries_of doer who ds))
    by_test true k h = ap (λ l. e.act ∷ l) h
        ∙ sym (ap (λ b. if b then e.act ∷ acts_of who (history_of (entries_of doer who ds)) else acts_of who
        (history_of (entries_of doer who ds))) k)
    by_test false k h = h
acts_of-deeds who (Claim t r ∷ ds) = by_test (t == who) (acts_of-deeds who ds)
  where
    by_test : (b : Bool) → acts_of who (history_of ds) ≡ acts_of who (history_of (entries_of doer who ds))
        → acts_of who (history_of ds) ≡ acts_of who (history_of (if b then Claim t r ∷ entries_of doer who ds else entries_of doer who ds))
    by_test true h = h
    by_test false h = h
acts_of-deeds who (StoreLink t r w ∷ ds) = by_test (t == who) (acts_of-deeds who ds)
  where
    by_test : (b : Bool) → acts_of who (history_of ds) ≡ acts_of who (history_of (entries_of doer who ds))
        → acts_of who (history_of ds) ≡ acts_of who (history_of
        (if b then StoreLink t r w ∷ entries_of doer who ds else entries_of doer who ds))
    by_test true h = h
    by_test false h = h
acts_of-deeds who (StoreJob t r w ∷ ds) = by_test (t == who) (acts_of-deeds who ds)
  where
    by_test : (b : Bool) → acts_of who (history_of ds) ≡ acts_of who (history_of (entries_of doer who ds))
        → acts_of who (history_of ds) ≡ acts_of who (history_of
        (if b then StoreJob t r w ∷ entries_of doer who ds else entries_of doer who ds))
    by_test true h = h
    by_test false h = h

pub no_acts : (who : ℕ) (ds : List Deed) → history_of (entries_of doer who ds) ≡ [] → acts_of who (history_of ds) ≡ []
unfolding acts_of
no_acts who ds h = acts_of-deeds who ds ∙ ap (acts_of who) h

pub no_deeds : (who : ℕ) (ds : List Deed) → entries_of doer who ds ≡ [] → (history_of (entries_of doer who ds) ≡ [])
    × (rows_claimed (entries_of doer who ds) ≡ [])
unfolding history_of rows_claimed
no_deeds who ds h = (ap history_of h, ap rows_claimed h)

-- ---- claims

claim_kept : (s : Store) (q u r t : ℕ) → s.claimer q ≡ None → s.claimer r ≡ Some t → put q (Some u) s.claimer r ≡ Some t
claim_kept s q u r t none h = by_test (q == r) refl
  where
    by_test : (b : Bool) → (q == r) ≡ b → (if b then Some u else s.claimer r) ≡ Some t
    by_test true e = absurd (let k : None ≡ Some t = sym none ∙ ap s.claimer (eqb-true q r e) ∙ h in cc)
    by_test false e = h

pub claims_kept : (shape : Shape) (s : Store) (ds : List Deed) (r t : ℕ) → DoneFrom shape s ds → s.claimer r ≡ Some t
    → (store_from s ds).claimer r ≡ Some t
unfolding store_from DoneFrom
claims_kept shape s [] r t h k = k
claims_kept shape s (Act e ∷ ds) r t h k = claims_kept shape (after_deed s (Act e)) ds r t h.1 k
claims_kept shape s (Claim u q ∷ ds) r t h k = claims_kept shape (after_deed s (Claim u q)) ds r t h.1 (claim_kept s q u r t h.0.0 k)
claims_kept shape s (StoreLink u q w ∷ ds) r t h k = claims_kept shape (after_deed s (StoreLink u q w)) ds r t h.1 k
claims_kept shape s (StoreJob u q w ∷ ds) r t h k = claims_kept shape (after_deed s (StoreJob u q w)) ds r t h.1 k

unclaimed_before : (s : Store) (q u r : ℕ) → put q (Some u) s.claimer r ≡ None → s.claimer r ≡ None
unclaimed_before s q u r h = by_test (q == r) refl h
  where
    by_test : (b : Bool) → (q == r) ≡ b → (if b then Some u else s.claimer r) ≡ None → s.claimer r ≡ None
    by_test true e k = cc
    by_test false e k = k

pub claims_fresh : (shape : Shape) (s : Store) (ds : List Deed) (who r : ℕ) → DoneFrom shape s ds
    → is_among r (rows_claimed (entries_of doer who ds)) ≡ true → s.claimer r ≡ None
unfolding store_from DoneFrom rows_claimed
claims_fresh shape s [] who r h k = cc
claims_fresh shape s (Act e ∷ ds) who r h k = by_test (e.who == who) k (λ u. claims_fresh shape (after_deed s (Act e)) ds who r h.1 u)
  where
    by_test : (b : Bool) → is_among r (rows_claimed (if b then Act e ∷ entries_of doer who ds else entries_of doer who ds)) ≡ true
        → (is_among r (rows_claimed (entries_of doer who ds)) ≡ true → s.claimer r ≡ None) → s.claimer r ≡ None
    by_test true u rest = rest u
    by_test false u rest = rest u
claims_fresh shape s (Claim t q ∷ ds) who r h k = by_test (t == who) k
    (λ u. unclaimed_before s q t r (claims_fresh shape (after_deed s (Claim t q)) ds who r h.1 u))
  where
    here : (b : Bool) → (r == q) ≡ b → (b || is_among r (rows_claimed (entries_of doer who ds))) ≡ true
        → (is_among r (rows_claimed (entries_of doer who ds)) ≡ true → s.claimer r ≡ None) → s.claimer r ≡ None
    here true e u rest = ap s.claimer (eqb-true r q e) ∙ h.0.0
    here false e u rest = rest u

    by_test : (b : Bool) → is_among r (rows_claimed (if b then Claim t q ∷ entries_of doer who ds else entries_of doer who ds)) ≡ true
        → (is_among r (rows_claimed (entries_of doer who ds)) ≡ true → s.claimer r ≡ None) → s.claimer r ≡ None
    by_test true u rest = here (r == q) refl u rest
    by_test false u rest = rest u
claims_fresh shape s (StoreLink t q w ∷ ds) who r h k =
    by_test (t == who) k (λ u. claims_fresh shape (after_deed s (StoreLink t q w)) ds who r h.1 u)
  where
    by_test : (b : Bool) → is_among r (rows_claimed (if b then StoreLink t q w ∷ entries_of doer who ds else entries_of doer who ds)) ≡ true
        → (is_among r (rows_claimed (entries_of doer who ds)) ≡ true → s.claimer r ≡ None) → s.claimer r ≡ None
    by_test true u rest = rest u
    by_test false u rest = rest u
claims_fresh shape s (StoreJob t q w ∷ ds) who r h k = by_test (t == who) k
    (λ u. claims_fresh shape (after_deed s (StoreJob t q w)) ds who r h.1 u)
  where
    by_test : (b : Bool) → is_among r (rows_claimed (if b then StoreJob t q w ∷ entries_of doer who ds else entries_of doer who ds)) ≡ true
        → (is_among r (rows_claimed (entries_of doer who ds)) ≡ true → s.claimer r ≡ None) → s.claimer r ≡ None
    by_test true u rest = rest u
    by_test false u rest = rest u

-- which rows are the caller's after its deeds
abbrev Counts : ℕ → ℕ → Option ℕ → Option ℕ → List Deed → Type 0
Counts who r x y ds = is_claimed_by who y ≡ (is_claimed_by who x || is_among r (rows_claimed ds))

claim_counts : (s : Store) (t q who r : ℕ) (y : Option ℕ) (ds : List Deed) → s.claimer q ≡ None
    → Counts who r (put q (Some t) s.claimer r) y (entries_of doer who ds)
    → Counts who r (s.claimer r) y (entries_of doer who (Claim t q ∷ ds))
unfolding rows_claimed
claim_counts s t q who r y ds none h = by_who (t == who) refl
  where
    rest : Bool
    rest = is_among r (rows_claimed (entries_of doer who ds))

    unclaimed : (e : (q == r) ≡ true) → is_claimed_by who (s.claimer r) ≡ false
    unclaimed e = ap (λ x. is_claimed_by who x) (ap s.claimer (sym (eqb-true q r e)) ∙ none)

    own_here : (b : Bool) → (q == r) ≡ b → (t == who) ≡ true → is_claimed_by who (if b then Some t else s.claimer r)
        || is_among r (rows_claimed (entries_of doer who ds)) ≡
        (is_claimed_by who (s.claimer r) || ((r == q) || is_among r (rows_claimed (entries_of doer who ds))))
    own_here true e k =
        ap (λ b. b || rest) (eq-eqb who t (sym (eqb-true t who k)))
        ∙ sym (ap (λ b. b || ((r == q) || rest)) (unclaimed e) ∙ ap (λ b. b || rest) (eq-eqb r q (sym (eqb-true q r e))))
    own_here false e k = ap (λ b. is_claimed_by who (s.claimer r) || (b || rest)) (sym (not_named q r e))

    others_here : (b : Bool) → (q == r) ≡ b → (t == who) ≡ false → is_claimed_by who (if b then Some t else s.claimer r)
        || is_among r (rows_claimed (entries_of doer who ds)) ≡
        (is_claimed_by who (s.claimer r) || is_among r (rows_claimed (entries_of doer who ds)))
    others_here true e k = ap (λ b. b || rest) (not_named t who k) ∙ sym (ap (λ b. b || rest) (unclaimed e))
    others_here false e k = refl

    by_who : (b : Bool) → (t == who) ≡ b → is_claimed_by who y ≡
        (is_claimed_by who (s.claimer r)
        || is_among r (rows_claimed (if b then Claim t q ∷ entries_of doer who ds else entries_of doer who ds)))
    by_who true k = h ∙ own_here (q == r) refl k
    by_who false k = h ∙ others_here (q == r) refl k

quiet_counts : (who r : ℕ) (x y : Option ℕ) (d : Deed) (ds : List Deed)
    → rows_claimed (d ∷ entries_of doer who ds) ≡ rows_claimed (entries_of doer who ds) → Counts who r x y (entries_of doer who ds)
    → Counts who r x y (entries_of doer who (d ∷ ds))
quiet_counts who r x y d ds e h = by_who (doer d == who)
  where
    by_who : (b : Bool) → is_claimed_by who y ≡ (is_claimed_by who x
        || is_among r (rows_claimed (if b then d ∷ entries_of doer who ds else entries_of doer who ds)))
    by_who true = h ∙ ap (λ l. is_claimed_by who x || is_among r l) (sym e)
    by_who false = h

pub claims_mine : (shape : Shape) (s : Store) (ds : List Deed) (who r : ℕ) → DoneFrom shape s ds
    → Counts who r (s.claimer r) ((store_from s ds).claimer r) (entries_of doer who ds)
unfolding store_from DoneFrom rows_claimed
claims_mine shape s [] who r h = sym (or_false (is_claimed_by who (s.claimer r)))
  where
    or_false : (b : Bool) → (b || false) ≡ b
    or_false true = refl
    or_false false = refl
claims_mine shape s (Act e ∷ ds) who r h = quiet_counts who r _ _ (Act e) ds refl (claims_mine shape (after_deed s (Act e)) ds who r h.1)
claims_mine shape s (Claim t q ∷ ds) who r h = claim_counts s t q who r _ ds h.0.0
    (claims_mine shape (after_deed s (Claim t q)) ds who r h.1)
claims_mine shape s (StoreLink t q w ∷ ds) who r h = quiet_counts who r _ _ (StoreLink t q w) ds refl
    (claims_mine shape (after_deed s (StoreLink t q w)) ds who r h.1)
claims_mine shape s (StoreJob t q w ∷ ds) who r h = quiet_counts who r _ _ (StoreJob t q w) ds refl
    (claims_mine shape (after_deed s (StoreJob t q w)) ds who r h.1)

-- ---- who attached a row had claimed it

stored_claim : (s : Store) (who r : ℕ) (act : JobAct) → IsStored s who act → attaches r act ≡ true → s.claimer r ≡ Some who
stored_claim s who r (Attach p q kind tag cancelled) h e = ap s.claimer (eqb-true r q e) ∙ h.0
stored_claim s who r (Start q) h e = cc
stored_claim s who r other h e = cc

pub stored_claimer : (s : Store) (who r : ℕ) (act : JobAct) → IsStored s who act → attaches r act ≡ true → s.claimer r ≡ Some who
stored_claimer = stored_claim

attacher_from : (shape : Shape) (s : Store) (ds : List Deed) (r t : ℕ) → DoneFrom shape s ds → attacher r (history_of ds) ≡ Some t
    → (store_from s ds).claimer r ≡ Some t
unfolding store_from DoneFrom history_of
attacher_from shape s [] r t h k = cc
attacher_from shape s (Act e ∷ ds) r t h k = by_test (attaches r e.act) refl k
    (λ u. attacher_from shape (after_deed s (Act e)) ds r t h.1 u)
  where
    by_test : (b : Bool) → attaches r e.act ≡ b → (if b then Some e.who else attacher r (history_of ds)) ≡ Some t
        → (attacher r (history_of ds) ≡ Some t → (store_from (after_deed s (Act e)) ds).claimer r ≡ Some t)
        → (store_from (after_deed s (Act e)) ds).claimer r ≡ Some t
    by_test true u v rest = claims_kept shape (after_deed s (Act e)) ds r t h.1 (stored_claim s e.who r e.act h.0.1 u ∙ v)
    by_test false u v rest = rest v
attacher_from shape s (Claim u q ∷ ds) r t h k = attacher_from shape (after_deed s (Claim u q)) ds r t h.1 k
attacher_from shape s (StoreLink u q w ∷ ds) r t h k = attacher_from shape (after_deed s (StoreLink u q w)) ds r t h.1 k
attacher_from shape s (StoreJob u q w ∷ ds) r t h k = attacher_from shape (after_deed s (StoreJob u q w)) ds r t h.1 k

pub attacher_claimed : (shape : Shape) (ds : List Deed) (r t : ℕ) → IsDone shape ds → attacher r (history_of ds) ≡ Some t
    → (store_of ds).claimer r ≡ Some t
attacher_claimed shape ds r t h k = attacher_from shape nothing_done ds r t h k

within_from : (shape : Shape) (s : Store) (ds : List Deed) → DoneFrom shape s ds → ((r : ℕ) → shape.rows ≤ r → s.claimer r ≡ None) → (r : ℕ)
    → shape.rows ≤ r → (store_from s ds).claimer r ≡ None
unfolding store_from DoneFrom
within_from shape s [] h k r le = k r le
within_from shape s (Act e ∷ ds) h k r le = within_from shape (after_deed s (Act e)) ds h.1 k r le
within_from shape s (Claim u q ∷ ds) h k r le = within_from shape (after_deed s (Claim u q)) ds h.1 (λ c l. by_test c l (q == c) refl) r le
  where
    by_test : (c : ℕ) → shape.rows ≤ c → (b : Bool) → (q == c) ≡ b → (if b then Some u else s.claimer c) ≡ None
    by_test c l true e = absurd (let i : q ≡ c = eqb-true q c e in let lt : q < shape.rows = h.0.1 in omega arith)
    by_test c l false e = k c l
within_from shape s (StoreLink u q w ∷ ds) h k r le = within_from shape (after_deed s (StoreLink u q w)) ds h.1 k r le
within_from shape s (StoreJob u q w ∷ ds) h k r le = within_from shape (after_deed s (StoreJob u q w)) ds h.1 k r le

-- no row past the last is claimed
pub claims_within : (shape : Shape) (ds : List Deed) → 0 < shape.rows → IsDone shape ds → (r : ℕ) → shape.rows ≤ r
    → (store_of ds).claimer r ≡ None
claims_within shape ds lt h r le = within_from shape nothing_done ds h (λ c l. first c l (c == 0) refl) r le
  where
    zero_claim : Option ℕ
    zero_claim = Some 0

    first : (c : ℕ) → shape.rows ≤ c → (b : Bool) → (c == 0) ≡ b → (if b then zero_claim else None) ≡ None
    first c l true e = absurd (let i : c ≡ 0 = eqb-true c 0 e in omega arith)
    first c l false e = refl
