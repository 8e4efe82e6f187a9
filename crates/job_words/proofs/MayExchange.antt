-- Each deed that a step does may come, and changes one word.
use Rattle.std.specs.Prelude.{◌≡◌, ◌≢◌, ℕ, suc, ◌+◌, ◌*◌, ◌==◌, ◌<◌, Bool, true, false, List, [], ◌∷◌, ◌++◌, Option, Some, None, option_map, is_some, if◌then◌else◌, refl}
use Rattle.std.proofs.Common.{⊎_elim, inl, inr, max, sym, ap, ◌∙◌, subst, arith, ne_eqb, eq-eqb}
use Rattle.std.proofs.lemmas.Bool.{eqb-true}
use mathlib.Core.Logic.{dite}
use native.Mathlib.Decide.{dec_le}
use Rattle.job_model.specs.declared.acts.JobState.{JobState}
use Rattle.job_model.specs.declared.acts.JobState.TheVariants.{Cancelled, Completed}
use Rattle.job_model.specs.declared.acts.JobKind.{JobKind}
use Rattle.job_model.specs.declared.acts.JobAct.TheVariants.{Attach}
use Rattle.job_model.specs.Trees.{Shape, Job, Tree, is_ended, is_cancelled, is_cancelling}
use Rattle.job_model.specs.Effects.{after, change, new_child, with_child}
use Rattle.job_model.specs.Needs.{IsRowFor, MayHaveChild}
use Rattle.job_model.specs.Families.{newest, children_of}
use Rattle.job_model.proofs.Lasting.{Lasts, history_keeps, attached_lasts}
use Rattle.worded.specs.Views.{has_tag}
use Rattle.worded.specs.Exchanges.{OthersAdded, MayEnter, MayLift}
use Rattle.joined_words.specs.Seen.{view_of}
use Rattle.word_rules.specs.declared.job_word.JobWord.{JobWord}
use Rattle.word_rules.specs.declared.size.ForestSize.{ForestSize}
use Rattle.word_rules.specs.declared.deed.Deed.{Deed}
use Rattle.word_rules.specs.declared.deed.Deed.TheVariants.{Act, Claim, StoreLink, StoreJob}
use Rattle.word_rules.specs.Rows.{row_code, job_code, link_code, IsNarrow, word_of, new_word, new_link, with_newest}
use Rattle.word_rules.specs.Deeds.{shape_of, IsSize, doer, history_of, Store, put, after_deed, store_from, store_of, DeedNeeds, DoneFrom, IsDone, IsLinkTo, IsKept, word_or, job_word, MayBeLink, AreClaimedBelow, Fits}
use Rattle.job_words.specs.Passes.{Seen, IsMine}
use Rattle.job_words.proofs.OneCodeOneWord.{job_code_is, job_code_some}
use Rattle.job_words.proofs.DeedsAddUp.{store_push, store_more, IsDone_push, IsDone-rest, tree_from, legal_from, claims_kept}
use Rattle.job_words.proofs.NumbersStaySmall.{narrow}
use Rattle.job_words.proofs.WordsOfChangedRows.{changed_else, changed_job, new_is, attached_else, attached_above, child_word, told_of}
use Rattle.job_model.proofs.Siblings.{attached_tree, attached_at}
use Rattle.job_words.proofs.StoreStaysSound.{kept, mine_kept, links_more}

-- ---- what goes on to hold

pub lasts_more : (P : Option Job → Type 0) → Lasts P → (size : ForestSize) (xs ys : List Deed) (q : ℕ) → IsDone (shape_of size) (xs ++ ys)
    → P ((store_of xs).tree q) → P ((store_of (xs ++ ys)).tree q)
lasts_more P k size xs ys q h p =
    subst (λ s. P (s.tree q)) (sym (store_more xs ys))
    (subst (λ (t : Tree). P (t q)) (sym (tree_from (store_of xs) ys))
    (history_keeps P k (shape_of size) (store_of xs).tree (history_of ys) q
    (legal_from (shape_of size) (store_of xs) ys (IsDone-rest (shape_of size) xs ys h).1) p))

-- the root is attached
root_attached : (size : ForestSize) (log : List Deed) → IsDone (shape_of size) log → is_some ((store_of log).tree 0) ≡ true
unfolding store_from
root_attached size log h = lasts_more (λ x. is_some x ≡ true) attached_lasts size [] log 0 h refl

-- so a row that is not attached is another
pub not_root : (size : ForestSize) (log : List Deed) (r : ℕ) → IsDone (shape_of size) log → (store_of log).tree r ≡ None → r ≢ 0
not_root size log r h none z = let k : false ≡ true = sym (ap is_some (ap (store_of log).tree (sym z) ∙ none)) ∙ root_attached size log h
    in cc

-- rows that were claimed stay so
pub claimed_more_below : (size : ForestSize) (xs ys : List Deed) (n : ℕ) → IsDone (shape_of size) (xs ++ ys)
    → AreClaimedBelow size (store_of xs) n → AreClaimedBelow size (store_of (xs ++ ys)) n
claimed_more_below size xs ys n h a = λ r le lt. by_claim r ((store_of xs).claimer r) refl (a r le lt)
  where
    by_claim : (r : ℕ) (x : Option ℕ) → (store_of xs).claimer r ≡ x → is_some x ≡ true → is_some ((store_of (xs ++ ys)).claimer r) ≡ true
    by_claim r None e k = cc
    by_claim r (Some t) e k = ap (λ (s : Store). is_some (s.claimer r)) (store_more xs ys)
        ∙ ap is_some (claims_kept (shape_of size) (store_of xs) ys r t (IsDone-rest (shape_of size) xs ys h).1 e)

-- a link word stays one that may be
link_on : (s t : Store) (r m : ℕ) → t.links r ≡ s.links r → (is_some (s.tree r) ≡ true → is_some (t.tree r) ≡ true) → MayBeLink s r m
    → MayBeLink t r m
link_on s t r m e more h =
    ⊎_elim (λ k. inl (k ∙ sym e)) (λ (k : (is_some (s.tree r) ≡ true) × (m ≡ s.links r + 140737488355328)). inr (
      more k.0,
      k.1
          ∙ ap (λ x. x + 140737488355328) (sym e),
    )) h

-- ---- what a deed turns

pub record Turns (s t : Store) (p n : ℕ) : Type 0 where
  pub here : job_word t p ≡ n
  pub apart : (q : ℕ) → q ≢ p → job_word t q ≡ job_word s q
  pub links : (q : ℕ) → t.links q ≡ s.links q

fits_job : (size : ForestSize) (log : List Deed) (d : Deed) (p n : ℕ) → IsDone (shape_of size) (log ++ d ∷ [])
    → Turns (store_of log) (store_of (log ++ d ∷ [])) p n
    → Fits size (log ++ d ∷ []) (2 * p) n × ((j m : ℕ) → j ≢ 2 * p → Fits size log j m → Fits size (log ++ d ∷ []) j m)
fits_job size log d p n h t = (
  record {
    job = λ r i. let k : p ≡ r = omega arith in sym t.here ∙ ap (job_word (store_of (log ++ d ∷ []))) k;
    link = λ r nz i. absurd (omega arith);
    hint = λ i. absurd (omega arith);
  },
  λ j m ne f. record {
    job = λ r i. f.job r i ∙ sym (t.apart r (λ k. ne (i ∙ ap (λ x. 2 * x) k)));
    link = λ r nz i. link_on (store_of log) (store_of (log ++ d ∷ [])) r m (t.links r)
        (lasts_more (λ x. is_some x ≡ true) attached_lasts size log (d ∷ []) r h) (f.link r nz i);
    hint = λ i. claimed_more_below size log (d ∷ []) m h (f.hint i);
  },
)

pub record TurnsLink (s t : Store) (p n : ℕ) : Type 0 where
  pub here : t.links p ≡ n
  pub apart : (q : ℕ) → q ≢ p → t.links q ≡ s.links q
  pub jobs : (q : ℕ) → job_word t q ≡ job_word s q

fits_link : (size : ForestSize) (log : List Deed) (d : Deed) (p n : ℕ) → p ≢ 0 → IsDone (shape_of size) (log ++ d ∷ [])
    → TurnsLink (store_of log) (store_of (log ++ d ∷ [])) p n
    → Fits size (log ++ d ∷ []) (2 * p + 1) n × ((j m : ℕ) → j ≢ 2 * p + 1 → Fits size log j m → Fits size (log ++ d ∷ []) j m)
fits_link size log d p n pz h t = (
  record {
    job = λ r i. absurd (omega arith);
    link = λ r nz i. let k : p ≡ r = omega arith in inl (sym t.here ∙ ap (store_of (log ++ d ∷ [])).links k);
    hint = λ i. absurd (pz (omega arith));
  },
  λ j m ne f. record {
    job = λ r i. f.job r i ∙ sym (t.jobs r);
    link = λ r nz i. link_on (store_of log) (store_of (log ++ d ∷ [])) r m (t.apart r (λ k. ne (i ∙ ap (λ x. 2 * x + 1) k)))
        (lasts_more (λ x. is_some x ≡ true) attached_lasts size log (d ∷ []) r h) (f.link r nz i);
    hint = λ i. claimed_more_below size log (d ∷ []) m h (f.hint i);
  },
)

abbrev Now : ForestSize → Seen → List Deed → Type 0
Now size v others = OthersAdded (IsDone (shape_of size)) (Fits size) doer (view_of v) others

-- the store that was seen, and what others did
abbrev pub store_now : Seen → List Deed → Store
store_now v others = store_of (v.seen ++ others)

pub brings_job : (size : ForestSize) (v : Seen) (d : Deed) (p old new : ℕ) → has_tag (doer d) v.tags ≡ true
    → ((others : List Deed) → Now size v others → old ≡ job_word (store_now v others) p → DeedNeeds (shape_of size) (store_now v others) d
    × Turns (store_now v others) (after_deed (store_now v others) d) p new)
    → MayEnter (IsDone (shape_of size)) (Fits size) doer (view_of v) (2 * p) old new d
brings_job size v d p old new own f = record {
  own = own;
  steps = λ others since found.
      let log : List Deed = v.seen ++ others in
      let r = f others since (found.job p refl) in
      let t : Turns (store_of log) (store_of (log ++ d ∷ [])) p new =
      subst (λ s. Turns (store_of log) s p new) (sym (store_push log d)) r.1 in
      let h = IsDone_push (shape_of size) log d since.is_legal r.0 in
      let k = fits_job size log d p new h t in
      (h, k.0, k.1);
}

pub brings_link : (size : ForestSize) (v : Seen) (d : Deed) (p old new : ℕ) → has_tag (doer d) v.tags ≡ true
    → (store_of v.seen).tree p ≡ None
    → ((others : List Deed) → Now size v others → MayBeLink (store_now v others) p old → DeedNeeds (shape_of size) (store_now v others) d
    × TurnsLink (store_now v others) (after_deed (store_now v others) d) p new)
    → MayEnter (IsDone (shape_of size)) (Fits size) doer (view_of v) (2 * p + 1) old new d
brings_link size v d p old new own none f = record {
  own = own;
  steps = λ others since found.
      let log : List Deed = v.seen ++ others in
      let nz = not_root size v.seen p (IsDone-rest (shape_of size) v.seen others since.is_legal).0 none in
      let r = f others since (found.link p nz refl) in
      let t : TurnsLink (store_of log) (store_of (log ++ d ∷ [])) p new =
      subst (λ s. TurnsLink (store_of log) s p new) (sym (store_push log d)) r.1 in
      let h = IsDone_push (shape_of size) log d since.is_legal r.0 in
      let k = fits_link size log d p new nz h t in
      (h, k.0, k.1);
}

-- ---- what others leave

pub done_rest : (size : ForestSize) (v : Seen) (others : List Deed) → Now size v others → DoneFrom (shape_of size) (store_of v.seen) others
done_rest size v others n = (IsDone-rest (shape_of size) v.seen others n.is_legal).1

pub done_of_rest : (size : ForestSize) (xs ys : List Deed) → IsDone (shape_of size) (xs ++ ys) → DoneFrom (shape_of size) (store_of xs) ys
done_of_rest size xs ys h = (IsDone-rest (shape_of size) xs ys h).1

pub mine_now : (size : ForestSize) (v : Seen) (others : List Deed) (who row l j : ℕ) → has_tag who v.tags ≡ true → Now size v others
    → IsMine who row l j (store_of v.seen) → IsMine who row l j (store_now v others)
mine_now size v others who row l j own n m = subst (IsMine who row l j) (sym (store_more v.seen others))
    (mine_kept (shape_of size) (store_of v.seen) others who row l j (done_rest size v others n) (n.apart who own) m)

-- ---- what a word says

pub is_job : {A : Type 0} (x : Option A) → is_some x ≡ true → (a : A) × (x ≡ Some a)
is_job None e = cc
is_job (Some a) e = (a, refl)

-- the Job of an attached row, by its word
pub read_word : (size : ForestSize) (log : List Deed) (r : ℕ) (w : JobWord) → IsSize size → IsDone (shape_of size) log
    → is_some ((store_of log).tree r) ≡ true → IsNarrow w → job_code w ≡ job_word (store_of log) r
    → (j : Job) × ((store_of log).tree r ≡ Some j) × (word_of j ≡ w)
read_word size log r w s h a n e =
    let k = kept size log s h in
    let j = is_job ((store_of log).tree r) a in
    let u : job_code w ≡ job_code (word_of j.0) = e ∙ ap (λ x. word_or ((store_of log).jobs r) (option_map word_of x)) j.1 in (
      j.0,
      j.1,
      sym (job_code_is w (word_of j.0) n (narrow (shape_of size) (store_of log).tree r j.0 s.few k.families k.within k.holds.small j.1)
          u),
    )

pub word_is : (s : Store) (r : ℕ) (j : Job) → s.tree r ≡ Some j → job_word s r ≡ job_code (word_of j)
word_is s r j e = ap (λ x. word_or (s.jobs r) (option_map word_of x)) e

pub word_stored : (s : Store) (r : ℕ) → s.tree r ≡ None → job_word s r ≡ s.jobs r
word_stored s r e = ap (λ x. word_or (s.jobs r) (option_map word_of x)) e

-- a word 0 says that nobody claimed the row
pub free_word : (shape : Shape) (s : Store) (r : ℕ) → IsKept shape s → 0 ≡ job_word s r → s.claimer r ≡ None
free_word shape s r k e = by_claim (s.claimer r) refl (s.tree r) refl
  where
    by_claim : (x : Option ℕ) → s.claimer r ≡ x → (y : Option Job) → s.tree r ≡ y → x ≡ None
    by_claim None c y t = refl
    by_claim (Some u) c None t = absurd (let p = k.holds.claimed r u c in let q : 0 ≡ s.jobs r = e ∙ word_stored s r t in omega arith)
    by_claim (Some u) c (Some j) t = absurd (let p = job_code_some (word_of j) in let q : 0 ≡ job_code (word_of j) = e ∙ word_is s r j t
        in omega arith)

-- and another word that somebody did
pub claimed_word : (shape : Shape) (s : Store) (r n : ℕ) → IsKept shape s → n ≡ job_word s r → n ≢ 0 → is_some (s.claimer r) ≡ true
claimed_word shape s r n k e ne = by_claim (s.claimer r) refl
  where
    by_claim : (x : Option ℕ) → s.claimer r ≡ x → is_some x ≡ true
    by_claim (Some u) c = refl
    by_claim None c = absurd (let u = k.holds.unclaimed r c in ne (e ∙ word_stored s r u.0 ∙ u.1))

-- ---- claim and store

pub put_same : {A : Type 0} (r : ℕ) (x : A) (f : ℕ → A) → put r x f r ≡ x
put_same r x f = ap (λ (b : Bool). if b then x else f r) (eq-eqb r r refl)

pub put_apart : {A : Type 0} (r q : ℕ) (x : A) (f : ℕ → A) → q ≢ r → put r x f q ≡ f q
put_apart r q x f ne = ap (λ (b : Bool). if b then x else f q) (ne_eqb r q (λ e. ne (sym e)))

stored_turns : (s t : Store) (r n : ℕ) → t.tree ≡ s.tree → ((q : ℕ) → t.links q ≡ s.links q) → s.tree r ≡ None → t.jobs r ≡ n
    → ((q : ℕ) → q ≢ r → t.jobs q ≡ s.jobs q) → Turns s t r n
stored_turns s t r n tree links none here apart = record {
  here = word_stored t r (ap (λ (x : Tree). x r) tree ∙ none) ∙ here;
  apart = λ q ne. (λ i. word_or (apart q ne i) (option_map word_of (tree i q)));
  links = links;
}

pub claims : (size : ForestSize) (v : Seen) (who row : ℕ) → IsSize size → has_tag who v.tags ≡ true → row < size.rows
    → MayEnter (IsDone (shape_of size)) (Fits size) doer (view_of v) (2 * row) 0 7 (Claim who row)
claims size v who row s own lt = brings_job size v (Claim who row) row 0 7 own (λ others now found.
    let k = kept size (v.seen ++ others) s now.is_legal in
    let t : Store = store_now v others in
    let none = free_word (shape_of size) t row k found in
    let u = k.holds.unclaimed row none in (
      (none, lt),
      stored_turns t (after_deed t (Claim who row)) row 7 refl (λ q. refl) u.0 (put_same row 7 t.jobs)
          (λ q ne. put_apart row q 7 t.jobs ne),
    ))

pub stores_job : (size : ForestSize) (v : Seen) (who row l old new : ℕ) → has_tag who v.tags ≡ true → IsMine who row l old (store_of v.seen)
    → 0 < new → MayEnter (IsDone (shape_of size)) (Fits size) doer (view_of v) (2 * row) old new (StoreJob who row new)
stores_job size v who row l old new own m lt = brings_job size v (StoreJob who row new) row old new own (λ others now found.
    let t : Store = store_now v others in
    let n = mine_now size v others who row l old own now m in (
      (n.claimer, n.tree, lt),
      stored_turns t (after_deed t (StoreJob who row new)) row new refl (λ q. refl) n.tree (put_same row new t.jobs)
          (λ q ne. put_apart row q new t.jobs ne),
    ))

pub stores_link : (size : ForestSize) (v : Seen) (who row old j new : ℕ) → has_tag who v.tags ≡ true
    → IsMine who row old j (store_of v.seen) → IsLinkTo (store_of v.seen) new → new < 140737488355328
    → MayEnter (IsDone (shape_of size)) (Fits size) doer (view_of v) (2 * row + 1) old new (StoreLink who row new)
stores_link size v who row old j new own m link lt = brings_link size v (StoreLink who row new) row old new own m.tree (λ others now found.
    let t : Store = store_now v others in
    let n = mine_now size v others who row old j own now m in (
      (
        n.claimer,
        n.tree,
        λ w nw e. lasts_more (λ x. is_some x ≡ true) attached_lasts size v.seen others w.parent now.is_legal (link w nw e),
        lt,
      ),
      record { here = put_same row new t.links; apart = λ q ne. put_apart row q new t.links ne; jobs = λ q. refl },
    ))

-- ---- attach

cancelling_is : (x : JobState) → is_ended x ≡ false → is_cancelling x ≡ is_cancelled x
cancelling_is Cancelled e = cc
cancelling_is Completed e = cc
cancelling_is other e = refl

pub may_have : (j : Job) (w : JobWord) (cancelled : Bool) → word_of j ≡ w → is_ended w.state ≡ false → cancelled ≡ is_cancelled w.state
    → MayHaveChild cancelled (Some j)
may_have j w cancelled e n c = let k : j.state ≡ w.state = ap (λ (x : JobWord). x.state) e
    in (ap is_ended k ∙ n, ap is_cancelling k ∙ cancelling_is w.state n ∙ sym c)

attach_turns : (s : Store) (who p r : ℕ) (kind : JobKind) (tag : ℕ) (cancelled : Bool) (j : Job) (shape : Shape) → IsKept shape s
    → s.tree r ≡ None → MayHaveChild cancelled (s.tree p) → s.tree p ≡ Some j → s.jobs r ≡ job_code (new_word kind cancelled)
    → Turns s (record s { tree = after s.tree who (Attach p r kind tag cancelled) }) p (job_code (with_newest r (word_of j)))
attach_turns s who p r kind tag cancelled j shape k none m e stored = record {
  here = word_is t p (with_child r j) (attached_above s.tree p r kind tag cancelled j none m e)
      ∙ ap job_code (child_word r j (told_of s.tree p r j k.families none e));
  apart = λ q ne. by_row q ne (q == r) refl;
  links = λ q. refl;
}
  where
    t : Store
    t = record s { tree = attached_tree p r kind tag cancelled s.tree }

    at_row : job_word t r ≡ job_word s r
    at_row = word_is t r (new_child p kind tag cancelled) (attached_at s.tree p r kind tag cancelled)
        ∙ ap job_code (new_is p tag kind cancelled) ∙ sym stored ∙ sym (word_stored s r none)

    by_row : (q : ℕ) → q ≢ p → (b : Bool) → (q == r) ≡ b → job_word t q ≡ job_word s q
    by_row q ne true i = subst (λ u. job_word t u ≡ job_word s u) (sym (eqb-true q r i)) at_row
    by_row q ne false i = ap (λ x. word_or (s.jobs q) (option_map word_of x))
        (attached_else s.tree p r q kind tag cancelled ne (λ u. let v : true ≡ false = sym (eq-eqb q r u) ∙ i in cc))

pub attaches_row : (size : ForestSize) (v : Seen) (who p r : ℕ) (kind : JobKind) (tag : ℕ) (cancelled : Bool) (w : JobWord) → IsSize size
    → has_tag who v.tags ≡ true
    → IsMine who r (link_code (new_link p w.first_child tag kind)) (job_code (new_word kind cancelled)) (store_of v.seen)
    → is_some ((store_of v.seen).tree p) ≡ true → IsNarrow w → is_ended w.state ≡ false → cancelled ≡ is_cancelled w.state
    → tag < size.coroutines → IsRowFor (shape_of size) who kind tag r
    → MayEnter (IsDone (shape_of size)) (Fits size) doer (view_of v) (2 * p) (job_code w) (job_code (with_newest r w))
    (Act (record { who = who; act = Attach p r kind tag cancelled }))
attaches_row size v who p r kind tag cancelled w s own m a n alive c lt row =
    brings_job size v _ p (job_code w) (job_code (with_newest r w)) own (λ others now found.
    let t : Store = store_now v others in
    let k = kept size (v.seen ++ others) s now.is_legal in
    let mine = mine_now size v others who r _ _ own now m in
    let j = read_word size (v.seen ++ others) p w s now.is_legal
    (lasts_more (λ x. is_some x ≡ true) attached_lasts size v.seen others p now.is_legal a) n found in
    let may : MayHaveChild cancelled (t.tree p) = subst (MayHaveChild cancelled) (sym j.1) (may_have j.0 w cancelled j.2 alive c) in
    let first : w.first_child ≡ row_code (newest (children_of (t.tree p))) = ap (λ (x : JobWord). x.first_child) (sym j.2)
    ∙ ap (λ x. row_code (newest (children_of x))) (sym j.1) in (
      ((mine.tree, may, lt, row), (mine.claimer, mine.link ∙ ap (λ x. link_code (new_link p x tag kind)) first, mine.job), tt),
      subst (λ x. Turns t (record t { tree = after t.tree who (Attach p r kind tag cancelled) }) p (job_code (with_newest r x))) j.2
          (attach_turns t who p r kind tag cancelled j.0 (shape_of size) k mine.tree may j.1 mine.job),
    ))

-- ---- an act on one row

pub change_turns : (s : Store) (r : ℕ) (f : Job → Job) (j : Job) → s.tree r ≡ Some j
    → Turns s (record s { tree = change r f s.tree }) r (job_code (word_of (f j)))
change_turns s r f j e = record {
  here = word_is (record s { tree = change r f s.tree }) r (f j) (changed_job r f s.tree j e);
  apart = λ q ne. ap (λ x. word_or (s.jobs q) (option_map word_of x)) (changed_else r q f s.tree ne);
  links = λ q. refl;
}

-- ---- hints

-- the hint that it was attached may be raised in the link word of a child
pub lifts_attached : (size : ForestSize) (v : Seen) (row link : ℕ) → row ≢ 0 → is_some ((store_of v.seen).tree row) ≡ true
    → (store_of v.seen).links row ≡ link → MayLift (IsDone (shape_of size)) (Fits size) doer (view_of v) (2 * row + 1)
    (link + 140737488355328)
lifts_attached size v row link rz a e others n now f = record {
  job = λ r i. absurd (omega arith);
  link = λ r nz i. let k : row ≡ r = omega arith in subst (λ q. MayBeLink (store_now v others) q (max n (link + 140737488355328))) k
      (raised (f.link row rz refl));
  hint = λ i. absurd (rz (omega arith));
}
  where
    t : Store
    t = store_now v others

    there : is_some (t.tree row) ≡ true
    there = lasts_more (λ x. is_some x ≡ true) attached_lasts size v.seen others row now.is_legal a

    same : t.links row ≡ link
    same = ap (λ (s : Store). s.links row) (store_more v.seen others)
        ∙ links_more (shape_of size) (store_of v.seen) others row (IsDone-rest (shape_of size) v.seen others now.is_legal).1 a ∙ e

    raised : MayBeLink t row n → MayBeLink t row (max n (link + 140737488355328))
    raised h = let e : t.links row ≡ link = same in inr (
      there,
      ⊎_elim (λ (k : n ≡ t.links row). omega arith) (λ (k : (is_some (t.tree row) ≡ true) × (n ≡ t.links row + 140737488355328)). let q =
          k.1 in omega arith) h,
    )

-- and the hint from where on to look for a row for a scope
pub lifts_scopes : (size : ForestSize) (v : Seen) (least : ℕ) → AreClaimedBelow size (store_of v.seen) least
    → MayLift (IsDone (shape_of size)) (Fits size) doer (view_of v) 1 least
lifts_scopes size v least a others n now f = record {
  job = λ r i. absurd (omega arith);
  link = λ r nz i. absurd (nz (omega arith));
  hint = λ i r le lt. dite (dec_le (suc r) n) (λ k. f.hint i r le k)
      (λ k. claimed_more_below size v.seen others least now.is_legal a r le (omega arith));
}
