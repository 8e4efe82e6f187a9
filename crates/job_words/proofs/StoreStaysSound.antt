-- What holds after each history of deeds.
use Rattle.std.specs.Prelude.{◌≡◌, ◌≢◌, ℕ, ◌==◌, ◌<◌, ◌≤◌, Bool, true, false, List, [], ◌∷◌, Option, Some, None, MatchBool, is_some, option_map, if◌then◌else◌, refl}
use Rattle.std.proofs.Common.{sym, ap, ◌∙◌, subst, arith}
use Rattle.std.proofs.lemmas.Bool.{eqb-true, eq-eqb}
use Rattle.job_model.specs.declared.acts.JobKind.{JobKind}
use Rattle.job_model.specs.declared.acts.JobAct.{JobAct}
use Rattle.job_model.specs.declared.acts.JobAct.TheVariants.{Attach, Start}
use Rattle.job_model.specs.Trees.{Shape, IsShape, Job, Tree, root, start}
use Rattle.job_model.specs.Acts.{attaches}
use Rattle.job_model.specs.Effects.{after}
use Rattle.job_model.specs.Needs.{Needs, MayHaveChild}
use Rattle.job_model.specs.Families.{newest, children_of, older_sibling}
use Rattle.job_model.specs.Laws.{HasFamilies}
use Rattle.job_model.proofs.Steps.{row_step}
use Rattle.job_model.proofs.Families.{after_families, start_families, start_root}
use Rattle.job_model.proofs.Lasting.{act_keeps, attached_lasts}
use Rattle.job_model.proofs.Claims.{attached_was}
use Rattle.worded.specs.Histories.{entries_of}
use Rattle.word_rules.specs.declared.link_word.LinkWord.{LinkWord}
use Rattle.word_rules.specs.declared.size.ForestSize.{ForestSize}
use Rattle.word_rules.specs.declared.deed.Deed.{Deed}
use Rattle.word_rules.specs.declared.deed.Deed.TheVariants.{Act, Claim, StoreLink, StoreJob}
use Rattle.word_rules.specs.Rows.{row_code, link_code, link_word_of, new_link, link_at}
use Rattle.word_rules.specs.Deeds.{shape_of, IsSize, doer, Store, put, nothing_done, after_deed, store_from, store_of, IsStored, IsRanged, DeedNeeds, DoneFrom, IsDone, StoreHolds, IsKept}
use Rattle.job_words.specs.Passes.{IsMine}
use Rattle.job_words.proofs.DeedsAddUp.{apart_first, stored_claimer}
use Rattle.job_words.proofs.NumbersStaySmall.{act_small, start_small}
use Rattle.job_words.proofs.WordsOfChangedRows.{link_stays, link_new}

none_some : {A : Type 0} (x : Option A) (a : A) → x ≡ None → x ≡ Some a → ⊥
none_some x a e f = let k : None ≡ Some a = sym e ∙ f in cc

is_none : {A : Type 0} (x : Option A) → (is_some x ≡ true → ⊥) → x ≡ None
is_none None h = refl
is_none (Some a) h = absurd (h refl)

some_not : {A : Type 0} (x : Option A) → x ≡ None → is_some x ≡ true → ⊥
some_not x e f = let k : false ≡ true = sym (ap is_some e) ∙ f in cc

-- ---- a row that is not attached stays so, unless who claimed it attaches it

stays_unattached : (shape : Shape) (tree : Tree) (who r : ℕ) (act : JobAct) → Needs shape tree who act → (attaches r act ≡ true → ⊥)
    → tree r ≡ None → after tree who act r ≡ None
stays_unattached shape tree who r act n never e = is_none (after tree who act r)
    (λ a. attached_was shape tree who r act (tree r) (after tree who act r) ⊥ (row_step shape tree who act r n) a (some_not (tree r) e)
    never)

-- ---- rows within

attached_row : (shape : Shape) (who r : ℕ) (tree : Tree) (act : JobAct) → IsShape shape → Needs shape tree who act → attaches r act ≡ true
    → r < shape.rows
attached_row shape who r tree (Attach p q kind tag cancelled) s n e = let k : r ≡ q = eqb-true r q e
    in let l : q < shape.rows = by_kind kind.scoped n.3 in omega arith
  where
    by_kind : (b : Bool) → MatchBool b ((tag ≡ who) × (shape.coroutines ≤ q) × (q < shape.rows)) (q ≡ tag) → q < shape.rows
    by_kind true h = h.2
    by_kind false h = let t : tag < shape.coroutines = n.2 in omega (arith, s.fit)
attached_row shape who r tree (Start q) s n e = cc
attached_row shape who r tree other s n e = cc

within_after : (shape : Shape) (tree : Tree) (who : ℕ) (act : JobAct) → IsShape shape → Needs shape tree who act
    → ((r : ℕ) → is_some (tree r) ≡ true → r < shape.rows) → (r : ℕ) → is_some (after tree who act r) ≡ true → r < shape.rows
within_after shape tree who act s n w r a = attached_was shape tree who r act (tree r) (after tree who act r) (r < shape.rows)
    (row_step shape tree who act r n) a (w r) (attached_row shape who r tree act s n)

-- ---- an entry

attach_link : (shape : Shape) (s : Store) (who q : ℕ) (act : JobAct) → Needs shape s.tree who act → IsStored s who act → HasFamilies s.tree
    → attaches q act ≡ true → (w : LinkWord) → link_at (after s.tree who act) q ≡ Some w → s.links q ≡ link_code w
attach_link shape s who q (Attach p r kind tag cancelled) n i h e w l =
    let k : q ≡ r = eqb-true q r e in
    let m = link_new s.tree p r kind tag cancelled h n.0 n.1 in
    let u : Some (new_link p (row_code (newest (children_of (s.tree p)))) tag kind) ≡ Some w = sym m
    ∙ ap (link_at (after s.tree who (Attach p r kind tag cancelled))) (sym k) ∙ l in
    let v : new_link p (row_code (newest (children_of (s.tree p)))) tag kind ≡ w = cc in
    ap s.links k ∙ i.1 ∙ ap link_code v
attach_link shape s who q (Start r) n i h e w l = cc
attach_link shape s who q other n i h e w l = cc

other_attach : (shape : Shape) (tree : Tree) (who q : ℕ) (act : JobAct) → Needs shape tree who act → attaches q act ≡ false
    → (p r tag : ℕ) (kind : JobKind) (cancelled : Bool) → act ≡ Attach p r kind tag cancelled → (tree r ≡ None)
    × MayHaveChild cancelled (tree p) × ((r == q) ≡ false)
other_attach shape tree who q act n other p r tag kind cancelled e =
    let m : Needs shape tree who (Attach p r kind tag cancelled) = subst (λ a. Needs shape tree who a) e n in
    let f : (q == r) ≡ false = ap (attaches q) (sym e) ∙ other in
    (m.0, m.1, turned q r f)
  where
    turned : (a b : ℕ) → (a == b) ≡ false → (b == a) ≡ false
    turned a b k = by_test (b == a) refl
      where
        by_test : (c : Bool) → (b == a) ≡ c → (b == a) ≡ false
        by_test true u = absurd (let v : true ≡ false = sym (eq-eqb a b (sym (eqb-true b a u))) ∙ k in cc)
        by_test false u = u

act_holds : (shape : Shape) (s : Store) (who : ℕ) (act : JobAct) → IsShape shape → Needs shape s.tree who act → IsStored s who act
    → IsRanged act → IsKept shape s → StoreHolds shape (record s { tree = after s.tree who act })
act_holds shape s who act sh n i v k = record {
  unclaimed = λ r none. let u = k.holds.unclaimed r none
      in (stays_unattached shape s.tree who r act n (λ e. none_some (s.claimer r) who none (stored_claimer s who r act i e)) u.0, u.1, u.2);
  claimed = k.holds.claimed;
  linked = λ r w l ne. by_row r w l ne (attaches r act) refl;
  above = λ r w nw e. act_keeps _ attached_lasts shape s.tree who act w.parent n (k.holds.above r w nw e);
  short = k.holds.short;
  small = act_small shape s.tree who act sh n v (within_after shape s.tree who act sh n k.within) k.holds.small;
}
  where
    by_row : (r : ℕ) (w : LinkWord) → link_at (after s.tree who act) r ≡ Some w → r ≢ 0 → (b : Bool) → attaches r act ≡ b
        → s.links r ≡ link_code w
    by_row r w l ne true e = attach_link shape s who r act n i k.families e w l
    by_row r w l ne false e = k.holds.linked r w (sym (link_stays s.tree who r act k.families (other_attach shape s.tree who r act n e))
        ∙ l) ne

-- ---- a claim and the two stores

put_here : {A : Type 0} (r q : ℕ) (x : A) (f : ℕ → A) (P : A → Type 0) → (r ≡ q → P x) → (q ≢ r → P (f q)) → P (put r x f q)
put_here r q x f P h k = by_test (r == q) refl
  where
    apart : (r == q) ≡ false → q ≡ r → ⊥
    apart e u = let v : true ≡ false = sym (eq-eqb r q (sym u)) ∙ e in cc

    by_test : (b : Bool) → (r == q) ≡ b → P (if b then x else f q)
    by_test true e = h (eqb-true r q e)
    by_test false e = k (apart e)

deed_holds : (shape : Shape) (s : Store) (d : Deed) → IsShape shape → DeedNeeds shape s d → IsKept shape s
    → StoreHolds shape (after_deed s d)
deed_holds shape s (Act e) sh n k = act_holds shape s e.who e.act sh n.0 n.1 n.2 k
deed_holds shape s (Claim who q) sh n k = record {
  unclaimed = λ r none. let apart : (q == r) ≡ false = is_apart r none
      in let u = k.holds.unclaimed r (sym (ap (λ b. if b then Some who else s.claimer r) apart) ∙ none)
      in (u.0, ap (λ b. if b then 7 else s.jobs r) apart ∙ u.1, u.2);
  claimed = λ r t c. put_here q r 7 s.jobs (λ n. 0 < n) (λ e. omega arith) (λ ne. k.holds.claimed r t (was r t c ne));
  linked = k.holds.linked;
  above = k.holds.above;
  short = k.holds.short;
  small = k.holds.small;
}
  where
    is_apart : (r : ℕ) → put q (Some who) s.claimer r ≡ None → (q == r) ≡ false
    is_apart r none = by_test (q == r) refl none
      where
        by_test : (b : Bool) → (q == r) ≡ b → (if b then Some who else s.claimer r) ≡ None → (q == r) ≡ false
        by_test true e u = cc
        by_test false e u = e

    was : (r t : ℕ) → put q (Some who) s.claimer r ≡ Some t → r ≢ q → s.claimer r ≡ Some t
    was r t c ne = by_test (q == r) refl c
      where
        by_test : (b : Bool) → (q == r) ≡ b → (if b then Some who else s.claimer r) ≡ Some t → s.claimer r ≡ Some t
        by_test true e u = absurd (ne (sym (eqb-true q r e)))
        by_test false e u = u
deed_holds shape s (StoreLink who q w) sh n k = record {
  unclaimed = λ r none. let u = k.holds.unclaimed r none
      in (
        u.0,
        u.1,
        put_here q r w s.links (λ m. m ≡ 0) (λ e. absurd (none_some (s.claimer r) who none (ap s.claimer (sym e) ∙ n.0)))
            (λ ne. u.2),
      );
  claimed = k.holds.claimed;
  linked = λ r x l ne. put_here q r w s.links (λ m. m ≡ link_code x) (λ e. absurd (not_linked r x (ap s.tree (sym e) ∙ n.1) l))
      (λ apart. k.holds.linked r x l ne);
  above = λ r x nx e. put_here q r w s.links (λ m. link_code x ≡ m
      → is_some (s.tree x.parent) ≡ true) (λ i u. n.2 x nx u) (λ ne u. k.holds.above r x nx u) e;
  short = λ r. put_here q r w s.links (λ m. m < 140737488355328) (λ e. n.3) (λ ne. k.holds.short r);
  small = k.holds.small;
}
  where
    not_linked : (r : ℕ) (x : LinkWord) → s.tree r ≡ None → link_at s.tree r ≡ Some x → ⊥
    not_linked r x none l = none_some (link_at s.tree r) x
        (ap (λ (y : Option Job). option_map (link_word_of (older_sibling s.tree r)) y) none) l
deed_holds shape s (StoreJob who q w) sh n k = record {
  unclaimed = λ r none. let u = k.holds.unclaimed r none
      in (
        u.0,
        put_here q r w s.jobs (λ m. m ≡ 0) (λ e. absurd (none_some (s.claimer r) who none (ap s.claimer (sym e) ∙ n.0))) (λ ne. u.1),
        u.2,
      );
  claimed = λ r t c. put_here q r w s.jobs (λ m. 0 < m) (λ e. n.2) (λ ne. k.holds.claimed r t c);
  linked = k.holds.linked;
  above = k.holds.above;
  short = k.holds.short;
  small = k.holds.small;
}

deed_kept : (shape : Shape) (s : Store) (d : Deed) → IsShape shape → DeedNeeds shape s d → IsKept shape s → IsKept shape (after_deed s d)
deed_kept shape s (Act e) sh n k = record {
  holds = deed_holds shape s (Act e) sh n k;
  families =
      after_families shape s.tree e.who e.act n.0 k.families;
  within = within_after shape s.tree e.who e.act sh n.0 k.within;
}
deed_kept shape s (Claim who q) sh n k = record {
  holds = deed_holds shape s (Claim who q) sh n k;
  families = k.families;
  within =
      k.within;
}
deed_kept shape s (StoreLink who q w) sh n k = record {
  holds = deed_holds shape s (StoreLink who q w) sh n k;
  families = k.families;
  within = k.within;
}
deed_kept shape s (StoreJob who q w) sh n k = record {
  holds = deed_holds shape s (StoreJob who q w) sh n k;
  families = k.families;
  within =
      k.within;
}

pub kept_from : (shape : Shape) (s : Store) (ds : List Deed) → IsShape shape → DoneFrom shape s ds → IsKept shape s
    → IsKept shape (store_from s ds)
unfolding store_from DoneFrom
kept_from shape s [] sh h k = k
kept_from shape s (d ∷ ds) sh h k = kept_from shape (after_deed s d) ds sh h.1 (deed_kept shape s d sh h.0 k)

first_kept : (shape : Shape) → IsShape shape → IsKept shape nothing_done
first_kept shape sh = record {
  holds = record {
    unclaimed = λ r none. let apart : (r == 0) ≡ false = is_apart r none
        in (ap (λ b. if b then Some root else None) apart, ap (λ b. if b then 7 else 0) apart, refl);
    claimed = λ r t c. by_test r t (r == 0) refl c;
    linked = λ r w l ne. absurd (no_link r w l ne);
    short = λ r. omega arith;
    above = λ r w nw e. let z : w.parent ≡ 0 = omega arith in ap (λ n. is_some (start n)) z;
    small = start_small shape sh;
  };
  families = start_families;
  within = λ r a. let k : r ≡ 0 = start_root r a in omega (arith, sh.some, sh.fit);
}
  where
    zero_claim : Option ℕ
    zero_claim = Some 0

    job_at_first : Bool → ℕ
    job_at_first b = if b then 7 else 0

    is_apart : (r : ℕ) → (if r == 0 then zero_claim else None) ≡ None → (r == 0) ≡ false
    is_apart r none = by_zero (r == 0) refl none
      where
        by_zero : (b : Bool) → (r == 0) ≡ b → (if b then zero_claim else None) ≡ None → (r == 0) ≡ false
        by_zero true e u = cc
        by_zero false e u = e

    by_test : (r t : ℕ) (b : Bool) → (r == 0) ≡ b → (if b then zero_claim else None) ≡ Some t → 0 < job_at_first (r == 0)
    by_test r t true e c = subst (λ b. 0 < job_at_first b) (sym e) (omega arith)
    by_test r t false e c = cc

    no_link : (r : ℕ) (w : LinkWord) → link_at start r ≡ Some w → r ≢ 0 → ⊥
    no_link r w l ne = ne (start_root r (linked_some (older_sibling start r) (start r) l))
      where
        linked_some : (o : Option ℕ) (x : Option Job) → option_map (link_word_of o) x ≡ Some w → is_some x ≡ true
        linked_some o None e = cc
        linked_some o (Some j) e = refl

pub size_shape : (size : ForestSize) → IsSize size → IsShape (shape_of size)
size_shape size s = record { some = s.some; fit = s.fit }

-- each history of deeds leaves the words in order
pub kept : (size : ForestSize) (ds : List Deed) → IsSize size → IsDone (shape_of size) ds → IsKept (shape_of size) (store_of ds)
kept size ds s h = kept_from (shape_of size) nothing_done ds (size_shape size s) h (first_kept (shape_of size) (size_shape size s))

-- ---- what others leave of the caller's own row

mine_deed : (shape : Shape) (s : Store) (d : Deed) (who row l j : ℕ) → DeedNeeds shape s d → (doer d ≡ who → ⊥) → IsMine who row l j s
    → IsMine who row l j (after_deed s d)
mine_deed shape s (Act e) who row l j n ne m = record {
  claimer = m.claimer;
  tree = stays_unattached shape s.tree e.who row e.act n.0
      (λ a. let k : Some e.who ≡ Some who = sym (stored_claimer s e.who row e.act n.1 a) ∙ m.claimer in let u : e.who ≡ who = cc
      in ne u) m.tree;
  link = m.link;
  job = m.job;
}
mine_deed shape s (Claim t q) who row l j n ne m = record {
  claimer = put_here q row (Some t) s.claimer (λ x. x ≡ Some who)
      (λ e. absurd (none_some (s.claimer row) who (ap s.claimer (sym e) ∙ n.0) m.claimer)) (λ u. m.claimer);
  tree = m.tree;
  link = m.link;
  job = put_here q row 7 s.jobs (λ x. x ≡ j) (λ e. absurd (none_some (s.claimer row) who (ap s.claimer (sym e) ∙ n.0) m.claimer))
      (λ u. m.job);
}
mine_deed shape s (StoreLink t q w) who row l j n ne m = record {
  claimer = m.claimer;
  tree = m.tree;
  link = put_here q row w s.links (λ x. x ≡ l) (λ e. absurd (not_own e)) (λ u. m.link);
  job = m.job;
}
  where
    not_own : q ≡ row → ⊥
    not_own e = let k : Some t ≡ Some who = sym n.0 ∙ ap s.claimer e ∙ m.claimer in let u : t ≡ who = cc in ne u
mine_deed shape s (StoreJob t q w) who row l j n ne m = record {
  claimer = m.claimer;
  tree = m.tree;
  link = m.link;
  job = put_here q row w s.jobs (λ x. x ≡ j) (λ e. absurd (not_own e)) (λ u. m.job);
}
  where
    not_own : q ≡ row → ⊥
    not_own e = let k : Some t ≡ Some who = sym n.0 ∙ ap s.claimer e ∙ m.claimer in let u : t ≡ who = cc in ne u

pub mine_kept : (shape : Shape) (s : Store) (ds : List Deed) (who row l j : ℕ) → DoneFrom shape s ds → entries_of doer who ds ≡ []
    → IsMine who row l j s → IsMine who row l j (store_from s ds)
unfolding store_from DoneFrom
mine_kept shape s [] who row l j h p m = m
mine_kept shape s (d ∷ ds) who row l j h p m = let a = apart_first who d ds p
    in mine_kept shape (after_deed s d) ds who row l j h.1 a.1 (mine_deed shape s d who row l j h.0 a.0 m)

-- ---- the link word of an attached row stays

link_deed : (shape : Shape) (s : Store) (d : Deed) (row : ℕ) → DeedNeeds shape s d → is_some (s.tree row) ≡ true
    → (after_deed s d).links row ≡ s.links row
link_deed shape s (StoreLink t q w) row n a = put_here q row w s.links (λ x. x ≡ s.links row)
    (λ e. absurd (some_not (s.tree row) (ap s.tree (sym e) ∙ n.1) a)) (λ u. refl)
link_deed shape s other row n a = refl

attached_deed : (shape : Shape) (s : Store) (d : Deed) (row : ℕ) → DeedNeeds shape s d → is_some (s.tree row) ≡ true
    → is_some ((after_deed s d).tree row) ≡ true
attached_deed shape s (Act e) row n a = act_keeps (λ x. is_some x ≡ true) attached_lasts shape s.tree e.who e.act row n.0 a
attached_deed shape s other row n a = a

pub links_more : (shape : Shape) (s : Store) (ds : List Deed) (row : ℕ) → DoneFrom shape s ds → is_some (s.tree row) ≡ true
    → (store_from s ds).links row ≡ s.links row
unfolding store_from DoneFrom
links_more shape s [] row h a = refl
links_more shape s (d ∷ ds) row h a = links_more shape (after_deed s d) ds row h.1 (attached_deed shape s d row h.0 a)
    ∙ link_deed shape s d row h.0 a
