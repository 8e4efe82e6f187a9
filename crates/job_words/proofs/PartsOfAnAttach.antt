-- What the parts of an attach come to.
use Rattle.std.specs.Prelude.{◌≡◌, ◌≢◌, ℕ, ◌+◌, ◌*◌, ◌==◌, ◌<◌, ◌≤◌, Bool, true, false, ◌||◌, List, [], ◌∷◌, ◌++◌, Option, Some, None, MatchBool, is_some, option_map, length, not, if◌then◌else◌, refl}
use Rattle.std.proofs.Common.{⊎_elim, sym, ap, ◌∙◌, subst, arith, append_assoc}
use Rattle.std.proofs.lemmas.List.Sums.{length-filter, count_by-le-length}
use Rattle.std.proofs.lemmas.Bool.{eqb-false, or_right}
use Rattle.job_model.specs.declared.acts.JobKind.{JobKind}
use Rattle.job_model.specs.declared.acts.JobAct.TheVariants.{Attach}
use Rattle.job_model.proofs.Siblings.{attached_at}
use Rattle.job_model.specs.Trees.{Shape, IsShape, Job, Tree, living, is_among, parent_of, parent_row, row_of}
use Rattle.job_model.specs.Families.{children_of, older, older_after, older_sibling}
use Rattle.job_model.specs.Laws.{HasFamilies}
use Rattle.job_model.proofs.Rows.{same}
use Rattle.job_model.proofs.Lasting.{attached_lasts}
use Rattle.job_model.proofs.Short.{attached_within}
use Rattle.word_rules.specs.declared.job_word.JobWord.{JobWord}
use Rattle.word_rules.specs.declared.link_word.LinkWord.{LinkWord}
use Rattle.word_rules.specs.declared.size.ForestSize.{ForestSize}
use Rattle.word_rules.specs.declared.deed.Deed.{Deed}
use Rattle.word_rules.specs.declared.deed.Deed.TheVariants.{Act, Claim, StoreLink, StoreJob}
use Rattle.word_rules.specs.Rows.{bit, job_code, link_code, row_code, word_of, link_word_of, link_at, without_hint, IsNarrowLink}
use Rattle.word_rules.specs.Deeds.{shape_of, IsSize, history_of, Store, after_deed, store_of, DeedNeeds, DoneFrom, IsDone, IsSmall, IsSmallRow, job_word, MayBeLink, Fits}
use Rattle.job_words.specs.Passes.{Seen, Sees, Goes, Does, IsMine, ExchangeAnswer}
use Rattle.job_words.specs.Attaches.{ClaimAnswer, IsAttached, IsWord}
use Rattle.job_words.proofs.OneCodeOneWord.{link_code_is}
use Rattle.job_words.proofs.DeedsAddUp.{store_push, store_more, IsDone-rest, tree_is, is_legal}
use Rattle.job_words.proofs.StepsAsCalls.{sees_goes, claim_goes, link_goes, job_goes}
use Rattle.job_words.proofs.StoreStaysSound.{kept, mine_kept}
use Rattle.job_words.proofs.MayExchange.{claimed_word, put_same, word_is, word_stored, is_job, lasts_more, not_root, done_of_rest, read_word}
use Rattle.job_words.proofs.NumbersStaySmall.{children_short, child_row}
use Rattle.job_words.proofs.LostExchangesGrow.{mine_sees}
use Rattle.job_model.proofs.RowMarks.{listed_some}

first_needs : (shape : Shape) (s : Store) (d : Deed) → DoneFrom shape s (d ∷ []) → DeedNeeds shape s d
unfolding DoneFrom
first_needs shape s d h = h.0

-- the deed that was done last might come
pub last_needs : (shape : Shape) (xs : List Deed) (d : Deed) → IsDone shape (xs ++ d ∷ []) → IsDone shape xs
    × DeedNeeds shape (store_of xs) d
last_needs shape xs d h = let k = IsDone-rest shape xs (d ∷ []) h in (k.0, first_needs shape (store_of xs) d k.1)

-- ---- claims

pub claim_told : (size : ForestSize) (who row n : ℕ) (v w : Seen) → IsSize size → v.key ≡ size
    → ExchangeAnswer who (Claim who row) (2 * row) 0 v w n → ClaimAnswer who row v w (n == 0)
claim_told size who row n v w s key t = by_test (n == 0) refl t
  where
    now : (d : Does who (Claim who row) (2 * row) 0 v w) → IsMine who row 0 7 (store_of w.seen)
    now d =
        let log : List Deed = v.seen ++ d.others in
        let l = last_needs (shape_of v.key) log (Claim who row) (subst (IsDone (shape_of v.key)) d.seen d.done) in
        let k = kept v.key log (subst IsSize (sym key) s) l.0 in
        let u = k.holds.unclaimed row l.1.0 in
        subst (IsMine who row 0 7) (sym (ap store_of d.seen ∙ store_push log (Claim who row)))
        (record {
          claimer = put_same row (Some who) (store_of log).claimer;
          tree = u.0;
          link = u.2;
          job =
              put_same row 7 (store_of log).jobs;
        })

    by_test : (b : Bool) → (n == 0) ≡ b → MatchBool b (Does who (Claim who row) (2 * row) 0 v w) (Sees who v w
        × Fits v.key w.seen (2 * row) n) → ClaimAnswer who row v w b
    by_test true e d = (claim_goes who row (2 * row) 0 v w d, now d)
    by_test false e q = (
      sees_goes who v w q.0,
      claimed_word (shape_of v.key) (store_of w.seen) row n
          (kept v.key w.seen (subst IsSize (sym key) s) q.0.done) (q.1.job row refl) (eqb-false n 0 e),
    )

-- ---- the two stores

mine_then : (who row l j : ℕ) (v w : Seen) (d : Deed) (word old : ℕ) (k : Does who d word old v w) → IsMine who row l j (store_of v.seen)
    → IsMine who row l j (store_of (v.seen ++ k.others))
mine_then who row l j v w d word old k m =
    let h = (last_needs (shape_of v.key) (v.seen ++ k.others) d (subst (IsDone (shape_of v.key)) k.seen k.done)).0 in
    subst (IsMine who row l j) (sym (store_more v.seen k.others))
    (mine_kept (shape_of v.key) (store_of v.seen) k.others who row l j (done_of_rest v.key v.seen k.others h) k.apart m)

-- the link word of a row that is not attached has no hint
pub unattached_link : (s : Store) (r n : ℕ) → s.tree r ≡ None → MayBeLink s r n → n ≡ s.links r
unattached_link s r n none h = ⊎_elim (λ k. k) (λ (k : (is_some (s.tree r) ≡ true)
    × (n ≡ s.links r + 140737488355328)). absurd (let f : false ≡ true = sym (ap is_some none) ∙ k.0 in cc)) h

pub link_told : (who row old new n : ℕ) (v w : Seen) → (j : ℕ) × IsMine who row old j (store_of v.seen)
    → ExchangeAnswer who (StoreLink who row new) (2 * row + 1) old v w n
    → Goes who [] v w × ((j : ℕ) → IsMine who row old j (store_of v.seen) → IsMine who row new j (store_of w.seen))
link_told who row old new n v w mine t = by_test (n == old) refl t
  where
    by_test : (b : Bool) → (n == old) ≡ b → MatchBool b (Does who (StoreLink who row new) (2 * row + 1) old v w) (Sees who v w
        × Fits v.key w.seen (2 * row + 1) n) → Goes who [] v w
        × ((j : ℕ) → IsMine who row old j (store_of v.seen) → IsMine who row new j (store_of w.seen))
    by_test true e d = (
      link_goes who row new (2 * row + 1) old v w d,
      λ j m.
          let k = mine_then who row old j v w (StoreLink who row new) (2 * row + 1) old d m in
          let s : Store = store_of (v.seen ++ d.others) in
          subst (IsMine who row new j) (sym (ap store_of d.seen ∙ store_push (v.seen ++ d.others) (StoreLink who row new)))
          (record { claimer = k.claimer; tree = k.tree; link = put_same row new s.links; job = k.job }),
    )
    by_test false e q = let m = mine_sees who row old mine.0 v w q.0 mine.1
        in absurd (eqb-false n old e (unattached_link (store_of w.seen) row n m.tree
        (q.1.link row (not_root v.key w.seen row q.0.done m.tree) refl) ∙ m.link))

pub job_told : (who row old new n : ℕ) (v w : Seen) → (l : ℕ) × IsMine who row l old (store_of v.seen)
    → ExchangeAnswer who (StoreJob who row new) (2 * row) old v w n
    → Goes who [] v w × ((l : ℕ) → IsMine who row l old (store_of v.seen) → IsMine who row l new (store_of w.seen))
job_told who row old new n v w mine t = by_test (n == old) refl t
  where
    by_test : (b : Bool) → (n == old) ≡ b → MatchBool b (Does who (StoreJob who row new) (2 * row) old v w) (Sees who v w
        × Fits v.key w.seen (2 * row) n) → Goes who [] v w × ((l : ℕ) → IsMine who row l old (store_of v.seen)
        → IsMine who row l new (store_of w.seen))
    by_test true e d = (
      job_goes who row new (2 * row) old v w d,
      λ l m.
          let k = mine_then who row l old v w (StoreJob who row new) (2 * row) old d m in
          let s : Store = store_of (v.seen ++ d.others) in
          subst (IsMine who row l new) (sym (ap store_of d.seen ∙ store_push (v.seen ++ d.others) (StoreJob who row new)))
          (record { claimer = k.claimer; tree = k.tree; link = k.link; job = put_same row new s.jobs }),
    )
    by_test false e q =
        let m = mine_sees who row mine.0 old v w q.0 mine.1 in
        absurd (eqb-false n old e (q.1.job row refl ∙ word_stored (store_of w.seen) row m.tree ∙ m.job))

-- what was stored in the caller's row stands there once it is attached
pub attached_words : (who p row l j word old : ℕ) (kind : JobKind) (tag : ℕ) (cancelled : Bool) (v w : Seen)
    → Does who (Act (record { who = who; act = Attach p row kind tag cancelled })) word old v w → IsMine who row l j (store_of v.seen)
    → IsAttached w row × ((store_of w.seen).links row ≡ l)
attached_words who p row l j word old kind tag cancelled v w g m =
    let d : Deed = Act (record { who = who; act = Attach p row kind tag cancelled }) in
    let log : List Deed = v.seen ++ g.others in
    let k = mine_then who row l j v w d word old g m in
    let e : store_of w.seen ≡ after_deed (store_of log) d = ap store_of g.seen ∙ store_push log d in (
      ap (λ (s : Store). is_some (s.tree row)) e ∙ ap is_some (attached_at (store_of log).tree p row kind tag cancelled),
      ap (λ (s : Store). s.links row) e ∙ k.link,
    )

-- ---- words of attached rows

-- an attached row is one of the forest's
pub row_within : (size : ForestSize) (v : Seen) (r : ℕ) → v.key ≡ size → IsShape (shape_of v.key) → IsDone (shape_of v.key) v.seen
    → IsAttached v r → r < size.rows
row_within size v r key s h a = subst (λ (k : ForestSize). r < k.rows) key
    (attached_within (shape_of v.key) (history_of v.seen) r s (is_legal (shape_of v.key) v.seen h)
    (ap (λ (t : Tree). is_some (t r)) (sym (tree_is v.seen)) ∙ a))

pub attached_sees : (who : ℕ) (v w : Seen) (r : ℕ) → Sees who v w → IsAttached v r → IsAttached w r
attached_sees who v w r g a = subst (λ l. is_some ((store_of l).tree r) ≡ true) (sym g.seen)
    (lasts_more (λ x. is_some x ≡ true) attached_lasts v.key v.seen g.others r (subst (IsDone (shape_of v.key)) g.seen g.done) a)

-- the word of an attached row is a Job word
pub is_word : (v : Seen) (r n : ℕ) → IsAttached v r → n ≡ job_word (store_of v.seen) r → ((w : JobWord) → job_code w ≢ n) → ⊥
is_word v r n a e never = let j = is_job ((store_of v.seen).tree r) a in never (word_of j.0) (sym (e ∙ word_is (store_of v.seen) r j.0 j.1))

-- ---- a word that was seen

pub sees_done : (size : ForestSize) (who : ℕ) (v w : Seen) → v.key ≡ size → Sees who v w → IsDone (shape_of size) w.seen
sees_done size who v w key s = subst (λ (k : ForestSize). IsDone (shape_of k) w.seen) key s.done

pub goes_done : (size : ForestSize) (who : ℕ) (rows : List ℕ) (v w : Seen) → v.key ≡ size → Goes who rows v w
    → IsDone (shape_of size) w.seen
goes_done size who rows v w key s = subst (λ (k : ForestSize). IsDone (shape_of k) w.seen) key s.done

pub job_seen : (size : ForestSize) (v : Seen) (r : ℕ) (w : JobWord) → IsSize size → IsDone (shape_of size) v.seen → IsAttached v r
    → IsWord v r w → (j : Job) × ((store_of v.seen).tree r ≡ Some j) × (word_of j ≡ w)
job_seen size v r w s h a k = read_word size v.seen r w s h a k.narrow k.is

-- no Job has more living children than there are rows
pub living_few : (size : ForestSize) (v : Seen) (r : ℕ) (w : JobWord) → IsSize size → IsDone (shape_of size) v.seen → IsAttached v r
    → IsWord v r w → w.living ≤ 16000
living_few size v r w s h a k =
    let j = job_seen size v r w s h a k in
    let kp = kept size v.seen s h in
    let short : length (children_of ((store_of v.seen).tree r)) ≤ size.rows =
    children_short (shape_of size) (store_of v.seen).tree r kp.families kp.within in
    let mine : length j.0.children ≤ size.rows = subst (λ x. length (children_of x) ≤ size.rows) j.1 short in
    let fewer : length (living j.0) ≤ length j.0.children =
    omega (
      arith,
      length-filter (λ c. not (is_among c j.0.told)) j.0.children,
      count_by-le-length (λ c. not (is_among c j.0.told)) j.0.children,
    ) in
    let is : w.living ≡ length (living j.0) = ap (λ (x : JobWord). x.living) (sym j.2) in
    omega (arith, s.few)

-- a fact of the state that the word shows, which was loaded last
pub state_seen : (P : Option Job → Type 0) (size : ForestSize) (who : ℕ) (u v : Seen) (r : ℕ) (w : JobWord) → IsSize size → u.key ≡ size
    → Sees who u v → IsAttached v r → IsWord v r w → ((j : Job) → word_of j ≡ w → P (Some j)) → Goes who [] u v
    × P ((store_of v.seen).tree r)
state_seen P size who u v r w s key g a k f = let j = job_seen size v r w s (sees_done size who u v key g) a k
    in (sees_goes who u v g, subst P (sym j.1) (f j.0 j.2))

pub does_attached : (who : ℕ) (d : Deed) (word old : ℕ) (v w : Seen) (r : ℕ) → Does who d word old v w → IsAttached v r → IsAttached w r
does_attached who d word old v w r g a =
    let is : w.seen ≡ v.seen ++ (g.others ++ d ∷ []) = g.seen ∙ append_assoc v.seen g.others (d ∷ []) in
    subst (λ l. is_some ((store_of l).tree r) ≡ true) (sym is)
    (lasts_more (λ x. is_some x ≡ true) attached_lasts v.key v.seen (g.others
    ++ d ∷ []) r (subst (IsDone (shape_of v.key)) is g.done) a)

-- an exchange leaves a row attached
pub attached_told : (who : ℕ) (d : Deed) (word old : ℕ) (v w : Seen) (n r : ℕ) → ExchangeAnswer who d word old v w n → IsAttached v r
    → IsAttached w r
attached_told who d word old v w n r t a = by_test (n == old) t
  where
    by_test : (b : Bool) → MatchBool b (Does who d word old v w) (Sees who v w × Fits v.key w.seen word n) → IsAttached w r
    by_test true g = does_attached who d word old v w r g a
    by_test false q = attached_sees who v w r q.0 a

-- ---- links

older_all : (P : ℕ → Type 0) (o : Option ℕ) (r : ℕ) (l : List ℕ) → P 0 → P (row_code o) → ((d : ℕ) → is_among d l ≡ true → P d)
    → P (row_code (older_after o r l))
older_all P o r [] z h k = z
older_all P o r (c ∷ cs) z h k = by_test (r == c) (older_all P (Some c) r cs z (k c (ap (λ b. b || is_among c cs) (same c)))
    (λ d a. k d (or_right (d == c) (is_among d cs) a)))
  where
    by_test : (b : Bool) → P (row_code (older_after (Some c) r cs)) → P (row_code (if b then o else older_after (Some c) r cs))
    by_test true m = h
    by_test false m = m

below_of : (shape : Shape) (tree : Tree) (x : Option Job) → ((c : ℕ) → is_among c (children_of x) ≡ true → c < shape.rows) → 0 < shape.rows
    → (r : ℕ) → row_code (older r (children_of x)) < shape.rows
below_of shape tree x h lt r = older_all (λ n. n < shape.rows) None r (children_of x) lt lt h

children_in : (shape : Shape) (tree : Tree) (o : Option ℕ) → HasFamilies tree → ((r : ℕ) → is_some (tree r) ≡ true → r < shape.rows)
    → (c : ℕ) → is_among c (children_of (row_of tree o)) ≡ true → c < shape.rows
children_in shape tree None h w c a = absurd (let k : false ≡ true = a in cc)
children_in shape tree (Some p) h w c a = child_row shape tree p c h w a

parent_in : (shape : Shape) (tree : Tree) (r : ℕ) (o : Option ℕ) → parent_of (tree r) ≡ o → HasFamilies tree
    → ((q : ℕ) → is_some (tree q) ≡ true → q < shape.rows) → 0 < shape.rows → row_code (parent_of (tree r)) < shape.rows
parent_in shape tree r None e h w lt = subst (λ x. row_code x < shape.rows) (sym e) lt
parent_in shape tree r (Some p) e h w lt = subst (λ x. row_code x < shape.rows) (sym e) (w p (listed_some r (tree p) (h.listed p r e)))

-- the link word of an attached child, by its number
pub link_seen : (size : ForestSize) (v : Seen) (r n : ℕ) → IsSize size → IsDone (shape_of size) v.seen → IsAttached v r → r ≢ 0
    → MayBeLink (store_of v.seen) r n
    → (w : LinkWord) × (link_at (store_of v.seen).tree r ≡ Some w) × IsNarrowLink w
    × ((b : Bool) × (link_code (record w { disclosed = b }) ≡ n)) × (w.disclosed ≡ false)
link_seen size v r n s h a ne e =
    let k = kept size v.seen s h in
    let tree : Tree = (store_of v.seen).tree in
    let j = is_job (tree r) a in
    let w : LinkWord = link_word_of (older_sibling tree r) j.0 in
    let is : link_at tree r ≡ Some w = ap (option_map (link_word_of (older_sibling tree r))) j.1 in
    let small : IsSmall (shape_of size) j.0 = subst (IsSmallRow (shape_of size)) j.1 (k.holds.small r) in
    let next : row_code (older_sibling tree r) < size.rows =
    below_of (shape_of size) tree (parent_row tree r) (children_in (shape_of size) tree (parent_of (tree r)) k.families k.within)
    (omega (arith, s.some, s.fit)) r in
    let up : row_code j.0.parent < size.rows = subst (λ x. row_code (parent_of x) < size.rows) j.1
    (parent_in (shape_of size) tree r (parent_of (tree r)) refl k.families k.within (omega (arith, s.some, s.fit))) in
    let tag = small.tag in
    let stored : (store_of v.seen).links r ≡ link_code w = k.holds.linked r w is ne in (
      w,
      is,
      record { parent = omega (arith, s.few); next = omega (arith, s.few); tag = omega (arith, s.few, s.fit) },
      by_hint w refl stored e,
      refl,
    )
  where
    by_hint : (w : LinkWord) → w.disclosed ≡ false → (store_of v.seen).links r ≡ link_code w → MayBeLink (store_of v.seen) r n → (b : Bool)
        × (link_code (record w { disclosed = b }) ≡ n)
    by_hint w f stored h = ⊎_elim (λ k. (false, ap (λ b. link_code (record w { disclosed = b })) (sym f) ∙ sym (k ∙ stored)))
        (λ (k : (is_some ((store_of v.seen).tree r) ≡ true) × (n ≡ (store_of v.seen).links r + 140737488355328)).
        (true, let z : bit w.disclosed ≡ 0 = ap bit f in let q = k.1 in omega arith)) h

-- the same, of the word that was found
pub link_found : (size : ForestSize) (v : Seen) (r : ℕ) (x : LinkWord) → IsSize size → IsDone (shape_of size) v.seen → IsAttached v r
    → r ≢ 0 → IsNarrowLink x → MayBeLink (store_of v.seen) r (link_code x) → link_at (store_of v.seen).tree r ≡ Some (without_hint x)
link_found size v r x s h a ne nx e =
    let k = link_seen size v r (link_code x) s h a ne e in
    let w : LinkWord = k.0 in
    let nw : IsNarrowLink (record w { disclosed = k.3.0 }) = record { parent = k.2.parent; next = k.2.next; tag = k.2.tag } in
    let is : x ≡ record w { disclosed = k.3.0 } = link_code_is x (record w { disclosed = k.3.0 }) nx nw (sym k.3.1) in
    k.1 ∙ sym (ap (λ (y : LinkWord). Some (without_hint y)) is ∙ (λ i. Some (record w { disclosed = sym k.4 i })))

-- each link word has 48 bits
pub link_small : (size : ForestSize) (v : Seen) (r n : ℕ) → IsSize size → IsDone (shape_of size) v.seen → MayBeLink (store_of v.seen) r n
    → n < 281474976710656
link_small size v r n s h e =
    let k = (kept size v.seen s h).holds.short r in
    ⊎_elim (λ q. omega arith) (λ (q : (is_some ((store_of v.seen).tree r) ≡ true)
    × (n ≡ (store_of v.seen).links r + 140737488355328)). let m = q.1 in omega arith) e
