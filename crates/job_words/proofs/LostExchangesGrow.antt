-- A word that changed shows a longer history.
use Rattle.std.specs.Prelude.{◌≡◌, ◌≢◌, ℕ, ◌-◌, ◌*◌, ◌<◌, ◌≤◌, true, List, [], ◌∷◌, ◌++◌, length, Option, is_some, refl}
use Rattle.std.proofs.Common.{sym, ap, ◌∙◌, subst, arith, append-nil}
use Rattle.std.proofs.lemmas.List.{length-append}
use Rattle.job_model.specs.declared.acts.JobEntry.{JobEntry}
use Rattle.job_model.specs.Trees.{Job, Tree}
use Rattle.job_model.specs.Histories.{replay}
use Rattle.job_model.proofs.Lasting.{Lasts, attached_lasts}
use Rattle.job_model.proofs.Short.{legal_is_short}
use Rattle.word_rules.specs.declared.size.ForestSize.{ForestSize}
use Rattle.word_rules.specs.declared.deed.Deed.{Deed}
use Rattle.word_rules.specs.Deeds.{shape_of, IsSize, history_of, store_of, job_word, IsDone}
use Rattle.job_words.specs.Passes.{Seen, Goes, Sees, IsMine}
use Rattle.job_words.specs.Attaches.{IsAttached, Grew}
use Rattle.job_words.proofs.DeedsAddUp.{history-append, tree_is, is_legal, store_more}
use Rattle.job_words.proofs.StoreStaysSound.{size_shape, mine_kept}
use Rattle.job_words.proofs.MayExchange.{lasts_more, word_is, is_job, done_of_rest}

longer : (xs rest : List JobEntry) (P : Type 0) → (rest ≡ [] → P) → (length xs < length (xs ++ rest) → P) → P
longer xs [] P h k = h refl
longer xs (e ∷ es) P h k = k (let n = length-append xs (e ∷ es) in grind arith)

same_tree : (v w : Seen) (rest : List Deed) → w.seen ≡ v.seen ++ rest → history_of rest ≡ []
    → (store_of w.seen).tree ≡ (store_of v.seen).tree
same_tree v w rest e n =
    tree_is w.seen ∙ ap (λ l. replay (history_of l)) e ∙ ap replay (history-append v.seen rest)
    ∙ ap (λ l. replay (history_of v.seen ++ l)) n ∙ ap replay (append-nil (history_of v.seen)) ∙ sym (tree_is v.seen)

pub grew : (who : ℕ) (rows : List ℕ) (v w : Seen) (r : ℕ) → Goes who rows v w → IsAttached v r
    → job_word (store_of v.seen) r ≢ job_word (store_of w.seen) r → Grew v w
grew who rows v w r g a ne =
    subst (λ (l : List JobEntry). length (history_of v.seen) < length l) (sym (ap history_of g.seen ∙ history-append v.seen g.rest))
    (longer (history_of v.seen) (history_of g.rest) (length (history_of v.seen) < length (history_of v.seen ++ history_of g.rest))
    (λ n. absurd (same n)) (λ k. k))
  where
    same : history_of g.rest ≡ [] → ⊥
    same n =
        let t = same_tree v w g.rest g.seen n in
        let j = is_job ((store_of v.seen).tree r) a in
        ne (word_is (store_of v.seen) r j.0 j.1 ∙ sym (word_is (store_of w.seen) r j.0 (ap (λ (x : Tree). x r) t ∙ j.1)))

pub grew_more : (who : ℕ) (rows : List ℕ) (u v w : Seen) → Goes who rows u v → Grew v w → Grew u w
grew_more who rows u v w g k = let n = length-append (history_of u.seen) (history_of g.rest)
    in let m : length (history_of v.seen) ≡ length (history_of u.seen ++ history_of g.rest) =
    ap length (ap history_of g.seen ∙ history-append u.seen g.rest) in omega arith

-- a legal history is short
pub short : (size : ForestSize) (log : List Deed) → IsSize size → IsDone (shape_of size) log → length (history_of log) ≤ 6 * size.rows
short size log s h = legal_is_short (shape_of size) (history_of log) (size_shape size s) (is_legal (shape_of size) log h)

-- ---- what goes on to hold

pub attached_goes : (who : ℕ) (rows : List ℕ) (v w : Seen) (r : ℕ) → Goes who rows v w → IsAttached v r → IsAttached w r
attached_goes who rows v w r g a = subst (λ l. is_some ((store_of l).tree r) ≡ true) (sym g.seen)
    (lasts_more (λ x. is_some x ≡ true) attached_lasts v.key v.seen g.rest r (subst (IsDone (shape_of v.key)) g.seen g.done) a)

pub lasts_goes : (P : Option Job → Type 0) → Lasts P → (who : ℕ) (rows : List ℕ) (v w : Seen) (r : ℕ) → Goes who rows v w
    → P ((store_of v.seen).tree r) → P ((store_of w.seen).tree r)
lasts_goes P k who rows v w r g a = subst (λ l. P ((store_of l).tree r)) (sym g.seen)
    (lasts_more P k v.key v.seen g.rest r (subst (IsDone (shape_of v.key)) g.seen g.done) a)

pub mine_sees : (who row l j : ℕ) (v w : Seen) → Sees who v w → IsMine who row l j (store_of v.seen) → IsMine who row l j (store_of w.seen)
mine_sees who row l j v w g m =
    subst (λ x. IsMine who row l j (store_of x)) (sym g.seen) (subst (IsMine who row l j) (sym (store_more v.seen g.others))
    (mine_kept (shape_of v.key) (store_of v.seen) g.others who row l j
    (done_of_rest v.key v.seen g.others (subst (IsDone (shape_of v.key)) g.seen g.done)) g.apart m))

-- so many entries may still come
abbrev pub entries_left : ForestSize → Seen → ℕ
entries_left size v = 6 * size.rows - length (history_of v.seen)

-- a history that grew is nearer to the longest
pub nearer : (size : ForestSize) (v w : Seen) → IsSize size → w.key ≡ size → IsDone (shape_of w.key) w.seen → Grew v w
    → entries_left size w < entries_left size v
nearer size v w s key h g = let k = short size w.seen s (subst (λ (x : ForestSize). IsDone (shape_of x) w.seen) key h) in omega arith
