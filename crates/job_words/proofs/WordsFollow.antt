-- The words of a forest are those of its entries and claims.
use Rattle.std.specs.Prelude.{◌≡◌, ◌≢◌, ℕ, ◌+◌, ◌<◌, true, List, Option, Some, None, is_some, option_map, refl}
use Rattle.std.proofs.Common.{⊎_elim, inl, inr, sym, ap, ◌∙◌, subst}
use Rattle.job_model.specs.Trees.{Job, Tree}
use Rattle.job_model.specs.Families.{older_sibling}
use Rattle.word_rules.specs.declared.size.ForestSize.{ForestSize}
use Rattle.word_rules.specs.declared.deed.Deed.{Deed}
use Rattle.word_rules.specs.Rows.{link_word_of}
use Rattle.word_rules.specs.Deeds.{shape_of, IsSize, history_of, Store, store_of, job_word, IsDone, IsKept, MayBeLink, Fits}
use Rattle.job_words.specs.JobWords.{IsJobWord, IsLinkWord, AreJobWordsOf}
use Rattle.job_words.proofs.DeedsAddUp.{tree_is}
use Rattle.job_words.proofs.StoreStaysSound.{kept}
use Rattle.job_words.proofs.MayExchange.{free_word, word_is, word_stored}
use Rattle.job_model.specs.Trees.{Shape}
use Rattle.job_words.proofs.PartsOfAnAttach.{unattached_link}

job_words_of : (shape : Shape) (s : Store) (r n : ℕ) → IsKept shape s → n ≡ job_word s r → (x : Option Job) → s.tree r ≡ x
    → IsJobWord (s.claimer r) x n
job_words_of shape s r n k e None t = (λ z. free_word shape s r k (sym z ∙ e), λ c. e ∙ word_stored s r t ∙ (k.holds.unclaimed r c).1)
job_words_of shape s r n k e (Some j) t = e ∙ word_is s r j t

link_words_of : (shape : Shape) (s : Store) (r n : ℕ) → IsKept shape s → r ≢ 0 → MayBeLink s r n → (x : Option Job) → s.tree r ≡ x
    → IsLinkWord (older_sibling s.tree r) x n
link_words_of shape s r n k ne e None t = subst (λ m. m < 140737488355328) (sym (unattached_link s r n t e)) (k.holds.short r)
link_words_of shape s r n k ne e (Some j) t =
    let stored = k.holds.linked r (link_word_of (older_sibling s.tree r) j) (ap (option_map (link_word_of (older_sibling s.tree r))) t) ne
    in
    ⊎_elim (λ q. inl (q ∙ stored)) (λ (q : (is_some (s.tree r) ≡ true) × (n ≡ s.links r + 140737488355328)). inr (q.1
    ∙ ap (λ m. m + 140737488355328) stored)) e

pub words_of : (size : ForestSize) (log : List Deed) (i n : ℕ) → IsSize size → IsDone (shape_of size) log → Fits size log i n
    → AreJobWordsOf (history_of log) (store_of log).claimer i n
words_of size log i n s h f =
    let k = kept size log s h in
    record {
      job = λ r e. subst (λ (t : Tree). IsJobWord ((store_of log).claimer r) (t r) n) (tree_is log)
          (job_words_of (shape_of size) (store_of log) r n k (f.job r e) ((store_of log).tree r) refl);
      link = λ r ne e. subst (λ (t : Tree). IsLinkWord (older_sibling t r) (t r) n) (tree_is log)
          (link_words_of (shape_of size) (store_of log) r n k ne (f.link r ne e) ((store_of log).tree r) refl);
    }
