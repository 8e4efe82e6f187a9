-- What callers say of the history, said of the words.
use Rattle.std.specs.Prelude.{◌≡◌, ℕ, true, List, is_some}
use Rattle.std.proofs.Common.{sym, ap, ◌∙◌, subst}
use Rattle.job_model.specs.declared.acts.Reason.{Reason}
use Rattle.job_model.specs.Trees.{Shape, Tree}
use Rattle.job_model.specs.Needs.{MayEndBody, MayTell, Holds}
use Rattle.job_model.specs.Histories.{replay}
use Rattle.word_rules.specs.declared.deed.Deed.{Deed}
use Rattle.word_rules.specs.Deeds.{history_of, store_of}
use Rattle.job_words.proofs.DeedsAddUp.{tree_is}

pub attached_seen : (log : List Deed) (r : ℕ) → is_some (replay (history_of log) r) ≡ true → is_some ((store_of log).tree r) ≡ true
attached_seen log r a = ap (λ (t : Tree). is_some (t r)) (tree_is log) ∙ a

pub may_seen : (log : List Deed) (who r : ℕ) → MayEndBody who (replay (history_of log) r) → MayEndBody who ((store_of log).tree r)
may_seen log who r m = subst (λ (t : Tree). MayEndBody who (t r)) (sym (tree_is log)) m

pub tell_seen : (log : List Deed) (who r : ℕ) → MayTell who r (replay (history_of log)) → MayTell who r (store_of log).tree
tell_seen log who r m = subst (MayTell who r) (sym (tree_is log)) m

pub holds_seen : (shape : Shape) (log : List Deed) (who r : ℕ) (reason : Reason) → Holds shape (replay (history_of log)) who r reason
    → Holds shape (store_of log).tree who r reason
holds_seen shape log who r reason m = subst (λ (t : Tree). Holds shape t who r reason) (sym (tree_is log)) m
