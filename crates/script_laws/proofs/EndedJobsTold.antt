-- At the end of a run the parent of each ended Job was told.
use Rattle.std.proofs.Common.{◌≡◌, ◌≢◌, ℕ, Bool, true, false, not, ◌&&◌, List, [], ◌∷◌, ◌++◌, refl, ap, sym, ◌∙◌, subst, Option, Some, None, if◌then◌else◌}
use Rattle.std.specs.Prelude.{◌==◌}
use Rattle.std.proofs.lemmas.Bool.{both_ways, and_from, and_parts, not-true, not_from_false, false_from_ne_true}
use Rattle.channel_model.specs.declared.acts.Entry.{Entry}
use Rattle.job_model.specs.declared.acts.JobAct.{JobAct}
use Rattle.job_model.specs.declared.acts.JobAct.TheVariants.{EndBody, Finish, Gone}
use Rattle.job_model.specs.declared.acts.JobEntry.{JobEntry}
use Rattle.job_model.specs.Effects.{after}
use Rattle.job_model.specs.Trees.{Job, Tree, root, is_ended, was_told, parent_row}
use Rattle.job_model.specs.Acts.{tells}
use Rattle.job_model.specs.Laws.{has_ended}
use Rattle.job_model.specs.Families.{IsEnded}
use Rattle.job_model.specs.Histories.{replay, Legal}
use Rattle.job_model.proofs.Histories.{Legal-prefix}
use Rattle.job_model.proofs.Steps.{RowStep, row_step}
use Rattle.job_model.proofs.Families.{replay_families}
use Rattle.job_model.proofs.RowMarks.{tell_mark}
use Rattle.job_model.proofs.Rows.{same}
use Rattle.note_book.specs.declared.book.Item.{Item}
use Rattle.call_meaning.specs.Telling.{Told, note, did}
use Rattle.call_meaning.specs.JobCalls.{Chain}
use Rattle.script_grammar.specs.Programs.{Program}
use Rattle.script_meaning.specs.Shapes.{job_shape, base_of}
use Rattle.script_meaning.specs.Books.{BooksOf}
use Rattle.script_meaning.proofs.Debts.{exists_first, exists_right}
use Rattle.script_meaning.proofs.Payments.{AllPaid}
use Rattle.script_meaning.proofs.JobPieces.{job_told, act_in_item, quiet_closes}
use Rattle.script_meaning.proofs.JobDebts.{JobPaid, JobDebt, paid_then, paid_quiet, nobody_owes, needs_there}
use Rattle.script_laws.proofs.DoneJobsEnded.{ActPasses, calm_pieces, other_part}
use Rattle.channel_model.proofs.Plain.{and_false}
use Rattle.job_model.proofs.Ends.{ended_before_body, not_first, ended_is}

-- it has ended, and its parent was not told
abbrev pub owes_word : ℕ → Tree → Bool
owes_word r tree = has_ended (tree r) && not (was_told r (parent_row tree r))

abbrev pub RaisesWord : ℕ → JobAct → Type 0
RaisesWord r (Finish q end) = q ≡ r
RaisesWord r other = ⊥

abbrev pub IsGoneOf : ℕ → JobAct → Type 0
IsGoneOf r (Gone q) = q ≡ r
IsGoneOf r other = ⊥

abbrev pub TakesWord : ℕ → JobAct → Told → Type 0
TakesWord r a (note i) = ActPasses (IsGoneOf r) (act_in_item i)
TakesWord r a other = ⊥

abbrev pub WordPaid : ℕ → ℕ → List Told → Type 0
WordPaid k r told = JobPaid k (owes_word r) (RaisesWord r) (TakesWord r) told

chain_tells : (p : Program) (k r row : ℕ) (g : List Told) → r ≢ 0 → Chain (base_of p) row g → WordPaid k r g
unfolding AllPaid
chain_tells p k r _ _ n (Chain.stops row) = (tt, tt)
chain_tells p k r _ _ n (Chain.root end closes c) = (
  λ x. absurd (n (sym x)),
  paid_quiet k (owes_word r) (RaisesWord r) (TakesWord r) closes (quiet_closes _ _ closes c),
)
chain_tells p k r row g n (Chain.goes_up _ parent end closes rest _ m c up e) =
    subst (WordPaid k r) (sym e) (
      λ x. exists_right (TakesWord r (Finish row end)) closes _ (exists_first (TakesWord r (Finish row end)) (did (Gone row)) _ x),
      paid_then k (owes_word r) (RaisesWord r) (TakesWord r) closes _
          (paid_quiet k (owes_word r) (RaisesWord r) (TakesWord r) closes (quiet_closes _ _ closes c))
          (λ x. absurd x, (tt, chain_tells p k r parent rest n up)),
    )

body_tells : (p : Program) (k r row v : ℕ) (chain : List Told) → r ≢ 0 → Chain (base_of p) row chain
    → WordPaid k r (did (EndBody row v) ∷ chain)
unfolding AllPaid
body_tells p k r row v chain n c = (λ x. absurd x, chain_tells p k r row chain n c)

-- which act raises it

word_raised : (shape : _) (tree : Tree) (who r : ℕ) (act : JobAct) (x y : Option Job) → RowStep shape tree who r act x y
    → has_ended x ≡ false → has_ended y ≡ true → RaisesWord r act
word_raised shape tree who r _ _ _ (RowStep.is_attached p kind tag cancelled m i) f t = absurd (not_first cancelled kind.lazy t)
word_raised shape tree who r _ _ _ (RowStep.body_ends v j m) f t = absurd (both_ways (is_ended j.state) f (ended_before_body j.state t))
word_raised shape tree who r _ _ _ (RowStep.ends end j m) f t = refl
word_raised shape tree who r _ _ _ (RowStep.is_started j n) f t = cc
word_raised shape tree who r _ _ _ (RowStep.is_cancelled reason j m o) f t = cc
word_raised shape tree who r act x y other f t = absurd (both_ways (has_ended x) f t)

pub parts_of : (a b : Bool) → (a && not b) ≡ true → (a ≡ true) × (b ≡ false)
parts_of a b h = let both = and_parts a (not b) h in (both.0, not-true b both.1)

pub not_before : (a b : Bool) → (a && not b) ≡ false → (b ≡ true → ⊥) → a ≡ false
not_before a b h n = false_from_ne_true a (λ k. both_ways (a && not b) h (and_from a _ k (not_from_false b (false_from_ne_true b n))))

word_by_told : (r : ℕ) (a : JobAct) (t : Told) (at : List JobEntry) → job_told t ≡ None → TakesWord r a t → owes_word r (replay at) ≡ false
word_by_told r a (note i) at m t = absurd (subst (ActPasses (IsGoneOf r)) m t)
word_by_told r a other at m t = absurd t

act_of_told : (r : ℕ) (a : JobAct) (t : Told) (b : JobAct) → job_told t ≡ Some b → TakesWord r a t → IsGoneOf r b
act_of_told r a (note i) b m t = subst (ActPasses (IsGoneOf r)) m t
act_of_told r a other b m t = absurd t

word_by_act : (jobs : List JobEntry) (shape : _) → Legal shape jobs → (r : ℕ) (b : JobAct) → IsGoneOf r b
    → (before rest : List JobEntry) (e : JobEntry) → jobs ≡ before ++ e ∷ rest → e.act ≡ b
    → owes_word r (after (replay before) e.who e.act) ≡ false
word_by_act jobs shape l r (Gone q) f before rest e parts is =
    let needs = needs_there shape jobs before e rest l parts in
    and_false (has_ended (after (replay before) e.who e.act r)) _
    (tell_mark.sets shape (replay before) e.who e.act r (replay_families shape before
    (Legal-prefix shape before (e ∷ rest) (subst (Legal shape) parts l))) needs (ap (tells r) is
    ∙ subst (λ u. (r == u) ≡ true) (sym f) (same r)))
word_by_act jobs shape l r other f before rest e parts is = absurd f

of_start : (b x : Bool) → (has_ended (if b then Some root else None) && x) ≡ false
of_start true x = refl
of_start false x = refl

word_debt : (p : Program) (jobs : List JobEntry) → Legal (job_shape p) jobs → (r : ℕ) → r ≢ 0 → JobDebt p jobs
word_debt p jobs l r n = record {
  owes = owes_word r;
  Raises = λ n. RaisesWord r;
  Takes = TakesWord r;
  first = of_start (r == 0) _;
  rises = λ before e rest parts f t.
      let needs = needs_there (job_shape p) jobs before e rest l parts in
      let q = parts_of (has_ended (after (replay before) e.who e.act r)) (was_told r (parent_row (after (replay before) e.who e.act) r)) t
      in
      word_raised (job_shape p) (replay before) e.who r e.act _ _ (row_step (job_shape p) (replay before) e.who e.act r needs)
      (not_before (has_ended (replay before r)) (was_told r (parent_row (replay before) r)) f
      (λ w. both_ways _ q.1 (tell_mark.kept (job_shape p) (replay before) e.who e.act r needs w))) q.0;
  pieces = λ k g h s. calm_pieces p jobs k (owes_word r) (RaisesWord r) (TakesWord r) (λ a b c d e x. x) (λ a x. x) (λ a b x. x)
      (λ row v chain known c. body_tells p k r row v chain n c) g h s;
  by_fact = λ a t at more parts h m x. word_by_told r a t at m x;
  by_act = λ a t b m x before rest e parts is. word_by_act jobs (job_shape p) l r b (act_of_told r a t b m x) before rest e parts is;
}

-- the parent of each ended Job was told
pub told : (p : Program) (books : List (List Item)) (channels : List Entry) (jobs : List JobEntry) → BooksOf p books channels jobs → (r : ℕ)
    → r ≢ 0 → IsEnded (replay jobs r) → was_told r (parent_row (replay jobs) r) ≡ true
unfolding word_debt
told p books channels jobs of r n ended = other_part (has_ended (replay jobs r)) _
    (nobody_owes p books channels jobs of (word_debt p jobs of.legal_jobs r n)) (ended_is (replay jobs r) ended)
