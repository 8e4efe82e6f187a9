-- Claims of rows for scopes.
use Rattle.std.specs.Prelude.{◌≡◌, ℕ, suc, ◌<◌, ◌≤◌, Bool, List, [], ◌∷◌, Ok, Err, refl}
use Rattle.std.proofs.Common.{sym, subst, arith, append-nil}
use mathlib.Core.Logic.{dite}
use Rattle.co_base.proofs.Orders.{order_same}
use native.Mathlib.Decide.{ℕ_discrete}
use Rattle.job_model.specs.declared.acts.JobAct.{JobAct}
use Rattle.job_model.specs.declared.acts.JobAct.TheVariants.{Attach}
use Rattle.job_model.specs.declared.acts.JobKind.{JobKind}
use Rattle.job_model.specs.declared.floor.AttachError.{AttachError}
use Rattle.job_model.specs.declared.floor.AttachError.TheVariants.{NoRow, Used, ParentEnded}
use Rattle.job_model.specs.Trees.{Tree}
use Rattle.job_model.specs.Needs.{IsRowFor}
use Rattle.job_model.specs.Families.{IsEnded}
use Rattle.job_model.specs.Answers.{AttachAnswer}
use Rattle.word_rules.specs.declared.job_word.JobWord.{JobWord}
use Rattle.word_rules.specs.declared.size.ForestSize.{ForestSize}
use Rattle.word_rules.specs.Deeds.{shape_of, history_of, rows_claimed, store_of, IsDone}
use Rattle.job_words.specs.Passes.{Seen, Goes, floor_seen}
use Rattle.job_words.specs.Attaches.{IsClaimed, ActedNow, AttachedNow, HasRow, RowAnswer}
use Rattle.job_words.proofs.StepsAsCalls.{goes_trans, claims_last, looked, made, at_step}
use Rattle.job_words.proofs.DeedsAddUp.{tree_is}

-- nothing was done yet
pub goes_self : (who : ℕ) (v : Seen) → v.heard_tags ≡ [] → IsDone (shape_of v.key) v.seen → Goes who [] v v
unfolding history_of rows_claimed
goes_self who v idle h = record {
  rest = [];
  seen = sym (append-nil v.seen);
  mine = refl;
  rows = refl;
  tags = refl;
  key = refl;
  giving = refl;
  order = order_same v.order;
  idle = idle;
  done = h;
}

-- one row more was seen claimed
pub claimed_more : (who : ℕ) (rows : List ℕ) (from n : ℕ) (v w : Seen) → Goes who rows v w → ((r : ℕ) → from ≤ r → r < n → IsClaimed v r)
    → IsClaimed w n → (r : ℕ) → from ≤ r → r < suc n → IsClaimed w r
claimed_more who rows from n v w g h a r le lt = dite (ℕ_discrete r n) (λ is. subst (IsClaimed w) (sym is) a)
    (λ ne. claims_last who rows v w r g (h r le (omega arith)))

-- an act after steps without one
pub acted_after : (who row : ℕ) (old : JobWord) (act : JobAct) (u v w : Seen) → Goes who [] u v → ActedNow who row old act v w
    → ActedNow who row old act u w
acted_after who row old act u v w g a = record { before = a.before; goes = goes_trans who [] [] u v a.before g a.goes; does = a.does }

-- ---- the answers of an attach

-- no row was claimed
pub drawn_err : (size : ForestSize) (who parent : ℕ) (kind : JobKind) (tag : ℕ) (v w : Seen) (e : AttachError) → v.key ≡ size → w.key ≡ size
    → RowAnswer size who kind tag v w (Err e) → AttachAnswer who parent kind tag (floor_seen v) (floor_seen w) (Err e)
drawn_err size who parent kind tag v w NoRow kv kw d = record {
  looked = looked who [] v w d.0;
  scope = d.1;
  used = λ r le lt. d.2 r (subst (λ (k : ForestSize). k.coroutines ≤ r) kv le) (subst (λ (k : ForestSize). r < k.rows) kv lt);
}
drawn_err size who parent kind tag v w Used kv kw d = record { looked = looked who [] v w d.0; coroutine = d.1; used = d.2 }
drawn_err size who parent kind tag v w ParentEnded kv kw d = absurd d

-- the claimed row was attached
pub drawn_attached : (size : ForestSize) (who parent : ℕ) (kind : JobKind) (tag row : ℕ) (cancelled : Bool) (u v w : Seen)
    → HasRow size who kind tag row u v → AttachedNow who parent kind tag row cancelled v w
    → AttachAnswer who parent kind tag (floor_seen u) (floor_seen w) (Ok (record { row = row; cancelled = cancelled }))
drawn_attached size who parent kind tag row cancelled u v w d a =
    made who (Attach parent row kind tag cancelled) (row ∷ []) _ _ u a.1.before w
    (goes_trans who (row ∷ []) [] u v a.1.before d.goes a.1.goes) a.1.does

-- or its parent was seen ended
pub drawn_ended : (size : ForestSize) (who parent : ℕ) (kind : JobKind) (tag row : ℕ) (u v w : Seen) → u.key ≡ size
    → HasRow size who kind tag row u v → Goes who [] v w → w.heard_tags ≡ [] → IsEnded ((store_of w.seen).tree parent)
    → AttachAnswer who parent kind tag (floor_seen u) (floor_seen w) (Err ParentEnded)
drawn_ended size who parent kind tag row u v w key d g idle e =
    let all = goes_trans who (row ∷ []) [] u v w d.goes g in
    record {
      row = row;
      row_for = subst (λ (k : ForestSize). IsRowFor (shape_of k) who kind tag row) (sym key) d.row_for;
      looked = looked who (row ∷ []) u w all;
      ended = at_step who (row ∷ []) [] u w w (λ tree. IsEnded (tree parent)) all
          (goes_self who w idle (subst (λ (k : ForestSize). IsDone (shape_of k) w.seen) (sym g.key) g.done))
          (subst (λ (t : Tree). IsEnded (t parent)) (tree_is w.seen) e);
    }
