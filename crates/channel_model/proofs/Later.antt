-- However a history goes on, what was done stays done.
use Rattle.std.specs.Prelude.{◌≡◌, ℕ, ◌≤◌, true, List, ◌++◌, Some, refl}
use Rattle.std.proofs.Common.{arith}
use Rattle.co_base.specs.declared.names.WaitId.{WaitId}
use Rattle.channel_model.specs.declared.acts.Entry.{Entry}
use Rattle.channel_model.specs.declared.acts.Settled.{Settled}
use Rattle.channel_model.specs.declared.standing.Resolution.{Resolution}
use Rattle.channel_model.specs.Channels.{Shape}
use Rattle.channel_model.specs.Histories.{replay, Legal}
use Rattle.channel_model.specs.Laws.{IsResolvedAs, IsSettledAs}
use Rattle.channel_model.proofs.Sound.{channel_lasts, lasts, given_keeps, closed_keeps, voided_keeps}
use Rattle.channel_model.proofs.ResolvedAs.{resolved_lasts, ended_lasts}

pub given_later : (shape : Shape) (xs ys : List Entry) (c : ℕ) → Legal shape (xs ++ ys)
    → ((replay xs).channels c).next ≤ ((replay (xs ++ ys)).channels c).next
given_later shape xs ys c l = channel_lasts shape (λ d ch. ((replay xs).channels c).next ≤ ch.next)
    (given_keeps shape ((replay xs).channels c).next) c xs (xs ++ ys) (ys, refl) l (omega arith)

pub closed_later : (shape : Shape) (xs ys : List Entry) (c v : ℕ) → Legal shape (xs ++ ys) → ((replay xs).channels c).closed ≡ Some v
    → ((replay (xs ++ ys)).channels c).closed ≡ Some v
closed_later shape xs ys c v l h = channel_lasts shape (λ d ch. ch.closed ≡ Some v) (closed_keeps shape v) c xs (xs ++ ys) (ys, refl) l h

pub voided_later : (shape : Shape) (xs ys : List Entry) (c : ℕ) → Legal shape (xs ++ ys) → ((replay xs).channels c).voided ≡ true
    → ((replay (xs ++ ys)).channels c).voided ≡ true
voided_later shape xs ys c l h = channel_lasts shape (λ d ch. ch.voided ≡ true) (voided_keeps shape) c xs (xs ++ ys) (ys, refl) l h

pub resolved_later : (shape : Shape) (xs ys : List Entry) (w : WaitId) (how : Resolution) → Legal shape (xs ++ ys)
    → IsResolvedAs how ((replay xs).waits w) → IsResolvedAs how ((replay (xs ++ ys)).waits w)
resolved_later shape xs ys w how l h = lasts shape (λ s. IsResolvedAs how (s.waits w)) (resolved_lasts shape how w) xs (xs
    ++ ys) (ys, refl) l h

pub settled_later : (shape : Shape) (xs ys : List Entry) (w : WaitId) (outcome : Settled) → Legal shape (xs ++ ys)
    → IsSettledAs outcome ((replay xs).waits w) → IsSettledAs outcome ((replay (xs ++ ys)).waits w)
settled_later shape xs ys w outcome l h = lasts shape (λ s. IsSettledAs outcome (s.waits w)) (ended_lasts shape outcome w) xs (xs
    ++ ys) (ys, refl) l h
