-- The next place never falls.
use Rattle.std.specs.Prelude.{ℕ, ◌≤◌, List}
use mathlib.Core.List.{IsPrefix}
use Rattle.std.proofs.Common.{arith}
use Rattle.channel_model.specs.declared.acts.Entry.{Entry}
use Rattle.channel_model.specs.Channels.{Shape}
use Rattle.channel_model.specs.Histories.{replay, Legal}
use Rattle.channel_model.proofs.Sound.{channel_lasts, given_keeps}

pub next_grows : (shape : Shape) (xs ys : List Entry) (c : ℕ) → Legal shape ys → IsPrefix xs ys
    → ((replay xs).channels c).next ≤ ((replay ys).channels c).next
next_grows shape xs ys c l p = channel_lasts shape (λ d ch. ((replay xs).channels c).next ≤ ch.next)
    (given_keeps shape ((replay xs).channels c).next) c xs ys p l (omega arith)
