-- Histories that go on: what they leave, and when they are legal.
use Rattle.std.specs.Prelude.{◌≡◌, ℕ, ◌==◌, true, false, List, [], ◌∷◌, ◌++◌, if◌then◌else◌, refl}
use Rattle.std.proofs.Common.{ap}
use Rattle.channel_model.specs.declared.acts.Entry.{Entry}
use Rattle.channel_model.specs.Channels.{Shape, State, start}
use Rattle.channel_model.specs.Effects.{after}
use Rattle.channel_model.specs.Needs.{Needs}
use Rattle.channel_model.specs.Histories.{replay_from, replay, LegalFrom, Legal, acts_of}

pub replay_from-append : (s : State) (xs ys : List Entry) → replay_from s (xs ++ ys) ≡ replay_from (replay_from s xs) ys
unfolding replay_from
replay_from-append s [] ys = refl
replay_from-append s (e ∷ es) ys = replay_from-append (after s e.who e.act) es ys

pub replay_push : (xs : List Entry) (e : Entry) → replay (xs ++ e ∷ []) ≡ after (replay xs) e.who e.act
unfolding replay_from
replay_push xs e = replay_from-append start xs (e ∷ [])

pub LegalFrom-append : (shape : Shape) (s : State) (xs ys : List Entry) → LegalFrom shape s xs → LegalFrom shape (replay_from s xs) ys
    → LegalFrom shape s (xs ++ ys)
unfolding replay_from LegalFrom
LegalFrom-append shape s [] ys h k = k
LegalFrom-append shape s (e ∷ es) ys h k = (h.0, LegalFrom-append shape (after s e.who e.act) es ys h.1 k)

pub Legal_push : (shape : Shape) (xs : List Entry) (e : Entry) → Legal shape xs → Needs shape (replay xs) e.who e.act
    → Legal shape (xs ++ e ∷ [])
unfolding replay_from LegalFrom
Legal_push shape xs e h k = LegalFrom-append shape start xs (e ∷ []) h (k, tt)

pub LegalFrom-parts : (shape : Shape) (s : State) (xs ys : List Entry) → LegalFrom shape s (xs ++ ys) → LegalFrom shape s xs
    × LegalFrom shape (replay_from s xs) ys
unfolding replay_from LegalFrom
LegalFrom-parts shape s [] ys h = (tt, h)
LegalFrom-parts shape s (e ∷ es) ys h = let r = LegalFrom-parts shape (after s e.who e.act) es ys h.1 in ((h.0, r.0), r.1)

pub acts_of-append : (who : ℕ) (xs ys : List Entry) → acts_of who (xs ++ ys) ≡ acts_of who xs ++ acts_of who ys
unfolding acts_of
acts_of-append who [] ys = refl
acts_of-append who (e ∷ es) ys =
    elim (e.who == who) as (λ b. (if b then e.act ∷ acts_of who (es ++ ys) else acts_of who (es ++ ys)) ≡
    (if b then e.act ∷ acts_of who es else acts_of who es) ++ acts_of who ys)
    [ true ↦ ap (λ l. e.act ∷ l) (acts_of-append who es ys) | false ↦ acts_of-append who es ys ]

pub Legal-last : (shape : Shape) (es : List Entry) (e : Entry) → Legal shape (es ++ e ∷ []) → Legal shape es
    × Needs shape (replay es) e.who e.act
unfolding LegalFrom replay_from
Legal-last shape es e l = let r = LegalFrom-parts shape start es (e ∷ []) l in (r.0, r.1.0)

pub Legal-prefix : (shape : Shape) (xs ys : List Entry) → Legal shape (xs ++ ys) → Legal shape xs
Legal-prefix shape xs ys l = (LegalFrom-parts shape start xs ys l).0
