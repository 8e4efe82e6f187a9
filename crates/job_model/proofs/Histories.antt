-- Histories that go on.
use Rattle.std.specs.Prelude.{◌≡◌, ◌↔◌, ℕ, ◌==◌, true, false, List, [], ◌∷◌, ◌++◌, if◌then◌else◌, refl}
use Rattle.std.proofs.Common.{ap}
use Rattle.job_model.specs.declared.acts.JobEntry.{JobEntry}
use Rattle.job_model.specs.Trees.{Shape, Tree, start}
use Rattle.job_model.specs.Effects.{after}
use Rattle.job_model.specs.Needs.{Needs}
use Rattle.job_model.specs.Histories.{replay_from, replay, LegalFrom, Legal, acts_of}

pub replay_from-append : (tree : Tree) (xs ys : List JobEntry) → replay_from tree (xs ++ ys) ≡ replay_from (replay_from tree xs) ys
unfolding replay_from
replay_from-append tree [] ys = refl
replay_from-append tree (e ∷ es) ys = replay_from-append (after tree e.who e.act) es ys

pub replay-append : (xs ys : List JobEntry) → replay (xs ++ ys) ≡ replay_from (replay xs) ys
replay-append xs ys = replay_from-append start xs ys

-- one entry more
pub replay_push : (xs : List JobEntry) (e : JobEntry) → replay (xs ++ e ∷ []) ≡ after (replay xs) e.who e.act
unfolding replay_from
replay_push xs e = replay_from-append start xs (e ∷ [])

pub replay_from-cons : (tree : Tree) (e : JobEntry) (es : List JobEntry)
    → replay_from tree (e ∷ es) ≡ replay_from (after tree e.who e.act) es
unfolding replay_from
replay_from-cons tree e es = refl

pub LegalFrom-append : (shape : Shape) (tree : Tree) (xs ys : List JobEntry) → LegalFrom shape tree xs
    → LegalFrom shape (replay_from tree xs) ys → LegalFrom shape tree (xs ++ ys)
unfolding replay_from LegalFrom
LegalFrom-append shape tree [] ys h k = k
LegalFrom-append shape tree (e ∷ es) ys h k = (h.0, LegalFrom-append shape (after tree e.who e.act) es ys h.1 k)

pub LegalFrom-parts : (shape : Shape) (tree : Tree) (xs ys : List JobEntry) → LegalFrom shape tree (xs ++ ys) → LegalFrom shape tree xs
    × LegalFrom shape (replay_from tree xs) ys
unfolding replay_from LegalFrom
LegalFrom-parts shape tree [] ys h = (tt, h)
LegalFrom-parts shape tree (e ∷ es) ys h = let r = LegalFrom-parts shape (after tree e.who e.act) es ys h.1 in ((h.0, r.0), r.1)

pub LegalFrom-cons : (shape : Shape) (tree : Tree) (e : JobEntry) (es : List JobEntry) → LegalFrom shape tree (e ∷ es)
    → Needs shape tree e.who e.act × LegalFrom shape (after tree e.who e.act) es
unfolding LegalFrom
LegalFrom-cons shape tree e es h = h

pub Legal-append : (shape : Shape) (xs ys : List JobEntry) → Legal shape (xs ++ ys) ↔ (Legal shape xs × LegalFrom shape (replay xs) ys)
Legal-append shape xs ys = (λ h. LegalFrom-parts shape start xs ys h, λ h. LegalFrom-append shape start xs ys h.0 h.1)

pub Legal_push : (shape : Shape) (xs : List JobEntry) (e : JobEntry) → Legal shape xs → Needs shape (replay xs) e.who e.act
    → Legal shape (xs ++ e ∷ [])
unfolding replay_from LegalFrom
Legal_push shape xs e h k = LegalFrom-append shape start xs (e ∷ []) h (k, tt)

pub Legal-last : (shape : Shape) (xs : List JobEntry) (e : JobEntry) → Legal shape (xs ++ e ∷ []) → Legal shape xs
    × Needs shape (replay xs) e.who e.act
unfolding replay_from LegalFrom
Legal-last shape xs e h = let r = LegalFrom-parts shape start xs (e ∷ []) h in (r.0, r.1.0)

pub Legal-prefix : (shape : Shape) (xs ys : List JobEntry) → Legal shape (xs ++ ys) → Legal shape xs
Legal-prefix shape xs ys h = (LegalFrom-parts shape start xs ys h).0

pub acts_of-append : (who : ℕ) (xs ys : List JobEntry) → acts_of who (xs ++ ys) ≡ acts_of who xs ++ acts_of who ys
unfolding acts_of
acts_of-append who [] ys = refl
acts_of-append who (e ∷ es) ys =
    elim (e.who == who) as (λ b. (if b then e.act ∷ acts_of who (es ++ ys) else acts_of who (es ++ ys)) ≡
    (if b then e.act ∷ acts_of who es else acts_of who es) ++ acts_of who ys)
    [ true ↦ ap (λ l. e.act ∷ l) (acts_of-append who es ys) | false ↦ acts_of-append who es ys ]
