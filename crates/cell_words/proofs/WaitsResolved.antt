-- A wait that is resolved by another: who it is of, and that it stays while others look.
use Rattle.std.proofs.Common.{Bool, true, false, ◌≡◌, ◌≢◌, ◌⊎◌, ℕ, ◌+◌, ◌≤◌, List, sym, refl, ap, ◌∙◌, subst, arith}
use Rattle.co_base.specs.declared.names.WaitId.{WaitId}
use Rattle.channel_model.specs.declared.acts.Entry.{Entry}
use Rattle.channel_model.specs.Channels.{Shape}
use Rattle.channel_model.specs.Histories.{replay, Legal}
use Rattle.channel_model.specs.Answers.{IsOwnWait, IsResolvedWait}
use Rattle.word_rules.specs.declared.cell_word.CellWord.{CellWord}
use Rattle.cell_words.specs.declared.found.Removal.{Removal}
use Rattle.cell_words.specs.declared.hub.Hub.{Hub}
use Rattle.cell_words.specs.declared.pass.Pass.{Pass}
use Rattle.cell_words.specs.Hubs.{shape_of, IsOf, seen_by}
use Rattle.word_rules.specs.Words.{number}
use Rattle.cell_words.specs.declared.found.Waiter.{Waiter}
use Rattle.word_rules.specs.declared.wait_word.WaitWord.{WaitWord}
use Rattle.word_rules.specs.Cells.{receiver, offer, cell_of}
use Rattle.word_rules.specs.Codes.{packed_wait, resolver_code}
use Rattle.word_rules.specs.declared.wait_word.ResolvedBy.{ResolvedBy}
use Rattle.word_rules.specs.declared.wait_word.ResolvedBy.TheVariants as by
use Rattle.channel_model.specs.Laws.{NoneBelow}
use Rattle.cell_words.specs.Seen.{Seen, Sees, at_channel}
use Rattle.cell_words.specs.Looks.{is_nobody, owner_told, holder_of, lets_stand, tried_by, tried_found}
use Rattle.cell_words.specs.Answers.{IsCellWord, IsWaitWord, IsNumberedWait, Receives, Offers, OwnerAnswer, RemoveAnswer, MayRemoveHeld}
use Rattle.cell_words.proofs.CellsLast.{resolved_more, receiver_more, offer_more}
use Rattle.cell_words.proofs.LooksAtCells.{hub_legal, sees_then, home_owner}
use Rattle.cell_words.proofs.MayExchange.{resolved_not, held_later}
use Rattle.cell_words.proofs.OwnWaits.{owner_seen}
use Rattle.cell_words.proofs.WaitsAtHome.{at_home}
use Rattle.cell_words.proofs.ExchangesTell.{low_later, receiver_lost, resolved_found, take_gone, take_admitted}

-- what the cell where a wait began says of its coroutine
pub owner_found : (shape : Shape) (w : WaitId) (owner : ℕ) (u v : Seen) → Sees u v → Legal shape v.seen → (word : CellWord)
    → IsCellWord shape w.channel w.place v.seen word → IsOwnWait owner ((replay u.seen).waits w)
    → OwnerAnswer owner w v.seen (owner_told (holder_of word))
owner_found shape w owner u v s l word is own = subst (λ (z : CellWord). OwnerAnswer owner w v.seen (owner_told (holder_of z))) (sym is.0)
    (home_owner shape v.seen w owner (cell_of v.seen w.channel w.place) ((replay v.seen).waits w) refl is.1 (at_home shape v.seen l w)
    (owner_seen shape owner w u v s l own))

-- a receiver stays in its cell
pub receiver_seen : (shape : Shape) (c p who k : ℕ) (w : WaitId) (u v : Seen) → Sees u v → Legal shape v.seen
    → cell_of u.seen c p ≡ receiver who w k → cell_of v.seen c p ≡ receiver who w k
receiver_seen shape c p who k w u v s l e = subst (λ (es : List Entry). cell_of es c p ≡ receiver who w k) (sym s.now)
    (receiver_more shape c p who k w u.seen s.others (subst (Legal shape) s.now l) e)

-- of one whose wait was resolved, nobody stands up to its place; before the exchange, and where the exchange found it resolved
module _ (hub : Hub) (pass : Pass) (of : IsOf hub pass) (c p : ℕ) (x : Waiter) (v : Seen) (low : NoneBelow p 0 (at_channel v.seen c))
    (first : Receives (shape_of hub) c p x v.seen) where
  pub receiver_resolved : Sees v (seen_by pass) → IsResolvedWait ((replay (seen_by pass).seen).waits first.held.wait)
      → Sees v (seen_by pass) × NoneBelow (p + 1) 0 (at_channel (seen_by pass).seen c)
  receiver_resolved s resolved = (
    s,
    receiver_lost (shape_of hub) v (seen_by pass) (hub_legal hub pass of) s c p first.held.who x.clause
        first.held.wait low first.cell resolved,
  )

  pub receiver_missed : (u : Seen) → Sees v u → (n old : ℕ) → old ≡ 0
      → number (shape_of hub) first.held.wait.channel first.held.wait.place ≡ n → (found : WaitWord)
      → Sees u (seen_by pass) × IsNumberedWait (shape_of hub) n (seen_by pass).seen found × (packed_wait found ≢ old)
      → Sees v (seen_by pass) × NoneBelow (p + 1) 0 (at_channel (seen_by pass).seen c)
  receiver_missed u s n old zero is found told = receiver_resolved (sees_then v u (seen_by pass) s told.0)
      (resolved_found found ((replay (seen_by pass).seen).waits first.held.wait)
      (told.1 first.held.wait (first.held.fits.channel, first.held.fits.place) is).0 (λ z. told.2 (z ∙ sym zero)))

-- an offer does, or its wait was resolved
pub offer_seen : (shape : Shape) (c p value who k : ℕ) (w : WaitId) (u v : Seen) → Sees u v → Legal shape v.seen
    → cell_of u.seen c p ≡ offer value who w k → (cell_of v.seen c p ≡ offer value who w k) ⊎ IsResolvedWait ((replay v.seen).waits w)
offer_seen shape c p value who k w u v s l e = subst (λ (es : List Entry). (cell_of es c p ≡ offer value who w k)
    ⊎ IsResolvedWait ((replay es).waits w)) (sym s.now) (offer_more shape c p value who k w u.seen s.others (subst (Legal shape) s.now l) e)

-- a wait that was resolved has another word than one that stands
pub resolved_word : (shape : Shape) (w : WaitId) (u v : Seen) (word : WaitWord) → Sees u v → Legal shape v.seen
    → IsResolvedWait ((replay u.seen).waits w) → IsWaitWord w v.seen word → packed_wait word ≡ 0 → ⊥
resolved_word shape w u v word s l r is e =
    resolved_not ((replay v.seen).waits w) (subst (λ (es : List Entry). IsResolvedWait ((replay es).waits w)) (sym s.now)
    (resolved_more shape w u.seen s.others (subst (Legal shape) s.now l) r)) (sym e ∙ ap packed_wait is.0)

-- what the word of a resolved wait tells of its offer
pub take_tried : (by : Removal) (shape : Shape) (v w : Seen) (who c p : ℕ) (x : Waiter) → Legal shape w.seen → Sees v w
    → NoneBelow 0 p (at_channel v.seen c) → (o : Offers shape c p x v.seen) → (word : WaitWord) → IsWaitWord o.held.wait w.seen word
    → (packed_wait word ≡ 0 → ⊥)
    → RemoveAnswer by shape who c p x v w (tried_found word x.clause)
take_tried by shape v w who c p x l s low o word is ne = by_test (lets_stand word x.clause) refl
  where
    by_test : (b : Bool) → lets_stand word x.clause ≡ b → RemoveAnswer by shape who c p x v w (tried_by b)
    by_test true e = (
      s,
      low_later shape v w c p l s low,
      take_admitted shape v w l s c p x.value o.held.who x.clause o.held.wait low o.cell x refl refl o.held.holder o.held.fits word is ne
          e,
    )
    by_test false e = (s, take_gone shape v w l s c p x.value o.held.who x.clause o.held.wait low o.cell word is e)

-- what a removal of a held offer asks, after some looks
pub held_seen_may : (shape : Shape) (by : Removal) (c : ℕ) (u v : Seen) → Sees u v → Legal shape v.seen → MayRemoveHeld by c u.seen
    → MayRemoveHeld by c v.seen
held_seen_may shape by c u v s l h = subst (λ (es : List Entry). MayRemoveHeld by c es) (sym s.now)
    (held_later shape by c u.seen s.others (subst (Legal shape) s.now l) h)

-- the word of a wait that somebody resolved is not that of one that stands
by_code : (b : ResolvedBy) → is_nobody b ≡ false → 1 ≤ resolver_code b
by_code by.Nobody h = cc
by_code by.Hand h = omega arith
by_code other h = omega arith

pub somebody_word : (word : WaitWord) (b : Bool) → b ≡ is_nobody word.by → b ≡ false → packed_wait word ≡ 0 → ⊥
somebody_word word b is nobody e = let m = by_code word.by (sym is ∙ nobody) in omega (arith, e)
