-- What the steps about those who wait come to.
use Rattle.std.specs.Prelude.{◌≡◌, ℕ, ◌/◌, Bool, true, false, List, [], ◌∷◌, ◌++◌, refl}
use Rattle.std.proofs.Common.{sym, ap, ◌∙◌, subst, append_assoc}
use mathlib.Core.List.{IsPrefix}
use Rattle.worded.specs.Views.{has_tag}
use Rattle.worded.specs.Exchanges.{Loaded, Entered}
use Rattle.ring_channel.specs.declared.act.RingAct.TheVariants.{Waiting}
use Rattle.ring_channel.specs.declared.act.RingEntry.{RingEntry}
use Rattle.ring_channel.specs.declared.act.RingSide.{RingSide}
use Rattle.ring_channel.specs.declared.act.WaitStep.{WaitStep}
use Rattle.ring_channel.specs.declared.act.WaitStep.TheVariants.{GoesOn}
use Rattle.ring_channel.specs.Rings.{State, is_held, state_of, Legal, maker}
use Rattle.ring_channel.specs.Tables.{wait_word, Fits}
use Rattle.ring_channel.specs.Seen.{Seen, Sat, first_tag, own_tag, now_in, entry_of, IsSeated}
use Rattle.ring_channel.specs.Answers.{Makes, Adds, AtMoment}
use Rattle.ring_channel.specs.Looks.{seen_if, entries_on, Does, MadeIf}
use Rattle.ring_channel.proofs.HistoriesGoOn.{state_push, state_more}
use Rattle.ring_channel.proofs.NobodyHolds.{not_held_from, idle_none}
use Rattle.ring_channel.proofs.StoreTells.{sees_of, makes_of, adds_sees, adds_makes, adds_then, made_state, seated_by, half_of, half_tail}

module _ {T : Type 0} where
  pub does_made : (n word found : ℕ) (d : RingSide) (w : WaitStep) (a r : Sat T) → IsSeated n a
      → Entered (Legal n) (Fits n) maker word found (entry_of (own_tag a.0) (Waiting d w)) a.0 r.0 → r.1 ≡ a.1 → Does n d (w ∷ []) a r
  does_made n word found d w a r h l hand = record {
    adds = adds_makes who (Waiting d w) a.0 r.0 h.own m;
    key = ap (λ (x : Seen T). x.key) l.now;
    told = ap (λ (x : Seen T). x.heard_tags) l.now;
    hand = hand;
    idle = λ idle t k has. subst (λ (s : State T). is_held t (s.cells k) ≡ false)
        (sym (made_state n a.0 r.0 (entry_of who (Waiting d w)) m))
        (subst (λ (s : State T). is_held t (s.cells k) ≡ false) (sym (state_more n a.0.seen m.others))
        (let old : has_tag t a.0.tags ≡ true = sym (ap (has_tag t) m.tags) ∙ has in
        not_held_from n (now_in n a.0) m.others t k (m.apart t old) (idle t k old)));
  }
    where
      who : ℕ
      who = own_tag a.0

      m : Makes a.0 (entry_of who (Waiting d w)) r.0
      m = makes_of n word found (entry_of who (Waiting d w)) a.0 r.0 h.idle l

  pub does_loaded : (n word found : ℕ) (d : RingSide) (a r : Sat T) → IsSeated n a → Loaded (Legal n) (Fits n) maker word found a.0 r.0
      → r.1 ≡ a.1 → Does n d [] a r
  does_loaded n word found d a r h l hand = let x : Adds (own_tag a.0) [] a.0 r.0 =
      adds_sees (own_tag a.0) a.0 r.0 h.own (sees_of n word found a.0 r.0 h.idle l) in
      record {
        adds = x;
        key = ap (λ (x : Seen T). x.key) l.now;
        told = ap (λ (x : Seen T). x.heard_tags) l.now;
        hand = hand;
        idle = λ idle. idle_none n (own_tag a.0) a.0 r.0 idle x;
      }

  pub does_if : (b : Bool) (n word found : ℕ) (d : RingSide) (w : WaitStep) (a r : Sat T) → IsSeated n a → MadeIf b n word found d w a r
      → Does n d (seen_if b w) a r
  does_if true n word found d w a r h k = does_made n word found d w a r h k.0 k.1
  does_if false n word found d w a r h k = does_loaded n word found d a r h k.0 k.1

  pub seated_does : (n : ℕ) (d : RingSide) (ws : List WaitStep) (a r : Sat T) → IsSeated n a → Does n d ws a r → IsSeated n r
  seated_does n d ws a r h x = seated_by n a r h x.key x.told x.adds.tags

  more_on : (who : ℕ) (d : RingSide) (xs ys : List WaitStep) → entries_on {T = T} who d (xs ++ ys) ≡ entries_on who d xs
      ++ entries_on who d ys
  more_on who d [] ys = refl
  more_on who d (x ∷ xs) ys = ap (λ l. entry_of who (Waiting d x) ∷ l) (more_on who d xs ys)

  pub does_then : (n : ℕ) (d : RingSide) (xs ys : List WaitStep) (a b c : Sat T) → Does n d xs a b → Does n d ys b c
      → Does n d (xs ++ ys) a c
  does_then n d xs ys a b c x y = let who : ℕ = own_tag a.0 in record {
    adds = subst (λ l. Adds who l a.0 c.0) (sym (more_on who d xs ys))
        (adds_then who (entries_on who d xs) (entries_on who d ys) a.0 b.0 c.0 x.adds
        (subst (λ t. Adds t (entries_on t d ys) b.0 c.0) (ap first_tag x.adds.tags) y.adds));
    key = y.key ∙ x.key;
    told = y.told;
    hand = y.hand ∙ x.hand;
    idle = λ k. y.idle (x.idle k);
  }

  -- the word of who waits, as it was found
  pub found_at : (n word found : ℕ) (d : RingSide) (w : WaitStep) (a r : Sat T) → word ≡ wait_word d
      → Entered (Legal n) (Fits n) maker word found (entry_of (own_tag a.0) (Waiting d w)) a.0 r.0
      → AtMoment n (λ s. (s.lines d).mask ≡ found) a.0 r.0
  found_at n word found d w a r at l = record {
    moment = a.0.seen ++ l.others;
    since = (l.others, refl);
    until = (entry_of (own_tag a.0) (Waiting d w) ∷ [], sym (ap (λ (x : Seen T). x.seen) l.now));
    held = sym (l.found.waits d at);
  }

  prefix_trans : (xs ys zs : List (RingEntry T)) → IsPrefix xs ys → IsPrefix ys zs → IsPrefix xs zs
  prefix_trans xs ys zs a b = (a.0 ++ b.0, sym (append_assoc xs a.0 b.0) ∙ ap (λ l. l ++ b.0) a.1 ∙ b.1)

  -- what was so at a moment was so in a longer time
  pub moment_later : (n : ℕ) (P : State T → Type 0) (u v w : Seen T) → IsPrefix u.seen v.seen → AtMoment n P v w → AtMoment n P u w
  moment_later n P u v w h m = record {
    moment = m.moment;
    since = prefix_trans u.seen v.seen m.moment h m.since;
    until = m.until;
    held = m.held;
  }

  pub moment_until : (n : ℕ) (P : State T → Type 0) (u v w : Seen T) → IsPrefix v.seen w.seen → AtMoment n P u v → AtMoment n P u w
  moment_until n P u v w h m = record {
    moment = m.moment;
    since = m.since;
    until = prefix_trans m.moment v.seen w.seen m.until h;
    held = m.held;
  }

  -- a tail that was looked at
  pub tail_if : (b : Bool) (n found : ℕ) (d : RingSide) (a r : Sat T) → MadeIf b n 0 found d GoesOn a r → found / 2 ≡ (now_in n r.0).puts
  tail_if true n found d a r k = let l = k.0 in let who : ℕ = own_tag a.0 in
      half_of found (state_of n (a.0.seen ++ l.others)).puts (state_of n (a.0.seen ++ l.others)).closed (l.found.tail refl)
      ∙ sym (ap (λ (x : Seen T). (state_of n x.seen).puts) l.now
      ∙ ap (λ (s : State T). s.puts) (state_push n (a.0.seen ++ l.others) (entry_of who (Waiting d GoesOn))))
  tail_if false n found d a r k = half_tail n found a.0 r.0 k.0
