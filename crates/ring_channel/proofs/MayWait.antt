-- Each step about those who wait may come, and changes one word at most.
use Rattle.std.specs.Prelude.{◌≡◌, ℕ, ◌+◌, ◌*◌, ◌%◌, ◌<◌, ◌≤◌, Bool, true, false, List, ◌++◌, refl}
use Rattle.std.proofs.Common.{sym, ap, ◌∙◌, subst, arith}
use Rattle.worded.specs.Views.{has_tag}
use Rattle.worded.specs.Exchanges.{MayEnter}
use Rattle.ring_channel.specs.declared.act.RingAct.TheVariants.{Waiting}
use Rattle.ring_channel.specs.declared.act.RingEntry.{RingEntry}
use Rattle.ring_channel.specs.declared.act.RingSide.{RingSide}
use Rattle.ring_channel.specs.declared.act.RingSide.TheVariants.{Receive, Send}
use Rattle.ring_channel.specs.declared.act.WaitStep.{WaitStep}
use Rattle.ring_channel.specs.declared.act.WaitStep.TheVariants.{NoneWaits, NothingThere, GoesOn}
use Rattle.ring_channel.specs.Rings.{State, Line, line_after, with_line, after, state_of, MayWait, Legal, maker}
use Rattle.ring_channel.specs.Tables.{bit, wait_word, FitsIn, Fits}
use Rattle.ring_channel.specs.Seen.{Seen, now_in, entry_of}
use Rattle.ring_channel.proofs.StatesStaySound.{sound_of}
use Rattle.ring_channel.proofs.MayStep.{Now, Turns, enters, others_keep_now}
use Rattle.ring_channel.proofs.StoreTells.{puts_grow, takes_grow, bare_now, full_now}

wait_not_tail : (d : RingSide) → wait_word d ≡ 0 → ⊥
wait_not_tail Receive e = omega (arith, e)
wait_not_tail Send e = omega (arith, e)

wait_not_head : (d : RingSide) → wait_word d ≡ 16 → ⊥
wait_not_head Receive e = omega (arith, e)
wait_not_head Send e = omega (arith, e)

wait_not_slot : (d : RingSide) (k : ℕ) → wait_word d ≡ 32 + k → ⊥
wait_not_slot Receive k e = omega (arith, e)
wait_not_slot Send k e = omega (arith, e)

apart : ◌≡◌ {A = ℕ} 8 24 → ⊥
apart e = omega (arith, e)

pub side_same : (d e : RingSide) → wait_word d ≡ wait_word e → d ≡ e
side_same Receive Receive e = refl
side_same Receive Send e = absurd (apart e)
side_same Send Receive e = absurd (apart (sym e))
side_same Send Send e = refl

pub wait_within : (d : RingSide) (n : ℕ) → wait_word d < 32 + n
wait_within Receive n = omega arith
wait_within Send n = omega arith

pub line_here : (d : RingSide) (l : Line) (ls : RingSide → Line) → with_line d l ls d ≡ l
line_here Receive l ls = refl
line_here Send l ls = refl

pub line_else : (d e : RingSide) (l : Line) (ls : RingSide → Line) → (d ≡ e → ⊥) → with_line d l ls e ≡ ls e
line_else Receive Receive l ls ne = absurd (ne refl)
line_else Receive Send l ls ne = refl
line_else Send Receive l ls ne = refl
line_else Send Send l ls ne = absurd (ne refl)

same_masks : (d e : RingSide) (l : Line) (ls : RingSide → Line) → l.mask ≡ (ls d).mask → (with_line d l ls e).mask ≡ (ls e).mask
same_masks Receive Receive l ls is = is
same_masks Receive Send l ls is = refl
same_masks Send Receive l ls is = refl
same_masks Send Send l ls is = is

odd_rest : (m p : ℕ) → m ≡ 2 * p + 1 → m % 2 ≡ 0 → ⊥
odd_rest m p e even = omega (arith, e, even)

even_open : (m p : ℕ) (b : Bool) → m ≡ 2 * p + bit b → m % 2 ≡ 0 → b ≡ false
even_open m p true e even = absurd (odd_rest m p e even)
even_open m p false e even = refl

at_least : (a b : ℕ) → a ≡ b → a ≤ b
at_least a b is = omega (arith, is)

module _ {T : Type 0} where
  wait_turns : (n : ℕ) (s : State T) (who : ℕ) (d : RingSide) (w : WaitStep) (new : ℕ) → new ≡ (line_after who w (s.lines d)).mask
      → Turns s (after n s who (Waiting d w)) (wait_word d) new
  wait_turns n s who d w new is = (
    record {
      tail = λ e. absurd (wait_not_tail d e);
      head = λ e. absurd (wait_not_head d e);
      waits = λ j e. is ∙ sym (ap (λ (l : Line). l.mask)
          (ap (with_line d (line_after who w (s.lines d)) s.lines) (sym (side_same d j e)) ∙ line_here d (line_after who w (s.lines d))
          s.lines));
      slot = λ k e. absurd (wait_not_slot d k e);
    },
    λ j m ne f. record {
      tail = λ e. f.tail e;
      head = λ e. f.head e;
      waits = λ k e. f.waits k e
          ∙ sym (ap (λ (l : Line). l.mask) (line_else d k (line_after who w (s.lines d)) s.lines (λ z. ne (e ∙ ap wait_word (sym z)))));
      slot = λ k e. f.slot k e;
    },
  )

  refit : (n : ℕ) (s : State T) (who : ℕ) (d : RingSide) (w : WaitStep) (j m : ℕ)
      → (line_after who w (s.lines d)).mask ≡ (s.lines d).mask → FitsIn s j m → FitsIn (after n s who (Waiting d w)) j m
  refit n s who d w j m is f = record {
    tail = λ e. f.tail e;
    head = λ e. f.head e;
    waits = λ k e. f.waits k e ∙ sym (same_masks d k (line_after who w (s.lines d)) s.lines is);
    slot = λ k e. f.slot k e;
  }

  -- a step that turns the word of who waits
  pub may_wait : (n who word old new : ℕ) (d : RingSide) (w : WaitStep) (v : Seen T) → has_tag who v.tags ≡ true → word ≡ wait_word d
      → ((s : State T) → (s.lines d).mask ≡ old → MayWait n s who d w × (new ≡ (line_after who w (s.lines d)).mask))
      → MayEnter (Legal n) (Fits n) maker v word old new (entry_of who (Waiting d w))
  may_wait n who word old new d w v own at f = subst (λ z. MayEnter (Legal n) (Fits n) maker v z old new (entry_of who (Waiting d w)))
      (sym at) (enters n who (wait_word d) old new (Waiting d w) v own (λ others h found. let s : State T = state_of n (v.seen ++ others) in
      let r = f s (sym (found.waits d refl)) in (r.0, wait_turns n s who d w new r.1)))

  -- a look, which turns no word
  pub may_look : (n who word old : ℕ) (d : RingSide) (w : WaitStep) (v : Seen T) → has_tag who v.tags ≡ true
      → ((l : Line) → (line_after who w l).mask ≡ l.mask)
      → ((others : List (RingEntry T)) → Now n v others → FitsIn (state_of n (v.seen ++ others)) word old
      → MayWait n (state_of n (v.seen ++ others)) who d w) → MayEnter (Legal n) (Fits n) maker v word old old (entry_of who (Waiting d w))
  may_look n who word old d w v own same f = enters n who word old old (Waiting d w) v own (λ others h found.
      let s : State T = state_of n (v.seen ++ others) in
      let is = same (s.lines d) in
      (f others h found, (refit n s who d w word old is found, λ j m ne k. refit n s who d w j m is k)))

  pub may_see_none : (n who word : ℕ) (d : RingSide) (v : Seen T) → has_tag who v.tags ≡ true → word ≡ wait_word d
      → MayEnter (Legal n) (Fits n) maker v word 0 0 (entry_of who (Waiting d NoneWaits))
  may_see_none n who word d v own at = may_look n who word 0 d NoneWaits v own (λ l. refl) (λ others h found. sym (found.waits d at))

  pub may_see_open : (n who old : ℕ) (d : RingSide) (v : Seen T) → has_tag who v.tags ≡ true → old % 2 ≡ 0
      → MayEnter (Legal n) (Fits n) maker v 0 old old (entry_of who (Waiting d GoesOn))
  may_see_open n who old d v own even = may_look n who 0 old d GoesOn v own (λ l. refl) (λ others h found.
      let s : State T = state_of n (v.seen ++ others) in even_open old s.puts s.closed (found.tail refl) even)

  pub may_see_bare : (n who old p : ℕ) (v : Seen T) → 0 < n → has_tag who v.tags ≡ true → p ≡ (now_in n v).takes → old ≤ 2 * p
      → MayEnter (Legal n) (Fits n) maker v (32 + p % n) old old (entry_of who (Waiting Receive NothingThere))
  may_see_bare n who old p v pos own is low = may_look n who (32 + p % n) old Receive NothingThere v own (λ l. refl) (λ others h found.
      let s : State T = state_of n (v.seen ++ others) in
      bare_now n s p (sound_of n (v.seen ++ others) pos h.is_legal)
      (others_keep_now n who v others (λ z. p ≤ z.takes) (λ z t act sound q ne y. takes_grow n p z t act sound q y) pos own h
      (at_least p (now_in n v).takes is))
      (subst (λ z. z ≤ 2 * p) (found.slot (p % n) refl) low))

  pub may_see_full : (n who old p : ℕ) (v : Seen T) → 0 < n → has_tag who v.tags ≡ true → p ≡ (now_in n v).puts → old < 2 * p
      → MayEnter (Legal n) (Fits n) maker v (32 + p % n) old old (entry_of who (Waiting Send NothingThere))
  may_see_full n who old p v pos own is low = may_look n who (32 + p % n) old Send NothingThere v own (λ l. refl) (λ others h found.
      let s : State T = state_of n (v.seen ++ others) in
      full_now n s p (sound_of n (v.seen ++ others) pos h.is_legal)
      (others_keep_now n who v others (λ z. p ≤ z.puts) (λ z t act sound q ne y. puts_grow n p z t act sound q y) pos own h
      (at_least p (now_in n v).puts is))
      (subst (λ z. z < 2 * p) (found.slot (p % n) refl) low))
