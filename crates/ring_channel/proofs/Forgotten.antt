-- After each legal history of a ring, who waits while there is something for it is owed a call.
use Rattle.std.specs.Prelude.{◌≡◌, ℕ, ◌+◌, ◌*◌, ◌%◌, ◌<◌, ◌≤◌, true, false, List, [], ◌∷◌, refl}
use Rattle.std.proofs.Common.{sym, ap, ◌∙◌, subst, arith}
use Rattle.std.specs.Int.{bit_at}
use Rattle.std.proofs.lemmas.Nat.Bits.{bit_at-zero}
use mathlib.Core.Logic.{dite}
use native.Mathlib.Decide.{ℕ_discrete}
use Rattle.ring_channel.specs.declared.act.RingAct.{RingAct}
use Rattle.ring_channel.specs.declared.act.RingAct.TheVariants.{Put, Fill, Take, Free, Close, Waiting}
use Rattle.ring_channel.specs.declared.act.RingEntry.{RingEntry}
use Rattle.ring_channel.specs.declared.act.RingSide.{RingSide}
use Rattle.ring_channel.specs.declared.act.RingSide.TheVariants.{Receive, Send}
use Rattle.ring_channel.specs.declared.act.WaitStep.{WaitStep}
use Rattle.ring_channel.specs.declared.act.WaitStep.TheVariants.{Stand, Leave, Call, CallAll, NoneWaits, NothingThere, GoesOn}
use Rattle.ring_channel.specs.Rings.{Cell, free, moving, standing, leaving, is_standing, up, State, Line, start, put, cleared, line_after, after, state_from, state_of, IsNothing, MayWait, Needs, LegalFrom, Legal}
use Rattle.ring_channel.specs.Served.{HasOne, IsServed}
use Rattle.ring_channel.proofs.HistoriesGoOn.{put_here, put_else}

-- of a side where there may be something for one, and where it may have ended
record Owed (l : Line) (one end : Type 0) : Type 0 where
  first : (l.mask ≡ 0 → ⊥) → one → (u : ℕ) × (l.ones u ≡ true)
  last : (l.mask ≡ 0 → ⊥) → end → (u : ℕ) × (l.ends u ≡ true)

none_there : (a b : ℕ) (u : ℕ) → 2 * a + u ≤ 2 * b → a ≡ b → u ≡ 1 → ⊥
none_there a b u le is up = omega (arith, le, is, up)

not_below : (a b : ℕ) → a < b → a ≡ b → ⊥
not_below a b lt is = omega (arith, lt, is)

-- a word with a bit is not 0
not_zero : (m t : ℕ) → bit_at m t ≡ 1 → m ≡ 0 → ⊥
not_zero m t h e = let z : ◌≡◌ {A = ℕ} 1 0 = sym h ∙ ap (λ k. bit_at k t) e ∙ bit_at-zero t in omega (arith, z)

module _ {T : Type 0} where
  up_one : (c : Cell T) → is_standing c ≡ true → up c ≡ 1
  up_one free h = cc
  up_one (moving t x) h = cc
  up_one (standing x) h = refl
  up_one (leaving t) h = cc

  -- a cell that was put is not so: it is another that is so
  cell_back : (P : Cell T → Type 0) (i k : ℕ) (c : Cell T) (cells : ℕ → Cell T) → (P c → ⊥) → P (put i c cells k) → P (cells k)
  cell_back P i k c cells none h = dite (ℕ_discrete i k)
      (λ e. absurd (none (subst P (ap (put i c cells) (sym e) ∙ put_here i c cells) h)))
      (λ ne. subst P (put_else i k c cells ne) h)

  not_free : (c : Cell T) → (up c ≡ 1) → c ≡ free → ⊥
  not_free c is e = let z : ◌≡◌ {A = ℕ} 1 0 = sym is ∙ ap up e in omega (arith, z)

  no_one : (n : ℕ) (s : State T) (d : RingSide) → IsNothing n s d → HasOne n s d → ⊥
  no_one n s Receive q h = none_there (s.at (s.takes % n)) s.takes (up (s.cells (s.takes % n))) q h.0 (up_one (s.cells (s.takes % n)) h.1)
  no_one n s Send q h = not_below (s.at (s.puts % n)) s.puts q h.0

  no_end : (s : State T) → s.closed ≡ false → s.closed ≡ true → ⊥
  no_end s q h = let z : true ≡ false = sym h ∙ q in cc

  line_step : (n : ℕ) (s : State T) (who : ℕ) (d : RingSide) (w : WaitStep) → MayWait n s who d w
      → Owed (s.lines d) (HasOne n s d) (s.closed ≡ true) → Owed (line_after who w (s.lines d)) (HasOne n s d) (s.closed ≡ true)
  line_step n s who d Stand q h = record {
    first = λ ne o. (who, put_here who true (s.lines d).ones);
    last = λ ne o. (who, put_here who true (s.lines d).ends);
  }
  line_step n s who d Leave q h = record {
    first = λ ne o. h.first (λ z. ne (ap (cleared who) z)) o;
    last = λ ne o. h.last (λ z. ne (ap (cleared who) z)) o;
  }
  line_step n s who d (Call t) q h = record {
    first = λ ne o. (t, put_here t true (put who false (s.lines d).ones));
    last = λ ne o. (t, put_here t true (put who false (s.lines d).ends));
  }
  line_step n s who d CallAll q h = record { first = λ ne o. absurd (ne refl); last = λ ne o. absurd (ne refl) }
  line_step n s who d NoneWaits q h = record { first = λ ne o. absurd (ne q); last = λ ne o. absurd (ne q) }
  line_step n s who d NothingThere q h = record { first = λ ne o. absurd (no_one n s d q o); last = λ ne o. h.last ne o }
  line_step n s who d GoesOn q h = record { first = λ ne o. h.first ne o; last = λ ne o. absurd (no_end s q o) }

  abbrev AllOwed : ℕ → State T → Type 0
  AllOwed n s = (d : RingSide) → Owed (s.lines d) (HasOne n s d) (s.closed ≡ true)

  -- after a free, the first value was there before
  first_back : (n : ℕ) (s : State T) (p k : ℕ) → put (p % n) (p + n) s.at k ≡ s.takes → is_standing (put (p % n) free s.cells k) ≡ true
      → (s.at k ≡ s.takes) × (is_standing (s.cells k) ≡ true)
  first_back n s p k at is = dite (ℕ_discrete (p % n) k)
      (λ e. let z : true ≡ false = sym is ∙ ap (λ (c : Cell T). is_standing c) (ap (put (p % n) free s.cells) (sym e)
      ∙ put_here (p % n) free s.cells) in cc)
      (λ ne. (
        sym (put_else (p % n) k (p + n) s.at ne) ∙ at,
        sym (ap (λ (c : Cell T). is_standing c) (put_else (p % n) k free s.cells ne)) ∙ is,
      ))

  owed_step : (n : ℕ) (s : State T) (who : ℕ) (act : RingAct T) → Needs n s who act → AllOwed n s → AllOwed n (after n s who act)
  owed_step n s who (Put p x) q h Receive = record {
    first = λ ne o. (h Receive).first ne (
      o.0,
      cell_back (λ c. is_standing c ≡ true) (p % n) (s.takes % n) (moving who x) s.cells (λ z. let y : true ≡ false = sym z in cc) o.1,
    );
    last = λ ne o. (h Receive).last ne o;
  }
  owed_step n s who (Put p x) q h Send = record {
    first = λ ne o. (who, put_here who true (s.lines Send).ones);
    last = λ ne o. (h Send).last ne o;
  }
  owed_step n s who (Fill p x) q h Receive = record {
    first = λ ne o. (who, put_here who true (s.lines Receive).ones);
    last = λ ne o. (h Receive).last ne o;
  }
  owed_step n s who (Fill p x) q h Send = record {
    first = λ ne o. (h Send).first ne (
      o.0,
      cell_back (λ c. c ≡ free) (p % n) (s.puts % n) (standing x) s.cells (not_free (standing x) refl) o.1,
    );
    last = λ ne o. (h Send).last ne o;
  }
  owed_step n s who (Take p) q h Receive = record {
    first = λ ne o. (who, put_here who true (s.lines Receive).ones);
    last = λ ne o. (h Receive).last ne o;
  }
  owed_step n s who (Take p) q h Send = record {
    first = λ ne o. (h Send).first ne (
      o.0,
      cell_back (λ c. c ≡ free) (p % n) (s.puts % n) (leaving who) s.cells (not_free (leaving who) refl) o.1,
    );
    last = λ ne o. (h Send).last ne o;
  }
  owed_step n s who (Free p) q h Receive = record {
    first = λ ne o. (h Receive).first ne (first_back n s p (s.takes % n) o.0 o.1);
    last = λ ne o. (h Receive).last ne o;
  }
  owed_step n s who (Free p) q h Send = record {
    first = λ ne o. (who, put_here who true (s.lines Send).ones);
    last = λ ne o. (h Send).last ne o;
  }
  owed_step n s who Close q h Receive = record {
    first = λ ne o. (h Receive).first ne o;
    last = λ ne o. (who, put_here who true (s.lines Receive).ends);
  }
  owed_step n s who Close q h Send = record {
    first = λ ne o. (h Send).first ne o;
    last = λ ne o. (who, put_here who true (s.lines Send).ends);
  }
  owed_step n s who (Waiting Receive w) q h Receive = line_step n s who Receive w q (h Receive)
  owed_step n s who (Waiting Receive w) q h Send = record { first = λ ne o. (h Send).first ne o; last = λ ne o. (h Send).last ne o }
  owed_step n s who (Waiting Send w) q h Receive =
      record { first = λ ne o. (h Receive).first ne o; last = λ ne o. (h Receive).last ne o }
  owed_step n s who (Waiting Send w) q h Send = line_step n s who Send w q (h Send)

  owed_from : (n : ℕ) (s : State T) (es : List (RingEntry T)) → LegalFrom n s es → AllOwed n s → AllOwed n (state_from n s es)
  unfolding state_from LegalFrom
  owed_from n s [] k h = h
  owed_from n s (e ∷ es) k h = owed_from n (after n s e.who e.act) es k.1 (owed_step n s e.who e.act k.0 h)

  pub served : (n : ℕ) (log : List (RingEntry T)) → Legal n log → (d : RingSide) → IsServed n (state_of n log) d
  served n log k d = let h = owed_from n start log k nobody d in record {
    one = λ t w o. h.first (not_zero ((state_of n log).lines d).mask t w) o;
    ended = λ t w o. h.last (not_zero ((state_of n log).lines d).mask t w) o;
  }
    where
      nobody : AllOwed n start
      nobody d = record { first = λ ne o. absurd (ne refl); last = λ ne o. absurd (ne refl) }
