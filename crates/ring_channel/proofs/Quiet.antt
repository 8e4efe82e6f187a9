-- Who looked for those who wait has nothing left to do for them, whatever others do.
use Rattle.std.specs.Prelude.{◌≡◌, ℕ, zero, suc, ◌-◌, ◌^◌, ◌<◌, ◌==◌, Bool, true, false, List, [], ◌∷◌, ◌++◌, min, max, if◌then◌else◌, refl}
use Rattle.std.proofs.Common.{sym, ap, ◌∙◌, subst, arith, eq-eqb}
use Rattle.std.proofs.Math.Nat.{zero-min, max-zero}
use Rattle.std.specs.Int.{bit_at}
use Rattle.std.specs.Int.Bits.{bit_or}
use Rattle.std.proofs.lemmas.Nat.Bits.{bit_at-zero, bit_at-lt, bit_at_or, bit_at_and, bit_at-pow_other}
use Rattle.worded.specs.Histories.{entries_of}
use Rattle.ring_channel.specs.declared.act.RingAct.{RingAct}
use Rattle.ring_channel.specs.declared.act.RingAct.TheVariants.{Put, Fill, Take, Free, Close, Waiting}
use Rattle.ring_channel.specs.declared.act.RingEntry.{RingEntry}
use Rattle.ring_channel.specs.declared.act.RingSide.{RingSide}
use Rattle.ring_channel.specs.declared.act.RingSide.TheVariants.{Receive, Send}
use Rattle.ring_channel.specs.declared.act.WaitStep.{WaitStep}
use Rattle.ring_channel.specs.declared.act.WaitStep.TheVariants.{Stand, Leave, Call, CallAll, NoneWaits, NothingThere, GoesOn}
use Rattle.ring_channel.specs.declared.answers.Called.{Called}
use Rattle.ring_channel.specs.declared.answers.Called.TheVariants.{Nobody, One, All}
use Rattle.ring_channel.specs.Rings.{State, Line, put, cleared, owes_one, owes_end, line_after, with_line, after, state_from, state_of, MayWait, Needs, LegalFrom, Legal, maker}
use Rattle.ring_channel.specs.Seen.{entry_of}
use Rattle.ring_channel.specs.Looks.{other, seen_if, last_of, CallSteps, entries_on, HasDone, HasDoneIfWaits}
use Rattle.ring_channel.proofs.Bits.{cleared_here}
use Rattle.ring_channel.proofs.HistoriesGoOn.{put_here, put_else, state_more, Legal-rest, apart_first}
use Rattle.ring_channel.proofs.MayWait.{line_here}
use Rattle.ring_channel.proofs.NobodyHolds.{same_head, same_tail}

-- How far one has come. Nothing is known; its bit is not set; and it saw that the ring is open; and it has nothing to do. Or, where its bit is
-- set, it saw that the ring is open; and has nothing to do
data Level : Type 0 where
  any : Level
  left : Level
  half : Level
  done : Level
  awake : Level
  stands : Level

abbrev NoBit : ℕ → Line → Type 0
NoBit who l = bit_at l.mask who ≡ 0

abbrev At : Level → ℕ → Line → Type 0
At any who l = Unit {0}
At left who l = NoBit who l
At half who l = NoBit who l × (l.ends who ≡ false)
At done who l = NoBit who l × (l.ones who ≡ false) × (l.ends who ≡ false)
At awake who l = bit_at l.mask who ≡ 1 → l.ends who ≡ false
At stands who l = bit_at l.mask who ≡ 1 → (l.ones who ≡ false) × (l.ends who ≡ false)

not_one : ◌≡◌ {A = ℕ} 0 1 → ⊥
not_one e = omega (arith, e)

one_of_min : (a b : ℕ) → a < 2 → min a b ≡ 1 → a ≡ 1
one_of_min zero b lt e = absurd (not_one (sym (zero-min b) ∙ e))
one_of_min (suc zero) b lt e = refl
one_of_min (suc (suc a)) b lt e = omega (arith, lt)

-- a bit that is set after another was cleared, or set, was set before
cleared_back : (who t mask : ℕ) → bit_at (cleared t mask) who ≡ 1 → bit_at mask who ≡ 1
cleared_back who t mask h = one_of_min (bit_at mask who) (bit_at (2 ^ 64 - 1 - 2 ^ t) who) (bit_at-lt mask who)
    (sym (bit_at_and mask (2 ^ 64 - 1 - 2 ^ t) who) ∙ h)

set_back : (who t mask : ℕ) → (t ≡ who → ⊥) → bit_at (bit_or mask (2 ^ t)) who ≡ 1 → bit_at mask who ≡ 1
set_back who t mask ne h = sym (max-zero (bit_at mask who))
    ∙ (λ i. max (bit_at mask who) (sym (bit_at-pow_other t who (λ e. ne (sym e))) i)) ∙ sym (bit_at_or mask (2 ^ t) who) ∙ h

-- who waits still after another was called was not called
not_called : (mask who u : ℕ) → who < 64 → bit_at (cleared u mask) who ≡ 1 → u ≡ who → ⊥
not_called mask who u lt h e = not_one (sym (cleared_here mask who lt) ∙ ap (λ t. bit_at (cleared t mask) who) (sym e) ∙ h)

-- a bit that is not set is not set by clearing another
clear_more : (who t mask : ℕ) → bit_at mask who ≡ 0 → bit_at (cleared t mask) who ≡ 0
clear_more who t mask h = bit_at_and mask (2 ^ 64 - 1 - 2 ^ t) who ∙ ap (λ z. min z (bit_at (2 ^ 64 - 1 - 2 ^ t) who)) h
    ∙ zero-min (bit_at (2 ^ 64 - 1 - 2 ^ t) who)

set_other : (who t mask : ℕ) → (t ≡ who → ⊥) → bit_at mask who ≡ 0 → bit_at (bit_or mask (2 ^ t)) who ≡ 0
set_other who t mask ne h = bit_at_or mask (2 ^ t) who
    ∙ (λ i. max (h i) (bit_at-pow_other t who (λ e. ne (sym e)) i))

-- the bits of two tags tell them apart
two_tags : (mask t who : ℕ) → bit_at mask t ≡ 1 → bit_at mask who ≡ 0 → t ≡ who → ⊥
two_tags mask t who set unset e = let z : ◌≡◌ {A = ℕ} 1 0 = sym set ∙ ap (bit_at mask) e ∙ unset in omega (arith, z)

bit_kept : (who t : ℕ) (w : WaitStep) (l : Line) → (t ≡ who → ⊥) → NoBit who l → NoBit who (line_after t w l)
bit_kept who t Stand l ne h = set_other who t l.mask ne h
bit_kept who t Leave l ne h = clear_more who t l.mask h
bit_kept who t (Call u) l ne h = clear_more who u l.mask h
bit_kept who t CallAll l ne h = bit_at-zero who
bit_kept who t other l ne h = h

bit_back : (who t : ℕ) (w : WaitStep) (l : Line) → (t ≡ who → ⊥) → bit_at (line_after t w l).mask who ≡ 1 → bit_at l.mask who ≡ 1
bit_back who t Stand l ne h = set_back who t l.mask ne h
bit_back who t Leave l ne h = cleared_back who t l.mask h
bit_back who t (Call u) l ne h = cleared_back who u l.mask h
bit_back who t CallAll l ne h = absurd (not_one (sym (bit_at-zero who) ∙ h))
bit_back who t other l ne h = h

ones_back : (who t : ℕ) (w : WaitStep) (l : Line) → who < 64 → (t ≡ who → ⊥) → bit_at (line_after t w l).mask who ≡ 1 → l.ones who ≡ false
    → (line_after t w l).ones who ≡ false
ones_back who t Stand l lt ne b h = put_else t who true l.ones ne ∙ h
ones_back who t Leave l lt ne b h = h
ones_back who t (Call u) l lt ne b h = put_else u who true (put t false l.ones) (not_called l.mask who u lt b)
    ∙ put_else t who false l.ones ne ∙ h
ones_back who t GoesOn l lt ne b h = h
ones_back who t other l lt ne b h = put_else t who false l.ones ne ∙ h

ends_back : (who t : ℕ) (w : WaitStep) (l : Line) → who < 64 → (t ≡ who → ⊥) → bit_at (line_after t w l).mask who ≡ 1 → l.ends who ≡ false
    → (line_after t w l).ends who ≡ false
ends_back who t Stand l lt ne b h = put_else t who true l.ends ne ∙ h
ends_back who t Leave l lt ne b h = h
ends_back who t (Call u) l lt ne b h = put_else u who true (put t false l.ends) (not_called l.mask who u lt b)
    ∙ put_else t who false l.ends ne ∙ h
ends_back who t NothingThere l lt ne b h = h
ends_back who t other l lt ne b h = put_else t who false l.ends ne ∙ h

one_kept : (v : Level) (who t : ℕ) (l : Line) → (t ≡ who → ⊥) → At v who l → At v who (owes_one t l)
one_kept any who t l ne h = tt
one_kept left who t l ne h = h
one_kept half who t l ne h = h
one_kept done who t l ne h = (h.0, put_else t who true l.ones ne ∙ h.1, h.2)
one_kept awake who t l ne h = h
one_kept stands who t l ne h = λ b. (put_else t who true l.ones ne ∙ (h b).0, (h b).1)

end_kept : (v : Level) (who t : ℕ) (l : Line) → (t ≡ who → ⊥) → At v who l → At v who (owes_end t l)
end_kept any who t l ne h = tt
end_kept left who t l ne h = h
end_kept half who t l ne h = (h.0, put_else t who true l.ends ne ∙ h.1)
end_kept done who t l ne h = (h.0, h.1, put_else t who true l.ends ne ∙ h.2)
end_kept awake who t l ne h = λ b. put_else t who true l.ends ne ∙ h b
end_kept stands who t l ne h = λ b. ((h b).0, put_else t who true l.ends ne ∙ (h b).1)

other_line : (d : RingSide) (l : Line) (ls : RingSide → Line) → with_line (other d) l ls d ≡ ls d
other_line Receive l ls = refl
other_line Send l ls = refl

-- what an own step makes of a level
abbrev Lifts : (T : Type 0) → ℕ → ℕ → RingSide → WaitStep → Level → Level → Type 0
Lifts T n who d w u v = (s : State T) → MayWait n s who d w → At u who (s.lines d) → At v who (line_after who w (s.lines d))

module _ {T : Type 0} where
  ones_kept : (n : ℕ) (s : State T) (who t : ℕ) (d : RingSide) (w : WaitStep) → MayWait n s t d w → (t ≡ who → ⊥) → NoBit who (s.lines d)
      → (s.lines d).ones who ≡ false → (line_after t w (s.lines d)).ones who ≡ false
  ones_kept n s who t d Stand q ne b h = put_else t who true (s.lines d).ones ne ∙ h
  ones_kept n s who t d Leave q ne b h = h
  ones_kept n s who t d (Call u) q ne b h = put_else u who true (put t false (s.lines d).ones) (two_tags (s.lines d).mask u who q b)
      ∙ put_else t who false (s.lines d).ones ne ∙ h
  ones_kept n s who t d GoesOn q ne b h = h
  ones_kept n s who t d other q ne b h = put_else t who false (s.lines d).ones ne ∙ h

  ends_kept : (n : ℕ) (s : State T) (who t : ℕ) (d : RingSide) (w : WaitStep) → MayWait n s t d w → (t ≡ who → ⊥) → NoBit who (s.lines d)
      → (s.lines d).ends who ≡ false → (line_after t w (s.lines d)).ends who ≡ false
  ends_kept n s who t d Stand q ne b h = put_else t who true (s.lines d).ends ne ∙ h
  ends_kept n s who t d Leave q ne b h = h
  ends_kept n s who t d (Call u) q ne b h = put_else u who true (put t false (s.lines d).ends) (two_tags (s.lines d).mask u who q b)
      ∙ put_else t who false (s.lines d).ends ne ∙ h
  ends_kept n s who t d NothingThere q ne b h = h
  ends_kept n s who t d other q ne b h = put_else t who false (s.lines d).ends ne ∙ h

  line_kept : (v : Level) (n : ℕ) (s : State T) (who t : ℕ) (d : RingSide) (w : WaitStep) → who < 64 → MayWait n s t d w
      → (t ≡ who → ⊥) → At v who (s.lines d) → At v who (line_after t w (s.lines d))
  line_kept any n s who t d w lt q ne h = tt
  line_kept left n s who t d w lt q ne h = bit_kept who t w (s.lines d) ne h
  line_kept half n s who t d w lt q ne h = (bit_kept who t w (s.lines d) ne h.0, ends_kept n s who t d w q ne h.0 h.1)
  line_kept done n s who t d w lt q ne h = (
    bit_kept who t w (s.lines d) ne h.0,
    ones_kept n s who t d w q ne h.0 h.1,
    ends_kept n s who t d w q ne h.0 h.2,
  )
  line_kept awake n s who t d w lt q ne h = λ b. ends_back who t w (s.lines d) lt ne b (h (bit_back who t w (s.lines d) ne b))
  line_kept stands n s who t d w lt q ne h = λ b. let k = h (bit_back who t w (s.lines d) ne b) in
      (ones_back who t w (s.lines d) lt ne b k.0, ends_back who t w (s.lines d) lt ne b k.1)

  -- another's entry
  kept : (v : Level) (n : ℕ) (s : State T) (who t : ℕ) (d : RingSide) (act : RingAct T) → who < 64 → Needs n s t act
      → (t ≡ who → ⊥) → At v who (s.lines d) → At v who ((after n s t act).lines d)
  kept v n s who t Receive (Put p x) lt q ne h = h
  kept v n s who t Send (Put p x) lt q ne h = one_kept v who t (s.lines Send) ne h
  kept v n s who t Receive (Fill p x) lt q ne h = one_kept v who t (s.lines Receive) ne h
  kept v n s who t Send (Fill p x) lt q ne h = h
  kept v n s who t Receive (Take p) lt q ne h = one_kept v who t (s.lines Receive) ne h
  kept v n s who t Send (Take p) lt q ne h = h
  kept v n s who t Receive (Free p) lt q ne h = h
  kept v n s who t Send (Free p) lt q ne h = one_kept v who t (s.lines Send) ne h
  kept v n s who t d Close lt q ne h = end_kept v who t (s.lines d) ne h
  kept v n s who t Receive (Waiting Receive w) lt q ne h = line_kept v n s who t Receive w lt q ne h
  kept v n s who t Send (Waiting Receive w) lt q ne h = h
  kept v n s who t Receive (Waiting Send w) lt q ne h = h
  kept v n s who t Send (Waiting Send w) lt q ne h = line_kept v n s who t Send w lt q ne h

  -- ---- the own entries, one after the other

  -- after its own entry, from where it goes on with these
  record Gone (n who : ℕ) (v : Level) (d : RingSide) (s : State T) (es rest : List (RingEntry T)) : Type 0 where
    now : State T
    more : List (RingEntry T)
    legal : LegalFrom n now more
    mine : entries_of maker who more ≡ rest
    same : state_from n s es ≡ state_from n now more
    at : At v who (now.lines d)

  goes : (n who : ℕ) (u v : Level) (d : RingSide) (w : WaitStep) (s : State T) (es rest : List (RingEntry T)) → who < 64
      → Lifts T n who d w u v
      → LegalFrom n s es → entries_of maker who es ≡ entry_of who (Waiting d w) ∷ rest → At u who (s.lines d) → Gone n who v d s es rest
  unfolding LegalFrom state_from
  goes n who u v d w s [] rest lt f k is h = cc
  goes n who u v d w s (e ∷ es) rest lt f k is h = by_test (e.who == who) refl is
      (λ r q. goes n who u v d w (after n s e.who e.act) es rest lt f k.1 r q)
    where
      by_test : (b : Bool) → (e.who == who) ≡ b
          → (if b then e ∷ entries_of maker who es else entries_of maker who es) ≡ entry_of who (Waiting d w) ∷ rest
          → (entries_of maker who es ≡ entry_of who (Waiting d w) ∷ rest → At u who ((after n s e.who e.act).lines d)
          → Gone n who v d (after n s e.who e.act) es rest) → Gone n who v d s (e ∷ es) rest
      by_test true t r next = let own : e ≡ entry_of who (Waiting d w) =
          same_head e (entry_of who (Waiting d w)) (entries_of maker who es) rest r in
          record {
            now = after n s e.who e.act;
            more = es;
            legal = k.1;
            mine = same_tail e (entry_of who (Waiting d w)) (entries_of maker who es) rest r;
            same = refl;
            at = subst (λ (x : RingEntry T). Needs n s x.who x.act → At v who ((after n s x.who x.act).lines d)) (sym own)
                (λ q. subst (At v who) (sym (line_here d (line_after who w (s.lines d)) s.lines)) (f s q h)) k.0;
          }
      by_test false t r next =
          let g = next r (kept u n s who e.who d e.act lt k.0 (λ same. let z : true ≡ false = sym (eq-eqb e.who who same) ∙ t in cc) h) in
          record { now = g.now; more = g.more; legal = g.legal; mine = g.mine; same = g.same; at = g.at }

  -- others' entries alone
  stays : (n who : ℕ) (v : Level) (d : RingSide) (s : State T) (es : List (RingEntry T)) → who < 64 → LegalFrom n s es
      → entries_of maker who es ≡ [] → At v who (s.lines d) → At v who ((state_from n s es).lines d)
  unfolding LegalFrom state_from
  stays n who v d s [] lt k apart h = h
  stays n who v d s (e ∷ es) lt k apart h = let a = apart_first who e es apart in
      stays n who v d (after n s e.who e.act) es lt k.1 a.1 (kept v n s who e.who d e.act lt k.0 a.0 h)

  -- ---- what each own step makes of a level

  leave_lifts : (n who : ℕ) (d : RingSide) → who < 64 → Lifts T n who d Leave any left
  leave_lifts n who d lt s q h = cleared_here (s.lines d).mask who lt

  open_lifts : (n who : ℕ) (d : RingSide) → Lifts T n who d GoesOn left half
  open_lifts n who d s q h = (h, put_here who false (s.lines d).ends)

  open_left : (n who : ℕ) (d : RingSide) → Lifts T n who d GoesOn left left
  open_left n who d s q h = h

  nothing_lifts : (n who : ℕ) (d : RingSide) → Lifts T n who d NothingThere half done
  nothing_lifts n who d s q h = (h.0, put_here who false (s.lines d).ones, h.1)

  none_lifts : (n who : ℕ) (d : RingSide) → Lifts T n who d NoneWaits any done
  none_lifts n who d s q h = (
    ap (λ m. bit_at m who) q ∙ bit_at-zero who,
    put_here who false (s.lines d).ones,
    put_here who false (s.lines d).ends,
  )

  last_lifts : (n who : ℕ) (d : RingSide) (called : Called) → Lifts T n who d (last_of called) left done
  last_lifts n who d Nobody s q h = none_lifts n who d s q tt
  last_lifts n who d (One t) s q h = let ne = two_tags (s.lines d).mask t who q h in (
    clear_more who t (s.lines d).mask h,
    put_else t who true (put who false (s.lines d).ones) ne ∙ put_here who false (s.lines d).ones,
    put_else t who true (put who false (s.lines d).ends) ne ∙ put_here who false (s.lines d).ends,
  )
  last_lifts n who d (All m) s q h = (
    bit_at-zero who,
    put_here who false (s.lines d).ones,
    put_here who false (s.lines d).ends,
  )

  -- ---- all of them

  ends_done : (n who : ℕ) (d : RingSide) (s : State T) (es : List (RingEntry T)) → who < 64 → Gone n who done d s es []
      → HasDone (state_from n s es) d who
  ends_done n who d s es lt g = subst (λ z. HasDone z d who) (sym g.same) (stays n who done d g.now g.more lt g.legal g.mine g.at)

  called_last : (n who : ℕ) (d : RingSide) (called : Called) (s : State T) (es : List (RingEntry T)) → who < 64 → LegalFrom n s es
      → entries_of maker who es ≡ entries_on who d (last_of called ∷ []) → At left who (s.lines d) → HasDone (state_from n s es) d who
  called_last n who d called s es lt k mine h = ends_done n who d s es lt
      (goes n who left done d (last_of called) s es [] lt (last_lifts n who d called) k mine h)

  called_open : (n who : ℕ) (d : RingSide) (seen : Bool) (called : Called) (s : State T) (es : List (RingEntry T)) → who < 64
      → LegalFrom n s es
      → entries_of maker who es ≡ entries_on who d (seen_if seen GoesOn ++ last_of called ∷ []) → At left who (s.lines d)
      → HasDone (state_from n s es) d who
  called_open n who d true called s es lt k mine h =
      let g = goes n who left left d GoesOn s es (entries_on who d (last_of called ∷ [])) lt (open_left n who d) k mine h in
      subst (λ z. HasDone z d who) (sym g.same) (called_last n who d called g.now g.more lt g.legal g.mine g.at)
  called_open n who d false called s es lt k mine h = called_last n who d called s es lt k mine h

  done_from : (n who : ℕ) (d : RingSide) (called : Called) (ws : List WaitStep) (s : State T) (es : List (RingEntry T)) → who < 64
      → CallSteps called ws → LegalFrom n s es → entries_of maker who es ≡ entries_on who d ws → HasDone (state_from n s es) d who
  done_from n who d _ _ s es lt CallSteps.nobody_waits k mine = ends_done n who d s es lt
      (goes n who any done d NoneWaits s es [] lt (none_lifts n who d) k mine tt)
  done_from n who d _ _ s es lt CallSteps.nothing_there k mine =
      let a = goes n who any left d Leave s es (entries_on who d (GoesOn ∷ NothingThere ∷ [])) lt (leave_lifts n who d lt) k mine tt in
      let b = goes n who left half d GoesOn a.now a.more (entries_on who d (NothingThere ∷ [])) lt (open_lifts n who d) a.legal a.mine a.at
      in
      let c = goes n who half done d NothingThere b.now b.more [] lt (nothing_lifts n who d) b.legal b.mine b.at in
      subst (λ z. HasDone z d who) (sym (a.same ∙ b.same)) (ends_done n who d b.now b.more lt c)
  done_from n who d _ _ s es lt (CallSteps.it_calls seen called) k mine =
      let a = goes n who any left d Leave s es (entries_on who d (seen_if seen GoesOn ++ last_of called ∷ [])) lt (leave_lifts n who d lt) k
      mine
      tt in
      subst (λ z. HasDone z d who) (sym a.same) (called_open n who d seen called a.now a.more lt a.legal a.mine a.at)

  pub has_done : (n who : ℕ) (d : RingSide) (called : Called) (ws : List WaitStep) (log more : List (RingEntry T)) → who < 64
      → CallSteps called ws → Legal n (log ++ more) → entries_of maker who more ≡ entries_on who d ws
      → HasDone (state_of n (log ++ more)) d who
  has_done n who d called ws log more lt how k mine = subst (λ z. HasDone z d who) (sym (state_more n log more))
      (done_from n who d called ws (state_of n log) more lt how (Legal-rest n log more k).1 mine)

  -- ---- who waits

  stands_from : (n who : ℕ) (d : RingSide) (s : State T) (es : List (RingEntry T)) → who < 64 → LegalFrom n s es
      → entries_of maker who es ≡ entries_on who d (Stand ∷ GoesOn ∷ NothingThere ∷ []) → At stands who ((state_from n s es).lines d)
  stands_from n who d s es lt k mine =
      let a = goes n who any any d Stand s es (entries_on who d (GoesOn ∷ NothingThere ∷ [])) lt (λ z q h. tt) k mine tt in
      let b = goes n who any awake d GoesOn a.now a.more (entries_on who d (NothingThere ∷ [])) lt
      (λ z q h o. put_here who false (z.lines d).ends) a.legal a.mine a.at in
      let c = goes n who awake stands d NothingThere b.now b.more [] lt
      (λ z q h o. (put_here who false (z.lines d).ones, h o)) b.legal b.mine b.at in
      subst (λ z. At stands who (z.lines d)) (sym (a.same ∙ b.same ∙ c.same)) (stays n who stands d c.now c.more lt c.legal c.mine c.at)

  pub stands_done : (n who : ℕ) (d : RingSide) (log more : List (RingEntry T)) → who < 64 → Legal n (log ++ more)
      → entries_of maker who more ≡ entries_on who d (Stand ∷ GoesOn ∷ NothingThere ∷ []) → HasDoneIfWaits (state_of n (log ++ more)) d who
  stands_done n who d log more lt k mine = subst (λ z. HasDoneIfWaits z d who) (sym (state_more n log more))
      (stands_from n who d (state_of n log) more lt (Legal-rest n log more k).1 mine)

  -- ---- what it does on the other side

  goes_past : (n who : ℕ) (v : Level) (d : RingSide) (w : WaitStep) (s : State T) (es rest : List (RingEntry T)) → who < 64
      → LegalFrom n s es → entries_of maker who es ≡ entry_of who (Waiting (other d) w) ∷ rest → At v who (s.lines d)
      → Gone n who v d s es rest
  unfolding LegalFrom state_from
  goes_past n who v d w s [] rest lt k is h = cc
  goes_past n who v d w s (e ∷ es) rest lt k is h = by_test (e.who == who) refl is
      (λ r q. goes_past n who v d w (after n s e.who e.act) es rest lt k.1 r q)
    where
      by_test : (b : Bool) → (e.who == who) ≡ b
          → (if b then e ∷ entries_of maker who es else entries_of maker who es) ≡ entry_of who (Waiting (other d) w) ∷ rest
          → (entries_of maker who es ≡ entry_of who (Waiting (other d) w) ∷ rest → At v who ((after n s e.who e.act).lines d)
          → Gone n who v d (after n s e.who e.act) es rest) → Gone n who v d s (e ∷ es) rest
      by_test true t r next = let own : e ≡ entry_of who (Waiting (other d) w) =
          same_head e (entry_of who (Waiting (other d) w)) (entries_of maker who es) rest r in
          record {
            now = after n s e.who e.act;
            more = es;
            legal = k.1;
            mine = same_tail e (entry_of who (Waiting (other d) w)) (entries_of maker who es) rest r;
            same = refl;
            at = subst (λ (x : RingEntry T). At v who ((after n s x.who x.act).lines d)) (sym own)
                (subst (At v who) (sym (other_line d (line_after who w (s.lines (other d))) s.lines)) h);
          }
      by_test false t r next =
          let g = next r (kept v n s who e.who d e.act lt k.0 (λ same. let z : true ≡ false = sym (eq-eqb e.who who same) ∙ t in cc) h) in
          record { now = g.now; more = g.more; legal = g.legal; mine = g.mine; same = g.same; at = g.at }

  stays_past : (n who : ℕ) (v : Level) (d : RingSide) (ws : List WaitStep) (s : State T) (es : List (RingEntry T)) → who < 64
      → LegalFrom n s es → entries_of maker who es ≡ entries_on who (other d) ws → At v who (s.lines d)
      → At v who ((state_from n s es).lines d)
  stays_past n who v d [] s es lt k mine h = stays n who v d s es lt k mine h
  stays_past n who v d (w ∷ ws) s es lt k mine h =
      let g = goes_past n who v d w s es (entries_on who (other d) ws) lt k mine h in
      subst (λ z. At v who (z.lines d)) (sym g.same) (stays_past n who v d ws g.now g.more lt g.legal g.mine g.at)

  pub still_done : (n who : ℕ) (d : RingSide) (ws : List WaitStep) (log more : List (RingEntry T)) → who < 64 → Legal n (log ++ more)
      → entries_of maker who more ≡ entries_on who (other d) ws → HasDone (state_of n log) d who
      → HasDone (state_of n (log ++ more)) d who
  still_done n who d ws log more lt k mine h = subst (λ z. HasDone z d who) (sym (state_more n log more))
      (stays_past n who done d ws (state_of n log) more lt (Legal-rest n log more k).1 mine h)
