-- Who looked, and saw that there may be something for one who waits: at a moment there was.
use Rattle.std.specs.Prelude.{◌≡◌, ◌⊎◌, ℕ, ◌+◌, ◌*◌, ◌%◌, ◌<◌, ◌≤◌, Bool, true, false, List, [], ◌∷◌, ◌++◌, refl}
use Rattle.std.proofs.Common.{inl, inr, ⊎_elim, sym, ap, ◌∙◌, subst, append_assoc, append-nil}
use Rattle.worded.specs.Exchanges.{Loaded}
use Rattle.ring_channel.specs.declared.act.RingAct.{RingAct}
use Rattle.ring_channel.specs.declared.act.RingAct.TheVariants.{Put, Fill, Take, Free, Close, Waiting}
use Rattle.ring_channel.specs.declared.act.RingEntry.{RingEntry}
use Rattle.ring_channel.specs.declared.act.RingSide.{RingSide}
use Rattle.ring_channel.specs.declared.act.RingSide.TheVariants.{Receive, Send}
use Rattle.ring_channel.specs.declared.act.WaitStep.{WaitStep}
use Rattle.ring_channel.specs.Rings.{free, State, is_standing, after, state_from, state_of, Needs, LegalFrom, Legal, maker}
use Rattle.ring_channel.specs.Tables.{stamp, Fits}
use Rattle.ring_channel.specs.Seen.{Sat, now_in}
use Rattle.ring_channel.specs.Served.{HasOne, MayGo}
use Rattle.ring_channel.specs.Answers.{AtMoment}
use Rattle.ring_channel.specs.Looks.{MadeIf}
use Rattle.ring_channel.proofs.HistoriesGoOn.{state_more, Legal-rest}
use Rattle.ring_channel.proofs.StatesStaySound.{Sound, sound_of, sound_step}
use Rattle.ring_channel.proofs.StampsRise.{free_at, stands_at}
use Rattle.ring_channel.proofs.StoreTells.{closed_tail, stamp_is}

-- the least word of its slot that tells that there is something for one who waits for this place
abbrev pub least : RingSide → ℕ → ℕ
least Receive p = 2 * p + 1
least Send p = 2 * p

module _ {T : Type 0} where
  -- the place that one who waits on a side waits for
  abbrev pub front : State T → RingSide → ℕ
  front s Receive = s.takes
  front s Send = s.puts

  has_one : (n : ℕ) (s : State T) (d : RingSide) (p : ℕ) → Sound n s → p ≡ front s d → least d p ≤ stamp s (p % n) → HasOne n s d
  has_one n s Receive p h is le = let a = stands_at n s p h is le in
      subst (λ q. (s.at (q % n) ≡ q) × (is_standing (s.cells (q % n)) ≡ true)) is (a.at, ap is_standing a.stands)
  has_one n s Send p h is le = subst (λ q. (s.at (q % n) ≡ q) × (s.cells (q % n) ≡ free)) is
      (free_at n s p h is le)

  -- who goes to the next place finds something there
  goes_on : (n : ℕ) (s : State T) (d : RingSide) (who : ℕ) (act : RingAct T) → Needs n s who act
      → HasOne n s d ⊎ (front (after n s who act) d ≡ front s d)
  goes_on n s Receive who (Take p) q = inl (subst (λ k. (s.at (k % n) ≡ k) × (is_standing (s.cells (k % n)) ≡ true)) q.0 (q.1, q.2))
  goes_on n s Receive who other q = inr refl
  goes_on n s Send who (Put p x) q =
      inl (subst (λ k. (s.at (k % n) ≡ k) × (s.cells (k % n) ≡ free)) q.0 (q.3, q.4))
  goes_on n s Send who (Fill p x) q = inr refl
  goes_on n s Send who (Take p) q = inr refl
  goes_on n s Send who (Free p) q = inr refl
  goes_on n s Send who Close q = inr refl
  goes_on n s Send who (Waiting e w) q = inr refl

  -- after some of these entries there was something
  record Came (n : ℕ) (d : RingSide) (s : State T) (es : List (RingEntry T)) : Type 0 where
    now : List (RingEntry T)
    later : List (RingEntry T)
    all : now ++ later ≡ es
    has : HasOne n (state_from n s now) d

  came : (n : ℕ) (d : RingSide) (p : ℕ) (s : State T) (es : List (RingEntry T)) → Sound n s → LegalFrom n s es → p ≡ front s d
      → least d p ≤ stamp (state_from n s es) (p % n) → Came n d s es
  unfolding LegalFrom state_from
  came n d p s [] h k is le = record { now = []; later = []; all = refl; has = has_one n s d p h is le }
  came n d p s (e ∷ es) h k is le = ⊎_elim
      (λ (one : HasOne n s d). record { now = []; later = e ∷ es; all = refl; has = one })
      (λ (same : front (after n s e.who e.act) d ≡ front s d).
      let c = came n d p (after n s e.who e.act) es (sound_step n s e.who e.act h k.0) k.1 (is ∙ sym same) le in
      record { now = e ∷ c.now; later = c.later; all = ap (λ l. e ∷ l) c.all; has = c.has })
      (goes_on n s d e.who e.act k.0)

  -- the place was the next one, and then the word of its slot told that there is something
  pub came_by : (n m p : ℕ) (d : RingSide) (a r : Sat T) → 0 < n → Loaded (Legal n) (Fits n) maker (32 + p % n) m a.0 r.0
      → p ≡ front (now_in n a.0) d → least d p ≤ m → AtMoment n (λ s. MayGo n s d) a.0 r.0
  came_by n m p d a r pos l is le =
      let parts = Legal-rest n a.0.seen l.others l.added.is_legal in
      let now : r.0.seen ≡ a.0.seen ++ l.others = ap (λ x. x.seen) l.now in
      let high : least d p ≤ stamp (state_from n (now_in n a.0) l.others) (p % n) =
      subst (λ z. least d p ≤ z) (stamp_is n m (p % n) a.0 r.0 l
      ∙ ap (λ s. stamp s (p % n)) (ap (state_of n) now ∙ state_more n a.0.seen l.others)) le in
      let c = came n d p (now_in n a.0) l.others (sound_of n a.0.seen pos parts.0) parts.1 is high in
      record {
        moment = a.0.seen ++ c.now;
        since = (c.now, refl);
        until = (c.later, append_assoc a.0.seen c.now c.later ∙ ap (λ l. a.0.seen ++ l) c.all ∙ sym now);
        held = inr (subst (λ z. HasOne n z d) (sym (state_more n a.0.seen c.now)) c.has);
      }

  -- the ring was seen to be closed
  pub ended_by : (n m : ℕ) (d : RingSide) (a r : Sat T) → Loaded (Legal n) (Fits n) maker 0 m a.0 r.0 → m % 2 ≡ 1
      → AtMoment n (λ s. MayGo n s d) a.0 r.0
  ended_by n m d a r l odd = record {
    moment = r.0.seen;
    since = (l.others, sym (ap (λ x. x.seen) l.now));
    until = ([], append-nil r.0.seen);
    held = inl (closed_tail n m a.0 r.0 l odd);
  }

  -- the word was loaded, and no entry was made
  pub loaded_else : (b : Bool) (n word found : ℕ) (d : RingSide) (w : WaitStep) (a r : Sat T) → b ≡ false → MadeIf b n word found d w a r
      → Loaded (Legal n) (Fits n) maker word found a.0 r.0
  loaded_else true n word found d w a r is k = cc
  loaded_else false n word found d w a r is k = k.0
