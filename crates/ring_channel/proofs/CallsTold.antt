-- What is so of a pass after a whole call.
use Rattle.std.specs.Prelude.{◌≡◌, ℕ, ◌%◌, ◌==◌, Bool, true, false, List, [], MatchBool, refl}
use Rattle.std.proofs.Common.{sym, ap, ◌∙◌, subst, arith, eq-eqb}
use Rattle.worded.specs.Views.{has_tag}
use Rattle.worded.specs.Exchanges.{Loaded, Entered}
use Rattle.ring_channel.specs.declared.act.RingAct.TheVariants.{Close}
use Rattle.ring_channel.specs.declared.act.RingEntry.{RingEntry}
use Rattle.ring_channel.specs.declared.answers.RingSent.{RingSent}
use Rattle.ring_channel.specs.declared.answers.RingSent.TheVariants as sent
use Rattle.ring_channel.specs.declared.answers.RingGot.{RingGot}
use Rattle.ring_channel.specs.declared.answers.RingGot.TheVariants as got
use Rattle.ring_channel.specs.Rings.{State, Legal, maker}
use Rattle.ring_channel.specs.Tables.{Fits}
use Rattle.ring_channel.specs.Seen.{Seen, Sat, first_tag, own_tag, entry_of, SameTags, IsIdle, IsSeated, Closes}
use Rattle.ring_channel.specs.Answers.{Adds, SentAnswer, GotAnswer, CloseAnswer}
use Rattle.ring_channel.proofs.NobodyHolds.{idle_none, put_idle, take_idle, close_idle}
use Rattle.ring_channel.proofs.StoreTells.{adds_sees, adds_makes, sees_of, makes_of, made_state, closed_tail}

odd_of : (m : ℕ) → (m % 2 == 0) ≡ false → m % 2 ≡ 1
odd_of m is = let ne : m % 2 ≡ 0 → ⊥ = (λ e. let z : true ≡ false = sym (eq-eqb (m % 2) 0 e) ∙ is in cc) in omega (arith, ne)

module _ {T : Type 0} where
  -- ---- which tags it has

  abbrev Same : Seen T → Seen T → Type 0
  Same v w = (own_tag w ≡ own_tag v) × SameTags v w

  adds_same : (who : ℕ) (made : List (RingEntry T)) (v w : Seen T) → Adds who made v w → Same v w
  adds_same who made v w a = (ap first_tag a.tags, (a.tags, a.giving))

  pub sent_same : (n places who : ℕ) (x : T) (v w : Seen T) (r : RingSent T) → SentAnswer n places who x v w r → Same v w
  sent_same n places who x v w (sent.Sent p) a = adds_same who _ v w a.0
  sent_same n places who x v w other a = adds_same who _ v w a.1

  pub got_same : (n who : ℕ) (v w : Seen T) (r : RingGot T) → GotAnswer n who v w r → Same v w
  got_same n who v w (got.Value p x) a = adds_same who _ v w a.0
  got_same n who v w got.Nothing a = adds_same who _ v w a.0
  got_same n who v w got.Closed a = adds_same who _ v w a.0
  got_same n who v w got.Passed a = adds_same who _ v w a.0

  pub close_same : (n who : ℕ) (v w : Seen T) (b : Bool) → CloseAnswer n who v w b → Same v w
  close_same n who v w true a = adds_same who _ v w a.0
  close_same n who v w false a = adds_same who _ v w a.0

  -- ---- it holds no slot

  rekeyed : (n : ℕ) (w : Seen T) → w.key ≡ n → IsIdle n w → IsIdle w.key w
  rekeyed n w is idle = subst (λ k. IsIdle k w) (sym is) idle

  unkeyed : (n : ℕ) (v : Seen T) → v.key ≡ n → IsIdle v.key v → IsIdle n v
  unkeyed n v is idle = subst (λ k. IsIdle k v) is idle

  sent_still : (n places who : ℕ) (x : T) (v w : Seen T) (r : RingSent T) → has_tag who v.tags ≡ true → IsIdle n v
      → SentAnswer n places who x v w r → IsIdle n w
  sent_still n places who x v w (sent.Sent p) own idle a = put_idle n who p x v w own idle a.0
  sent_still n places who x v w other own idle a = idle_none n who v w idle a.1

  pub sent_idle : (n places who : ℕ) (x : T) (v w : Seen T) (r : RingSent T) → has_tag who v.tags ≡ true → v.key ≡ n → w.key ≡ n
      → IsIdle v.key v → SentAnswer n places who x v w r → IsIdle w.key w
  sent_idle n places who x v w r own old new idle a = rekeyed n w new (sent_still n places who x v w r own (unkeyed n v old idle) a)

  got_still : (n who : ℕ) (v w : Seen T) (r : RingGot T) → has_tag who v.tags ≡ true → IsIdle n v → GotAnswer n who v w r → IsIdle n w
  got_still n who v w (got.Value p x) own idle a = take_idle n who p v w own idle a.0
  got_still n who v w other own idle a = idle_none n who v w idle a.0

  pub got_idle : (n who : ℕ) (v w : Seen T) (r : RingGot T) → has_tag who v.tags ≡ true → v.key ≡ n → w.key ≡ n → IsIdle v.key v
      → GotAnswer n who v w r → IsIdle w.key w
  got_idle n who v w r own old new idle a = rekeyed n w new (got_still n who v w r own (unkeyed n v old idle) a)

  closed_still : (n who : ℕ) (v w : Seen T) (b : Bool) → has_tag who v.tags ≡ true → IsIdle n v → CloseAnswer n who v w b → IsIdle n w
  closed_still n who v w true own idle a = close_idle n who v w own idle a.0
  closed_still n who v w false own idle a = idle_none n who v w idle a.0

  pub closed_idle : (n who : ℕ) (v w : Seen T) (b : Bool) → has_tag who v.tags ≡ true → v.key ≡ n → w.key ≡ n → IsIdle v.key v
      → CloseAnswer n who v w b → IsIdle w.key w
  closed_idle n who v w b own old new idle a = rekeyed n w new (closed_still n who v w b own (unkeyed n v old idle) a)

  -- ---- the close

  -- the seat after a step, and what the step tells of the close
  pub record Shut (n : ℕ) (a r : Sat T) (b : Bool) : Type 0 where
    pub answer : CloseAnswer n (own_tag a.0) a.0 r.0 b
    pub key : r.0.key ≡ a.0.key
    pub idle : r.0.heard_tags ≡ []
    pub hand : r.1 ≡ a.1

  shut_by : (n found : ℕ) (a r : Sat T) (b : Bool) → (found % 2 == 0) ≡ b → IsSeated n a
      → MatchBool b (Entered (Legal n) (Fits n) maker 0 found (entry_of (own_tag a.0) Close) a.0 r.0 × (r.1 ≡ a.1))
      (Loaded (Legal n) (Fits n) maker 0 found a.0 r.0 × (r.1 ≡ a.1)) → Shut n a r b
  shut_by n found a r true is h k =
      let who : ℕ = own_tag a.0 in
      let m = makes_of n 0 found (entry_of who Close) a.0 r.0 h.idle k.0 in
      record {
        answer = (
          adds_makes who Close a.0 r.0 h.own m,
          ap (λ (s : State T). s.closed) (made_state n a.0 r.0 (entry_of who Close) m),
        );
        key = ap (λ (x : Seen T). x.key) k.0.now;
        idle = ap (λ (x : Seen T). x.heard_tags) k.0.now;
        hand = k.1;
      }
  shut_by n found a r false is h k = record {
    answer = (
      adds_sees (own_tag a.0) a.0 r.0 h.own (sees_of n 0 found a.0 r.0 h.idle k.0),
      closed_tail n found a.0 r.0 k.0 (odd_of found is),
    );
    key = ap (λ (x : Seen T). x.key) k.0.now;
    idle = ap (λ (x : Seen T). x.heard_tags) k.0.now;
    hand = k.1;
  }

  pub shut_told : (n found : ℕ) (a r : Sat T) → IsSeated n a → Closes n found a r → Shut n a r (found % 2 == 0)
  shut_told n found a r h k = shut_by n found a r (found % 2 == 0) refl h k

  pub shut_seated : (n found : ℕ) (a r : Sat T) → IsSeated n a → Closes n found a r → IsSeated n r
  shut_seated n found a r h k = let t = shut_told n found a r h k in
      let same = close_same n (own_tag a.0) a.0 r.0 (found % 2 == 0) t.answer in
      record { key = t.key ∙ h.key; idle = t.idle; own = ap (λ ts. has_tag (first_tag ts) ts) same.1.0 ∙ h.own }
