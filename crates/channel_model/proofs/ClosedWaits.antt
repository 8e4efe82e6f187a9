-- A receive's wait that ended as closed did so on a closed channel.
use Rattle.std.specs.Prelude.{◌≡◌, ℕ, ◌==◌, Bool, true, false, List, [], ◌∷◌, ◌++◌, Option, Some, None, is_some, refl, if◌then◌else◌}
use Rattle.std.proofs.Common.{ap, ◌∙◌, subst, eqb-true}
use Rattle.co_base.specs.declared.names.WaitId.{WaitId}
use Rattle.channel_model.specs.declared.acts.Act.{Act}
use Rattle.channel_model.specs.declared.acts.Act.TheVariants.{Await, WakeClosed, Settle}
use Rattle.channel_model.specs.declared.acts.Entry.{Entry}
use Rattle.channel_model.specs.declared.acts.Settled.TheVariants as settled
use Rattle.channel_model.specs.declared.standing.Resolution.{Resolution}
use Rattle.channel_model.specs.Channels.{Shape, State, Wait, start}
use Rattle.channel_model.specs.Effects.{after}
use Rattle.channel_model.specs.Needs.{Needs, MaySettle}
use Rattle.channel_model.specs.Outcomes.{IsOutcome}
use Rattle.channel_model.specs.Histories.{replay, replay_from, acts_of, Legal, LegalFrom}
use Rattle.channel_model.proofs.Histories.{replay_from-append, LegalFrom-parts}
use Rattle.channel_model.proofs.EveryAct.{after_keeps}
use Rattle.channel_model.proofs.Sound.{Sound, sound, sound_step, closed_keeps, Lasts, lasts_from}
use Rattle.channel_model.proofs.OneClause.{ClosedIf, IsOn, waits_on, weaker_on, begun_on}

is_closed : ℕ → State → Bool
is_closed c s = is_some (s.channels c).closed

-- the wait has one clause, at this channel, which is closed if it was resolved as closed
abbrev IsOnClosed : ℕ → State → WaitId → Type 0
IsOnClosed c s w = IsOn c (λ v. is_closed c s ≡ true) (s.waits w)

still_closed : (shape : Shape) (c : ℕ) (s : State) (who : ℕ) (act : Act) → Needs shape s who act → is_closed c s ≡ true
    → is_closed c (after s who act) ≡ true
unfolding is_closed
still_closed shape c s who act n e = by_option (s.channels c).closed refl e
  where
    by_option : (o : Option ℕ) → (s.channels c).closed ≡ o → is_some o ≡ true → is_some ((after s who act).channels c).closed ≡ true
    by_option None f e = cc
    by_option (Some v) f e = ap is_some (after_keeps shape (λ d ch. ch.closed ≡ Some v) (closed_keeps shape v) s who act c n f)

woken : (shape : Shape) (c : ℕ) (s : State) (who : ℕ) (act : Act) → Needs shape s who act → (p : ℕ) → act ≡ WakeClosed c p
    → is_closed c s ≡ true
unfolding is_closed
woken shape c s who act n p e = (subst (Needs shape s who) e n).1

on_lasts : (shape : Shape) (c : ℕ) (w : WaitId) → Lasts shape (λ s. IsOnClosed c s w)
on_lasts shape c w = record {
  step = λ s who act l n h. weaker_on c _ (λ v. is_closed c (after s who act) ≡ true) _ (λ v. still_closed shape c s who act n)
      (waits_on shape c (λ v. is_closed c s ≡ true) w s who act l n (woken shape c s who act n) h);
}

closed_still : (shape : Shape) (c : ℕ) → Lasts shape (λ s. is_closed c s ≡ true)
closed_still shape c = record { step = λ s who act l n h. still_closed shape c s who act n h }

-- ---- who's own entries

-- who's entry with this act, and what comes before and after it
pub record OwnEntry (who : ℕ) (act : Act) (ys : List Act) (history : List Entry) : Type 0 where
  pub before : List Entry
  pub rest : List Entry
  pub parts : history ≡ before ++ record { who = who; act = act } ∷ rest
  pub behind : acts_of who rest ≡ ys

pub own_entry : (who : ℕ) (act : Act) (history : List Entry) (xs ys : List Act) → acts_of who history ≡ xs ++ act ∷ ys
    → OwnEntry who act ys history
unfolding acts_of
own_entry who act [] [] ys h = cc
own_entry who act [] (x ∷ xs) ys h = cc
own_entry who act (e ∷ es) xs ys h = by_test (e.who == who) refl h (own_entry who act es)
  where
    later : OwnEntry who act ys es → OwnEntry who act ys (e ∷ es)
    later f = record { before = e ∷ f.before; rest = f.rest; parts = ap (λ l. e ∷ l) f.parts; behind = f.behind }

    own : (xs : List Act) → e.who ≡ who → e.act ∷ acts_of who es ≡ xs ++ act ∷ ys
        → ((xs ys : List Act) → acts_of who es ≡ xs ++ act ∷ ys → OwnEntry who act ys es) → OwnEntry who act ys (e ∷ es)
    own [] k h more =
        let same : e.act ≡ act = cc in
        let behind : acts_of who es ≡ ys = cc in
        let entry : e ≡ record { who = who; act = act } = ap (λ n. record { who = n; act = e.act }) k
        ∙ ap (λ a. record { who = who; act = a }) same in
        record { before = []; rest = es; parts = ap (λ f. f ∷ es) entry; behind = behind }
    own (x ∷ xs) k h more = later (more xs ys (let same : acts_of who es ≡ xs ++ act ∷ ys = cc in same))

    by_test : (b : Bool) → (e.who == who) ≡ b → (if b then e.act ∷ acts_of who es else acts_of who es) ≡ xs ++ act ∷ ys
        → ((xs ys : List Act) → acts_of who es ≡ xs ++ act ∷ ys → OwnEntry who act ys es) → OwnEntry who act ys (e ∷ es)
    by_test true k h more = own xs (eqb-true e.who who k) h more
    by_test false k h more = later (more xs ys h)

-- ---- the law

ends_closed : (c n v : ℕ) (closed : ℕ → Type 0) (who : ℕ) (x : Option Wait) → IsOn c closed x → MaySettle who (settled.Closed n v) x
    → closed v
ends_closed c n v closed who None h m = absurd h
ends_closed c n v closed who (Some x) h m = by_how x.resolved h.1 m.2
  where
    by_how : (o : Option Resolution) → ClosedIf closed o → IsOutcome (settled.Closed n v) o → closed v
    by_how None k i = absurd i
    by_how (Some how) k i = subst (λ r. ClosedIf closed (Some r)) i k

-- a receive's wait that its owner ended as closed was on a channel that is closed
pub closed_by_wait : (shape : Shape) (history : List Entry) (who c p n v : ℕ) (us ms vs : List Act) → Legal shape history
    → acts_of who history ≡ us ++ Await c p (record { channel = c; place = p }) 0 ∷ (ms
    ++ Settle (record { channel = c; place = p }) (settled.Closed n v) ∷ vs)
    → is_some ((replay history).channels c).closed ≡ true
unfolding is_closed LegalFrom replay_from
closed_by_wait shape history who c p n v us ms vs l e =
    let w : WaitId = record { channel = c; place = p } in
    let a = own_entry who (Await c p w 0) history us (ms ++ Settle w (settled.Closed n v) ∷ vs) e in
    let b = own_entry who (Settle w (settled.Closed n v)) a.rest ms vs a.behind in
    let first = LegalFrom-parts shape start a.before (record { who = who; act = Await c p w 0 } ∷ a.rest) (subst (Legal shape) a.parts l) in
    let s : State = replay a.before in
    let t : State = after s who (Await c p w 0) in
    let there = sound shape a.before first.0 in
    let begun = begun_on shape s who c p there first.1.0 (λ m. is_closed c t ≡ true) in
    let second = LegalFrom-parts shape t b.before (record { who = who; act = Settle w (settled.Closed n v) } ∷ b.rest)
    (subst (LegalFrom shape t) b.parts first.1.1) in
    let u : State = replay_from t b.before in
    let lasted = lasts_from shape (λ z. IsOnClosed c z w) (on_lasts shape c w) t b.before second.0
    (sound_step shape s who (Await c p w 0) first.1.0 there) begun in
    let closed : is_closed c u ≡ true = ends_closed c n v (λ m. is_closed c u ≡ true) who (u.waits w) lasted second.1.0 in
    let sound_u = lasts_from shape (Sound shape) (record { step = λ z who act h m q. sound_step shape z who act m q }) t b.before second.0
    (sound_step shape s who (Await c p w 0) first.1.0 there) (sound_step shape s who (Await c p w 0) first.1.0 there) in
    let at_end : is_closed c (replay_from (after u who (Settle w (settled.Closed n v))) b.rest) ≡ true =
    lasts_from shape (λ z. is_closed c z ≡ true) (closed_still shape c) (after u who (Settle w (settled.Closed n v))) b.rest second.1.1
    (sound_step shape u who (Settle w (settled.Closed n v)) second.1.0 sound_u)
    (still_closed shape c u who (Settle w (settled.Closed n v)) second.1.0 closed) in
    let all : replay history ≡ replay_from (after u who (Settle w (settled.Closed n v))) b.rest =
    ap replay a.parts ∙ replay_from-append start a.before (record { who = who; act = Await c p w 0 } ∷ a.rest) ∙ ap (replay_from t) b.parts
    ∙ replay_from-append t b.before (record { who = who; act = Settle w (settled.Closed n v) } ∷ b.rest) in
    ap (is_closed c) all ∙ at_end
