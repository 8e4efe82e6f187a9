-- A channel of kind Signal carries no element: its queue is empty, and nothing is ever taken from it.
use Rattle.std.specs.Prelude.{◌≡◌, ℕ, ◌==◌, Bool, true, false, List, [], ◌∷◌, filter, Option, Some, None, refl, if◌then◌else◌}
use Rattle.std.proofs.Common.{sym, ap, ◌∙◌, subst}
use Rattle.std.proofs.lemmas.Bool.{eqb-true}
use Rattle.channel_model.specs.declared.acts.Kind.{Kind}
use Rattle.channel_model.specs.declared.acts.Kind.TheVariants.{Signal}
use Rattle.channel_model.specs.declared.acts.Act.{Act}
use Rattle.channel_model.specs.declared.acts.Act.TheVariants.{Hand, Put, Offer, Await, Take, Admit, Drop, Spurn, Close, Void, Drain, WakeClosed, Withdraw, Settle}
use Rattle.channel_model.specs.declared.acts.Entry.{Entry}
use Rattle.channel_model.specs.declared.standing.Party.{Party}
use Rattle.channel_model.specs.declared.standing.Standing.{Standing}
use Rattle.channel_model.specs.declared.standing.Receiver.{Receiver}
use Rattle.channel_model.specs.declared.standing.Resolution.{Resolution}
use Rattle.channel_model.specs.Channels.{Shape, State, Channel, kind_at, is_full, suspends}
use Rattle.channel_model.specs.Effects.{after, resolve_first, resolve_holder, resolve_offer, remove_first, with_queue, put_channel, admitted, holder_at, place_receiver, is_open, is_elsewhere}
use Rattle.channel_model.specs.Needs.{Needs, IsFirstOffer}
use Rattle.channel_model.specs.Histories.{replay, replay_from, Legal}
use Rattle.channel_model.specs.Floors.{Floor, HasRoom, Made}
use Rattle.channel_model.proofs.Histories.{Legal-last}
use Rattle.channel_model.proofs.Sound.{lasts}

-- nothing is queued at the channel
abbrev IsEmpty : ℕ → State → Type 0
IsEmpty c s = (s.channels c).queue ≡ []

-- ---- what empties a queue, or leaves it as it is

first_empty : (rs : List Receiver) (how : ℕ → Resolution) (s : State) (c : ℕ) → IsEmpty c s → IsEmpty c (resolve_first rs how s)
first_empty [] how s c h = h
first_empty (r ∷ rs) how s c h = ap (filter _) h

holder_empty : (p : Option Party) (how : ℕ → Resolution) (s : State) (c : ℕ) → IsEmpty c s → IsEmpty c (resolve_holder p how s)
holder_empty None how s c h = h
holder_empty (Some p) how s c h = ap (filter _) h

-- one channel becomes another
put_empty : (d c : ℕ) (ch : Channel) (s : State) → (d ≡ c → ch.queue ≡ []) → IsEmpty c s → (put_channel d ch s.channels c).queue ≡ []
put_empty d c ch s f h = by_test (d == c) refl
  where
    by_test : (b : Bool) → (d == c) ≡ b → (if b then ch else s.channels c).queue ≡ []
    by_test true e = f (eqb-true d c e)
    by_test false e = h

queue_here : (d c : ℕ) (s : State) → d ≡ c → IsEmpty c s → IsEmpty d s
queue_here d c s e h = ap (λ n. (s.channels n).queue) e ∙ h

offer_empty : (d : ℕ) (q : List Standing) (how : ℕ → Resolution) (s : State) (c : ℕ) → (s.channels d).queue ≡ q → IsEmpty c s
    → IsEmpty c (resolve_offer d q how s)
offer_empty d [] how s c e h = h
offer_empty d (o ∷ os) how s c e h = holder_empty o.holder how (with_queue d os s) c
    (put_empty d c _ s (λ k. let u : o ∷ os ≡ [] = sym e ∙ queue_here d c s k h in cc) h)

removed_empty : (d : ℕ) (q : List Standing) (s : State) (c : ℕ) → (s.channels d).queue ≡ q → IsEmpty c s → IsEmpty c (remove_first d q s)
removed_empty d [] s c e h = h
removed_empty d (o ∷ os) s c e h = put_empty d c _ s (λ k. let u : o ∷ os ≡ [] = sym e ∙ queue_here d c s k h in cc) h

placed_empty : (b : Bool) (r : Receiver) (ch : Channel) → ch.queue ≡ [] → (place_receiver b r ch).queue ≡ []
placed_empty true r ch h = h
placed_empty false r ch h = h

-- ---- one act

-- a signal is always full, and no offer waits there
no_put : (k : Kind) (n : ℕ) (A : Type 0) → k ≡ Signal → is_full k n ≡ false → A
no_put k n A e f = let u : true ≡ false = sym (ap (λ (x : Kind). is_full x n) e) ∙ f in cc

no_offer : (k : Kind) (A : Type 0) → k ≡ Signal → suspends k ≡ true → A
no_offer k A e f = let u : false ≡ true = sym (ap suspends e) ∙ f in cc

here : (shape : Shape) (d c : ℕ) → d ≡ c → kind_at shape c ≡ Signal → kind_at shape d ≡ Signal
here shape d c e k = ap (kind_at shape) e ∙ k

signal_step : (shape : Shape) (c : ℕ) → kind_at shape c ≡ Signal → (s : State) (who : ℕ) (act : Act) → Needs shape s who act → IsEmpty c s
    → IsEmpty c (after s who act)
signal_step shape c k s who (Hand d p v) n h = first_empty (s.channels d).receivers _ s c h
signal_step shape c k s who (Put d p v) n h = put_empty d c _ s (λ e. no_put (kind_at shape d) _ _ (here shape d c e k) n.3) h
signal_step shape c k s who (Offer d p v w j) n h = put_empty d c _ s (λ e. no_offer (kind_at shape d) _ (here shape d c e k) n.3) h
signal_step shape c k s who (Await d p w j) n h = put_empty d c _ s
    (λ e. placed_empty (is_open (s.waits w)) _ (s.channels d) (queue_here d c s e h)) h
signal_step shape c k s who (Take d p v) n h = offer_empty d (s.channels d).queue _ s c refl h
signal_step shape c k s who (Admit d p) n h =
    holder_empty (holder_at p (s.channels d).queue) _ (with_queue d (admitted p (s.channels d).queue) s) c
    (put_empty d c _ s (λ e. ap (admitted p) (queue_here d c s e h)) h)
signal_step shape c k s who (Drop d p v) n h = removed_empty d (s.channels d).queue s c refl h
signal_step shape c k s who (Spurn d p v) n h = put_empty d c _ s (λ e. ap (filter (is_elsewhere p)) (queue_here d c s e h)) h
signal_step shape c k s who (Close d v) n h = put_empty d c _ s (λ e. queue_here d c s e h) h
signal_step shape c k s who (Void d) n h = put_empty d c _ s (λ e. queue_here d c s e h) h
signal_step shape c k s who (Drain d p v) n h = offer_empty d (s.channels d).queue _ s c refl h
signal_step shape c k s who (WakeClosed d p) n h = first_empty (s.channels d).receivers _ s c h
signal_step shape c k s who (Withdraw w why) n h = ap (filter _) h
signal_step shape c k s who (Settle w outcome) n h = h

-- ---- histories

start_empty : (c : ℕ) → IsEmpty c (replay [])
unfolding replay_from
start_empty c = refl

pub signal_empty : (shape : Shape) (c : ℕ) (xs : List Entry) → kind_at shape c ≡ Signal → Legal shape xs
    → ((replay xs).channels c).queue ≡ []
signal_empty shape c xs k l = lasts shape (IsEmpty c) (record { step = λ s who act sound n h. signal_step shape c k s who act n h }) [] xs
    (xs, refl) l (start_empty c)

none_first : (p v : ℕ) (q : List Standing) → q ≡ [] → IsFirstOffer p v q → ⊥
none_first p v [] e h = h
none_first p v (o ∷ os) e h = cc

-- nothing is taken
pub never_taken : (who c p v : ℕ) (a b : Floor) → kind_at a.shape c ≡ Signal → Legal b.shape b.seen → Made who (Take c p v) a b → ⊥
never_taken who c p v a b k l m =
    let entry : Entry = record { who = who; act = Take c p v } in
    let parts = Legal-last b.shape m.before entry (subst (Legal b.shape) m.last l) in
    let kind : kind_at b.shape c ≡ Signal = ap (λ (s : Shape). kind_at s c) m.same.shape ∙ k in
    none_first p v ((replay m.before).channels c).queue (signal_empty b.shape c m.before kind parts.0) parts.1.1

pub signal_roomed : (n c : ℕ) (a b : Floor) → HasRoom n a b → kind_at a.shape c ≡ Signal → kind_at b.shape c ≡ Signal
signal_roomed n c a b h k = ap (λ (s : Shape). kind_at s c) h.same.shape ∙ k
