-- What the steps of a pass tell of its floor.
use Rattle.std.proofs.Common.{◌≡◌, ℕ, ◌+◌, ◌≤◌, Bool, true, false, true≢false, List, [], ◌∷◌, ◌++◌, Option, Some, None, is_some, sym, refl, ap, ◌∙◌, subst, arith, append-nil}
use Rattle.co_base.proofs.Orders.{order_then}
use mathlib.Core.List.{IsPrefix}
use mathlib.Core.Logic.{dite}
use native.Mathlib.Decide.{dec_le}
use Rattle.worded.specs.Views.{has_tag}
use Rattle.co_base.specs.declared.names.WaitId.{WaitId}
use Rattle.channel_model.specs.declared.acts.Act.{Act}
use Rattle.channel_model.specs.declared.acts.Act.TheVariants.{Take, Void, Drain, WakeClosed}
use Rattle.channel_model.specs.declared.acts.Entry.{Entry}
use Rattle.channel_model.specs.Channels.{Shape, State, Wait, places_at}
use Rattle.channel_model.specs.Histories.{replay, acts_of, Legal}
use Rattle.channel_model.specs.Floors.{Floor, Looked, Made, AtStep, AtMoment}
use Rattle.channel_model.specs.Answers.{IsOwnWait, IsReadyWait, ClosedWith, IsDrainedAndClosed, TakenFrom, DrainedFrom, VoidAnswer, WokenAt}
use Rattle.channel_model.proofs.Later.{closed_later, voided_later}
use Rattle.channel_model.proofs.Sound.{sound}
use Rattle.channel_model.proofs.Spans.{prefix_append}
pub use Rattle.channel_model.proofs.Spans.{prefix_self, prefix_then}
use Rattle.cell_words.specs.declared.hub.Hub.{Hub}
use Rattle.cell_words.specs.declared.pass.Pass.{Pass}
use Rattle.cell_words.specs.declared.found.Removal.{Removal}
use Rattle.cell_words.specs.declared.found.Removal.TheVariants as removal
use Rattle.cell_words.specs.Hubs.{shape_of, seen_by, SameGiving}
use Rattle.cell_words.specs.Seen.{Seen, Sees, Makes, at_channel}
use Rattle.cell_words.specs.Answers.{MayRemove, MayRemoveHeld, RemovesFrom, VoidAt, Wakes}
use Rattle.cell_words.proofs.MayExchange.{same_acts}
use Rattle.cell_words.proofs.LooksAtCells.{sees_then}
use Rattle.cell_calls.specs.HubFloors.{hub_floor}

pub prefix_seen : (v w : Seen) → Sees v w → IsPrefix v.seen w.seen
prefix_seen v w s = (s.others, sym s.now)

pub prefix_made : (v w : Seen) (e : Entry) → Makes v e w → IsPrefix v.seen w.seen
prefix_made v w e m = prefix_then v.seen (v.seen ++ m.others) w.seen (m.others, refl) (e ∷ [], sym m.now)

module _ (hub : Hub) (who : ℕ) where
  pub looked_of : (a b : Pass) → has_tag who (seen_by a).tags ≡ true → Sees (seen_by a) (seen_by b)
      → Looked who (hub_floor hub a) (hub_floor hub b)
  looked_of a b own s = record {
    same = record { shape = refl; alone = refl; callers = ap {B = ℕ → Bool} (λ l t. has_tag t l) s.tags; order = s.order };
    longer = prefix_seen (seen_by a) (seen_by b) s;
    mine = ap (acts_of who) s.now ∙ same_acts who (seen_by a).seen s.others (s.apart who own);
    alone = λ e. absurd (true≢false (sym e));
    spare = omega arith;
  }

  -- an entry of the pass, after what it had looked at
  abbrev pub made_of : (a b : Pass) (x : Seen) (act : Act) → has_tag who (seen_by a).tags ≡ true → Sees (seen_by a) x
      → Makes x (record { who = who; act = act }) (seen_by b) → Made who act (hub_floor hub a) (hub_floor hub b)
  made_of a b x act own s m = record {
    same = record {
      shape = refl;
      alone = refl;
      callers = ap {B = ℕ → Bool} (λ l t. has_tag t l) (m.tags ∙ s.tags);
      order = order_then (seen_by a).order x.order (seen_by b).order s.order m.order;
    };
    before = x.seen ++ m.others;
    longer = prefix_append (seen_by a).seen x.seen m.others (prefix_seen (seen_by a) x s);
    mine = same_acts who x.seen m.others (m.apart who (ap (has_tag who) s.tags ∙ own)) ∙ ap (acts_of who) s.now
        ∙ same_acts who (seen_by a).seen s.others (s.apart who own);
    last = m.now;
    alone = λ e. absurd (true≢false (sym e));
    spare = omega arith;
  }

  -- at the moment of a look
  pub step_of : (a b : Pass) (x : Seen) (P : State → Type 0) → Sees (seen_by a) x → IsPrefix x.seen (seen_by b).seen → P (replay x.seen)
      → AtStep (hub_floor hub a) (hub_floor hub b) P
  step_of a b x P s later h = record { moment = x.seen; after = prefix_seen (seen_by a) x s; before = later; holds = h }

  -- and before the own entry
  pub moment_of : (a b : Pass) (x : Seen) (P : State → Type 0) → has_tag who (seen_by a).tags ≡ true → Sees (seen_by a) x
      → IsPrefix x.seen (seen_by b).seen → P (replay x.seen) → AtMoment who [] (hub_floor hub a) (hub_floor hub b) P
  moment_of a b x P own s later h = record {
    moment = x.seen;
    after = prefix_seen (seen_by a) x s;
    before = later;
    mine = ap (acts_of who) s.now ∙ same_acts who (seen_by a).seen s.others (s.apart who own)
        ∙ sym (append-nil (acts_of who (seen_by a).seen));
    holds = h;
  }

  -- it was so before, and is told of a later end
  pub moment_seen : (a x b : Pass) (P : State → Type 0) → AtMoment who [] (hub_floor hub a) (hub_floor hub x) P
      → IsPrefix (seen_by x).seen (seen_by b).seen → AtMoment who [] (hub_floor hub a) (hub_floor hub b) P
  moment_seen a x b P m later = record {
    moment = m.moment;
    after = m.after;
    before =
        prefix_then m.moment (seen_by x).seen (seen_by b).seen m.before later;
    mine = m.mine;
    holds = m.holds;
  }

  -- what is so at the end of a call that made no entry
  pub seen_of : (a b : Pass) (P : State → Type 0) → has_tag who (seen_by a).tags ≡ true → Sees (seen_by a) (seen_by b)
      → P (replay (seen_by b).seen) → Looked who (hub_floor hub a) (hub_floor hub b) × AtStep (hub_floor hub a) (hub_floor hub b) P
  seen_of a b P own s h = (looked_of a b own s, step_of a b (seen_by b) P s (prefix_self (seen_by b).seen) h)

  -- a channel that was closed, with nothing left
  pub closed_of : (a b : Pass) (c v : ℕ) → has_tag who (seen_by a).tags ≡ true → Sees (seen_by a) (seen_by b)
      → (at_channel (seen_by b).seen c).closed ≡ Some v → (at_channel (seen_by b).seen c).queue ≡ []
      → ClosedWith who c v (hub_floor hub a) (hub_floor hub b) × AtStep (hub_floor hub a) (hub_floor hub b) (IsDrainedAndClosed c)
  closed_of a b c v own s is none = let t = seen_of a b (IsDrainedAndClosed c) own s (record { is_closed = ap is_some is; nothing = none })
      in (record { looked = t.0; is_closed = is }, t.1)

  -- the element of an offer was taken
  pub taken_of : (a b : Pass) (x : Seen) (c p v : ℕ) (t : Option ℕ) → has_tag who (seen_by a).tags ≡ true → Sees (seen_by a) x
      → RemovesFrom removal.Take who c p v t x (seen_by b) → TakenFrom who c p v t (hub_floor hub a) (hub_floor hub b)
  taken_of a b x c p v t own s h = record { made = made_of a b x (Take c p v) own s h.made; from = h.from }

  -- the element of an offer of a cancelled channel was removed
  pub drained_of : (a b : Pass) (x : Seen) (c p v : ℕ) (t : Option ℕ) → has_tag who (seen_by a).tags ≡ true → Sees (seen_by a) x
      → RemovesFrom removal.Drain who c p v t x (seen_by b) → DrainedFrom who c p v t (hub_floor hub a) (hub_floor hub b)
  drained_of a b x c p v t own s h = record { made = made_of a b x (Drain c p v) own s h.made; from = h.from }

  -- the first receiver was told of the close
  pub woken_of : (a b : Pass) (x : Seen) (c p t : ℕ) → has_tag who (seen_by a).tags ≡ true → Sees (seen_by a) x
      → Wakes who c p t x (seen_by b) → WokenAt who c p t (hub_floor hub a) (hub_floor hub b)
  woken_of a b x c p t own s h = record { made = made_of a b x (WakeClosed c p) own s h.made; to = h.to }

  -- the channel was cancelled, now or before
  pub voided_of : (a b : Pass) (x : Seen) (c : ℕ) → has_tag who (seen_by a).tags ≡ true → Sees (seen_by a) x → (answer : Bool)
      → VoidAt who c x (seen_by b) answer → VoidAnswer who c (hub_floor hub a) (hub_floor hub b) answer
  voided_of a b x c own s true h = made_of a b x (Void c) own s h
  voided_of a b x c own s false h = (looked_of a b own (sees_then (seen_by a) x (seen_by b) s h.0), h.1)

  pub void_giving : (a b : Pass) (x : Seen) (c : ℕ) → Sees (seen_by a) x → (answer : Bool) → VoidAt who c x (seen_by b) answer
      → SameGiving a b
  void_giving a b x c s true h = h.giving ∙ s.giving
  void_giving a b x c s false h = h.0.giving ∙ s.giving

-- ---- a counter was raised

abbrev floor_seen : Hub → Seen → Floor
floor_seen hub v = record {
  shape = shape_of hub;
  seen = v.seen;
  spare = 4294967296;
  alone = false;
  callers = λ t. has_tag t v.tags;
  order =
      v.order;
}

-- a raise shows nothing, so the floor is as it was
pub same_floor : (hub : Hub) (a b : Pass) (P : Floor → Type 0) → seen_by b ≡ seen_by a → P (hub_floor hub a) → P (hub_floor hub b)
same_floor hub a b P e h = subst (λ (v : Seen). P (floor_seen hub v)) (sym e) h

-- ---- what lasts

pub voided_seen : (shape : Shape) (c : ℕ) (v w : Seen) → Sees v w → Legal shape w.seen → (at_channel v.seen c).voided ≡ true
    → (at_channel w.seen c).voided ≡ true
voided_seen shape c v w s l h = subst (λ (es : List Entry). (at_channel es c).voided ≡ true) (sym s.now)
    (voided_later shape v.seen s.others c (subst (Legal shape) s.now l) h)

-- what the removal of a held offer asked, that of one that was admitted does
pub may_admitted : (shape : Shape) (by : Removal) (c p : ℕ) (v w : Seen) → Sees v w → Legal shape w.seen → MayRemoveHeld by c v.seen
    → MayRemove by shape c p w.seen
may_admitted shape removal.Take c p v w s l h = tt
may_admitted shape removal.Drain c p v w s l h = voided_seen shape c v w s l h
may_admitted shape other c p v w s l h = absurd h

-- what was closed is not open
pub not_open : (shape : Shape) (c : ℕ) (v w : Seen) → Sees v w → Legal shape w.seen → is_some (at_channel v.seen c).closed ≡ true
    → (at_channel w.seen c).closed ≡ None → ⊥
not_open shape c v w s l h e = by_value (at_channel v.seen c).closed refl h
  where
    by_value : (x : Option ℕ) → (at_channel v.seen c).closed ≡ x → is_some x ≡ true → ⊥
    by_value None f k = cc
    by_value (Some y) f k =
        let later : (at_channel w.seen c).closed ≡ Some y = subst (λ (es : List Entry). (at_channel es c).closed ≡ Some y) (sym s.now)
        (closed_later shape v.seen s.others c y (subst (Legal shape) s.now l) f) in
        cc

-- ---- the ends of walks

-- no place is given out beyond the last
pub no_more_places : (shape : Shape) (log : List Entry) (c p : ℕ) → Legal shape log → p ≤ ((replay log).channels c).next
    → p ≤ places_at shape c
no_more_places shape log c p l h = let s = ((sound shape log l).channels c).within in omega arith

pub too_far : (shape : Shape) (log : List Entry) (c p n : ℕ) → Legal shape log → p ≤ ((replay log).channels c).next → n ≡ places_at shape c
    → n + 1 ≤ p → ⊥
too_far shape log c p n l h is le = let m = no_more_places shape log c p l h in omega arith

-- ---- the own wait

-- a wait has a place of its channel
pub wait_place : (shape : Shape) (log : List Entry) (who : ℕ) (w : WaitId) → Legal shape log → IsOwnWait who ((replay log).waits w)
    → w.place ≤ places_at shape w.channel
wait_place shape log who w l own = let s = sound shape log l in dite (dec_le ((replay log).channels w.channel).next w.place)
    (λ le. absurd (began ((replay log).waits w) own (s.placed w le)))
    (λ lt. let t = (s.channels w.channel).within in omega arith)
  where
    began : (x : Option Wait) → IsOwnWait who x → x ≡ None → ⊥
    began None h e = h
    began (Some x) h e = cc

pub ready_place : (shape : Shape) (log : List Entry) (who : ℕ) (w : WaitId) → Legal shape log → IsReadyWait who ((replay log).waits w)
    → w.place ≤ places_at shape w.channel
ready_place shape log who w l h = wait_place shape log who w l (own ((replay log).waits w) h)
  where
    own : (x : Option Wait) → IsReadyWait who x → IsOwnWait who x
    own None h = h
    own (Some x) h = h.0
