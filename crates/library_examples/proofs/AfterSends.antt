-- What stands after a send, and where a receive waits.
use Rattle.std.specs.Prelude.{◌≡◌, ℕ, ◌==◌, Bool, true, false, List, [], ◌∷◌, ◌++◌, Ok, refl, if◌then◌else◌}
use Rattle.std.proofs.Common.{sym, ap, ◌∙◌, subst}
use Rattle.co_base.specs.declared.names.WaitId.{WaitId}
use Rattle.channel_model.specs.declared.acts.Act.{Act}
use Rattle.channel_model.specs.Answers.{IsUnsettledOf}
use Rattle.channel_model.specs.Channels.{kind_at, is_signal}
use Rattle.channel_model.specs.Histories.{Legal, acts_of}
use Rattle.channel_model.specs.Floors.{Floor, MayCall, Added, entries_by}
use Rattle.channel_model.proofs.Histories.{acts_of-append}
use Rattle.channel_model.proofs.Others.{others_keep, unsettled_stays}
use Rattle.channel_model.proofs.Spans.{nothing_more}
use Rattle.note_book.specs.declared.book.Item.{Item}
use Rattle.note_book.specs.Items.{channel_acts_in}
use Rattle.call_meaning.specs.Seen.{SeenOnChannels}
use Rattle.call_meaning.specs.Telling.{Told, items_in}
use Rattle.call_meaning.specs.ChannelCalls.{Call, receives, Answer, Done, Got, Closed, Waits, NoPlace, LooksAgain, AtOnce, Refused, PlainCall, channel_of}
use Rattle.channel_calls.specs.declared.caller.SendAnswer.{SendAnswer}
use Rattle.channel_calls.specs.declared.caller.SendAnswer.TheVariants as send
use Rattle.channel_calls.specs.declared.caller.ReceiveAnswer.TheVariants as receive
use Rattle.channel_calls.specs.Calls.{ReceivedAnswer, SentAnswer}
use Rattle.channel_calls.proofs.Roomed.{HoldsAt}

-- ---- a send

-- the sender's acts were added
pub sent_added : (c v : ℕ) (a b : SeenOnChannels) (r : SendAnswer) → SentAnswer c v a b (Ok r)
    → (acts : List Act) × Added a.who acts a.floor b.floor
sent_added c v a b send.Sent s = (channel_acts_in (items_in s.told), s.left.added)
sent_added c v a b (send.Waits w) s = (channel_acts_in (items_in s.0.told), s.0.left.added)
sent_added c v a b (send.Closed x) s = (channel_acts_in (items_in s.0.told), s.0.left.added)
sent_added c v a b send.Spent s = (channel_acts_in (items_in s.told), s.left.added)

-- whoever might call may still call
pub call_added : (who k c : ℕ) (acts : List Act) (a b : Floor) → Added k acts a b → MayCall who c a → MayCall who c b
call_added who k c acts a b h m = record {
  caller = ap (λ (t : ℕ → Bool). t who) h.same.callers
      ∙ m.caller;
  channel = rw h.same.shape m.channel;
}

none_of : (who k : ℕ) (acts : List Act) → (k == who) ≡ false → acts_of who (entries_by k acts) ≡ []
unfolding acts_of
none_of who k [] n = refl
none_of who k (act ∷ acts) n = ap (λ b. if b then act ∷ acts_of who (entries_by k acts) else acts_of who (entries_by k acts)) n
    ∙ none_of who k acts n

-- where nobody else makes entries, a wait of another goes on to be held
pub holds_added : (who k : ℕ) (acts : List Act) (w : WaitId) (a b : Floor) → Legal b.shape b.seen → a.alone ≡ true → (k == who) ≡ false
    → Added k acts a b → HoldsAt who w a → HoldsAt who w b
holds_added who k acts w a b l alone n h holds =
    let mine : acts_of who b.seen ≡ acts_of who a.seen =
    ap (acts_of who) (h.alone alone) ∙ acts_of-append who a.seen (entries_by k acts)
    ∙ ap (λ xs. acts_of who a.seen ++ xs) (none_of who k acts n) ∙ nothing_more (acts_of who a.seen) in
    others_keep b.shape who (IsUnsettledOf who) (unsettled_stays who) w a.seen b.seen l h.longer mine holds

-- ---- a receive

-- a wait is named for the channel
abbrev WaitsAt : ℕ → Answer → Type 0
WaitsAt c Done = Unit {0}
WaitsAt c (Got v) = Unit {0}
WaitsAt c (Closed v) = Unit {0}
WaitsAt c (Waits w) = w.channel ≡ c
WaitsAt c NoPlace = Unit {0}
WaitsAt c LooksAgain = Unit {0}

at_once_waits : (call : Call) (told : List Told) (a : Answer) → AtOnce call told a → WaitsAt (channel_of call) a
at_once_waits _ _ _ (AtOnce.hands c v q) = tt
at_once_waits _ _ _ (AtOnce.puts c v q more h) = tt
at_once_waits _ _ _ (AtOnce.takes c v q admits h) = tt

refused_waits : (call : Call) (told : Told) (a : Answer) → Refused call told a → WaitsAt (channel_of call) a
refused_waits _ _ _ (Refused.send c v u) = tt
refused_waits _ _ _ (Refused.receive c u) = tt

waits_at : (call : Call) (told : List Told) (a : Answer) → PlainCall call told a → WaitsAt (channel_of call) a
waits_at _ _ _ (PlainCall.at_once call group a h) = at_once_waits call group a h
waits_at _ _ _ (PlainCall.refused call told a h) = refused_waits call told a h
waits_at _ _ _ (PlainCall.no_place call all is) = tt
waits_at _ _ _ (PlainCall.offers c v q admits h) = refl
waits_at _ _ _ (PlainCall.offer_ends c v q admits settles all h e is) = tt
waits_at _ _ _ (PlainCall.awaits c q) = refl

-- the wait of a receive is named for its channel
received_at : (c : ℕ) (w : WaitId) (told : List Told) → PlainCall (receives c) told (Waits w) → w.channel ≡ c
received_at c w told h = waits_at (receives c) told (Waits w) h

-- ---- a send behind a receive that waits

-- what a coroutine sees
abbrev sees : ℕ → Floor → List Item → SeenOnChannels
sees who floor items = record { who = who; floor = floor; items = items }

-- behind a receive that waits whoever might call still may
pub may_call_behind : (who c : ℕ) (w : WaitId) (a b : Floor) (i j : List Item)
    → ReceivedAnswer c (sees 1 a i) (sees 1 b j) (Ok (receive.Waits w)) → MayCall who c a → MayCall who c b
may_call_behind who c w a b i j h m = call_added who 1 c _ a b h.0.left.added m

-- and the channel carries elements still
pub kind_behind : (c : ℕ) (w : WaitId) (a b : Floor) (i j : List Item)
    → ReceivedAnswer c (sees 1 a i) (sees 1 b j) (Ok (receive.Waits w)) → is_signal (kind_at a.shape c) ≡ false
    → is_signal (kind_at b.shape c) ≡ false
kind_behind c w a b i j h k = rw h.0.left.added.same.shape k

-- whoever waits may still call for its wait
pub may_call_waiting : (c v : ℕ) (w : WaitId) (a b d : Floor) (i j k l : List Item) (r : SendAnswer)
    → ReceivedAnswer c (sees 1 a i) (sees 1 b j) (Ok (receive.Waits w)) → SentAnswer c v (sees 2 b k) (sees 2 d l) (Ok r) → MayCall 1 c a
    → MayCall 1 w.channel d
may_call_waiting c v w a b d i j k l r h s m =
    let t = sent_added c v (sees 2 b k) (sees 2 d l) r s in
    subst (λ n. MayCall 1 n d) (sym (received_at c w h.0.told h.0.goes))
    (call_added 1 2 c t.0 b d t.1 (call_added 1 1 c _ a b h.0.left.added m))

-- and its wait is held
pub holds_waiting : (c v : ℕ) (w : WaitId) (a b d : Floor) (i j k l : List Item) (r : SendAnswer) → Legal d.shape d.seen → a.alone ≡ true
    → ReceivedAnswer c (sees 1 a i) (sees 1 b j) (Ok (receive.Waits w)) → SentAnswer c v (sees 2 b k) (sees 2 d l) (Ok r) → HoldsAt 1 w d
holds_waiting c v w a b d i j k l r legal alone h s =
    let t = sent_added c v (sees 2 b k) (sees 2 d l) r s in
    holds_added 1 2 t.0 w b d legal (h.0.left.added.same.alone ∙ alone) refl t.1 h.1.holds
