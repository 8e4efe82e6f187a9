-- A select that waits has a wait of its own, which it may end once that is resolved.
use Rattle.std.specs.Prelude.{◌≡◌, ℕ, zero, suc, ◌≤◌, true, false, List, [], ◌∷◌, ◌++◌, length, map, Option, Some, Ok, slice_get, refl}
use Rattle.std.proofs.Common.{sym, ap, ◌∙◌, subst, arith, append_assoc}
use Rattle.co_base.specs.declared.names.WaitId.{WaitId}
use Rattle.channel_model.specs.declared.acts.Act.{Act}
use Rattle.channel_model.specs.declared.acts.Act.TheVariants.{Offer, Await}
use Rattle.channel_model.specs.Channels.{kind_at, is_signal}
use Rattle.channel_model.specs.Histories.{acts_of, Legal}
use Rattle.channel_model.specs.Floors.{Floor, SameSetting}
use Rattle.channel_model.specs.Answers.{IsOwn}
use Rattle.note_book.specs.Items.{channel_acts_in}
use Rattle.note_book.proofs.Appended.{channel_acts_in-append}
use Rattle.call_meaning.specs.Seen.{SeenOnChannels, MayCallChannel}
use Rattle.call_meaning.specs.Telling.{Told, items_in, made}
use Rattle.call_meaning.specs.ChannelCalls.{Call, sends, receives, Answer, Waits, AtOnce, Refused, blocked, wait_at, Begins, Stops, SelectCall, channel_of}
use Rattle.call_meaning.proofs.ChannelsHeard.{items_in-append}
use Rattle.floor_rows.proofs.WaitsBegun.{Begun, begun_own}
use Rattle.select_calls.specs.Clauses.{MaySelect}
use Rattle.select_calls.specs.Selects.{SelectedAnswer}
use Rattle.select_calls.specs.declared.clause.SelectAnswer.{SelectAnswer}
use Rattle.select_calls.specs.declared.clause.SelectAnswer.TheVariants as answer

-- ---- what the select told

record TellsBegun (w : WaitId) (told : List Told) : Type 0 where
  earlier : List Told
  act : Act
  more : List Told
  all : told ≡ earlier ++ made act ∷ more
  begun : Begun w act

group_begun : (w : WaitId) (xs group ys : List Told) → Begins w group → TellsBegun w (xs ++ (group ++ ys))
group_begun _ xs _ ys (Begins.send c v q more) = record {
  earlier = xs;
  act = Offer c q v (wait_at c q) 1;
  more = more
      ++ ys;
  all = refl;
  begun = Begun.offer c q v 1;
}
group_begun _ xs _ ys (Begins.receive c q more) = record {
  earlier = xs;
  act = Await c q (wait_at c q) 1;
  more = more
      ++ ys;
  all = refl;
  begun = Begun.await c q 1;
}

told_begun : (u w : WaitId) (xs group ys told : List Told) → Begins u group → Waits u ≡ Waits w → told ≡ xs ++ (group ++ ys)
    → TellsBegun w told
told_begun u w xs group ys told b q e =
    let same : u ≡ w = cc in
    subst (λ (v : WaitId). TellsBegun v told) same (subst (TellsBegun u) (sym e) (group_begun u xs group ys b))

at_once_never : (call : Call) (group : List Told) (a : Answer) (w : WaitId) → AtOnce call group a → a ≡ Waits w → ⊥
at_once_never _ _ _ w (AtOnce.hands c v q) e = cc
at_once_never _ _ _ w (AtOnce.puts c v q more d) e = cc
at_once_never _ _ _ w (AtOnce.takes c v q admits d) e = cc

refused_never : (call : Call) (told : Told) (a : Answer) (w : WaitId) → Refused call told a → a ≡ Waits w → ⊥
refused_never _ _ _ w (Refused.send c v u) e = cc
refused_never _ _ _ w (Refused.receive c u) e = cc

stops_never : (call : Call) (told : List Told) (a : Answer) (w : WaitId) → Stops call told a → a ≡ Waits w → ⊥
stops_never _ _ _ w (Stops.receiver c v q) e = cc
stops_never _ _ _ w (Stops.offer c q) e = cc
stops_never _ _ _ w (Stops.closed call told a r) e = cc
stops_never _ _ _ w (Stops.no_place call all s) e = cc

select_begun : (calls : List Call) (told : List Told) (a : Answer) (w : WaitId) → SelectCall calls told a → a ≡ Waits w → TellsBegun w told
select_begun calls _ _ w (SelectCall.chooses before later call group all a f h e) q = absurd (at_once_never call group a w h q)
select_begun calls _ _ w (SelectCall.meets_close before later call t all a f h e) q = absurd (refused_never call t a w h q)
select_begun calls _ _ w (SelectCall.no_place before later c v all f e) q = absurd (let u : ⊥ = cc in u)
select_begun calls _ _ w (SelectCall.waits u group admits all h d e) q = told_begun u w (map blocked calls) group admits _ h.begins q e
select_begun calls _ _ w (SelectCall.resolved u before later call group admits all f h d e) q =
    told_begun u w (map blocked calls) group _ _ h.begins q e
select_begun calls _ _ w (SelectCall.stops_at_first later call stop all a f h e) q = absurd (stops_never call stop a w h q)
select_begun calls _ _ w (SelectCall.stops u before later call group stop admits all a f h s d e) q = absurd (stops_never call stop a w s q)
select_begun calls _ _ w (SelectCall.stops_late u before later call group stop admits all a f h s d e) q =
    told_begun u w (map blocked calls) group _ _ h.begins q (e ∙ ap (λ (l : List Told). map blocked calls ++ l) (append_assoc group stop _))

acts_begun : (told earlier more : List Told) (act : Act) → told ≡ earlier ++ made act ∷ more
    → channel_acts_in (items_in told) ≡ channel_acts_in (items_in earlier) ++ act ∷ channel_acts_in (items_in more)
unfolding items_in
acts_begun told earlier more act e =
    ap (λ (l : List Told). channel_acts_in (items_in l)) e
    ∙ ap channel_acts_in (items_in-append earlier (made act ∷ more))
    ∙ channel_acts_in-append (items_in earlier) (items_in (made act ∷ more))

-- ---- the wait of a select

same_wait : (u w : WaitId) (held : Option WaitId) → held ≡ Some u → held ≡ Some w → u ≡ w
same_wait u w held p q = cc

owns : (calls : List Call) (old new : SeenOnChannels) (held : Option WaitId) (w : WaitId) → Legal new.floor.shape new.floor.seen
    → SelectedAnswer calls old new held (Ok answer.Waiting) → held ≡ Some w → IsOwn old.who w new.floor
owns calls old new held w l h q =
    let t = h.3 in
    let who : ℕ = old.who in
    let b = select_begun calls t.told (Waits h.0) w t.goes (ap (λ (u : WaitId). Waits u) (same_wait h.0 w held h.1 q)) in
    let mine : acts_of who new.floor.seen ≡ (acts_of who old.floor.seen ++ channel_acts_in (items_in b.earlier))
    ++ b.act ∷ channel_acts_in (items_in b.more) =
    t.left.added.mine
    ∙ ap (λ (l : List Act). acts_of who old.floor.seen ++ l) (acts_begun t.told b.earlier b.more b.act b.all)
    ∙ sym (append_assoc (acts_of who old.floor.seen) (channel_acts_in (items_in b.earlier)) (b.act ∷ channel_acts_in (items_in b.more))) in
    begun_own new.floor.shape who w new.floor.seen _ _ b.act l mine b.begun

-- the wait is the caller's, on a floor that is as it was but for the entries
pub record IsLeftWith (who : ℕ) (w : WaitId) (old new : Floor) : Type 0 where
  pub own : IsOwn who w new
  pub same : SameSetting old new

pub waiting_leaves : (who : ℕ) (calls : List Call) (old new : SeenOnChannels) (held : Option WaitId) (w : WaitId) (a : SelectAnswer)
    → who ≡ old.who → a ≡ answer.Waiting → Legal new.floor.shape new.floor.seen → SelectedAnswer calls old new held (Ok a) → held ≡ Some w
    → IsLeftWith who w old.floor new.floor
waiting_leaves who calls old new held w a m e l h q =
    let h' : SelectedAnswer calls old new held (Ok answer.Waiting) =
    subst (λ (x : SelectAnswer). SelectedAnswer calls old new held (Ok x)) e h in
    record { own = subst (λ n. IsOwn n w new.floor) (sym m) (owns calls old new held w l h' q); same = h'.3.left.added.same }

-- ---- who may select

pub may_select : (seen : SeenOnChannels) → seen.floor.callers seen.who ≡ true → 2 ≤ length seen.floor.shape
    → MaySelect (receives 0 ∷ receives 1 ∷ []) seen
may_select seen c n = record {
  some = omega arith;
  few = omega arith;
  may_call = call_at;
  no_signal = no_send;
  apart = two;
}
  where
    call_at : (i : ℕ) (call : Call) → slice_get (receives 0 ∷ receives 1 ∷ []) i ≡ Some call → MayCallChannel (channel_of call) seen
    call_at zero call e = let is : receives 0 ≡ call = cc
        in subst (λ (x : Call). MayCallChannel (channel_of x) seen) is (record { caller = c; channel = omega arith })
    call_at (suc zero) call e = let is : receives 1 ≡ call = cc
        in subst (λ (x : Call). MayCallChannel (channel_of x) seen) is (record { caller = c; channel = omega arith })
    call_at (suc (suc i)) call e = cc

    no_send : (i c v : ℕ) → slice_get (receives 0 ∷ receives 1 ∷ []) i ≡ Some (sends c v) → is_signal (kind_at seen.floor.shape c) ≡ false
    no_send zero c v e = cc
    no_send (suc zero) c v e = cc
    no_send (suc (suc i)) c v e = cc

    two : (i j : ℕ) (a b : Call) → slice_get (receives 0 ∷ receives 1 ∷ []) i ≡ Some a → slice_get (receives 0 ∷ receives 1 ∷ []) j ≡ Some b
        → channel_of a ≡ channel_of b → i ≡ j
    two zero zero a b p q e = refl
    two zero (suc zero) a b p q e =
        let x : receives 0 ≡ a = cc in
        let y : receives 1 ≡ b = cc in
        let u : 0 ≡ 1 = ap channel_of x ∙ e ∙ sym (ap channel_of y) in
        absurd (omega (arith, u))
    two (suc zero) zero a b p q e =
        let x : receives 1 ≡ a = cc in
        let y : receives 0 ≡ b = cc in
        let u : 1 ≡ 0 = ap channel_of x ∙ e ∙ sym (ap channel_of y) in
        absurd (omega (arith, u))
    two (suc zero) (suc zero) a b p q e = refl
    two (suc (suc i)) j a b p q e = cc
    two zero (suc (suc j)) a b p q e = cc
    two (suc zero) (suc (suc j)) a b p q e = cc
