-- Notes that compare as equal are the same.
use Rattle.std.proofs.Common.{rules, ◌≡◌, refl, ap, Bool, true, false, ◌&&◌}
use Rattle.co_base.specs.contracts.names.WaitIdPartialEq.TheImpl as of_wait
use Rattle.co_base.specs.declared.names.WaitId.{WaitId}
use Rattle.channel_model.specs.contracts.acts.ActPartialEq.TheImpl as of_act
use Rattle.channel_model.specs.contracts.acts.ChannelNotePartialEq.TheImpl as of_note
use Rattle.channel_model.specs.contracts.acts.SettledPartialEq.TheImpl as of_settled
use Rattle.channel_model.specs.declared.acts.Act.{Act}
use Rattle.channel_model.specs.declared.acts.Act.TheVariants as act
use Rattle.channel_model.specs.declared.acts.ChannelNote.{ChannelNote}
use Rattle.channel_model.specs.declared.acts.ChannelNote.TheVariants as note
use Rattle.channel_model.specs.declared.acts.Settled.{Settled}
use Rattle.channel_model.specs.declared.acts.Settled.TheVariants as settled

no : {A : Type 0} → false ≡ true → A
no is = let none : ⊥ = cc in absurd none

same_settled : (l r : Settled) → (of_settled.ghosts).eq l r ≡ true → l ≡ r
same_settled (settled.Value clause value) (settled.Value k v) is = search rules
same_settled (settled.Value clause value) other is = no is
same_settled (settled.Sent clause) (settled.Sent k) is = search rules
same_settled (settled.Sent clause) other is = no is
same_settled (settled.Closed clause value) (settled.Closed k v) is = search rules
same_settled (settled.Closed clause value) other is = no is
same_settled settled.Cancelled settled.Cancelled is = refl
same_settled settled.Cancelled other is = no is
same_settled (settled.Undelivered value) (settled.Undelivered v) is = search rules
same_settled (settled.Undelivered value) other is = no is

both : (x y : Bool) → (x && y) ≡ true → (x ≡ true) × (y ≡ true)
both true y is = (refl, is)
both false y is = no is

same_wait : (l r : WaitId) → (of_wait.ghosts).eq l r ≡ true → l ≡ r
same_wait l r is = search rules

settled_so : (w u : WaitId) (o p : Settled) → w ≡ u → o ≡ p → act.Settle w o ≡ act.Settle u p
settled_so w u o p same_w same_o = search

same_act : (l r : Act) → (of_act.ghosts).eq l r ≡ true → l ≡ r
same_act (act.Hand c place value) (act.Hand d p v) is = search rules
same_act (act.Hand c place value) other is = no is
same_act (act.Put c place value) (act.Put d p v) is = search rules
same_act (act.Put c place value) other is = no is
same_act (act.Offer c place value main clause) (act.Offer d p v m k) is = search rules
same_act (act.Offer c place value main clause) other is = no is
same_act (act.Await c place main clause) (act.Await d p m k) is = search rules
same_act (act.Await c place main clause) other is = no is
same_act (act.Take c place value) (act.Take d p v) is = search rules
same_act (act.Take c place value) other is = no is
same_act (act.Admit c place) (act.Admit d p) is = search rules
same_act (act.Admit c place) other is = no is
same_act (act.Drop c place value) (act.Drop d p v) is = search rules
same_act (act.Drop c place value) other is = no is
same_act (act.Spurn c place value) (act.Spurn d p v) is = search rules
same_act (act.Spurn c place value) other is = no is
same_act (act.Close c value) (act.Close d v) is = search rules
same_act (act.Close c value) other is = no is
same_act (act.Void c) (act.Void d) is = search rules
same_act (act.Void c) other is = no is
same_act (act.Drain c place value) (act.Drain d p v) is = search rules
same_act (act.Drain c place value) other is = no is
same_act (act.WakeClosed c place) (act.WakeClosed d p) is = search rules
same_act (act.WakeClosed c place) other is = no is
same_act (act.Withdraw w why) (act.Withdraw u y) is = search rules
same_act (act.Withdraw w why) other is = no is
same_act (act.Settle w outcome) (act.Settle u other) is =
    settled_so w u outcome other (same_wait w u (both _ _ is).0) (same_settled outcome other (both _ _ is).1)
same_act (act.Settle w outcome) other is = no is

-- two notes that compare as equal are one
pub same_note : (l r : ChannelNote) → (of_note.ghosts).eq l r ≡ true → l ≡ r
same_note (note.Made made) (note.Made other) is = ap note.Made (same_act made other is)
same_note (note.Made made) other is = no is
same_note (note.SendClosed c value v) (note.SendClosed d x y) is = search rules
same_note (note.SendClosed c value v) other is = no is
same_note (note.TrySendClosed c value v) (note.TrySendClosed d x y) is = search rules
same_note (note.TrySendClosed c value v) other is = no is
same_note (note.ReceiveClosed c v) (note.ReceiveClosed d y) is = search rules
same_note (note.ReceiveClosed c v) other is = no is
same_note (note.TryReceiveClosed c v) (note.TryReceiveClosed d y) is = search rules
same_note (note.TryReceiveClosed c v) other is = no is
same_note (note.AlreadyClosed c v) (note.AlreadyClosed d y) is = search rules
same_note (note.AlreadyClosed c v) other is = no is
same_note (note.Full c value) (note.Full d x) is = search rules
same_note (note.Full c value) other is = no is
same_note (note.Empty c) (note.Empty d) is = search rules
same_note (note.Empty c) other is = no is
same_note (note.Spent c) (note.Spent d) is = search rules
same_note (note.Spent c) other is = no is
same_note (note.Partner c place) (note.Partner d p) is = search rules
same_note (note.Partner c place) other is = no is
same_note (note.MainResolved w) (note.MainResolved u) is = search rules
same_note (note.MainResolved w) other is = no is
same_note (note.Late w) (note.Late u) is = search rules
same_note (note.Late w) other is = no is
