-- At the end of a run no channel that does not keep its latest has an element that is too many.
use Rattle.std.proofs.Common.{◌≡◌, ℕ, arith, Bool, true, false, ◌&&◌, List, [], ◌∷◌, ◌++◌, refl, ap, sym, ◌∙◌, subst, ⊎_elim, Some, None}
use Rattle.std.specs.Prelude.{◌==◌, ◌||◌, ◌+◌, not}
use Rattle.std.proofs.lemmas.List.{append-nil}
use Rattle.std.proofs.lemmas.Bool.{eqb-true, eq-eqb, both_ways, not-true, or_from, or_cases, or_parts, and_parts, cond_both, cond-true}
use Rattle.channel_model.specs.declared.acts.Act.{Act}
use Rattle.channel_model.specs.declared.acts.Act.TheVariants.{Put, Offer, Await, Spurn, Close, Void}
use Rattle.channel_model.specs.declared.acts.Entry.{Entry}
use Rattle.channel_model.specs.declared.acts.Kind.{Kind}
use Rattle.channel_model.specs.declared.acts.Kind.TheVariants.{Rendezvous}
use Rattle.channel_model.specs.declared.standing.Standing.{Standing}
use Rattle.channel_model.specs.Channels.{Shape, State, Channel, start, kind_at, spurns, suspends}
use Rattle.channel_model.specs.Effects.{after, is_open, is_elsewhere, spurned}
use Rattle.channel_model.specs.Needs.{Needs}
use Rattle.channel_model.specs.Histories.{replay, Legal}
use Rattle.channel_model.specs.Owing.{owes_spurn, owes_spurn_at}
use Rattle.job_model.specs.declared.acts.JobEntry.{JobEntry}
use Rattle.note_book.specs.declared.book.Item.{Item}
use Rattle.call_meaning.specs.Telling.{Told, on_channels, StandsWithRoom, made}
use Rattle.script_grammar.specs.Programs.{Program}
use Rattle.script_meaning.specs.Shapes.{floor_shape}
use Rattle.script_meaning.specs.Books.{BooksOf}
use Rattle.script_meaning.proofs.Debts.{part, state_after}
use Rattle.script_meaning.proofs.Payments.{acts_told, takes_off}
use Rattle.script_meaning.proofs.ActsFollowed.{call_told, IsSpurned, Follows}
use Rattle.script_meaning.proofs.ChannelStories.{step, who_did, deed, CallHolds, CallsSo, same_state}
use Rattle.script_laws.proofs.ChannelDebts.{CallDebt, BehindOf, CallPaidAt, nobody_owes, needs_there}
use Rattle.script_laws.proofs.ClosedChannels.{less_after, by_put, receiver_queue}
use Rattle.script_laws.proofs.QueuesFit.{IsPutAt}

abbrev owes_at : Shape → ℕ → ℕ → State → Bool
owes_at shape c q s = owes_spurn_at (kind_at shape c) q 0 (s.channels c).queue

-- a channel of this kind owes it, whatever the others are
abbrev owes_in : Kind → ℕ → Channel → Bool
owes_in kind q ch = owes_spurn_at kind q 0 ch.queue

-- ---- which act raises it

waiting_spurns : (kind : Kind) (n : ℕ) → suspends kind ≡ true → spurns kind n ≡ true → ⊥
waiting_spurns Rendezvous n s d = cc
waiting_spurns other n s d = cc

-- a kind whose sends wait owes none
none_waits : (kind : Kind) (q n : ℕ) (os : List Standing) → suspends kind ≡ true → owes_spurn_at kind q n os ≡ true → ⊥
none_waits kind q n [] s e = cc
none_waits kind q n (o ∷ os) s e = ⊎_elim (λ k. waiting_spurns kind n s (and_parts _ _ k).1) (none_waits kind q (n + 1) os s)
    (or_cases _ _ e)

-- one more offer at the end: it was owed before, or the offer is that of the place
pushed_owes : (kind : Kind) (q n : ℕ) (os : List Standing) (o : Standing) → owes_spurn_at kind q n os ≡ false
    → owes_spurn_at kind q n (os ++ o ∷ []) ≡ true → o.place ≡ q
pushed_owes kind q n [] o f t = ⊎_elim (λ k. eqb-true o.place q (and_parts _ _ k).0) (λ k. cc) (or_cases _ false t)
pushed_owes kind q n (x ∷ os) o f t =
    let none = or_parts _ _ f in
    pushed_owes kind q (n + 1) os o none.1 (⊎_elim (λ k. absurd (both_ways _ none.0 k)) (λ k. k) (or_cases _ _ t))

spurn_raised : (shape : Shape) (s : State) (who c q : ℕ) (act : Act) → Needs shape s who act → owes_at shape c q s ≡ false
    → owes_at shape c q (after s who act) ≡ true → IsPutAt c q act
spurn_raised shape s who c q (Put d r v) n f t = by_put ((d ≡ c) × (r ≡ q)) (owes_in (kind_at shape c) q) s d c _ f t
    (λ e g h. (e, pushed_owes (kind_at shape c) q 0 (s.channels d).queue (record { place = r; value = v; holder = None }) g h))
spurn_raised shape s who c q (Offer d r v w k) n f t = absurd (by_put ⊥ (owes_in (kind_at shape c) q) s d c _ f t
    (λ e g. none_waits (kind_at shape c) q 0 _ (subst (λ u. suspends (kind_at shape u) ≡ true) e n.3)))
spurn_raised shape s who c q (Await d r w k) n f t = absurd (by_put ⊥ (owes_in (kind_at shape c) q) s d c _ f t
    (λ e g h. both_ways _ g (ap (owes_spurn_at (kind_at shape c) q 0) (sym (receiver_queue (is_open (s.waits w)) _ (s.channels d))) ∙ h)))
spurn_raised shape s who c q (Close d v) n f t = absurd (by_put ⊥ (owes_in (kind_at shape c) q) s d c _ f t (λ e. both_ways _))
spurn_raised shape s who c q (Void d) n f t = absurd (by_put ⊥ (owes_in (kind_at shape c) q) s d c _ f t (λ e. both_ways _))
spurn_raised shape s who c q other n f t = absurd
    (both_ways (owes_at shape c q s) f ((less_after s who other refl c).spurn (kind_at shape c) q 0 0 (omega arith) t))

-- ---- what takes it away

-- an offer that is gone is not too many
gone_owes : (kind : Kind) (q n : ℕ) (os : List Standing) → owes_spurn_at kind q n (spurned q os) ≡ false
gone_owes kind q n [] = refl
gone_owes kind q n (o ∷ os) =
    cond_both (is_elsewhere q o) (o ∷ spurned q os) (spurned q os) (λ l. owes_spurn_at kind q n l ≡ false)
    (λ e. ap (λ b. (b && spurns kind n) || owes_spurn_at kind q (n + 1) (spurned q os)) (not-true (o.place == q) e)
    ∙ gone_owes kind q (n + 1) os) (λ e. gone_owes kind q n os)

spurned_owes : (shape : Shape) (s : State) (who c q v : ℕ) → owes_at shape c q (after s who (Spurn c q v)) ≡ false
spurned_owes shape s who c q v = ap (owes_in (kind_at shape c) q) (cond-true (c == c) _ _ (eq-eqb c c refl))
    ∙ gone_owes (kind_at shape c) q 0 (s.channels c).queue

spurn_pays : (shape : Shape) (channels : List Entry) (c q k : ℕ) (act : Act) (before : List Entry) (ys : List Told)
    → BehindOf shape k channels before act ys → IsPutAt c q act → Follows act ys
    → CallPaidAt shape k (owes_at shape c q) (IsPutAt c q) channels (part who_did deed k before ++ act ∷ [])
spurn_pays shape channels c q k (Put d r v) before ys b e f =
    takes_off step start who_did deed k call_told (CallHolds shape) (owes_at shape c q) (IsPutAt c q) Follows channels (IsSpurned d r)
    (λ t at more parts holds m is. ⊎_elim
    (λ (i : t ≡ on_channels (StandsWithRoom d r)).
    subst (λ s. owes_at shape c q s ≡ false) (sym (same_state start at))
    (subst (λ u. owes_at shape c u (replay at) ≡ false) e.1
    (subst (λ u. owes_at shape u r (replay at) ≡ false) e.0 (subst (λ u. CallHolds shape u at) i holds))))
    (λ (i : (x : ℕ) × (t ≡ made (Spurn d r x))). absurd (let g : Some (Spurn d r i.0) ≡ None = ap call_told (sym i.1) ∙ m in cc))
    is)
    (λ t a m is earlier rest x parts g. ⊎_elim
    (λ (i : t ≡ on_channels (StandsWithRoom d r)). absurd (let h : None ≡ Some a = ap call_told (sym i) ∙ m in cc))
    (λ (i : (y : ℕ) × (t ≡ made (Spurn d r y))).
    let h : Some (Spurn d r i.0) ≡ Some a = ap call_told (sym i.1) ∙ m in
    let same : Spurn d r i.0 ≡ x.act = some_same (Spurn d r i.0) a h ∙ sym g in
    let s : State = state_after step start earlier in
    subst (λ u. owes_at shape c q (after s x.who u) ≡ false) same
    (subst (λ u. owes_at shape c u (after s x.who (Spurn d r i.0)) ≡ false) e.1
    (subst (λ u. owes_at shape u r (after s x.who (Spurn d r i.0)) ≡ false) e.0 (spurned_owes shape s x.who d r i.0))))
    is)
    (part who_did deed k before ++ Put d r v ∷ []) [] ys
    (b.0 ∙ ap (λ l. l ++ acts_told step start who_did deed k call_told (CallHolds shape) ys)
    (sym (append-nil (part who_did deed k before ++ Put d r v ∷ []))))
    (subst (λ l. CallsSo shape k channels l ys) (sym (append-nil (part who_did deed k before ++ Put d r v ∷ []))) b.1)
    f.1
  where
    some_same : (x y : Act) → Some x ≡ Some y → x ≡ y
    some_same x y e = cc
spurn_pays shape channels c q k other before ys b e f = absurd e

spurn_debt : (shape : Shape) (channels : List Entry) → Legal shape channels → (c q : ℕ) → CallDebt shape channels
spurn_debt shape channels l c q = record {
  owes = owes_at shape c q;
  Raises = IsPutAt c q;
  first = refl;
  rises = λ before e rest parts f t. spurn_raised shape (replay before) e.who c q e.act (needs_there shape channels before e rest l parts) f
      t;
  pays = λ k before e rest ys parts mine owed behind r f. spurn_pays shape channels c q k e.act before ys behind r f;
}

-- ---- at the end

none_at_all : (kind : Kind) (n : ℕ) (os : List Standing) → ((q : ℕ) → owes_spurn_at kind q n os ≡ false) → owes_spurn kind n os ≡ false
none_at_all kind n [] h = refl
none_at_all kind n (o ∷ os) h =
    or_from (spurns kind n) (owes_spurn kind (n + 1) os)
    (sym (ap (λ b. b && spurns kind n) (eq-eqb o.place o.place refl)) ∙ (or_parts _ (owes_spurn_at kind o.place (n + 1) os) (h o.place)).0)
    (none_at_all kind (n + 1) os (λ q. (or_parts ((o.place == q) && spurns kind n) (owes_spurn_at kind q (n + 1) os) (h q)).1))

-- no element is too many at the end of a run
pub none_to_spurn : (p : Program) (books : List (List Item)) (channels : List Entry) (jobs : List JobEntry) → BooksOf p books channels jobs
    → (c : ℕ) → owes_spurn (kind_at (floor_shape p) c) 0 ((replay channels).channels c).queue ≡ false
unfolding spurn_debt
none_to_spurn p books channels jobs of c = none_at_all (kind_at (floor_shape p) c) 0 ((replay channels).channels c).queue
    (λ q. nobody_owes p books channels jobs of (spurn_debt (floor_shape p) channels of.legal_channels c q))
