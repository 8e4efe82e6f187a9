-- At the end of a run no held offer has room.
use Rattle.std.proofs.lemmas.List.{append-nil}
use Rattle.std.proofs.Common.{◌≡◌, ℕ, ◌<◌, ◌≤◌, arith, Bool, true, false, ◌&&◌, List, [], ◌∷◌, ◌++◌, refl, ap, sym, ◌∙◌, subst, ⊎_elim, append_assoc}
use Rattle.std.specs.Prelude.{◌==◌, ◌+◌, ◌||◌, is_some}
use Rattle.std.specs.List.{list_any}
use Rattle.std.proofs.lemmas.Bool.{eqb-true, ltb-true, lt-ltb, eq-eqb, both_ways, false_from_ne_true, and_from, and_right, or_left, or_right, or_cases, and_left}
use Rattle.channel_model.specs.declared.acts.Act.{Act}
use Rattle.channel_model.specs.declared.acts.Act.TheVariants.{Offer, Take, Drain}
use Rattle.channel_model.specs.declared.acts.Entry.{Entry}
use Rattle.channel_model.specs.declared.acts.Kind.{Kind}
use Rattle.channel_model.specs.declared.standing.Standing.{Standing}
use Rattle.channel_model.specs.Channels.{Shape, State, Channel, start, kind_at}
use Rattle.channel_model.specs.Effects.{after}
use Rattle.channel_model.specs.Needs.{Needs}
use Rattle.channel_model.specs.Histories.{replay, Legal}
use Rattle.channel_model.specs.Owing.{owes_admission, owes_admission_below}
use Rattle.job_model.specs.declared.acts.JobEntry.{JobEntry}
use Rattle.note_book.specs.declared.book.Item.{Item}
use Rattle.channel_model.proofs.Histories.{replay_push, Legal-prefix}
use Rattle.channel_model.proofs.Later.{given_later}
use Rattle.call_meaning.specs.Facts.{ChannelFactHolds}
use Rattle.call_meaning.specs.Telling.{Told, ChannelFact, on_channels, NextIs, NoneToAdmit, NothingQueued}
use Rattle.script_grammar.specs.Programs.{Program}
use Rattle.script_meaning.specs.Shapes.{floor_shape}
use Rattle.script_meaning.specs.Books.{BooksOf}
use Rattle.script_meaning.proofs.Debts.{Exists, part, reached}
use Rattle.script_meaning.proofs.Payments.{act_list, AllSo}
use Rattle.script_meaning.proofs.ActsFollowed.{IsTold, HasAdmits, Follows, call_told}
use Rattle.script_meaning.proofs.ChannelStories.{who_did, deed, CallHolds, CallsSo, same_state}
use Rattle.script_laws.proofs.ChannelDebts.{CallDebt, BehindOf, CallPaidAt, by_fact, nobody_owes, needs_there, legal_before}
use Rattle.script_laws.proofs.ClosedChannels.{AllBefore, or_more}
use Rattle.script_grammar.proofs.Truths.{both_true}
use Rattle.script_laws.proofs.QueuesFit.{all_placed}

-- an offer stands at place q and is held, and some offer up to it is held with room
abbrev pub stands_held : ℕ → Standing → Bool
stands_held q o = (o.place == q) && is_some o.holder

abbrev pub owes_admit : Kind → ℕ → Channel → Bool
owes_admit kind q ch = list_any (stands_held q) ch.queue && owes_admission_below kind (q + 1) 0 ch.queue

abbrev pub MayRaiseAdmit : ℕ → ℕ → Act → Type 0
MayRaiseAdmit c q (Offer d r v w n) = (d ≡ c) × (r ≡ q)
MayRaiseAdmit c q (Take d r v) = d ≡ c
MayRaiseAdmit c q (Drain d r v) = d ≡ c
MayRaiseAdmit c q other = ⊥

-- only the Offer at that place, a Take and a Drain raise it; no Withdraw, Hand, WakeClosed or Admit does
abbrev pub AdmitIsRaised : Type 0
AdmitIsRaised = (shape : Shape) (es : List Entry) (who c q : ℕ) (act : Act) → Legal shape es → Needs shape (replay es) who act
    → owes_admit (kind_at shape c) q ((replay es).channels c) ≡ false
    → owes_admit (kind_at shape c) q ((after (replay es) who act).channels c) ≡ true → MayRaiseAdmit c q act

abbrev pub AdmittedAtEnd : Type 0
AdmittedAtEnd = (p : Program) (books : List (List Item)) (channels : List Entry) (jobs : List JobEntry) → BooksOf p books channels jobs
    → (c : ℕ) → owes_admission (kind_at (floor_shape p) c) 0 ((replay channels).channels c).queue ≡ false

-- ---- the marks that are told

pub record FactAt (shape : Shape) (k : ℕ) (history : List Entry) (done : List Act) (fact : ChannelFact) : Type 0 where
  pub at : List Entry
  pub more : List Entry
  pub later_acts : List Act
  pub parts : at ++ more ≡ history
  pub acts : part who_did deed k at ≡ done ++ later_acts
  pub holds : ChannelFactHolds shape fact (replay at)

fact_at : (shape : Shape) (k : ℕ) (history : List Entry) (fact : ChannelFact) (done later : List Act) (ys : List Told)
    → CallsSo shape k history (done ++ later) ys → Exists (IsTold (on_channels fact)) ys → FactAt shape k history done fact
unfolding AllSo Exists
fact_at shape k history fact done later [] so x = absurd x
fact_at shape k history fact done later (y ∷ ys) so x = ⊎_elim
    (λ (e : y ≡ on_channels fact). record {
      at = so.0.at;
      more = so.0.more;
      later_acts = later;
      parts = so.0.parts;
      acts = so.0.acts;
      holds = subst (λ u. CallHolds shape u so.0.at) e so.0.holds;
    })
    (λ (u : Exists (IsTold (on_channels fact)) ys). fact_at shape k history fact done (later
    ++ act_list (call_told y)) ys (subst (λ d. CallsSo shape k history d ys) (append_assoc done later (act_list (call_told y))) so.1) u)
    x

pub record MarkAt (shape : Shape) (k : ℕ) (history : List Entry) (done : List Act) (c : ℕ) : Type 0 where
  pub mark : ℕ
  pub first : FactAt shape k history done (NextIs c mark)
  pub second : FactAt shape k history done (NoneToAdmit c mark)

mark_at : (shape : Shape) (k : ℕ) (history : List Entry) (c : ℕ) (done later : List Act) (ys : List Told)
    → CallsSo shape k history (done ++ later) ys → HasAdmits c ys → MarkAt shape k history done c
unfolding AllSo HasAdmits
mark_at shape k history c done later [] so x = absurd x
mark_at shape k history c done later (y ∷ ys) so x =
    let rest : CallsSo shape k history (done ++ (later ++ act_list (call_told y))) ys =
    subst (λ d. CallsSo shape k history d ys) (append_assoc done later (act_list (call_told y))) so.1 in
    ⊎_elim
    (λ (h : (m : ℕ) × (y ≡ on_channels (NextIs c m)) × Exists (IsTold (on_channels (NoneToAdmit c m))) ys). record {
      mark = h.0;
      first = record {
        at = so.0.at;
        more = so.0.more;
        later_acts = later;
        parts = so.0.parts;
        acts = so.0.acts;
        holds =
            subst (λ u. CallHolds shape u so.0.at) h.1 so.0.holds;
      };
      second = fact_at shape k history (NoneToAdmit c h.0) done (later ++ act_list (call_told y)) ys rest h.2;
    })
    (λ (u : HasAdmits c ys). mark_at shape k history c done (later ++ act_list (call_told y)) ys rest u) x

-- ---- what a lower mark says less

lower_owes : (m q : ℕ) (kind : Kind) (n : ℕ) (os : List Standing) → q < m → owes_admission_below kind (q + 1) n os ≡ true
    → owes_admission_below kind m n os ≡ true
lower_owes m q kind n [] h e = cc
lower_owes m q kind n (o ∷ os) h e = or_more _ _ _ _ e
    (λ k. let p = both_true _ _ k in let r = both_true _ _ p.1 in let low = ltb-true o.place (q + 1) r.0
    in and_from _ _ p.0 (and_from _ _ (lt-ltb o.place m (omega arith)) r.1)) (lower_owes m q kind (n + 1) os h)

lower_mark : (m q : ℕ) (kind : Kind) (n : ℕ) (os : List Standing) → q < m → owes_admission_below kind m n os ≡ false
    → owes_admission_below kind (q + 1) n os ≡ false
lower_mark m q kind n os h e = false_from_ne_true _ (λ k. both_ways _ e (lower_owes m q kind n os h k))

pub held_before : (q n : ℕ) (os : List Standing) → AllBefore n os → list_any (stands_held q) os ≡ true → q < n
held_before q n [] h e = cc
held_before q n (o ∷ os) h e =
    ⊎_elim (λ k. subst (λ u. u < n) (eqb-true o.place q (both_true _ _ k).0) h.0) (held_before q n os h.1) (or_cases _ _ e)

-- where some offer has room, that one stands held with room up to it
pub record HasRoomAt (kind : Kind) (n : ℕ) (os : List Standing) : Type 0 where
  pub place : ℕ
  pub stands : list_any (stands_held place) os ≡ true
  pub owed : owes_admission_below kind (place + 1) n os ≡ true

some_room : (kind : Kind) (n : ℕ) (os : List Standing) → owes_admission kind n os ≡ true → HasRoomAt kind n os
some_room kind n [] h = cc
some_room kind n (o ∷ os) h = ⊎_elim
    (λ k. let held = both_true _ _ k in record {
      place = o.place;
      stands = or_left _ _ (and_from _ _ (eq-eqb o.place o.place refl) held.0);
      owed = or_left _ _ (and_from _ _ held.0 (and_from _ _ (lt-ltb o.place (o.place + 1) (omega arith)) held.1));
    })
    (λ k. let r = some_room kind (n + 1) os k in record { place = r.place; stands = or_right _ _ r.stands; owed = or_right _ _ r.owed })
    (or_cases _ _ h)

-- ---- an act behind which the marks stand

of_empty : (kind : Kind) (q : ℕ) (s : State) (c : ℕ) → (s.channels c).queue ≡ [] → owes_admit kind q (s.channels c) ≡ false
of_empty kind q s c e = and_left (list_any (stands_held q) (s.channels c).queue) _ (ap (list_any (stands_held q)) e)

-- an act behind which the marks stand
by_mark : (shape : Shape) (channels : List Entry) → Legal shape channels
    → (c q k : ℕ) (before : List Entry) (e : Entry) (rest : List Entry) (ys : List Told) → channels ≡ before ++ e ∷ rest
    → owes_admit (kind_at shape c) q ((after (replay before) e.who e.act).channels c) ≡ true → BehindOf shape k channels before e.act ys
    → HasAdmits c ys → CallPaidAt shape k (λ s. owes_admit (kind_at shape c) q (s.channels c)) (MayRaiseAdmit c q) channels
    (part who_did deed k before ++ e.act ∷ [])
by_mark shape channels l c q k before e rest ys parts owed behind has =
    let done : List Act = part who_did deed k before ++ e.act ∷ [] in
    let m = mark_at shape k channels c (part who_did deed k before
    ++ e.act ∷ []) [] ys (subst (λ d. CallsSo shape k channels d ys) (sym (append-nil (part who_did deed k before ++ e.act ∷ [])))
    behind.1) has in
    let r = reached who_did deed k before e rest m.first.at m.first.more m.first.later_acts (m.first.parts ∙ parts) (m.first.acts
    ∙ append_assoc (part who_did deed k before) (e.act ∷ []) m.first.later_acts) in
    let stands = (both_true (list_any (stands_held q) ((after (replay before) e.who e.act).channels c).queue) _ owed).0 in
    let there : replay (before ++ e ∷ []) ≡ after (replay before) e.who e.act = replay_push before e in
    let whole : Legal shape ((before ++ e ∷ []) ++ rest) = subst (Legal shape) (parts ∙ sym (append_assoc before (e ∷ []) rest)) l in
    let reaches : Legal shape ((before ++ e ∷ []) ++ r.0) =
    Legal-prefix shape ((before ++ e ∷ []) ++ r.0) m.first.more
    (subst (Legal shape) (sym (append_assoc (before ++ e ∷ []) r.0 m.first.more ∙ ap (λ u. (before ++ e ∷ []) ++ u) (sym r.1))) whole)
    in
    let placed : AllBefore ((after (replay before) e.who e.act).channels c).next ((after (replay before) e.who e.act).channels c).queue =
    subst (λ (s : State). AllBefore (s.channels c).next (s.channels c).queue) there
    (all_placed shape (before ++ e ∷ []) (Legal-prefix shape (before ++ e ∷ []) r.0 reaches) c) in
    let low : q < ((after (replay before) e.who e.act).channels c).next = held_before q _ _ placed stands in
    let grown : ((after (replay before) e.who e.act).channels c).next ≤ ((replay ((before ++ e ∷ []) ++ r.0)).channels c).next =
    subst (λ (s : State). (s.channels c).next ≤ ((replay ((before ++ e ∷ []) ++ r.0)).channels c).next) there
    (given_later shape (before ++ e ∷ []) r.0 c reaches) in
    let is : ((replay ((before ++ e ∷ []) ++ r.0)).channels c).next ≡ m.mark =
    ap (λ l. ((replay l).channels c).next) (append_assoc before (e ∷ []) r.0 ∙ sym r.2) ∙ m.first.holds in
    let below : q < m.mark = omega (arith, low, grown, is) in
    record {
      at = m.second.at;
      more = m.second.more;
      later_acts = m.second.later_acts;
      parts = m.second.parts;
      acts = m.second.acts;
      paid = subst (λ (s : State). owes_admit (kind_at shape c) q (s.channels c) ≡ false) (sym (same_state start m.second.at))
          (and_right _ _ (lower_mark m.mark q (kind_at shape c) 0 ((replay m.second.at).channels c).queue below m.second.holds));
    }

admit_pays : (shape : Shape) (channels : List Entry) → Legal shape channels
    → (c q k : ℕ) (before : List Entry) (e : Entry) (rest : List Entry) (ys : List Told) (act : Act) → e.act ≡ act → channels ≡ before
    ++ e ∷ rest → owes_admit (kind_at shape c) q ((after (replay before) e.who e.act).channels c) ≡ true
    → BehindOf shape k channels before e.act ys → MayRaiseAdmit c q act → Follows act ys
    → CallPaidAt shape k (λ s. owes_admit (kind_at shape c) q (s.channels c)) (MayRaiseAdmit c q) channels (part who_did deed k before
    ++ e.act ∷ [])
admit_pays shape channels l c q k before e rest ys (Offer d r v w n) is parts owed behind x f =
    by_mark shape channels l c q k before e rest ys parts owed behind (subst (λ u. HasAdmits u ys) x.0 f)
admit_pays shape channels l c q k before e rest ys (Take d r v) is parts owed behind x f =
    by_mark shape channels l c q k before e rest ys parts owed behind (subst (λ u. HasAdmits u ys) x f)
admit_pays shape channels l c q k before e rest ys (Drain d r v) is parts owed behind x f =
    by_fact shape channels (λ s. owes_admit (kind_at shape c) q (s.channels c)) (MayRaiseAdmit c q) k (NothingQueued d)
    (λ s h. of_empty (kind_at shape c) q s c (subst (λ u. (s.channels u).queue ≡ []) x h)) before e.act ys behind f
admit_pays shape channels l c q k before e rest ys other is parts owed behind x f = absurd x

admit_debt : AdmitIsRaised → (shape : Shape) (channels : List Entry) → Legal shape channels → (c q : ℕ) → CallDebt shape channels
admit_debt raised shape channels l c q = record {
  owes = λ s. owes_admit (kind_at shape c) q (s.channels c);
  Raises = MayRaiseAdmit c q;
  first = refl;
  rises = λ before e rest parts f t. raised shape before e.who c q e.act (legal_before shape channels before e rest l parts)
      (needs_there shape channels before e rest l parts) f t;
  pays = λ k before e rest ys parts mine owed behind r f. admit_pays shape channels l c q k before e rest ys e.act refl parts owed behind r
      f;
}

-- where only an Offer, a Take and a Drain raise it, no held offer has room at the end
pub admitted_at_end : AdmitIsRaised → AdmittedAtEnd
unfolding admit_debt
admitted_at_end raised p books channels jobs of c = false_from_ne_true _ (λ e.
    let r = some_room (kind_at (floor_shape p) c) 0 ((replay channels).channels c).queue e in
    both_ways (owes_admit (kind_at (floor_shape p) c) r.place ((replay channels).channels c))
    (nobody_owes p books channels jobs of (admit_debt raised (floor_shape p) channels of.legal_channels c r.place))
    (and_from _ _ r.stands r.owed))
