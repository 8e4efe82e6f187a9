-- An element that was put while fewer stood than the channel keeps: nobody spurns it, so it stands while an offer stands before it.
use Rattle.std.proofs.Common.{◌≡◌, ◌⊎◌, ℕ, ◌<◌, ◌≤◌, ◌==◌, nat_le, Bool, true, false, true≢false, not, ◌&&◌, List, [], ◌∷◌, ◌++◌, length, if◌then◌else◌, Some, None, sym, refl, ap, ◌∙◌, subst, ⊎_elim, inl, inr, arith, eq-eqb}
use Rattle.std.proofs.lemmas.Bool.Decides.{nat_tests}
use Rattle.channel_model.specs.declared.acts.Act.{Act}
use Rattle.channel_model.specs.declared.acts.Act.TheVariants.{Hand, Put, Offer, Await, Take, Admit, Drop, Spurn, Close, Void, Drain, WakeClosed, Withdraw, Settle}
use Rattle.channel_model.specs.declared.acts.Entry.{Entry}
use Rattle.channel_model.specs.Channels.{Shape, State, start, places_at, kind_at, spurns}
use Rattle.channel_model.specs.Effects.{after, with_queue, close_value}
use Rattle.channel_model.specs.Needs.{Needs, IsFirstOffer}
use Rattle.channel_model.specs.Histories.{replay, replay_from, Legal, LegalFrom}
use Rattle.channel_model.specs.Laws.{NoOffer}
use Rattle.channel_model.proofs.EveryAct.{after_keeps}
use Rattle.channel_model.proofs.GoneForGood.{none_keeps}
use Rattle.channel_model.proofs.Histories.{replay_push, LegalFrom-parts}
use Rattle.channel_model.proofs.Sound.{Sound}
use Rattle.word_rules.specs.Cells.{Cell, free, receiver, offer, buffered, emptied, closed_by, voided_by, set_cell, standing, emptied_if, mark, Board, step_board, board_from, board_of, blank, cell_of, gather, is_used}
use Rattle.word_rules.specs.Words.{kept_put, kept_in, was_over, fate}
use Rattle.cell_words.specs.Seen.{Seen, Makes, at_channel}
use Rattle.cell_words.specs.Answers.{stands, WasPut}
use Rattle.cell_words.proofs.ListsOfCells.{Tied, by_spot, cell_here}
use Rattle.cell_words.proofs.CellsGiveLists.{board_lasts, board_state}
use Rattle.cell_words.proofs.CellsLast.{kept_more}
use Rattle.cell_words.proofs.CellsTellFacts.{tied_now, used_given}
use Rattle.cell_words.proofs.CountsOfOffers.{cell_by_none, gone_more, count_less}
use Rattle.cell_words.proofs.EntriesOnOneWord.{cells_push}
use Rattle.cell_words.proofs.ExchangesTell.{before_legal}
use Rattle.cell_words.proofs.WalksToAdmit.{none_before}
use Rattle.channel_model.proofs.Stood.{other_stays, first_stays, holder_stays, offer_stays, removed_stays}

-- an element was put in this cell; it may have been removed since
abbrev holds_put : Cell → Bool
holds_put free = false
holds_put (receiver who w k) = false
holds_put (offer v who w k) = false
holds_put (buffered v) = true
holds_put (emptied v) = true
holds_put (closed_by v) = false
holds_put (voided_by v) = false

-- ---- how many stood stays, once a place was given out

-- ---- an element that was put with room goes only when none stands before it

module _ (shape : Shape) (c p q : ℕ) (lt : p < q) where
  abbrev GoneOrSpurned : Board → Type 0
  GoneOrSpurned b = NoOffer p (b.state.channels c) ⊎ (spurns (kind_at shape c) (b.state.stood c q) ≡ true)

  abbrev WhyEmptied : Board → Type 0
  WhyEmptied b = (v : ℕ) → b.cells c q ≡ emptied v → GoneOrSpurned b

  abbrev AfterAct : Board → ℕ → Act → Type 0
  AfterAct b who act =
      NoOffer p ((after b.state who act).channels c) ⊎ (spurns (kind_at shape c) ((after b.state who act).stood c q) ≡ true)

  why_step : (b : Board) (e : Entry) → Sound shape b.state → Tied b → Needs shape b.state e.who e.act → WhyEmptied b
      → WhyEmptied (step_board b e)
  why_step b e s t n h = go e.who e.act n
    where
      still : (who : ℕ) (act : Act) → Needs shape b.state who act → (after b.state who act).stood c q ≡ b.state.stood c q
          → GoneOrSpurned b → AfterAct b who act
      still who act n same g = ⊎_elim
          (λ (x : NoOffer p (b.state.channels c)). inl
          (after_keeps shape (λ d ch. NoOffer p ch) (none_keeps shape p) b.state who act c n x))
          (λ (x : spurns (kind_at shape c) (b.state.stood c q) ≡ true). inr (ap (spurns (kind_at shape c)) same ∙ x))
          g

      given : (v : ℕ) → b.cells c q ≡ emptied v → q < (b.state.channels c).next
      given v is = used_given b c q t (ap is_used is)

      other : (d r : ℕ) (y : Cell) (v : ℕ) → holds_put y ≡ false → set_cell b.cells d r y c q ≡ emptied v → b.cells c q ≡ emptied v
      other d r y v f = by_spot (λ x z w. w ≡ emptied v → b.cells c q ≡ emptied v) b.cells d r y
          (λ is. absurd (true≢false (sym (ap holds_put is) ∙ f))) c q (λ ne is. is)

      removed : (who : ℕ) (act : Act) → Needs shape b.state who act → (after b.state who act).stood c q ≡ b.state.stood c q
          → (d r u : ℕ) → IsFirstOffer r u (b.state.channels d).queue → (v : ℕ)
          → set_cell b.cells d r (emptied_if (standing b.state.waits r (b.cells d r)) (b.cells d r)) c q ≡ emptied v → AfterAct b who act
      removed who act n same d r u first v = by_spot (λ x z w. x ≡ c → z ≡ q → w ≡ emptied v → AfterAct b who act) b.cells d r _
          (λ x z is. still who act n same (inl (none_before b t c p q u lt
          (subst (λ (k : ℕ × ℕ). IsFirstOffer k.1 u (b.state.channels k.0).queue) (λ i. (x i, z i)) first))))
          c q (λ ne x z is. still who act n same (h v is)) refl refl

      spurned : (who : ℕ) (d r u : ℕ) (n : Needs shape b.state who (Spurn d r u)) → (v : ℕ)
          → mark b.state b.cells who (Spurn d r u) c q ≡ emptied v → AfterAct b who (Spurn d r u)
      spurned who d r u n v = by_spot (λ x z w. x ≡ c → z ≡ q → w ≡ emptied v → AfterAct b who (Spurn d r u)) b.cells d r _
          (λ x z is. inr
          (subst (λ (k : ℕ × ℕ). spurns (kind_at shape k.0) (b.state.stood k.0 k.1) ≡ true) (λ i. (x i, z i)) n.1))
          c q (λ ne x z is. still who (Spurn d r u) n refl (h v is)) refl refl

      put : (who d r u v : ℕ) (n : Needs shape b.state who (Put d r u)) → set_cell b.cells d r (buffered u) c q ≡ emptied v
          → AfterAct b who (Put d r u)
      put who d r u v n = by_spot (λ x z w. w ≡ emptied v → AfterAct b who (Put d r u)) b.cells d r (buffered u)
          (λ is. absurd (buffered_not u v is)) c q
          (λ ne is. still who (Put d r u) n
          (other_stays (places_at shape d) d r (length (b.state.channels d).queue) q c b.state n.1 (given v is)) (h v is))
        where
          buffered_not : (u v : ℕ) → buffered u ≡ emptied v → ⊥
          buffered_not u v is = cc

      go : (who : ℕ) (act : Act) → Needs shape b.state who act → (v : ℕ) → mark b.state b.cells who act c q ≡ emptied v → AfterAct b who act
      go who (Hand d r u) n v is = still who (Hand d r u) n (first_stays (b.state.channels d).receivers _ b.state c q) (h v is)
      go who (Put d r u) n v is = put who d r u v n is
      go who (Offer d r u w k) n v is = let was = other d r (offer u who w k) v refl is in
          still who (Offer d r u w k) n
          (other_stays (places_at shape d) d r (length (b.state.channels d).queue) q c b.state n.1 (given v was)) (h v was)
      go who (Await d r w k) n v is = still who (Await d r w k) n refl (h v (other d r (receiver who w k) v refl is))
      go who (Take d r u) n v is = removed who (Take d r u) n (offer_stays d (b.state.channels d).queue _ b.state c q) d r u n.1 v is
      go who (Admit d r) n v is = still who (Admit d r) n (holder_stays _ _ (with_queue d _ b.state) c q) (h v is)
      go who (Drop d r u) n v is = removed who (Drop d r u) n (removed_stays d (b.state.channels d).queue b.state c q) d r u n.2 v is
      go who (Spurn d r u) n v is = spurned who d r u n v is
      go who (Close d u) n v is = still who (Close d u) n refl (h v (other d (b.state.channels d).next (closed_by u) v refl is))
      go who (Void d) n v is = still who (Void d) n refl
          (h v (other d (b.state.channels d).next (voided_by (close_value (b.state.channels d).closed)) v refl is))
      go who (Drain d r u) n v is = removed who (Drain d r u) n (offer_stays d (b.state.channels d).queue _ b.state c q) d r u n.2 v is
      go who (WakeClosed d r) n v is = still who (WakeClosed d r) n (first_stays (b.state.channels d).receivers _ b.state c q) (h v is)
      go who (Withdraw w why) n v is = still who (Withdraw w why) n refl (h v is)
      go who (Settle w outcome) n v is = still who (Settle w outcome) n refl (h v is)

  why_blank : WhyEmptied (board_of [])
  unfolding board_from
  why_blank v is = absurd (true≢false (sym (ap holds_put is)))

  pub why_emptied : (log : List Entry) (v : ℕ) → Legal shape log → cell_of log c q ≡ emptied v
      → (stands log c p ≡ None) ⊎ (spurns (kind_at shape c) ((replay log).stood c q) ≡ true)
  why_emptied log v l is = ⊎_elim
      (λ (x : NoOffer p ((board_of log).state.channels c)). inl (cell_by_none shape log l c p
      (subst (λ (s : State). NoOffer p (s.channels c)) (board_state blank log) x)))
      (λ (x : spurns (kind_at shape c) ((board_of log).state.stood c q) ≡ true). inr
      (subst (λ (s : State). spurns (kind_at shape c) (s.stood c q) ≡ true) (board_state blank log) x))
      (board_lasts shape WhyEmptied (record { step = why_step }) [] log l why_blank v is)

-- ---- an element is put with room

put_pushed : (shape : Shape) (who c p value most : ℕ) (log : List Entry)
    → Legal shape (log ++ record { who = who; act = Put c p value } ∷ [])
    → ((n : ℕ) → spurns (kind_at shape c) n ≡ nat_le most n) → length (gather (stands log c) p) < most
    → fate shape (log ++ record { who = who; act = Put c p value } ∷ []) c p ≡ Some true
unfolding replay_from LegalFrom
put_pushed shape who c p value most log l kind less =
    let e : Entry = record { who = who; act = Put c p value } in
    let parts = LegalFrom-parts shape start log (e ∷ []) l in
    let cell : cell_of (log ++ e ∷ []) c p ≡ buffered value =
    cells_push log e c p ∙ cell_here (board_of log).cells c p (buffered value) in
    let stood : (replay (log ++ e ∷ [])).stood c p ≡ length (at_channel log c).queue =
    ap (λ (s : State). s.stood c p) (replay_push log e) ∙ own c p (length (at_channel log c).queue) ((replay log).stood c p) in
    let first : p ≡ (at_channel log c).next = (parts.1.0.1).first in
    let many : length (at_channel log c).queue ≡ length (gather (stands log c) p) =
    ap length ((tied_now shape log parts.0).queues c) ∙ ap (λ (z : ℕ). length (gather (stands log c) z)) (sym first) in
    ap (kept_in (was_over shape (log ++ e ∷ []) c p) (replay (log ++ e ∷ [])).waits) cell
    ∙ ap kept_put
    (ap (spurns (kind_at shape c)) (stood ∙ many) ∙ kind (length (gather (stands log c) p))
    ∙ within (length (gather (stands log c) p)) less)
  where
    own : (c p n m : ℕ) → (if (c == c) && (p == p) then n else m) ≡ n
    own c p n m = ap (λ (b : Bool). if b && (p == p) then n else m) (eq-eqb c c refl)
        ∙ ap (λ (b : Bool). if b then n else m) (eq-eqb p p refl)

    within : (n : ℕ) → n < most → nat_le most n ≡ false
    within n h = grind (arith, nat_tests)

pub put_kept : (shape : Shape) (who c p value most : ℕ) (v w : Seen) → Makes v (record { who = who; act = Put c p value }) w
    → Legal shape v.seen → Legal shape w.seen → p ≤ (at_channel v.seen c).next → ((n : ℕ) → spurns (kind_at shape c) n ≡ nat_le most n)
    → length (gather (stands v.seen c) p) < most → fate shape w.seen c p ≡ Some true
put_kept shape who c p value most v w m lv l given kind less =
    let e : Entry = record { who = who; act = Put c p value } in
    let before = before_legal shape v w e l m in
    let fewer = count_less (stands v.seen c) (stands (v.seen ++ m.others) c) p
    (λ q lt none. gone_more shape c q v.seen m.others lv before (omega arith) none) in
    subst (λ (es : List Entry). fate shape es c p ≡ Some true) (sym m.now)
    (put_pushed shape who c p value most (v.seen ++ m.others) (subst (Legal shape) m.now l) kind (omega arith))

-- ---- an element is spurned

spurn_pushed : (shape : Shape) (who c p value : ℕ) (log : List Entry)
    → Legal shape (log ++ record { who = who; act = Spurn c p value } ∷ []) → WasPut c p value log
    → fate shape (log ++ record { who = who; act = Spurn c p value } ∷ []) c p ≡ Some false
unfolding replay_from LegalFrom
spurn_pushed shape who c p value log l put =
    let e : Entry = record { who = who; act = Spurn c p value } in
    let parts = LegalFrom-parts shape start log (e ∷ []) l in
    let over : was_over shape (log ++ e ∷ []) c p ≡ true =
    ap (λ (s : State). spurns (kind_at shape c) (s.stood c p)) (replay_push log e) ∙ parts.1.0.1 in
    let gone : emptied_if (standing (board_of log).state.waits p (cell_of log c p)) (cell_of log c p) ≡ emptied value = ⊎_elim
    (λ (x : cell_of log c p ≡ buffered value). ap (λ (y : Cell). emptied_if (standing (board_of log).state.waits p y) y) x)
    (λ (x : cell_of log c p ≡ emptied value). ap (λ (y : Cell). emptied_if (standing (board_of log).state.waits p y) y) x) put in
    let cell : cell_of (log ++ e ∷ []) c p ≡ emptied value =
    cells_push log e c p ∙ (cell_here (board_of log).cells c p _ ∙ gone) in
    ap (kept_in (was_over shape (log ++ e ∷ []) c p) (replay (log ++ e ∷ [])).waits) cell ∙ ap (λ (z : Bool). Some (not z)) over

pub spurned_is : (shape : Shape) (who c p value : ℕ) (v w : Seen) → Makes v (record { who = who; act = Spurn c p value }) w
    → Legal shape w.seen → WasPut c p value v.seen → fate shape w.seen c p ≡ Some false
spurned_is shape who c p value v w m l put =
    let e : Entry = record { who = who; act = Spurn c p value } in
    subst (λ (es : List Entry). fate shape es c p ≡ Some false) (sym m.now)
    (spurn_pushed shape who c p value (v.seen ++ m.others) (subst (Legal shape) m.now l)
    (kept_more shape c p value v.seen m.others (before_legal shape v w e l m) put))
