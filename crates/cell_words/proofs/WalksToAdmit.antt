-- What a walk that looks for an offer to admit knows of the places that it has passed.
use Rattle.std.proofs.Common.{◌≡◌, ◌⊎◌, ℕ, zero, suc, ◌+◌, ◌-◌, ◌<◌, ◌≤◌, nat_lt, Bool, true, false, true≢false, not, ◌&&◌, List, [], ◌∷◌, ◌++◌, length, if◌then◌else◌, Option, Some, None, is_some, is_none, nat_le, append-nil, append_assoc, sym, refl, ap, ◌∙◌, subst, ⊎_elim, inl, inr, arith}
use Rattle.std.proofs.lemmas.Bool.Decides.{nat_tests}
use mathlib.Core.Logic.{dite}
use native.Mathlib.Decide.{ℕ_discrete, dec_le}
use Rattle.co_base.specs.declared.names.WaitId.{WaitId}
use Rattle.channel_model.specs.declared.acts.Act.{Act}
use Rattle.channel_model.specs.declared.acts.Act.TheVariants.{Hand, Put, Offer, Await, Take, Admit, Drop, Spurn, Close, Void, Drain, WakeClosed, Withdraw, Settle}
use Rattle.channel_model.specs.declared.acts.Entry.{Entry}
use Rattle.channel_model.specs.declared.acts.Kind.{Kind}
use Rattle.channel_model.specs.declared.standing.Party.{Party}
use Rattle.channel_model.specs.declared.standing.Standing.{Standing}
use Rattle.channel_model.specs.declared.standing.Resolution.TheVariants as resolved
use Rattle.channel_model.specs.Channels.{Shape, State, Wait, kind_at, places_at, is_full, suspends, spurns}
use Rattle.channel_model.specs.declared.acts.Kind.TheVariants.{Buffered}
use Rattle.channel_model.specs.Effects.{after, close_value, holder_at}
use Rattle.channel_model.specs.Needs.{Needs, IsFirstOffer}
use Rattle.channel_model.specs.Histories.{replay, Legal}
use Rattle.channel_model.specs.Laws.{NoneBelow, NoOffer, IsResolvedAs}
use Rattle.channel_model.specs.Owing.{owes_admission_below}
use Rattle.channel_model.specs.Answers.{IsAdmittedBelow, owner_of_holder}
use Rattle.std.specs.List.{list_all}
use Rattle.std.proofs.lemmas.Bool.{eq-eqb, or_from, or_parts, and_right, le-ltb}
use Rattle.co_base.proofs.Orders.{order_same}
use Rattle.channel_model.proofs.Elements.{all_first, all_rest}
use Rattle.channel_model.proofs.EveryAct.{after_keeps}
use Rattle.channel_model.proofs.GoneForGood.{none_keeps}
use Rattle.channel_model.proofs.Later.{resolved_later}
use Rattle.channel_model.proofs.Sound.{Sound, sound}
use Rattle.cell_words.specs.declared.found.Search.{Search}
use Rattle.cell_words.specs.declared.found.Search.TheVariants as search
use Rattle.cell_words.specs.declared.found.Waiter.{Waiter}
use Rattle.word_rules.specs.Cells.{Cell, free, receiver, offer, buffered, emptied, closed_by, voided_by, set_cell, standing, offer_of, offer_by, emptied_if, mark, Board, step_board, board_from, board_of, blank, cell_of, gather, add_some, is_used}
use Rattle.word_rules.specs.Words.{WasKept, WereKept}
use Rattle.cell_words.specs.Seen.{Seen, Sees, at_channel}
use Rattle.cell_words.specs.Answers.{stands, Offers, IsAdmitted, Admits, NothingToAdmit, SearchAnswer, waits_with, KeptHere}
use Rattle.cell_words.proofs.GatheredLists.{gather_none}
use Rattle.cell_words.proofs.ListsOfCells.{Tied, by_spot, standing_is}
use Rattle.cell_words.proofs.OffersRemoved.{offer_place, first_in_queue}
use Rattle.cell_words.proofs.CellsGiveLists.{board_lasts, board_state}
use Rattle.cell_words.proofs.CellsTellFacts.{now, tied_now, used_given, none_offers, past_offer}
use Rattle.cell_words.proofs.CellsLast.{offer_used_more, kept_more, given_more}
use Rattle.cell_words.proofs.CountsOfOffers.{cell_by_none, gone_more, stood_before, count_some, count_none, count_next, count_less, count_up}
use Rattle.cell_words.proofs.KeptBehind.{Keeps, kept_cell, stands_kept, kept_behind, board_none, waits_keeps}
use Rattle.cell_words.proofs.LooksAtCells.{below_seen, given_seen, sees_then, sees_makes}
use Rattle.channel_model.proofs.PlacedFull.{full_more}

-- ---- nobody waits with the element at a place

holder_none : (h : Option Party) → is_some h ≡ false → h ≡ None
holder_none None e = refl
holder_none (Some x) e = cc

admitted_free : (p v k : ℕ) (w : WaitId) (y : Option Wait) → IsResolvedAs (resolved.Admitted k) y → waits_with (offer_of p v w k y) ≡ false
admitted_free p v k w None h = absurd h
admitted_free p v k w (Some x) h = ap (λ (z : Option _). waits_with (offer_by p v w k z)) h
    ∙ ap (λ (b : Bool). waits_with (if b then Some (record { place = p; value = v; holder = None }) else None)) (eq-eqb k k refl)

-- a kept element stays kept, or it goes
kept_or_gone : (shape : Shape) (c q : ℕ) (xs ys : List Entry) → Legal shape (xs ++ ys) → (y : Cell) → cell_of xs c q ≡ y
    → Keeps (replay xs).waits y → waits_with (stands (xs ++ ys) c q) ≡ false
kept_or_gone shape c q xs ys l free e h = absurd h
kept_or_gone shape c q xs ys l (receiver who w k) e h = absurd h
kept_or_gone shape c q xs ys l (offer v who w k) e h = ⊎_elim
    (λ (x : cell_of (xs ++ ys) c q ≡ offer v who w k). ap (λ (z : Cell). waits_with (standing (replay (xs ++ ys)).waits q z)) x
    ∙ admitted_free q v k w ((replay (xs ++ ys)).waits w) (resolved_later shape xs ys w (resolved.Admitted k) l h))
    (λ (x : cell_of (xs ++ ys) c q ≡ emptied v). ap (λ (z : Cell). waits_with (standing (replay (xs ++ ys)).waits q z)) x)
    (offer_used_more shape c q v who k w xs ys l e)
kept_or_gone shape c q xs ys l (buffered v) e h = ⊎_elim
    (λ (x : cell_of (xs ++ ys) c q ≡ buffered v). ap (λ (z : Cell). waits_with (standing (replay (xs ++ ys)).waits q z)) x)
    (λ (x : cell_of (xs ++ ys) c q ≡ emptied v). ap (λ (z : Cell). waits_with (standing (replay (xs ++ ys)).waits q z)) x)
    (kept_more shape c q v xs ys l (inl e))
kept_or_gone shape c q xs ys l (emptied v) e h = absurd h
kept_or_gone shape c q xs ys l (closed_by v) e h = absurd h
kept_or_gone shape c q xs ys l (voided_by v) e h = absurd h

free_keeps : (xs : List Entry) (c q : ℕ) (o : Standing) → stands xs c q ≡ Some o → waits_with (stands xs c q) ≡ false
    → Keeps (replay xs).waits (cell_of xs c q)
free_keeps xs c q o e h = kept_cell (replay xs).waits q (cell_of xs c q) o e (holder_none o.holder (sym (ap waits_with e) ∙ h))

free_more : (shape : Shape) (c q : ℕ) (xs ys : List Entry) → Legal shape xs → Legal shape (xs ++ ys) → q < (at_channel xs c).next
    → waits_with (stands xs c q) ≡ false → waits_with (stands (xs ++ ys) c q) ≡ false
free_more shape c q xs ys lx l lt h = go (stands xs c q) refl
  where
    go : (x : Option Standing) → stands xs c q ≡ x → waits_with (stands (xs ++ ys) c q) ≡ false
    go None e = ap waits_with (gone_more shape c q xs ys lx l lt e)
    go (Some o) e = kept_or_gone shape c q xs ys l (cell_of xs c q) refl (free_keeps xs c q o e h)

-- ---- an element goes only when none stands before it

abbrev is_emptied : Cell → Bool
is_emptied free = false
is_emptied (receiver who w k) = false
is_emptied (offer v who w k) = false
is_emptied (buffered v) = false
is_emptied (emptied v) = true
is_emptied (closed_by v) = false
is_emptied (voided_by v) = false

-- where an offer behind p is the first, none stands at p
pub none_before : (b : Board) → Tied b → (c p q v : ℕ) → p < q → IsFirstOffer q v (b.state.channels c).queue
    → NoOffer p (b.state.channels c)
none_before b t c p q v lt first = go (b.state.channels c).queue refl first
  where
    go : (os : List Standing) → (b.state.channels c).queue ≡ os → IsFirstOffer q v os → NoOffer p (b.state.channels c)
    go [] e h = absurd h
    go (o ∷ os) e h = let f = first_in_queue b c o os t e
        in let at : o.place ≡ f.place = offer_place b.state.waits f.place (b.cells c f.place) o f.is in
        board_none b t c p (let g = f.given in omega (arith, h.0)) (f.before p (omega (arith, h.0)))

module _ (shape : Shape) (c p q : ℕ) (lt : p < q) (never : (n : ℕ) → spurns (kind_at shape c) n ≡ false) where
  abbrev NoneIfEmptied : Board → Type 0
  NoneIfEmptied b = (v : ℕ) → b.cells c q ≡ emptied v → NoOffer p (b.state.channels c)

  emptied_step : (b : Board) (e : Entry) → Sound shape b.state → Tied b → Needs shape b.state e.who e.act → NoneIfEmptied b
      → NoneIfEmptied (step_board b e)
  emptied_step b e s t n h = go e.who e.act n
    where
      still : (who : ℕ) (act : Act) → Needs shape b.state who act → NoOffer p (b.state.channels c)
          → NoOffer p ((after b.state who act).channels c)
      still who act n g = after_keeps shape (λ d ch. NoOffer p ch) (none_keeps shape p) b.state who act c n g

      other : (d r : ℕ) (y : Cell) (v : ℕ) → is_emptied y ≡ false → set_cell b.cells d r y c q ≡ emptied v → b.cells c q ≡ emptied v
      other d r y v f = by_spot (λ x z w. w ≡ emptied v → b.cells c q ≡ emptied v) b.cells d r y
          (λ is. absurd (true≢false (sym (ap is_emptied is) ∙ f))) c q (λ ne is. is)

      removed : (who : ℕ) (act : Act) → Needs shape b.state who act → (d r u : ℕ) → IsFirstOffer r u (b.state.channels d).queue → (v : ℕ)
          → set_cell b.cells d r (emptied_if (standing b.state.waits r (b.cells d r)) (b.cells d r)) c q ≡ emptied v
          → NoOffer p ((after b.state who act).channels c)
      removed who act n d r u first v = by_spot (λ x z w. x ≡ c → z ≡ q → w ≡ emptied v
          → NoOffer p ((after b.state who act).channels c)) b.cells d r _
          (λ x z is. still who act n (none_before b t c p q u lt
          (subst (λ (k : ℕ × ℕ). IsFirstOffer k.1 u (b.state.channels k.0).queue) (λ i. (x i, z i)) first)))
          c q (λ ne x z is. still who act n (h v is)) refl refl

      spurned : (who : ℕ) (d r u : ℕ) (n : Needs shape b.state who (Spurn d r u)) → (v : ℕ)
          → mark b.state b.cells who (Spurn d r u) c q ≡ emptied v → NoOffer p ((after b.state who (Spurn d r u)).channels c)
      spurned who d r u n v = by_spot (λ x z w. x ≡ c → w ≡ emptied v
          → NoOffer p ((after b.state who (Spurn d r u)).channels c)) b.cells d r _
          (λ x is. absurd (true≢false (sym n.1 ∙ ap (λ (k : ℕ). spurns (kind_at shape k) (b.state.stood d r)) x
          ∙ never (b.state.stood d r))))
          c q (λ ne x is. still who (Spurn d r u) n (h v is)) refl

      go : (who : ℕ) (act : Act) → Needs shape b.state who act → (v : ℕ) → mark b.state b.cells who act c q ≡ emptied v
          → NoOffer p ((after b.state who act).channels c)
      go who (Hand d r u) n v is = still who (Hand d r u) n (h v is)
      go who (Put d r u) n v is = still who (Put d r u) n (h v (other d r (buffered u) v refl is))
      go who (Offer d r u w k) n v is = still who (Offer d r u w k) n (h v (other d r (offer u who w k) v refl is))
      go who (Await d r w k) n v is = still who (Await d r w k) n (h v (other d r (receiver who w k) v refl is))
      go who (Take d r u) n v is = removed who (Take d r u) n d r u n.1 v is
      go who (Admit d r) n v is = still who (Admit d r) n (h v is)
      go who (Drop d r u) n v is = removed who (Drop d r u) n d r u n.2 v is
      go who (Spurn d r u) n v is = spurned who d r u n v is
      go who (Close d u) n v is = still who (Close d u) n (h v (other d (b.state.channels d).next (closed_by u) v refl is))
      go who (Void d) n v is =
          still who (Void d) n (h v (other d (b.state.channels d).next (voided_by (close_value (b.state.channels d).closed)) v refl is))
      go who (Drain d r u) n v is = removed who (Drain d r u) n d r u n.2 v is
      go who (WakeClosed d r) n v is = still who (WakeClosed d r) n (h v is)
      go who (Withdraw w why) n v is = still who (Withdraw w why) n (h v is)
      go who (Settle w outcome) n v is = still who (Settle w outcome) n (h v is)

  none_blank : NoneIfEmptied (board_of [])
  unfolding board_from
  none_blank v is = absurd (true≢false (sym (ap is_emptied is)))

  emptied_first : (log : List Entry) (v : ℕ) → Legal shape log → cell_of log c q ≡ emptied v → stands log c p ≡ None
  emptied_first log v l is = cell_by_none shape log l c p (subst (λ (s : State). NoOffer p (s.channels c)) (board_state blank log)
      (board_lasts shape NoneIfEmptied (record { step = emptied_step }) [] log l none_blank v is))

-- ---- what is found at a place

place_given : (shape : Shape) (c p : ℕ) (log : List Entry) → Legal shape log → is_used (cell_of log c p) ≡ true
    → p + 1 ≤ (at_channel log c).next
place_given shape c p log l u = let lt = used_given (now log) c p (tied_now shape log l) u in omega arith

pub one_kept : (log : List Entry) (c p : ℕ) → WasKept (replay log).waits (cell_of log c p) → WereKept log c p (p + 1)
one_kept log c p h q le lt = let is : p ≡ q = omega arith in subst (λ (z : ℕ). WasKept (replay log).waits (cell_of log c z)) is h

-- what a place tells that was kept once
pub place_kept : (shape : Shape) (c p : ℕ) → ((n : ℕ) → spurns (kind_at shape c) n ≡ false) → (log : List Entry) → Legal shape log
    → (y : Cell) → cell_of log c p ≡ y → WasKept (replay log).waits y → KeptHere c p log
place_kept shape c p never log l free e h = absurd h
place_kept shape c p never log l (receiver who w k) e h = absurd h
place_kept shape c p never log l (offer v who w k) e h = record {
  kept = one_kept log c p (subst (WasKept (replay log).waits) (sym e) h);
  given = place_given shape c p log l (ap is_used e);
  nobody = ap (λ (z : Cell). waits_with (standing (replay log).waits p z)) e ∙ admitted_free p v k w ((replay log).waits w) h;
  behind = λ q le st. stands_kept (replay log).waits p (cell_of log c p) (subst (Keeps (replay log).waits) (sym e) h);
}
place_kept shape c p never log l (buffered v) e h = record {
  kept = one_kept log c p (subst (WasKept (replay log).waits) (sym e) h);
  given = place_given shape c p log l (ap is_used e);
  nobody = ap (λ (z : Cell). waits_with (standing (replay log).waits p z)) e;
  behind = λ q le st. ap (λ (z : Cell). is_some (standing (replay log).waits p z)) e;
}
place_kept shape c p never log l (emptied v) e h = record {
  kept = one_kept log c p (subst (WasKept (replay log).waits) (sym e) h);
  given = place_given shape c p log l (ap is_used e);
  nobody = ap (λ (z : Cell). waits_with (standing (replay log).waits p z)) e;
  behind = λ q le st. dite (ℕ_discrete q p) (λ (same : q ≡ p). subst (λ (z : ℕ). is_some (stands log c z) ≡ true) same st)
      (λ ne. absurd
      (true≢false (sym st ∙ ap is_some (emptied_first shape c q p (omega arith) never log v l e))));
}
place_kept shape c p never log l (closed_by v) e h = absurd h
place_kept shape c p never log l (voided_by v) e h = absurd h

pub kept_here : (shape : Shape) (c p v : ℕ) → suspends (kind_at shape c) ≡ true → (log : List Entry) → Legal shape log
    → cell_of log c p ≡ buffered v → KeptHere c p log
kept_here shape c p v kind log l e = place_kept shape c p (waits_keeps (kind_at shape c) kind) log l (buffered v) e tt

pub admitted_here : (shape : Shape) (c p : ℕ) (x : Waiter) → suspends (kind_at shape c) ≡ true → (log : List Entry) → Legal shape log
    → IsAdmitted shape c p x log → KeptHere c p log
admitted_here shape c p x kind log l a = ⊎_elim
    (λ (e : cell_of log c p ≡ offer x.value a.who a.wait x.clause). place_kept shape c p never log l (offer x.value a.who a.wait x.clause) e
    a.admitted)
    (λ (e : cell_of log c p ≡ emptied x.value). place_kept shape c p never log l (emptied x.value) e tt)
    a.cell
  where
    never : (n : ℕ) → spurns (kind_at shape c) n ≡ false
    never = waits_keeps (kind_at shape c) kind

-- ---- the walk

-- nobody waits with an element below the place; so many are kept from where the walk began, while the one there stands
pub record Walked (c low place count : ℕ) (log : List Entry) : Type 0 where
  pub given : place ≤ (at_channel log c).next
  pub below : NoneBelow 0 low (at_channel log c)
  pub nobody : (q : ℕ) → q < place → waits_with (stands log c q) ≡ false
  pub upper : length (gather (stands log c) place) ≤ count
  pub lower : is_some (stands log c low) ≡ true → count ≤ length (gather (stands log c) place)
  pub few : count + low ≤ place

pub walked_none : (shape : Shape) (c low : ℕ) (log : List Entry) → Legal shape log → NoneBelow 0 low (at_channel log c)
    → Walked c low low 0 log
walked_none shape c low log l h =
    let none : (q : ℕ) → q < low → stands log c q ≡ None = λ q lt. none_offers (now log) c (tied_now shape log l) 0 low h q lt in record {
      given = h.given_offers;
      below = h;
      nobody = λ q lt. ap waits_with (none q lt);
      upper = let e : length (gather (stands log c) low) ≡ 0 = ap (λ (os : List Standing). length os) (gather_none (stands log c) low none)
          in omega arith;
      lower = λ st. omega arith;
      few = omega arith;
    }

-- so many stand that stood
still_stand : (shape : Shape) (c low : ℕ) → suspends (kind_at shape c) ≡ true → (xs ys : List Entry) → Legal shape xs
    → Legal shape (xs ++ ys) → (place : ℕ) → place ≤ (at_channel xs c).next → NoneBelow 0 low (at_channel xs c)
    → ((q : ℕ) → q < place → waits_with (stands xs c q) ≡ false)
    → is_some (stands (xs ++ ys) c low) ≡ true → length (gather (stands xs c) place) ≤ length (gather (stands (xs ++ ys) c) place)
still_stand shape c low kind xs ys lx l place le below nobody stays = count_less (stands (xs ++ ys) c) (stands xs c) place stood
  where
    stood : (q : ℕ) → q < place → stands (xs ++ ys) c q ≡ None → stands xs c q ≡ None
    stood q lt e = go (stands xs c q) refl
      where
        go : (x : Option Standing) → stands xs c q ≡ x → stands xs c q ≡ None
        go None is = is
        go (Some o) is = dite (dec_le (q + 1) low)
            (λ before. none_offers (now xs) c (tied_now shape xs lx) 0 low below q (omega arith))
            (λ other. dite (ℕ_discrete q low)
            (λ (same : q ≡ low). absurd (true≢false (sym stays ∙ ap is_some (ap (stands (xs ++ ys) c) (sym same) ∙ e))))
            (λ ne. absurd
            (true≢false (sym (stands_kept (replay (xs ++ ys)).waits q (cell_of (xs ++ ys) c q)
            (kept_behind shape c low q (omega arith) (waits_keeps (kind_at shape c) kind) xs ys l (free_keeps xs c q o is (nobody q lt))
            stays)) ∙ ap is_some e))))

walked_more : (shape : Shape) (c low place count : ℕ) → suspends (kind_at shape c) ≡ true → (xs ys : List Entry) → Legal shape xs
    → Legal shape (xs ++ ys) → NoneBelow 0 low (at_channel (xs ++ ys) c) → Walked c low place count xs → Walked c low place count (xs ++ ys)
walked_more shape c low place count kind xs ys lx l below h = record {
  given = given_more shape place c xs ys l h.given;
  below = below;
  nobody = λ q lt. free_more shape c q xs ys lx l (let g = h.given in omega arith) (h.nobody q lt);
  upper = let m = count_less (stands xs c) (stands (xs ++ ys) c) place
      (λ q lt e. gone_more shape c q xs ys lx l (let g = h.given in omega arith) e) in let u = h.upper in omega arith;
  lower = λ st. dite (dec_le (low + 1) place)
      (λ inside. let before = h.lower (stood_before shape c low xs ys lx l (let g = h.given in omega arith) st)
      in let m = still_stand shape c low kind xs ys lx l place h.given h.below h.nobody st in omega arith)
      (λ outside. let f = h.few in omega arith);
  few = h.few;
}

pub walked_seen : (shape : Shape) (c low place count : ℕ) → suspends (kind_at shape c) ≡ true → (u v : Seen) → Sees u v → Legal shape u.seen
    → Legal shape v.seen → Walked c low place count u.seen → Walked c low place count v.seen
walked_seen shape c low place count kind u v s lu l h = subst (λ (es : List Entry). Walked c low place count es) (sym s.now)
    (walked_more shape c low place count kind u.seen s.others lu (subst (Legal shape) s.now l)
    (subst (λ (es : List Entry). NoneBelow 0 low (at_channel es c)) s.now (below_seen shape 0 low c u v s l h.below)) h)

free_next : (c place : ℕ) (log : List Entry) → ((q : ℕ) → q < place → waits_with (stands log c q) ≡ false)
    → waits_with (stands log c place) ≡ false → (q : ℕ) → q < place + 1 → waits_with (stands log c q) ≡ false
free_next c place log nobody at q lt = dite (ℕ_discrete q place) (λ (same : q ≡ place). ap (λ (z : ℕ). waits_with (stands log c z)) same
    ∙ at) (λ ne. nobody q (omega arith))

-- one place more: an element is kept there, or none stands
pub walked_kept : (c low place count : ℕ) (log : List Entry) → low ≤ place → Walked c low place count log → KeptHere c place log
    → Walked c low (place + 1) (count + 1) log
walked_kept c low place count log le h k = record {
  given = k.given;
  below = h.below;
  nobody = free_next c place log h.nobody k.nobody;
  upper = count_next (stands log c) place count h.upper;
  lower = λ st. count_some (stands log c) place count (h.lower st) (k.behind low le st);
  few = let f = h.few in omega arith;
}

pub walked_gone : (c low place count : ℕ) (log : List Entry) → Walked c low place count log → place + 1 ≤ (at_channel log c).next
    → stands log c place ≡ None → Walked c low (place + 1) count log
walked_gone c low place count log h given none = record {
  given = given;
  below = h.below;
  nobody = free_next c place log h.nobody (ap waits_with none);
  upper = let e = count_none (stands log c) place none in let u = h.upper in omega arith;
  lower = λ st. let e = count_none (stands log c) place none in let b = h.lower st in omega arith;
  few = let f = h.few in omega arith;
}

-- ---- nothing may be admitted

owes_push : (kind : Kind) (mark k : ℕ) (xs : List Standing) (x : Standing) → owes_admission_below kind mark k xs ≡ false
    → (is_some x.holder && (nat_lt x.place mark && not (is_full kind (k + length xs)))) ≡ false
    → owes_admission_below kind mark k (xs ++ x ∷ []) ≡ false
owes_push kind mark k [] x e f = or_from (is_some x.holder
    && (nat_lt x.place mark && not (is_full kind k))) false
    (ap (λ (z : ℕ). is_some x.holder && (nat_lt x.place mark && not (is_full kind z))) (omega arith) ∙ f) refl
owes_push kind mark k (y ∷ ys) x e f =
    let parts = or_parts (is_some y.holder && (nat_lt y.place mark && not (is_full kind k))) (owes_admission_below kind mark (k + 1) ys) e
    in
    or_from (is_some y.holder && (nat_lt y.place mark && not (is_full kind k))) (owes_admission_below kind mark (k + 1) (ys ++ x ∷ []))
    parts.0
    (owes_push kind mark (k + 1) ys x parts.1 (ap (λ (z : ℕ). is_some x.holder
    && (nat_lt x.place mark && not (is_full kind z))) (omega arith) ∙ f))

module _ (kind : Kind) (f : ℕ → Option Standing) (mark place : ℕ) (nobody : (q : ℕ) → q < place → waits_with (f q) ≡ false) where
  free_step : (n : ℕ) → n < place → owes_admission_below kind mark 0 (gather f n) ≡ false → (o : Option Standing) → f n ≡ o
      → owes_admission_below kind mark 0 (add_some o (gather f n)) ≡ false
  free_step n lt ih None e = ih
  free_step n lt ih (Some x) e = owes_push kind mark 0 (gather f n) x ih
      (ap (λ (b : Bool). b && (nat_lt x.place mark && not (is_full kind (0 + length (gather f n))))) (sym (ap waits_with e) ∙ nobody n lt))

  owes_none : (n : ℕ) → n ≤ place → owes_admission_below kind mark 0 (gather f n) ≡ false
  owes_none zero le = refl
  owes_none (suc n) le = free_step n (omega arith) (owes_none n (omega arith)) (f n) refl

  module _ (at : (q : ℕ) (o : Standing) → f q ≡ Some o → o.place ≡ q) (end : (mark ≤ place)
      ⊎ (is_full kind (length (gather f place)) ≡ true)) where
    beyond_step : (n d : ℕ) → n ≡ place + d → owes_admission_below kind mark 0 (gather f n) ≡ false → (o : Option Standing) → f n ≡ o
        → owes_admission_below kind mark 0 (add_some o (gather f n)) ≡ false
    beyond_step n d is ih None e = ih
    beyond_step n d is ih (Some x) e = owes_push kind mark 0 (gather f n) x ih
        (and_right (is_some x.holder) (nat_lt x.place mark && not (is_full kind (0 + length (gather f n)))) (⊎_elim
        (λ (le : mark ≤ place). ap (λ (b : Bool). b && not (is_full kind (0 + length (gather f n))))
        (le-ltb x.place mark (let p = at n x e in omega arith)))
        (λ (full : is_full kind (length (gather f place)) ≡ true). and_right (nat_lt x.place mark)
        (not (is_full kind (0 + length (gather f n))))
        (ap not (full_more kind (length (gather f place)) (0 + length (gather f n)) (let m = count_up f place d n is in omega arith) full)))
        end))

    owes_more : (d n : ℕ) → n ≡ place + d → owes_admission_below kind mark 0 (gather f n) ≡ false
    owes_more zero n e = let is : place ≡ n = omega arith
        in subst (λ (z : ℕ). owes_admission_below kind mark 0 (gather f z) ≡ false) is (owes_none place (omega arith))
    owes_more (suc d) n e = let is : suc (place + d) ≡ n = omega arith in
        subst (λ (z : ℕ). owes_admission_below kind mark 0 (gather f z) ≡ false) is
        (beyond_step (place + d) d refl (owes_more d (place + d) refl) (f (place + d)) refl)

module _ (shape : Shape) (c low place count mark : ℕ) (log : List Entry) (l : Legal shape log) (h : Walked c low place count log) where
  queue_owes : (mark ≤ place) ⊎ (is_full (kind_at shape c) (length (gather (stands log c) place)) ≡ true)
      → IsAdmittedBelow shape c mark (replay log)
  queue_owes end = ap (owes_admission_below (kind_at shape c) mark 0) ((tied_now shape log l).queues c)
      ∙ owes_more (kind_at shape c) (stands log c) mark place h.nobody
      (λ q o e. offer_place (replay log).waits q (cell_of log c q) o (standing_is (replay log).waits q (cell_of log c q) o e)) end
      ((at_channel log c).next - place) (at_channel log c).next
      (let g = h.given in omega arith)

  -- all places below the mark were passed
  pub all_passed : mark ≤ place → IsAdmittedBelow shape c mark (replay log)
  all_passed le = queue_owes (inl le)

  -- as many stand as the channel keeps
  pub all_full : is_full (kind_at shape c) count ≡ true → is_some (stands log c low) ≡ true → IsAdmittedBelow shape c mark (replay log)
  all_full full st = queue_owes (inr (full_more (kind_at shape c) count (length (gather (stands log c) place)) (h.lower st) full))

  -- all places that were given out were passed
  pub all_given : (at_channel log c).next ≡ place → IsAdmittedBelow shape c mark (replay log)
  all_given e = ap (owes_admission_below (kind_at shape c) mark 0) ((tied_now shape log l).queues c)
      ∙ owes_none (kind_at shape c) (stands log c) mark place h.nobody (at_channel log c).next (omega arith)

-- a channel that keeps nothing without a wait
owes_full : (kind : Kind) (mark k : ℕ) (xs : List Standing) → ((n : ℕ) → is_full kind n ≡ true)
    → owes_admission_below kind mark k xs ≡ false
owes_full kind mark k [] full = refl
owes_full kind mark k (x ∷ xs) full = or_from (is_some x.holder
    && (nat_lt x.place mark && not (is_full kind k))) (owes_admission_below kind mark (k + 1) xs)
    (and_right (is_some x.holder) (nat_lt x.place mark && not (is_full kind k))
    (and_right (nat_lt x.place mark) (not (is_full kind k)) (ap not (full k)))) (owes_full kind mark (k + 1) xs full)

pub never_keeps : (shape : Shape) (c mark : ℕ) (s : State) → ((n : ℕ) → is_full (kind_at shape c) n ≡ true) → IsAdmittedBelow shape c mark s
never_keeps shape c mark s full = owes_full (kind_at shape c) mark 0 (s.channels c).queue full

pub keeps_none : (shape : Shape) (c most : ℕ) → kind_at shape c ≡ Buffered most → most ≡ 0 → (n : ℕ) → is_full (kind_at shape c) n ≡ true
keeps_none shape c most kind none n = ap (λ (k : Kind). is_full k n) kind ∙ ap (λ (z : ℕ). nat_le z n) none ∙ zero_le
  where
    zero_le : nat_le 0 n ≡ true
    zero_le = grind (arith, nat_tests)

-- a channel on which nobody waits with an element
owes_kept : (kind : Kind) (mark k : ℕ) (xs : List Standing) → list_all (λ (o : Standing). is_none o.holder) xs ≡ true
    → owes_admission_below kind mark k xs ≡ false
owes_kept kind mark k [] h = refl
owes_kept kind mark k (x ∷ xs) h = or_from (is_some x.holder
    && (nat_lt x.place mark && not (is_full kind k))) (owes_admission_below kind mark (k + 1) xs)
    (ap (λ (b : Bool). b && (nat_lt x.place mark && not (is_full kind k)))
    (not_some x.holder (all_first (λ (o : Standing). is_none o.holder) x xs h)))
    (owes_kept kind mark (k + 1) xs (all_rest (λ (o : Standing). is_none o.holder) x xs h))
  where
    not_some : (o : Option Party) → is_none o ≡ true → is_some o ≡ false
    not_some None e = refl
    not_some (Some y) e = cc

pub never_waits : (shape : Shape) (c mark : ℕ) (log : List Entry) → Legal shape log → suspends (kind_at shape c) ≡ false
    → IsAdmittedBelow shape c mark (replay log)
never_waits shape c mark log l kind = owes_kept (kind_at shape c) mark 0 (at_channel log c).queue
    (((sound shape log l).channels c).kept kind)

-- ---- between two looks

pub within_places : (shape : Shape) (c p : ℕ) (log : List Entry) → Legal shape log → p ≤ (at_channel log c).next → p ≤ places_at shape c
within_places shape c p log l le = let w = ((sound shape log l).channels c).within in omega arith

pub sees_self : (v : Seen) → Sees v v
sees_self v = record {
  others = [];
  now = sym (append-nil v.seen);
  apart = λ t h. refl;
  tags = refl;
  giving = refl;
  order =
      order_same v.order;
}

pub nothing_now : (shape : Shape) (c mark : ℕ) (u v : Seen) → Sees u v → IsAdmittedBelow shape c mark (replay v.seen)
    → NothingToAdmit shape c mark u v
nothing_now shape c mark u v s h = record { then = v; sees = s; later = sees_self v; nothing = h }

pub nothing_seen : (shape : Shape) (c mark : ℕ) (u v w : Seen) → Sees u v → NothingToAdmit shape c mark v w
    → NothingToAdmit shape c mark u w
nothing_seen shape c mark u v w s h = record { then = h.then; sees = sees_then u v h.then s h.sees; later = h.later; nothing = h.nothing }

pub admits_seen : (who c p t : ℕ) (u v w : Seen) → Sees u v → Admits who c p t v w → Admits who c p t u w
unfolding sees_makes
admits_seen who c p t u v w s a = record {
  made = sees_makes u v w _ s a.made;
  of = subst (λ (es : List Entry). owner_of_holder (replay es) (holder_at p (at_channel es c).queue) ≡ Some t)
      (ap (λ (es : List Entry). es ++ a.made.others) s.now ∙ append_assoc u.seen s.others a.made.others) a.of;
}

-- after some looks, what the search found
pub search_seen : (shape : Shape) (who c low mark : ℕ) (u v w : Seen) → Sees u v → (r : Search) → SearchAnswer shape who c low mark v w r
    → SearchAnswer shape who c low mark u w r
search_seen shape who c low mark u v w s (search.Done p t) h = (admits_seen who c p t u v w s h.0, h.1)
search_seen shape who c low mark u v w s search.Nothing h = nothing_seen shape c mark u v w s h
search_seen shape who c low mark u v w s search.Passed h = (sees_then u v w s h.0, h.1)

-- where an offer was seen, its place was given out
pub offer_next : (shape : Shape) (c p : ℕ) (x : Waiter) (u v : Seen) → Sees u v → Legal shape u.seen → Legal shape v.seen
    → Offers shape c p x u.seen → p + 1 ≤ (at_channel v.seen c).next
offer_next shape c p x u v s lu l o = given_seen shape (p + 1) c u v s l (place_given shape c p u.seen lu (ap is_used o.cell))

-- none stands where the walk began
pub passed_low : (shape : Shape) (c low : ℕ) (log : List Entry) → Legal shape log → NoneBelow 0 low (at_channel log c)
    → low < (at_channel log c).next → stands log c low ≡ None → NoneBelow 0 (low + 1) (at_channel log c)
passed_low shape c low log l below lt none = past_offer (now log) c (tied_now shape log l) 0 low below lt none

-- room, by what was counted
pub room_by : (shape : Shape) (c most count n : ℕ) → kind_at shape c ≡ Buffered most → n ≤ count → count ≤ most → (count ≡ most → ⊥)
    → is_full (kind_at shape c) n ≡ false
room_by shape c most count n kind le few ne = ap (λ (k : Kind). is_full k n) kind ∙ less (omega arith)
  where
    less : n < most → nat_le most n ≡ false
    less h = grind (arith, nat_tests)

pub full_by : (shape : Shape) (c most count : ℕ) → kind_at shape c ≡ Buffered most → count ≡ most → is_full (kind_at shape c) count ≡ true
full_by shape c most count kind e = ap (λ (k : Kind). is_full k count) kind ∙ at_least
  where
    at_least : nat_le most count ≡ true
    at_least = grind (arith, nat_tests)

-- the first stood at the moment of the walk's end, or none stands there now
pub search_told : (shape : Shape) (who c low place count mark : ℕ) (u v w : Seen) → Sees u v → Sees v w → Legal shape v.seen
    → Legal shape w.seen → Walked c low place count v.seen → low < place → is_full (kind_at shape c) count ≡ true
    → is_some (stands v.seen c low) ≡ true
    → NothingToAdmit shape c mark u w
search_told shape who c low place count mark u v w s r l lw h lt full st =
    record { then = v; sees = s; later = r; nothing = all_full shape c low place count mark v.seen l h full st }
