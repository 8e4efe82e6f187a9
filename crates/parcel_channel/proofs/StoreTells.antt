-- What the steps on parcels come to, as the calls tell it.
use Rattle.std.specs.Prelude.{◌≡◌, ℕ, suc, ◌+◌, ◌<◌, ◌≤◌, ◌==◌, Bool, true, false, List, [], ◌∷◌, ◌++◌, Option, Some, None, Ok, MatchBool, if◌then◌else◌, refl}
use Rattle.std.proofs.Common.{inl, inr, sym, ap, ◌∙◌, subst, arith, append_assoc, append-nil, ne_eqb, eq-eqb}
use Rattle.std.proofs.lemmas.Bool.{lt-ltb, le-ltb}
use mathlib.Core.Logic.{dite}
use native.Mathlib.Decide.{ℕ_discrete}
use Rattle.atomic_table.specs.Table.{rest}
use Rattle.worded.specs.Views.{has_tag, having_seen}
use Rattle.worded.specs.Histories.{entries_of}
use Rattle.worded.specs.Exchanges.{Loaded, Entered}
use Rattle.worded.proofs.TagsAndPrefixes.{entries_of-append, entries_of_else}
use Rattle.worded.proofs.StepsOfSeats as steps
use Rattle.parcel_channel.specs.declared.parcel.ParcelAct.{ParcelAct}
use Rattle.parcel_channel.specs.declared.parcel.ParcelAct.TheVariants.{Draw, Miss, MoveIn, MoveOut, PutBack}
use Rattle.parcel_channel.specs.declared.parcel.ParcelEntry.{ParcelEntry}
use Rattle.parcel_channel.specs.Parcels.{Parcel, unused, drawn, inside, outside, emptied, is_drawn_by, is_inside, is_out_with, State, start, put, after, state_from, state_of, Legal, maker, moves}
use Rattle.parcel_channel.specs.Tables.{parcel_code, Fits}
use Rattle.parcel_channel.specs.Seen.{Seen, Sat, first_tag, own_tag, now_in, entry_of, entry_drawn, MovedOut}
use Rattle.parcel_channel.specs.Answers.{Sees, Makes, Adds, IsMove, IsSpent, PutAnswer, TakeAnswer}
use Rattle.parcel_channel.proofs.HistoriesGoOn.{put_here, put_else, state_push, moves-append}
use Rattle.parcel_channel.proofs.StatesStaySound.{sound_of}

le_up : (n m k : ℕ) → n ≤ m → m ≡ k → n ≤ suc k
le_up n m k le is = omega (arith, le, is)

module _ {T : Type 0} where
  -- ---- single steps

  pub sees_of : (n word m : ℕ) (v w : Seen T) → v.heard_tags ≡ [] → Loaded (Legal n) Fits maker word m v w → Sees v w
  sees_of n word m v w idle l = steps.sees_of idle l

  pub makes_of : (n word old : ℕ) (e : ParcelEntry T) (v w : Seen T) → v.heard_tags ≡ [] → Entered (Legal n) Fits maker word old e v w
      → Makes v e w
  makes_of n word old e v w idle l = (steps.turns_of idle l).made

  pub adds_sees : (who : ℕ) (v w : Seen T) → has_tag who v.tags ≡ true → Sees v w → Adds who [] v w
  adds_sees who v w own s = record {
    rest = s.others;
    now = s.now;
    mine = s.apart who own;
    apart = λ t h ne. s.apart t h;
    tags = s.tags;
    giving = s.giving;
  }

  pub adds_makes : (who : ℕ) (act : ParcelAct T) (v w : Seen T) → has_tag who v.tags ≡ true → Makes v (entry_of who act) w
      → Adds who (entry_of who act ∷ []) v w
  adds_makes who act v w own m = record {
    rest = m.others ++ entry_of who act ∷ [];
    now = m.now ∙ append_assoc v.seen m.others (entry_of who act ∷ []);
    mine = entries_of-append maker who m.others (entry_of who act ∷ [])
        ∙ ap (λ l. l ++ entries_of maker who (entry_of who act ∷ [])) (m.apart who own)
        ∙ ap (λ (b : Bool). if b then entry_of who act ∷ [] else []) (eq-eqb who who refl);
    apart = λ t h ne. entries_of_else maker t m.others (entry_of who act) (λ same. ne (sym same)) ∙ m.apart t h;
    tags = m.tags;
    giving = m.giving;
  }

  pub adds_then : (who : ℕ) (a b : List (ParcelEntry T)) (v u w : Seen T) → Adds who a v u → Adds who b u w → Adds who (a ++ b) v w
  adds_then who a b v u w x y = record {
    rest = x.rest ++ y.rest;
    now = y.now ∙ ap (λ l. l ++ y.rest) x.now ∙ append_assoc v.seen x.rest y.rest;
    mine = entries_of-append maker who x.rest y.rest ∙ (λ i. x.mine i ++ y.mine i);
    apart = λ t h ne. entries_of-append maker t x.rest y.rest ∙ (λ i. x.apart t h ne i ++ y.apart t (ap (has_tag t) x.tags ∙ h) ne i);
    tags = y.tags ∙ x.tags;
    giving = y.giving ∙ x.giving;
  }

  idle_now : (v w : Seen T) (log : List (ParcelEntry T)) → w ≡ having_seen v log → w.heard_tags ≡ []
  idle_now v w log now = ap (λ (x : Seen T). x.heard_tags) now

  made_state : (v w : Seen T) (e : ParcelEntry T) (m : Makes v e w) → now_in w ≡ after (state_of (v.seen ++ m.others)) e.who e.act
  made_state v w e m = ap (λ l. state_of l) m.now ∙ state_push (v.seen ++ m.others) e

  -- ---- a number is drawn

  pub still_early : (n m who : ℕ) (v u : Seen T) → Loaded (Legal n) Fits maker 0 m v u → m < n → (now_in u).late who ≡ false
  still_early n m who v u l lt = ap (λ (x : Seen T). (state_of x.seen).late who) l.now
      ∙ (sound_of n (v.seen ++ l.others) l.added.is_legal).early (subst (λ i. i < n) (l.found.counter refl) lt) who

  drawn_entry : (n who m : ℕ) → m < n → entry_drawn {T = T} n who m ≡ entry_of who (Draw m)
  drawn_entry n who m lt = ap (λ (b : Bool). entry_of {T = T} who (if b then Draw m else Miss)) (lt-ltb m n lt)

  missed_entry : (n who m : ℕ) → n ≤ m → entry_drawn {T = T} n who m ≡ entry_of who Miss
  missed_entry n who m le = ap (λ (b : Bool). entry_of {T = T} who (if b then Draw m else Miss)) (le-ltb m n le)

  pub spent_before : (n m : ℕ) (v u : Seen T) → v.heard_tags ≡ [] → has_tag (own_tag v) v.tags ≡ true → Loaded (Legal n) Fits maker 0 m v u
      → n ≤ m → IsSpent n (own_tag v) v u
  spent_before n m v u idle own l le = record {
    made = [];
    adds = adds_sees (own_tag v) v u own (sees_of n 0 m v u idle l);
    none = inl refl;
    all = subst (λ i. n ≤ i) (l.found.counter refl ∙ sym (ap (λ (x : Seen T). (state_of x.seen).count) l.now)) le;
  }

  pub spent_now : (n i m : ℕ) (v u w : Seen T) → v.heard_tags ≡ [] → has_tag (own_tag v) v.tags ≡ true → Loaded (Legal n) Fits maker 0 i v u
      → Entered (Legal n) Fits maker 0 m (entry_drawn n (own_tag u) m) u w → n ≤ m → IsSpent n (own_tag v) v w
  spent_now n i m v u w idle own l e le =
      let s = sees_of n 0 i v u idle l in
      let who : ℕ = own_tag v in
      let same : own_tag u ≡ who = ap first_tag s.tags in
      let entry : entry_drawn n (own_tag u) m ≡ entry_of who Miss = ap (λ t. entry_drawn n t m) same ∙ missed_entry n who m le in
      let made : Makes u (entry_of who Miss) w = subst (λ x. Makes u x w) entry
      (makes_of n 0 m (entry_drawn n (own_tag u) m) u w (idle_now v u (v.seen ++ l.others) l.now) e) in
      record {
        made = entry_of who Miss ∷ [];
        adds = adds_then who [] (entry_of who Miss ∷ []) v u w (adds_sees who v u own s)
            (adds_makes who Miss u w (ap (has_tag who) s.tags ∙ own) made);
        none = inr refl;
        all = subst (λ i. n ≤ i) (sym (ap (λ (x : Seen T). (state_of x.seen).count) e.now
            ∙ ap (λ (z : State T). z.count) (state_push (u.seen ++ e.others) (entry_drawn n (own_tag u) m))
            ∙ ap (λ (x : ParcelEntry T). (after (state_of (u.seen ++ e.others)) x.who x.act).count) entry))
            (le_up n m (state_of (u.seen ++ e.others)).count le (e.found.counter refl));
      }

  -- ---- a value is moved in

  pub drawn_state : (n m : ℕ) (u w z : Seen T) → u.heard_tags ≡ [] → z ≡ w
      → Entered (Legal n) Fits maker 0 m (entry_drawn n (own_tag u) m) u w → m < n → is_drawn_by (own_tag z) ((now_in z).parcels m) ≡ true
  drawn_state n m u w z idle is e lt = subst (λ y. is_drawn_by (own_tag y) ((now_in y).parcels m) ≡ true) (sym is) (
      let who : ℕ = own_tag u in
      let made : Makes u (entry_of who (Draw m)) w = subst (λ x. Makes u x w) (drawn_entry n who m lt)
      (makes_of n 0 m (entry_drawn n who m) u w idle e) in
      ap (λ (p : Parcel T). is_drawn_by (own_tag w) p) (ap (λ (s : State T). s.parcels m) (made_state u w (entry_of who (Draw m)) made)
      ∙ put_here m (drawn who) (state_of (u.seen ++ made.others)).parcels)
      ∙ eq-eqb who (own_tag w) (sym (ap first_tag made.tags)))

  pub put_told : (n i m old : ℕ) (x : T) (v u w z y : Seen T) → v.heard_tags ≡ [] → has_tag (own_tag v) v.tags ≡ true
      → Loaded (Legal n) Fits maker 0 i v u → Entered (Legal n) Fits maker 0 m (entry_drawn n (own_tag u) m) u w → m < n → z ≡ w
      → Entered (Legal n) Fits maker (1 + m) old (entry_of (own_tag z) (MoveIn m x)) z y → PutAnswer n (own_tag v) x v y (Ok m)
  put_told n i m old x v u w z y idle own l e lt is f =
      let who : ℕ = own_tag v in
      let s = sees_of n 0 i v u idle l in
      let idle_u : u.heard_tags ≡ [] = idle_now v u (v.seen ++ l.others) l.now in
      let own_u : own_tag u ≡ who = ap first_tag s.tags in
      let a : Makes u (entry_of who (Draw m)) w = subst (λ q. Makes u q w) (ap (λ t. entry_drawn n t m) own_u
      ∙ drawn_entry n who m lt) (makes_of n 0 m (entry_drawn n (own_tag u) m) u w idle_u e) in
      let own_w : own_tag w ≡ who = ap first_tag a.tags ∙ own_u in
      let f' : Entered (Legal n) Fits maker (1 + m) old (entry_of (own_tag w) (MoveIn m x)) w y =
      subst (λ q. Entered (Legal n) Fits maker (1 + m) old (entry_of (own_tag q) (MoveIn m x)) q y) is f in
      let b : Makes w (entry_of who (MoveIn m x)) y = subst (λ t. Makes w (entry_of t (MoveIn m x)) y) own_w
      (makes_of n (1 + m) old (entry_of (own_tag w) (MoveIn m x)) w y
      (idle_now u w ((u.seen ++ e.others) ++ entry_drawn n (own_tag u) m ∷ []) e.now) f') in
      let tag_u : has_tag who u.tags ≡ true = ap (has_tag who) s.tags ∙ own in (
        adds_then who (entry_of who (Draw m) ∷ []) (entry_of who (MoveIn m x) ∷ []) v w y
            (adds_then who [] (entry_of who (Draw m) ∷ []) v u w (adds_sees who v u own s) (adds_makes who (Draw m) u w tag_u a))
            (adds_makes who (MoveIn m x) w y (ap (has_tag who) a.tags ∙ tag_u) b),
        lt,
      )

  -- ---- what lies in a slot was moved in

  abbrev value_of : T → Parcel T → T
  value_of x unused = x
  value_of x (drawn t) = x
  value_of x (inside y) = y
  value_of x (outside t) = x
  value_of x emptied = x

  AllMoves : State T → List (ParcelEntry T) → Type 0
  AllMoves s log = (k : ℕ) (x : T) → s.parcels k ≡ inside x → IsMove k x log

  move_more : (k : ℕ) (x : T) (xs ys : List (ParcelEntry T)) → IsMove k x xs → IsMove k x (xs ++ ys)
  move_more k x xs ys m = record {
    before = m.before;
    after = m.after ++ moves ys;
    at = moves-append xs ys ∙ ap (λ l. l ++ moves ys) m.at ∙ append_assoc m.before ((k, x) ∷ m.after) (moves ys);
  }

  never_inside : {p : Parcel T} {x : T} → is_inside p ≡ false → p ≡ inside x → ⊥
  never_inside h e = let z : false ≡ true = sym h ∙ ap is_inside e in cc

  -- where a parcel that holds no value is put
  moves_else : (s : State T) (log : List (ParcelEntry T)) (e : ParcelEntry T) (j : ℕ) (p : Parcel T) → is_inside p ≡ false → AllMoves s log
      → (k : ℕ) (x : T) → put j p s.parcels k ≡ inside x → IsMove k x (log ++ e ∷ [])
  unfolding AllMoves
  moves_else s log e j p out h k x is = dite (ℕ_discrete j k)
      (λ same. absurd (never_inside out (sym (ap (put j p s.parcels) (sym same) ∙ put_here j p s.parcels) ∙ is)))
      (λ ne. move_more k x log (e ∷ []) (h k x (sym (put_else j k p s.parcels ne) ∙ is)))

  all_moves_step : (s : State T) (log : List (ParcelEntry T)) (who : ℕ) (act : ParcelAct T) → AllMoves s log
      → AllMoves (after s who act) (log ++ entry_of who act ∷ [])
  unfolding AllMoves
  all_moves_step s log who (Draw j) h = moves_else s log (entry_of who (Draw j)) j (drawn who) refl h
  all_moves_step s log who Miss h = λ k x is. move_more k x log (entry_of who Miss ∷ []) (h k x is)
  all_moves_step s log who (MoveIn j y) h = λ k x is. dite (ℕ_discrete j k)
      (λ same. let value : y ≡ x = ap (value_of y) (sym (ap (put j (inside y) s.parcels) (sym same) ∙ put_here j (inside y) s.parcels)
      ∙ is) in
      record {
        before = moves log;
        after = [];
        at = moves-append log (entry_of who (MoveIn j y) ∷ [])
            ∙ (λ i. moves log ++ (same i, value i) ∷ []);
      })
      (λ ne. move_more k x log (entry_of who (MoveIn j y) ∷ []) (h k x (sym (put_else j k (inside y) s.parcels ne) ∙ is)))
  all_moves_step s log who (MoveOut j) h = moves_else s log (entry_of who (MoveOut j)) j (outside who) refl h
  all_moves_step s log who (PutBack j) h = moves_else s log (entry_of who (PutBack j)) j emptied refl h

  all_moves_from : (s : State T) (log es : List (ParcelEntry T)) → AllMoves s log → AllMoves (state_from s es) (log ++ es)
  unfolding state_from
  all_moves_from s log [] h = subst (AllMoves s) (sym (append-nil log)) h
  all_moves_from s log (e ∷ es) h = subst (AllMoves (state_from (after s e.who e.act) es)) (append_assoc log (e ∷ []) es)
      (all_moves_from (after s e.who e.act) (log ++ e ∷ []) es (all_moves_step s log e.who e.act h))

  pub was_moved : (log : List (ParcelEntry T)) (k : ℕ) (x : T) → (state_of log).parcels k ≡ inside x → IsMove k x log
  unfolding AllMoves
  was_moved log k x is = all_moves_from start [] log (λ j y e. absurd (never_inside refl e)) k x is

  -- ---- a value is moved out

  pub out_of : (n k m : ℕ) (a r : Sat T) → m ≡ 1 → MatchBool (m == 1) (MovedOut n k a r) (Loaded (Legal n) Fits maker (1 + k) m a.0 r.0
      × (r.1 ≡ [])) → MovedOut n k a r
  out_of n k m a r is h = subst (λ (b : Bool). MatchBool b (MovedOut n k a r) (Loaded (Legal n) Fits maker (1 + k) m a.0 r.0 × (r.1 ≡ [])))
      (eq-eqb m 1 is) h

  pub not_out : (n k m : ℕ) (a r : Sat T) → (m ≡ 1 → ⊥) → MatchBool (m == 1) (MovedOut n k a r)
      (Loaded (Legal n) Fits maker (1 + k) m a.0 r.0 × (r.1 ≡ [])) → Loaded (Legal n) Fits maker (1 + k) m a.0 r.0
  not_out n k m a r ne h =
      (subst (λ (b : Bool). MatchBool b (MovedOut n k a r) (Loaded (Legal n) Fits maker (1 + k) m a.0 r.0 × (r.1 ≡ []))) (ne_eqb m 1 ne)
      h).0

  pub in_hand : (n k : ℕ) (a r : Sat T) (o : MovedOut n k a r) → r.1 ≡ (k, Some o.value) ∷ rest r.1
  in_hand n k a r o = o.hand ∙ ap (λ l. (k, Some o.value) ∷ rest l) (sym o.hand)

  pub out_state : (n k : ℕ) (a r : Sat T) (z : Seen T) → a.0.heard_tags ≡ [] → z ≡ r.0 → MovedOut n k a r
      → is_out_with (own_tag z) ((now_in z).parcels k) ≡ true
  out_state n k a r z idle is o = subst (λ y. is_out_with (own_tag y) ((now_in y).parcels k) ≡ true) (sym is) (
      let who : ℕ = own_tag a.0 in
      let made : Makes a.0 (entry_of who (MoveOut k)) r.0 = makes_of n (1 + k) 1 (entry_of who (MoveOut k)) a.0 r.0 idle o.entered in
      ap (λ (p : Parcel T). is_out_with (own_tag r.0) p) (ap (λ (s : State T). s.parcels k)
      (made_state a.0 r.0 (entry_of who (MoveOut k)) made) ∙ put_here k (outside who) (state_of (a.0.seen ++ made.others)).parcels)
      ∙ eq-eqb who (own_tag r.0) (sym (ap first_tag made.tags)))

  abbrev value_in : Option T → List (ℕ × Option T) → Option T
  value_in x [] = x
  value_in x (y ∷ ys) = y.1

  pub take_told : (n k old : ℕ) (a r : Sat T) (z y : Seen T) (result : Option T) (more : List (ℕ × Option T)) → a.0.heard_tags ≡ []
      → has_tag (own_tag a.0) a.0.tags ≡ true → (o : MovedOut n k a r) → r.1 ≡ (k, result) ∷ more → z ≡ r.0
      → Entered (Legal n) Fits maker (1 + k) old (entry_of (own_tag z) (PutBack k)) z y → TakeAnswer (own_tag a.0) k a.0 y result
  take_told n k old a r z y result more idle own o hand is f =
      subst (λ x. TakeAnswer (own_tag a.0) k a.0 y x) (ap (value_in result) (sym o.hand ∙ hand)) (
      let who : ℕ = own_tag a.0 in
      let one : Makes a.0 (entry_of who (MoveOut k)) r.0 = makes_of n (1 + k) 1 (entry_of who (MoveOut k)) a.0 r.0 idle o.entered in
      let own_r : own_tag r.0 ≡ who = ap first_tag one.tags in
      let f' : Entered (Legal n) Fits maker (1 + k) old (entry_of (own_tag r.0) (PutBack k)) r.0 y =
      subst (λ q. Entered (Legal n) Fits maker (1 + k) old (entry_of (own_tag q) (PutBack k)) q y) is f in
      let two : Makes r.0 (entry_of who (PutBack k)) y = subst (λ t. Makes r.0 (entry_of t (PutBack k)) y) own_r
      (makes_of n (1 + k) old (entry_of (own_tag r.0) (PutBack k)) r.0 y
      (idle_now a.0 r.0 ((a.0.seen ++ o.entered.others) ++ entry_of who (MoveOut k) ∷ []) o.entered.now) f') in
      let move : IsMove k o.value (a.0.seen ++ o.entered.others) = was_moved (a.0.seen ++ o.entered.others) k o.value o.was in (
        adds_then who (entry_of who (MoveOut k) ∷ []) (entry_of who (PutBack k) ∷ []) a.0 r.0 y (adds_makes who (MoveOut k) a.0 r.0 own one)
            (adds_makes who (PutBack k) r.0 y (ap (has_tag who) one.tags ∙ own) two),
        subst (IsMove k o.value) (sym two.now) (move_more k o.value (r.0.seen
            ++ two.others) (entry_of who (PutBack k) ∷ []) (move_more k o.value r.0.seen two.others
            (subst (IsMove k o.value) (sym (ap (λ (x : Seen T). x.seen) o.entered.now))
            (move_more k o.value (a.0.seen ++ o.entered.others) (entry_of who (MoveOut k) ∷ []) move)))),
      ))

  code_not : (p : Parcel T) → (parcel_code p ≡ 1 → ⊥) → is_inside p ≡ false
  code_not unused ne = refl
  code_not (drawn t) ne = refl
  code_not (inside x) ne = absurd (ne refl)
  code_not (outside t) ne = refl
  code_not emptied ne = refl

  pub take_missed : (n k m : ℕ) (v w : Seen T) → v.heard_tags ≡ [] → has_tag (own_tag v) v.tags ≡ true → (m ≡ 1 → ⊥)
      → Loaded (Legal n) Fits maker (1 + k) m v w → TakeAnswer (own_tag v) k v w None
  take_missed n k m v w idle own ne l = (
    adds_sees (own_tag v) v w own (sees_of n (1 + k) m v w idle l),
    ap (λ (x : Seen T). is_inside ((state_of x.seen).parcels k)) l.now
        ∙ code_not ((state_of (v.seen ++ l.others)).parcels k) (λ e. ne (l.found.parcel k refl ∙ e)),
  )
