-- A number is moved in with one value alone.
use Rattle.std.specs.Prelude.{◌≡◌, ℕ, ◌+◌, ◌==◌, ◌≤◌, Bool, true, false, List, [], ◌∷◌, ◌++◌, Option, Some, None, Result, Ok, Err, IfSome, if◌then◌else◌, refl}
use Rattle.std.proofs.Common.{sym, ap, ◌∙◌, subst, arith, append_assoc, eq-eqb}
use Rattle.parcel_channel.specs.declared.parcel.ParcelAct.{ParcelAct}
use Rattle.parcel_channel.specs.declared.parcel.ParcelAct.TheVariants.{Draw, MoveIn, PutBack}
use Rattle.parcel_channel.specs.declared.parcel.ParcelEntry.{ParcelEntry}
use Rattle.worded.specs.Histories.{entries_of}
use Rattle.parcel_channel.specs.Parcels.{Legal, maker, moved_by, moves}
use Rattle.worded.specs.Exchanges.{Entered}
use Rattle.parcel_channel.specs.Tables.{Fits}
use Rattle.parcel_channel.specs.Seen.{Seen, own_tag, SameTags, entry_of}
use Rattle.parcel_channel.specs.Answers.{IsMove, IsOnly, PutAnswer, TakeAnswer}
use Rattle.parcel_channel.specs.Moves.{is_move_in, how_often}
use Rattle.parcel_channel.proofs.HistoriesGoOn.{moves-append}
use Rattle.parcel_channel.proofs.MovedOnce.{moved_once}

one_more : (b n k : ℕ) → b ≡ 1 → 1 ≤ n → k ≡ b + n → k ≤ 1 → ⊥
one_more b n k is le e few = omega (arith, is, le, e, few)

some_here : (b n k : ℕ) → b ≡ 1 → k ≡ b + n → 1 ≤ k
some_here b n k is e = omega (arith, is, e)

some_later : (b n k : ℕ) → 1 ≤ n → k ≡ b + n → 1 ≤ k
some_later b n k le e = omega (arith, le, e)

fewer : (b n k : ℕ) → k ≡ b + n → k ≤ 1 → n ≤ 1
fewer b n k e few = omega (arith, e, few)

abbrev one_if : Bool → ℕ
one_if true = 1
one_if false = 0

module _ {T : Type 0} where
  -- how often a number stands in a list of moves
  abbrev often : ℕ → List (ℕ × T) → ℕ
  often k [] = 0
  often k (m ∷ ms) = one_if (m.0 == k) + often k ms

  often_here : (k : ℕ) (x : T) (ms : List (ℕ × T)) → often k ((k, x) ∷ ms) ≡ 1 + often k ms
  often_here k x ms = ap (λ (b : Bool). one_if b + often k ms) (eq-eqb k k refl)

  -- it stands in a list that has it
  stands : (k : ℕ) (x : T) (before after : List (ℕ × T)) → 1 ≤ often k (before ++ (k, x) ∷ after)
  stands k x [] after = some_here 1 (often k after) (often k ((k, x) ∷ after)) refl (often_here k x after)
  stands k x (m ∷ ms) after = some_later (one_if (m.0 == k)) (often k (ms ++ (k, x) ∷ after)) (often k ((m ∷ ms) ++ (k, x) ∷ after))
      (stands k x ms after) refl

  abbrev value_at : T → List (ℕ × T) → T
  value_at x [] = x
  value_at x (m ∷ ms) = m.1

  abbrev key_at : ℕ → List (ℕ × T) → ℕ
  key_at k [] = k
  key_at k (m ∷ ms) = m.0

  abbrev later : List (ℕ × T) → List (ℕ × T)
  later [] = []
  later (m ∷ ms) = ms

  -- where it stands once, there is one value
  same_value : (k : ℕ) (x y : T) (before after before' after' : List (ℕ × T)) → often k (before ++ (k, x) ∷ after) ≤ 1 → before
      ++ (k, x) ∷ after ≡ before' ++ (k, y) ∷ after' → x ≡ y
  same_value k x y [] after [] after' few e = ap (value_at x) e
  same_value k x y [] after (m ∷ ms) after' few e =
      absurd (one_more 1 (often k after) (often k ((k, x) ∷ after)) refl
      (subst (λ l. 1 ≤ often k l) (sym (ap later e)) (stands k y ms after')) (often_here k x after) few)
  same_value k x y (m ∷ ms) after [] after' few e =
      absurd (one_more (one_if (m.0 == k)) (often k (ms ++ (k, x) ∷ after)) (often k ((m ∷ ms) ++ (k, x) ∷ after))
      (ap one_if (eq-eqb m.0 k (ap (key_at k) e))) (stands k x ms after) refl few)
  same_value k x y (m ∷ ms) after (n ∷ ns) after' few e =
      same_value k x y ms after ns after' (fewer (one_if (m.0 == k)) (often k (ms ++ (k, x) ∷ after)) (often k ((m ∷ ms) ++ (k, x) ∷ after))
      refl few) (ap later e)

  -- as many entries move it in
  often-moves : (k : ℕ) (log : List (ParcelEntry T)) → often k (moves log) ≡ how_often (is_move_in k) log
  often-moves k [] = refl
  often-moves k (e ∷ es) = by_act e.act (often-moves k es)
    where
      test : (b : Bool) (n m : ℕ) → n ≡ m → one_if b + n ≡ (if b then 1 + m else m)
      test true n m h = ap (λ i. 1 + i) h
      test false n m h = omega (arith, h)

      by_act : (act : ParcelAct T) → often k (moves es) ≡ how_often (is_move_in k) es
          → often k (moved_by act ++ moves es) ≡ (if is_move_in k act then 1 + how_often (is_move_in k) es else how_often (is_move_in k) es)
      by_act (MoveIn j v) h = test (j == k) (often k (moves es)) (how_often (is_move_in k) es) h
      by_act other h = h

  -- of two values of one number
  pub one_value : (n k : ℕ) (x : T) (log : List (ParcelEntry T)) → Legal n log → IsMove k x log → IsOnly k x log
  one_value n k x log legal a y b = same_value k x y a.before a.after b.before b.after
      (subst (λ (i : ℕ). i ≤ 1) (sym (often-moves k log) ∙ ap (often k) a.at) (moved_once n log k legal).once) (sym a.at ∙ b.at)

  -- a value that was moved in before
  pub only_before : (n k : ℕ) (x : T) (v w : List (ParcelEntry T)) (rest : List (ParcelEntry T)) → w ≡ v ++ rest → Legal n w → IsMove k x w
      → IsOnly k x v
  only_before n k x v w rest now legal a y b = one_value n k x w legal a y (record {
    before = b.before;
    after = b.after ++ moves rest;
    at = ap (λ l. moves l) now ∙ moves-append v rest ∙ ap (λ l. l ++ moves rest) b.at
        ∙ append_assoc b.before ((k, y) ∷ b.after) (moves rest);
  })

  -- the value that a call moved out
  pub only_taken : (n k old : ℕ) (v z y : Seen T) (result : Option T) (who : ℕ)
      → Entered (Legal n) Fits maker (1 + k) old (entry_of (own_tag z) (PutBack k)) z y → TakeAnswer who k v y result
      → IfSome result (λ x. IsOnly k x v.seen)
  only_taken n k old v z y (Some x) who e h = only_before n k x v.seen y.seen h.0.rest h.0.now
      (subst (λ l. Legal n l) (sym (ap (λ (q : Seen T). q.seen) e.now)) e.is_legal) h.1
  only_taken n k old v z y None who e h = tt

  -- ---- the value that a call moved in

  abbrev first_of : ParcelEntry T → List (ParcelEntry T) → ParcelEntry T
  first_of e [] = e
  first_of e (x ∷ xs) = x

  abbrev rest_of : List (ParcelEntry T) → List (ParcelEntry T)
  rest_of [] = []
  rest_of (x ∷ xs) = xs

  no_entry : (e : ParcelEntry T) (before after : List (ParcelEntry T)) → [] ≡ before ++ e ∷ after → ⊥
  no_entry e [] after q = cc
  no_entry e (x ∷ xs) after q = cc

  move_later : (k : ℕ) (x : T) (r : ParcelEntry T) (rs : List (ParcelEntry T)) → IsMove k x rs → IsMove k x (r ∷ rs)
  move_later k x r rs m = record {
    before = moved_by r.act ++ m.before;
    after = m.after;
    at = ap (λ l. moved_by r.act ++ l) m.at ∙ sym (append_assoc (moved_by r.act) m.before ((k, x) ∷ m.after));
  }

  moved_in : (who k : ℕ) (x : T) (log before after : List (ParcelEntry T)) → entries_of maker who log ≡ before
      ++ entry_of who (MoveIn k x) ∷ after → IsMove k x log
  moved_in who k x [] before after q = absurd (no_entry (entry_of who (MoveIn k x)) before after q)
  moved_in who k x (r ∷ rs) before after q = by_test (r.who == who) before q (λ bs p. moved_in who k x rs bs after p)
    where
      by_test : (b : Bool) (bs : List (ParcelEntry T)) → (if b then r ∷ entries_of maker who rs else entries_of maker who rs) ≡ bs
          ++ entry_of who (MoveIn k x) ∷ after
          → ((cs : List (ParcelEntry T)) → entries_of maker who rs ≡ cs ++ entry_of who (MoveIn k x) ∷ after → IsMove k x rs)
          → IsMove k x (r ∷ rs)
      by_test true [] p next = record {
        before = [];
        after = moves rs;
        at =
            ap (λ (e : ParcelEntry T). moved_by e.act ++ moves rs) (ap (first_of r) p);
      }
      by_test true (c ∷ cs) p next = move_later k x r rs (next cs (ap rest_of p))
      by_test false cs p next = move_later k x r rs (next cs p)

  pub put_move : (n who k : ℕ) (x : T) (v w : Seen T) → PutAnswer n who x v w (Ok k) → IsMove k x w.seen
  put_move n who k x v w h = let m = moved_in who k x h.0.rest (entry_of who (Draw k) ∷ []) [] h.0.mine in record {
    before = moves v.seen ++ m.before;
    after = m.after;
    at = ap (λ l. moves l) h.0.now ∙ moves-append v.seen h.0.rest ∙ ap (λ l. moves v.seen ++ l) m.at
        ∙ sym (append_assoc (moves v.seen) m.before ((k, x) ∷ m.after));
  }

  -- ---- tags

  pub put_tags : (n who : ℕ) (x : T) (v w : Seen T) (r : Result ℕ T) → PutAnswer n who x v w r → SameTags v w
  put_tags n who x v w (Ok k) h = (h.0.tags, h.0.giving)
  put_tags n who x v w (Err y) h = (h.1.adds.tags, h.1.adds.giving)

  pub take_tags : (who k : ℕ) (v w : Seen T) (r : Option T) → TakeAnswer who k v w r → SameTags v w
  take_tags who k v w (Some x) h = (h.0.tags, h.0.giving)
  take_tags who k v w None h = (h.0.tags, h.0.giving)
