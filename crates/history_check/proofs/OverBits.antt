-- The bits of elements that were one too many, act by act.
use Rattle.std.specs.Prelude.{◌≡◌, ◌≢◌, ℕ, zero, suc, ◌+◌, ◌<◌, ◌≤◌, ◌==◌, ◌&&◌, Bool, true, false, List, [], ◌∷◌, ◌++◌, Vec, Option, Some, None, Result, Ok, Err, IfOk, length, slice_get, slice_set, slice_index_or, refl, if◌then◌else◌}
use Rattle.std.specs.Global.{Global}
use Rattle.std.specs.List.{All}
use Rattle.std.proofs.Common.{get_or, sym, ap, ◌∙◌, subst, arith, inl, inr}
use Rattle.std.proofs.lemmas.Bool.{eqb-true, eqb-false, cases_lt}
use Rattle.std.proofs.lemmas.Bool.Decides.{nat_tests}
use Rattle.co_base.specs.declared.names.Memory.{Memory}
use Rattle.channel_model.specs.declared.acts.Act.{Act}
use Rattle.channel_model.specs.declared.acts.Act.TheVariants.{Hand, Put, Offer, Await, Take, Admit, Drop, Spurn, Close, Void, Drain, WakeClosed, Withdraw, Settle}
use Rattle.channel_model.specs.declared.acts.Entry.{Entry}
use Rattle.channel_model.specs.declared.acts.Kind.{Kind}
use Rattle.channel_model.specs.declared.acts.Kind.TheVariants.{Rendezvous, Buffered, DropLatest, Signal}
use Rattle.channel_model.specs.declared.standing.Party.{Party}
use Rattle.channel_model.specs.declared.standing.Receiver.{Receiver}
use Rattle.channel_model.specs.declared.standing.Resolution.{Resolution}
use Rattle.channel_model.specs.declared.standing.Standing.{Standing}
use Rattle.channel_model.specs.Channels.{Shape, State, kind_at, spurns, start, suspends}
use Rattle.channel_model.specs.Effects.{admitted, after, holder_at, put_stood, remove_first, resolve_first, resolve_holder, resolve_offer, with_queue}
use Rattle.channel_model.specs.Floors.{Floor, HasRoom, Made}
use Rattle.channel_model.specs.Histories.{Legal, replay, replay_from}
use Rattle.channel_model.specs.Needs.{Needs}
use Rattle.channel_model.proofs.Histories.{LegalFrom-parts, replay_push}
use Rattle.one_thread_floor.specs.ListFloors.{MayBeMade, has_capacity}
use Rattle.history_check.specs.Overs.{AreNone, AreOvers, IsOver, IsSet, KeepsOvers, bit_in, bits_of, over_in}
use Rattle.history_check.proofs.Walks.{first_needs, has_more}

-- ---- one channel's bits become others

got_put : {X : Type 0} (xs : List X) (i : ℕ) (new : X) → i < length xs → slice_get (slice_set xs i new) i ≡ Some new
got_put [] i new lt = absurd (omega arith)
got_put (x ∷ xs) zero new lt = refl
got_put (x ∷ xs) (suc i) new lt = got_put xs i new (omega arith)

got_other : {X : Type 0} (xs : List X) (i j : ℕ) (new : X) → i ≢ j → slice_get (slice_set xs i new) j ≡ slice_get xs j
got_other [] i j new n = refl
got_other (x ∷ xs) zero zero new n = absurd (n refl)
got_other (x ∷ xs) zero (suc j) new n = refl
got_other (x ∷ xs) (suc i) zero new n = refl
got_other (x ∷ xs) (suc i) (suc j) new n = got_other xs i j new (λ e. n (ap suc e))

got_here : {X : Type 0} (xs : List X) (i : ℕ) (old : X) → i < length xs → old ≡ get_or xs i old → slice_get xs i ≡ Some old
got_here [] i old lt e = absurd (omega arith)
got_here (x ∷ xs) zero old lt e = ap Some (sym e)
got_here (x ∷ xs) (suc i) old lt e = got_here xs i old (omega arith) e

set_length : {X : Type 0} (xs : List X) (i : ℕ) (new : X) → length (slice_set xs i new) ≡ length xs
set_length [] i new = refl
set_length (x ∷ xs) zero new = refl
set_length (x ∷ xs) (suc i) new = ap suc (set_length xs i new)

set_here : (xs : List (Vec Bool Global)) (c p : ℕ) (b : Bool) (old new : Vec Bool Global) → c < length xs → old ≡ get_or xs c old
    → ((q : ℕ) → bit_in new.items q ≡ (if p == q then b else bit_in old.items q)) → IsSet c p b xs (slice_set xs c new)
set_here xs c p b old new lt here bits = record {
  counted = set_length xs c new;
  bits = λ l d q. by_channel d q (c == d) refl;
}
  where
    by_channel : (d q : ℕ) (t : Bool) → (c == d) ≡ t
        → over_in (slice_set xs c new) d q ≡ (if t && (p == q) then b else over_in xs d q)
    by_channel d q true e =
        let same = eqb-true c d e in
        ap (λ n. over_in (slice_set xs c new) n q) (sym same) ∙ ap (λ o. bit_in (bits_of o) q) (got_put xs c new lt) ∙ bits q
        ∙ ap (λ o. if p == q then b else bit_in (bits_of o) q) (sym (got_here xs c old lt here))
        ∙ ap (λ n. if p == q then b else over_in xs n q) same
    by_channel d q false e = ap (λ o. bit_in (bits_of o) q) (got_other xs c d new (eqb-false c d e))

pub set_over_of : (r : Result (Unit {0}) Memory) (xs : List (Vec Bool Global)) (c p : ℕ) (b : Bool) (old new : Vec Bool Global)
    → c < length xs → old ≡ get_or xs c old
    → IfOk r (λ done. (q : ℕ) → bit_in new.items q ≡ (if p == q then b else bit_in old.items q))
    → IfOk r (λ done. IsSet c p b xs (slice_set xs c new))
set_over_of (Ok done) xs c p b old new lt here h = set_here xs c p b old new lt here h
set_over_of (Err e) xs c p b old new lt here h = tt

-- ---- at the start

nothing_over : (kind : Kind) → has_capacity kind ≡ true → spurns kind 0 ≡ false
nothing_over (DropLatest k) e = grind (arith, nat_tests)
nothing_over other e = refl

past : {X : Type 0} (xs : List X) (c : ℕ) (d : X) → length xs ≤ c → slice_index_or xs c d ≡ d
past [] c d le = refl
past (x ∷ xs) zero d le = absurd (omega arith)
past (x ∷ xs) (suc c) d le = past xs c d (omega arith)

none_over : (kinds : Shape) (c : ℕ) → All MayBeMade kinds → spurns (kind_at kinds c) 0 ≡ false
none_over kinds c all =
    elim (cases_lt c (length kinds)) [
      | inl lt ↦ nothing_over (kind_at kinds c) (all c (Signal, 0) lt).capacity
      | inr le ↦ ap (λ (k : Kind × ℕ). spurns k.0 0) (past kinds c (Signal, 0) le)
    ]

pub fresh_overs : (kinds : Shape) (floor : Floor) (xs : List (Vec Bool Global)) → floor.shape ≡ kinds → floor.seen ≡ []
    → All MayBeMade kinds → AreNone (length kinds) xs → AreOvers floor xs
unfolding replay_from
fresh_overs kinds floor xs is nothing all none = record {
  counted = none.counted ∙ ap length (sym is);
  bits = λ c p. none.none c p ∙ sym (ap (λ (s : Shape). spurns (kind_at s c) ((replay floor.seen).stood c p)) is
      ∙ ap (λ es. spurns (kind_at kinds c) ((replay es).stood c p)) nothing ∙ none_over kinds c all);
}

-- ---- after an act

first_stood : (rs : List Receiver) (how : ℕ → Resolution) (s : State) → (resolve_first rs how s).stood ≡ s.stood
first_stood [] how s = refl
first_stood (r ∷ rs) how s = refl

holder_stood : (x : Option Party) (how : ℕ → Resolution) (s : State) → (resolve_holder x how s).stood ≡ s.stood
holder_stood None how s = refl
holder_stood (Some x) how s = refl

offer_stood : (c : ℕ) (q : List Standing) (how : ℕ → Resolution) (s : State) → (resolve_offer c q how s).stood ≡ s.stood
offer_stood c [] how s = refl
offer_stood c (o ∷ os) how s = holder_stood o.holder how (with_queue c os s)

removed_stood : (c : ℕ) (q : List Standing) (s : State) → (remove_first c q s).stood ≡ s.stood
removed_stood c [] s = refl
removed_stood c (o ∷ os) s = refl

never_over : (kind : Kind) (n : ℕ) → suspends kind ≡ true → spurns kind n ≡ false
never_over Rendezvous n e = refl
never_over (Buffered k) n e = refl
never_over other n e = cc

Bits : Shape → State → List (Vec Bool Global) → Type 0
Bits shape s xs = (d q : ℕ) → over_in xs d q ≡ spurns (kind_at shape d) (s.stood d q)

same_bits : (shape : Shape) (s t : State) (xs ys : List (Vec Bool Global)) → t.stood ≡ s.stood → ys ≡ xs → Bits shape s xs → Bits shape t ys
unfolding Bits
same_bits shape s t xs ys stood is bits d q =
    ap (λ l. over_in l d q) is ∙ bits d q ∙ ap (λ (f : ℕ → ℕ → ℕ). spurns (kind_at shape d) (f d q)) (sym stood)

put_bits : (shape : Shape) (s : State) (c p n : ℕ) (b : Bool) (xs ys : List (Vec Bool Global)) → b ≡ spurns (kind_at shape c) n
    → ((d q : ℕ) → over_in ys d q ≡ (if (c == d) && (p == q) then b else over_in xs d q)) → Bits shape s xs
    → (d q : ℕ) → over_in ys d q ≡ spurns (kind_at shape d) (put_stood c p n s.stood d q)
unfolding Bits
put_bits shape s c p n b xs ys is set bits d q = set d q ∙ by_channel (c == d) refl
  where
    by_place : (u : Bool) → (c == d) ≡ true
        → (if u then b else over_in xs d q) ≡ spurns (kind_at shape d) (if u then n else s.stood d q)
    by_place true e = is ∙ ap (λ m. spurns (kind_at shape m) n) (eqb-true c d e)
    by_place false e = bits d q

    by_channel : (t : Bool) → (c == d) ≡ t
        → (if t && (p == q) then b else over_in xs d q) ≡ spurns (kind_at shape d) (if t && (p == q) then n else s.stood d q)
    by_channel true e = by_place (p == q) e
    by_channel false e = bits d q

offer_bits : (shape : Shape) (s : State) (c p n : ℕ) (xs : List (Vec Bool Global)) → suspends (kind_at shape c) ≡ true → Bits shape s xs
    → (d q : ℕ) → over_in xs d q ≡ spurns (kind_at shape d) (put_stood c p n s.stood d q)
unfolding Bits
offer_bits shape s c p n xs waits bits d q = by_channel (c == d) refl
  where
    by_place : (u : Bool) → (c == d) ≡ true → over_in xs d q ≡ spurns (kind_at shape d) (if u then n else s.stood d q)
    by_place true e =
        let here : suspends (kind_at shape d) ≡ true = subst (λ m. suspends (kind_at shape m) ≡ true) (eqb-true c d e) waits in
        bits d q ∙ never_over (kind_at shape d) (s.stood d q) here ∙ sym (never_over (kind_at shape d) n here)
    by_place false e = bits d q

    by_channel : (t : Bool) → (c == d) ≡ t → over_in xs d q ≡ spurns (kind_at shape d) (if t && (p == q) then n else s.stood d q)
    by_channel true e = by_place (p == q) e
    by_channel false e = bits d q

bits_after : (shape : Shape) (s : State) (who : ℕ) (act : Act) (b : Bool) (xs ys : List (Vec Bool Global)) → length xs ≡ length shape
    → Needs shape s who act → IsOver shape act s b → KeepsOvers act b xs ys → Bits shape s xs → Bits shape (after s who act) ys
unfolding Bits
bits_after shape s who (Put c p v) b xs ys count needs is kept bits =
    let lt = needs.0 in
    put_bits shape s c p (length (s.channels c).queue) b xs ys is (kept.bits (omega (arith, count, lt))) bits
bits_after shape s who (Offer c p v w k) b xs ys count needs is kept bits = λ d q.
    ap (λ l. over_in l d q) kept ∙ offer_bits shape s c p (length (s.channels c).queue) xs needs.3 bits d q
bits_after shape s who (Hand c p v) b xs ys count needs is kept bits =
    same_bits shape s (after s who (Hand c p v)) xs ys (first_stood (s.channels c).receivers _ s) kept bits
bits_after shape s who (Await c p w k) b xs ys count needs is kept bits =
    same_bits shape s (after s who (Await c p w k)) xs ys refl kept bits
bits_after shape s who (Take c p v) b xs ys count needs is kept bits =
    same_bits shape s (after s who (Take c p v)) xs ys (offer_stood c (s.channels c).queue _ s) kept bits
bits_after shape s who (Admit c p) b xs ys count needs is kept bits =
    same_bits shape s (after s who (Admit c p)) xs ys
    (holder_stood (holder_at p (s.channels c).queue) _ (with_queue c (admitted p (s.channels c).queue) s)) kept bits
bits_after shape s who (Drop c p v) b xs ys count needs is kept bits =
    same_bits shape s (after s who (Drop c p v)) xs ys (removed_stood c (s.channels c).queue s) kept bits
bits_after shape s who (Spurn c p v) b xs ys count needs is kept bits =
    same_bits shape s (after s who (Spurn c p v)) xs ys refl kept bits
bits_after shape s who (Close c v) b xs ys count needs is kept bits = same_bits shape s (after s who (Close c v)) xs ys refl kept bits
bits_after shape s who (Void c) b xs ys count needs is kept bits = same_bits shape s (after s who (Void c)) xs ys refl kept bits
bits_after shape s who (Drain c p v) b xs ys count needs is kept bits =
    same_bits shape s (after s who (Drain c p v)) xs ys (offer_stood c (s.channels c).queue _ s) kept bits
bits_after shape s who (WakeClosed c p) b xs ys count needs is kept bits =
    same_bits shape s (after s who (WakeClosed c p)) xs ys (first_stood (s.channels c).receivers _ s) kept bits
bits_after shape s who (Withdraw w why) b xs ys count needs is kept bits =
    same_bits shape s (after s who (Withdraw w why)) xs ys refl kept bits
bits_after shape s who (Settle w outcome) b xs ys count needs is kept bits =
    same_bits shape s (after s who (Settle w outcome)) xs ys refl kept bits

kept_count : (act : Act) (b : Bool) (xs ys : List (Vec Bool Global)) → KeepsOvers act b xs ys → length ys ≡ length xs
kept_count (Put c p v) b xs ys kept = kept.counted
kept_count other b xs ys kept = ap length kept

pub overs_kept : (shape : Shape) (who : ℕ) (act : Act) (b : Bool) (old mid new : Floor) (xs ys : List (Vec Bool Global)) → old.shape ≡ shape
    → HasRoom 1 old mid → mid.alone ≡ true → Made who act mid new → Legal new.shape new.seen → AreOvers old xs
    → IsOver shape act (replay old.seen) b → KeepsOvers act b xs ys → AreOvers new ys
unfolding Bits
overs_kept shape who act b old mid new xs ys is room alone made legal are over kept =
    let e : Entry = record { who = who; act = act } in
    let grows = has_more who act old mid new room alone made in
    let here : Legal shape (old.seen ++ e ∷ []) = subst (Legal shape) grows.seen (subst (λ sh. Legal sh new.seen) (grows.shape ∙ is) legal)
    in
    let parts = LegalFrom-parts shape start old.seen (e ∷ []) here in
    let needs = first_needs shape (replay old.seen) e [] parts.1 in
    let counted : length xs ≡ length shape = are.counted ∙ ap length is in
    let bits = bits_after shape (replay old.seen) who act b xs ys counted needs over kept
    (λ d q. are.bits d q ∙ ap (λ (s : Shape). spurns (kind_at s d) ((replay old.seen).stood d q)) is) in
    record {
      counted = kept_count act b xs ys kept ∙ are.counted ∙ ap length (sym grows.shape);
      bits = λ d q. bits d q ∙ ap (λ (s : Shape). spurns (kind_at s d) ((after (replay old.seen) who act).stood d q))
          (sym (grows.shape ∙ is))
          ∙ ap (λ (s : State). spurns (kind_at new.shape d) (s.stood d q)) (sym (ap replay grows.seen ∙ replay_push old.seen e));
    }
