-- A wait has at most seven clauses, with distinct numbers and channels.
use Rattle.std.specs.Prelude.{◌≡◌, ℕ, ◌+◌, ◌<◌, ◌≤◌, ◌==◌, nat_lt, nat_le, Bool, true, false, cond, List, [], ◌∷◌, ◌++◌, length, Option, Some, None, refl}
use Rattle.std.specs.List.{list_any, list_all}
use Rattle.std.proofs.Common.{sym, ap, ◌∙◌, subst, arith, length-append}
use Rattle.std.proofs.lemmas.Bool.{true≢false, ltb-true, lt-ltb, le-leb, leb-true, eqb-true, and_parts, and_from, or_parts}
use Rattle.std.proofs.lemmas.Bool.Decides.{nat_tests}
use Rattle.co_base.specs.declared.names.WaitId.{WaitId}
use Rattle.channel_model.specs.declared.acts.Entry.{Entry}
use Rattle.channel_model.specs.declared.acts.Settled.{Settled}
use Rattle.channel_model.specs.declared.standing.Resolution.{Resolution}
use Rattle.channel_model.specs.Channels.{Shape, Wait, start}
use Rattle.channel_model.specs.Effects.{resolved_wait, settled_wait, name_clause}
use Rattle.channel_model.specs.Needs.{began_by_select, JoinsWait}
use Rattle.channel_model.specs.Histories.{replay, Legal}
use Rattle.channel_model.specs.Laws.{how_many, is_select_clause, ClausesFit}
use Rattle.channel_model.proofs.Elements.{all_push, all_first, all_rest}
use Rattle.channel_model.proofs.EveryAct.{WaitKeeps, after_waits}
use Rattle.channel_model.proofs.Sound.{lasts_from, sound_start}
use Rattle.channel_model.proofs.Apart.{how_many_push}

-- ---- distinct numbers 1 to 7 are at most seven

abbrev numbered : ℕ → List (ℕ × ℕ) → ℕ
numbered k xs = how_many (λ (y : ℕ × ℕ). y.0 == k) xs

one_of_seven : (n : ℕ) → 0 < n → n ≤ 7
    → cond (n == 1) 1 0 + cond (n == 2) 1 0 + cond (n == 3) 1 0 + cond (n == 4) 1 0 + cond (n == 5) 1 0 + cond (n == 6) 1 0 + cond (n == 7)
    1 0 ≡ 1
one_of_seven n lo hi = grind (arith, nat_tests)

seven_numbers : (xs : List (ℕ × ℕ)) → list_all is_select_clause xs ≡ true
    → length xs ≡ numbered 1 xs + numbered 2 xs + numbered 3 xs + numbered 4 xs + numbered 5 xs + numbered 6 xs + numbered 7 xs
seven_numbers [] h = refl
seven_numbers (x ∷ xs) h =
    let first = and_parts (nat_lt 0 x.0) (nat_le x.0 7) (all_first is_select_clause x xs h) in
    let one = one_of_seven x.0 (ltb-true 0 x.0 first.0) (leb-true x.0 7 first.1) in
    let rest = seven_numbers xs (all_rest is_select_clause x xs h) in
    omega arith

-- ---- one clause more

none_counted : {X : Type 0} (f : X → Bool) (xs : List X) → list_any f xs ≡ false → how_many f xs ≡ 0
none_counted f [] e = refl
none_counted f (x ∷ xs) e =
    let k = or_parts (f x) (list_any f xs) e in
    let rest = none_counted f xs k.1 in
    ap (λ b. cond b 1 0 + how_many f xs) k.0 ∙ omega arith

-- a number that none has is had by one at most
one_more : (f : ℕ × ℕ → Bool) (xs : List (ℕ × ℕ)) (y : ℕ × ℕ) → how_many f xs ≤ 1 → (f y ≡ true → list_any f xs ≡ false)
    → how_many f (xs ++ y ∷ []) ≤ 1
one_more f xs y h fresh = by_test (f y) refl
  where
    by_test : (b : Bool) → f y ≡ b → how_many f (xs ++ y ∷ []) ≤ 1
    by_test true e = let n = none_counted f xs (fresh e) in let m = how_many_push f xs y
        in let one : ◌≡◌ {A = ℕ} (cond (f y) 1 0) 1 = ap (λ b. cond b 1 0) e in omega arith
    by_test false e = let m = how_many_push f xs y in let none : ◌≡◌ {A = ℕ} (cond (f y) 1 0) 0 = ap (λ b. cond b 1 0) e in omega arith

at_number : (k j : ℕ) (xs : List (ℕ × ℕ)) → (k == j) ≡ true → list_any (λ (y : ℕ × ℕ). y.0 == k) xs ≡ false
    → list_any (λ (y : ℕ × ℕ). y.0 == j) xs ≡ false
at_number k j xs e h = subst (λ n. list_any (λ (y : ℕ × ℕ). y.0 == n) xs ≡ false) (eqb-true k j e) h

at_channel : (c d : ℕ) (xs : List (ℕ × ℕ)) → (c == d) ≡ true → list_any (λ (y : ℕ × ℕ). y.1 == c) xs ≡ false
    → list_any (λ (y : ℕ × ℕ). y.1 == d) xs ≡ false
at_channel c d xs e h = subst (λ n. list_any (λ (y : ℕ × ℕ). y.1 == n) xs ≡ false) (eqb-true c d e) h

select_push : (xs : List (ℕ × ℕ)) (y : ℕ × ℕ) → began_by_select xs ≡ true → began_by_select (xs ++ y ∷ []) ≡ true
select_push [] y e = cc
select_push (x ∷ xs) y e = e

-- ---- each act

resolved_fits : (how : Resolution) (x : Option Wait) → ClausesFit x → ClausesFit (resolved_wait how x)
resolved_fits how None h = h
resolved_fits how (Some x) h = record {
  some = h.some;
  few = h.few;
  plain = h.plain;
  select = h.select;
  numbers = h.numbers;
  channels =
      h.channels;
}

settled_fits : (outcome : Settled) (x : Option Wait) → ClausesFit x → ClausesFit (settled_wait outcome x)
settled_fits outcome None h = h
settled_fits outcome (Some x) h = record {
  some = h.some;
  few = h.few;
  plain = h.plain;
  select = h.select;
  numbers = h.numbers;
  channels =
      h.channels;
}

at_most_one : (b : Bool) → cond b 1 0 + 0 ≤ 1
at_most_one true = omega arith
at_most_one false = omega arith

begun_fits : (who k c : ℕ) → k ≤ 7 → ClausesFit (name_clause who k c None)
begun_fits who k c le = record {
  some = omega arith;
  few = omega arith;
  plain = λ e. refl;
  select = λ e. and_from _ _ (and_from (nat_lt 0 k) (nat_le k 7) e (le-leb k 7 le)) refl;
  numbers = λ j. at_most_one (k == j);
  channels = λ d. at_most_one (c == d);
}

joined_fits : (who k c : ℕ) (x : Option Wait) → JoinsWait who k c x → ClausesFit x → ClausesFit (name_clause who k c x)
joined_fits who k c None m h = absurd m
joined_fits who k c (Some x) m h = record {
  some = let l = length-append x.clauses ((k, c) ∷ []) in omega arith;
  few = few;
  plain = λ e. absurd (true≢false (sym (select_push x.clauses (k, c) m.select) ∙ e));
  select = λ e. all;
  numbers = numbers;
  channels = λ d. one_more (λ (y : ℕ × ℕ). y.1 == d) x.clauses (k, c) (h.channels d) (λ e. at_channel c d x.clauses e m.other_channel);
}
  where
    numbers : (j : ℕ) → how_many (λ (y : ℕ × ℕ). y.0 == j) (x.clauses ++ (k, c) ∷ []) ≤ 1
    numbers j = one_more (λ (y : ℕ × ℕ). y.0 == j) x.clauses (k, c) (h.numbers j) (λ e. at_number k j x.clauses e m.other_clause)

    all : list_all is_select_clause (x.clauses ++ (k, c) ∷ []) ≡ true
    all = all_push is_select_clause x.clauses (k, c) (h.select m.select)
        (and_from (nat_lt 0 k) (nat_le k 7) (lt-ltb 0 k (let l = m.low in omega arith)) (le-leb k 7 m.high))

    few : length (x.clauses ++ (k, c) ∷ []) ≤ 7
    few =
        let is = seven_numbers (x.clauses ++ (k, c) ∷ []) all in
        omega (arith, numbers 1, numbers 2, numbers 3, numbers 4, numbers 5, numbers 6, numbers 7)

-- a wait that may have one clause more has room for it
pub one_clause_more : (who k c : ℕ) (x : Wait) → JoinsWait who k c (Some x) → ClausesFit (Some x) → length x.clauses < 7
one_clause_more who k c x m h =
    let few = (joined_fits who k c (Some x) m h).few in
    let l = length-append x.clauses ((k, c) ∷ []) in
    omega arith

clauses_keep : WaitKeeps ClausesFit
clauses_keep = record {
  resolved = resolved_fits;
  begun = begun_fits;
  joined = joined_fits;
  settled = λ who outcome x m h. settled_fits outcome x h;
}

pub replay_clauses_fit : (shape : Shape) (history : List Entry) (w : WaitId) → Legal shape history → ClausesFit ((replay history).waits w)
replay_clauses_fit shape history w l =
    lasts_from shape (λ s. ClausesFit (s.waits w)) (record
    { step = λ s who act h n p. after_waits ClausesFit clauses_keep shape s who act w h.placed n p })
    start history l (sound_start shape) tt
