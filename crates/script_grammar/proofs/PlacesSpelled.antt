-- What is read at a place of a line is written there as the grammar says.
use Rattle.std.proofs.Common.{◌≡◌, ℕ, ◌+◌, ◌-◌, ◌<◌, ◌≤◌, ◌^◌, List, [], ◌∷◌, refl, ap, sym, ◌∙◌, arith, Result, Ok, Err, Bool, true, false, Option, Some, None, length, get_or, if◌then◌else◌, ◌&&◌, nat_lt, nat_le, suc, subst}
use lib.Chars.{codes}
use Rattle.std.specs.Prelude.{◌==◌, ◌||◌, not}
use Rattle.std.specs.List.{list_any}
use Rattle.std.proofs.lemmas.Bool.Decides.{nat_tests}
use Rattle.std.proofs.lemmas.Slice.Eq.{bytes_eq-Decides}
use Rattle.std.proofs.lemmas.Fmt.{decimal-digits_value}
use Rattle.std.specs.Fmt.{decimal}
use Rattle.std.specs.Str.{bytes_eq, all_ascii_digits}
use Rattle.std.specs.Str.Parse.{digits_value}
use Rattle.std.proofs.lemmas.Bool.{or_from, eqb-true}
use Rattle.script_grammar.specs.declared.fault.FaultKind.{FaultKind}
use Rattle.script_grammar.specs.declared.fault.FaultKind.TheVariants.{BadNumber, Duplicate, Undeclared}
use Rattle.script_grammar.specs.declared.instructions.Operand.{Operand}
use Rattle.script_grammar.specs.declared.instructions.Operand.TheVariants.{Number, It, Sum}
use Rattle.script_grammar.specs.Faults.{◌>>=◌}
use Rattle.script_grammar.specs.Programs.{name_of}
use Rattle.script_grammar.specs.Lines.{part, operand_word}
use Rattle.script_grammar.specs.Blocks.{is_main, is_operand, is_new}
use Rattle.script_grammar.specs.Grammar.{is_name, is_fresh, has_number, is_places}
use Rattle.script_grammar.specs.Places.{end_at, at_most, number_at, places_at, count_at, made, operand_at, value_at, is_number, within, name_at, new_at, known_at, clause_at, awaitable_at, place_from, unless_found, if_found, other_than_main, launchable, target_at, job_at}
use Rattle.script_grammar.proofs.Truths.{both, both_true, le-true, lt-true, le-from_true, lt-from_true, same-true}
use Rattle.script_grammar.proofs.PlacesRead.{own}

number_digits : (word : List ℕ) → is_number word ≡ true → all_ascii_digits word ≡ true
number_digits [] n = cc
number_digits (b ∷ rest) n = (both_true _ _ n).0

number_some : (word : List ℕ) → is_number word ≡ true → 0 < length word
number_some [] n = cc
number_some (b ∷ rest) n = omega arith

pub bind_ok : {A B : Type 0} (r : Result A FaultKind) (f : A → Result B FaultKind) (y : B) → (r >>= f) ≡ Ok y → (x : A) × (r ≡ Ok x)
    × (f x ≡ Ok y)
bind_ok (Ok x) f y e = (x, refl, e)
bind_ok (Err k) f y e = cc

pub ok_is : {A : Type 0} (x y : A) (r : Result A FaultKind) → r ≡ Ok x → r ≡ Ok y → x ≡ y
ok_is x y r e f = cc

pub ok_pair : {A B : Type 0} (a c : A) (b d : B) (r : Result (A × B) FaultKind) → r ≡ Ok (a, b) → r ≡ Ok (c, d) → (a ≡ c) × (b ≡ d)
ok_pair {A} {B} a c b d r e f = let p = ok_is {A = A × B} (a, b) (c, d) r e f in (ap (λ (q : A × B). q.0) p, ap (λ (q : A × B). q.1) p)

pub end_found : (ws : List (List ℕ)) (u : Unit {0}) → end_at ws ≡ Ok u → ws ≡ []
end_found [] u ok = refl
end_found (w ∷ ws) u ok = cc

named_ok : (b : Bool) (w n : List ℕ) (ws rest : List (List ℕ)) (k : FaultKind) → is_name w ≡ b
    → if◌then◌else◌ {A = Result (List ℕ × List (List ℕ)) FaultKind} b (Ok (w, ws)) (Err k) ≡ Ok (n, rest) → ((w ∷ ws) ≡ n ∷ rest)
    × (is_name n ≡ true)
named_ok true w n ws rest k t ok = let p = ok_pair w n ws rest (Ok (w, ws)) refl ok
    in (ap (λ l. l ∷ ws) p.0 ∙ ap (λ l. n ∷ l) p.1, ap is_name (sym p.0) ∙ t)
named_ok false w n ws rest k t ok = cc

pub name_found : (ws : List (List ℕ)) (n : List ℕ) (rest : List (List ℕ)) → name_at ws ≡ Ok (n, rest) → (ws ≡ n ∷ rest) × (is_name n ≡ true)
name_found [] n rest ok = cc
name_found (w ∷ ws) n rest ok = named_ok (is_name w) w n ws rest _ refl ok

-- a name with no place is none of the list
fresh_from : (i : ℕ) (name : List ℕ) (names : List (List ℕ)) → place_from i name names ≡ None
    → list_any (λ x. bytes_eq x name) names ≡ false
fresh_from i name [] e = refl
fresh_from i name (x ∷ names) e = by_test (bytes_eq x name) refl (λ f. fresh_from (i + 1) name names f) e
  where
    by_test : (b : Bool) → bytes_eq x name ≡ b → (place_from (i + 1) name names ≡ None → list_any (λ y. bytes_eq y name) names ≡ false)
        → (if b then Some i else place_from (i + 1) name names) ≡ None → list_any (λ y. bytes_eq y name) (x ∷ names) ≡ false
    by_test true t more f = cc
    by_test false t more f = or_from (bytes_eq x name) (list_any (λ y. bytes_eq y name) names) t (more f)

fresh_ok : (names : List (List ℕ)) (o : Option ℕ) (w n : List ℕ) (ws rest : List (List ℕ)) → o ≡ place_from 0 w names
    → unless_found {X = List ℕ × List (List ℕ)} o (w, ws) ≡ Ok (n, rest) → (w ≡ n) × (ws ≡ rest) × (place_from 0 n names ≡ None)
fresh_ok names None w n ws rest e ok = let p = ok_pair w n ws rest (Ok (w, ws)) refl ok
    in (p.0, p.1, ap (λ x. place_from 0 x names) (sym p.0) ∙ sym e)
fresh_ok names (Some i) w n ws rest e ok = cc

pub new_found : (names ws : List (List ℕ)) (n : List ℕ) (rest : List (List ℕ)) → new_at names ws ≡ Ok (n, rest) → (ws ≡ n ∷ rest)
    × (is_fresh names n ≡ true)
new_found names ws n rest ok =
    let x = bind_ok (name_at ws) (λ x. unless_found (place_from 0 x.0 names) x) (n, rest) ok in
    let a = name_found ws x.0.0 x.0.1 x.1 in
    let b = fresh_ok names _ x.0.0 n x.0.1 rest refl x.2 in (
      a.0 ∙ ap (λ l. l ∷ x.0.1) b.0 ∙ ap (λ l. n ∷ l) b.1,
      both (is_name n) _ (ap is_name (sym b.0) ∙ a.1) (ap not (fresh_from 0 n names b.2)),
    )

-- where a name stands it is the name of that number
placed : (k : ℕ) (name : List ℕ) (names : List (List ℕ)) (i : ℕ) → place_from k name names ≡ Some i → (k ≤ i) × (i < k + length names)
    × (name_of names (i - k) ≡ name)
placed k name [] i e = cc
placed k name (x ∷ names) i e = by_test (bytes_eq x name) refl (λ f. placed (k + 1) name names i f) e
  where
    by_test : (b : Bool) → bytes_eq x name ≡ b → (place_from (k + 1) name names ≡ Some i → (k + 1 ≤ i) × (i < k + 1 + length names)
        × (name_of names (i - (k + 1)) ≡ name)) → (if b then Some k else place_from (k + 1) name names) ≡ Some i → (k ≤ i)
        × (i < k + length (x ∷ names)) × (name_of (x ∷ names) (i - k) ≡ name)
    by_test true t more f =
        let here : k ≡ i = cc in
        let first : i - k ≡ 0 = omega (arith, here) in
        (omega (arith, here), omega (arith, here), ap (name_of (x ∷ names)) first ∙ (bytes_eq-Decides x name).0 t)
    by_test false t more f =
        let r = more f in
        let next : i - k ≡ suc (i - (k + 1)) = omega (arith, r.0) in
        (omega (arith, r.0), omega (arith, r.1), ap (name_of (x ∷ names)) next ∙ r.2)

known_ok : (names : List (List ℕ)) (o : Option ℕ) (w : List ℕ) (i : ℕ) (ws rest : List (List ℕ)) → o ≡ place_from 0 w names
    → if_found {X = List (List ℕ)} o ws ≡ Ok (i, rest) → (ws ≡ rest) × (place_from 0 w names ≡ Some i)
known_ok names None w i ws rest e ok = cc
known_ok names (Some j) w i ws rest e ok = let p = ok_pair j i ws rest (Ok (j, ws)) refl ok in (p.1, sym e ∙ ap (λ k. Some k) p.0)

pub known_found : (names ws : List (List ℕ)) (i : ℕ) (rest : List (List ℕ)) → known_at names ws ≡ Ok (i, rest)
    → (ws ≡ name_of names i ∷ rest) × (i < length names)
known_found names ws i rest ok =
    let x = bind_ok (name_at ws) (λ x. if_found (place_from 0 x.0 names) x.1) (i, rest) ok in
    let a = name_found ws x.0.0 x.0.1 x.1 in
    let b = known_ok names _ x.0.0 i x.0.1 rest refl x.2 in
    let p = placed 0 x.0.0 names i b.1 in
    let same : i ≡ i - 0 = omega arith in
    (a.0 ∙ ap (λ l. x.0.0 ∷ l) b.0 ∙ ap (λ n. n ∷ rest) (sym p.2 ∙ ap (name_of names) (sym same)), omega (arith, p.1))

kept : {A : Type 0} (b : Bool) (x y : A) (k : FaultKind) → if◌then◌else◌ {A = Result A FaultKind} b (Ok x) (Err k) ≡ Ok y → (x ≡ y)
    × (b ≡ true)
kept true x y k e = (ok_is x y (Ok x) refl e, refl)
kept false x y k e = cc

pub clause_found : (names : List (List ℕ)) (clauses : Option (List ℕ)) (ws : List (List ℕ)) (i : ℕ) (rest : List (List ℕ))
    → clause_at names clauses ws ≡ Ok (i, rest) → (ws ≡ name_of names i ∷ rest) × (i < length names) × (is_new i clauses ≡ true)
clause_found names clauses ws i rest ok =
    let x = bind_ok (known_at names ws) (λ c. if is_new c.0 clauses then Ok c else Err Duplicate) (i, rest) ok in
    let k = kept {A = ℕ × List (List ℕ)} (is_new x.0.0 clauses) x.0 (i, rest) Duplicate x.2 in
    let f = known_found names ws i rest (x.1 ∙ ap (λ (c : ℕ × List (List ℕ)). Ok c) k.0) in
    (f.0, f.1, ap (λ (c : ℕ × List (List ℕ)). is_new c.0 clauses) (sym k.0) ∙ k.1)

pub awaitable_found : (names : List (List ℕ)) (awaitable : List Bool) (ws : List (List ℕ)) (i : ℕ) (rest : List (List ℕ))
    → awaitable_at names awaitable ws ≡ Ok (i, rest) → (ws ≡ name_of names i ∷ rest) × (i < length names)
    × (get_or awaitable i false ≡ true)
awaitable_found names awaitable ws i rest ok =
    let x = bind_ok (known_at names ws) (λ c. if get_or awaitable c.0 false then Ok c else Err Undeclared) (i, rest) ok in
    let k = kept {A = ℕ × List (List ℕ)} (get_or awaitable x.0.0 false) x.0 (i, rest) Undeclared x.2 in
    let f = known_found names ws i rest (x.1 ∙ ap (λ (c : ℕ × List (List ℕ)). Ok c) k.0) in
    (f.0, f.1, ap (λ (c : ℕ × List (List ℕ)). get_or awaitable c.0 false) (sym k.0) ∙ k.1)

either : (r t : Bool) → (r || not t) ≡ true → t ≡ true → r ≡ true
either true t e f = refl
either false true e f = e
either false false e f = f

is_same : (n : ℕ) → n ≡ 48 → (n == 48) ≡ true
is_same n e = grind (arith, nat_tests)

-- a number that is read is written as its value is
pub decimal_again : (w : List ℕ) → is_number w ≡ true → digits_value 10 w < 2 ^ 64 → decimal (digits_value 10 w) ≡ w
decimal_again [] n small = cc
decimal_again (b ∷ rest) n small = decimal-digits_value own (b ∷ rest) (number_digits (b ∷ rest) n) (number_some (b ∷ rest) n)
    (λ zero. ap suc (alone zero)) small
  where
    alone : b ≡ 48 → length rest ≡ 0
    alone zero = eqb-true (length rest) 0 (either (length rest == 0) (b == 48)
        (both_true (nat_lt (length rest) 10) _ (both_true (all_ascii_digits (b ∷ rest)) _ n).1).1 (is_same b zero))

valued : (w : List ℕ) (n : ℕ) (a b : Bool) → is_number w ≡ a → nat_lt (digits_value 10 w) (2 ^ 32) ≡ b
    → (if a && b then Some (digits_value 10 w) else None) ≡ Some n → (w ≡ decimal n) × (n < 2 ^ 32)
valued w n true true p q e =
    let v : digits_value 10 w ≡ n = cc in
    let small : digits_value 10 w < 2 ^ 32 = lt-from_true _ _ q in
    (sym (decimal_again w p (omega arith)) ∙ ap decimal v, omega arith)
valued w n true false p q e = cc
valued w n false b p q e = cc

ranged : (low high m n : ℕ) (ws rest : List (List ℕ)) (b : Bool) → (nat_le low m && nat_le m high) ≡ b
    → if◌then◌else◌ {A = Result (ℕ × List (List ℕ)) FaultKind} b (Ok (m, ws)) (Err BadNumber) ≡ Ok (n, rest) → (m ≡ n) × (ws ≡ rest)
    × (low ≤ n) × (n ≤ high)
ranged low high m n ws rest true t e =
    let p = ok_pair m n ws rest (Ok (m, ws)) refl e in
    let two = both_true _ _ t in
    let l : low ≤ m = le-from_true low m two.0 in
    let h : m ≤ high = le-from_true m high two.1 in
    (p.0, p.1, omega (arith, p.0), omega (arith, p.0))
ranged low high m n ws rest false t e = cc

number_in : (low high n : ℕ) (w : List ℕ) (ws rest : List (List ℕ)) (o : Option ℕ) → value_at w ≡ o → within low high o ws ≡ Ok (n, rest)
    → ((w ∷ ws) ≡ decimal n ∷ rest) × (low ≤ n) × (n ≤ high)
number_in low high n w ws rest None v e = cc
number_in low high n w ws rest (Some m) v e =
    let r = ranged low high m n ws rest _ refl e in
    let x = valued w m (is_number w) (nat_lt (digits_value 10 w) (2 ^ 32)) refl refl v in
    (ap (λ l. l ∷ ws) (x.0 ∙ ap decimal r.0) ∙ ap (λ l. decimal n ∷ l) r.1, r.2, r.3)

pub number_found : (low high n : ℕ) (ws rest : List (List ℕ)) → number_at low high ws ≡ Ok (n, rest) → (ws ≡ decimal n ∷ rest) × (low ≤ n)
    × (n ≤ high)
number_found low high n [] rest e = cc
number_found low high n (w ∷ ws) rest e = number_in low high n w ws rest (value_at w) refl e

-- ---- what may be left out

pub count_found : (ws rest : List (List ℕ)) (n : ℕ) → count_at ws ≡ Ok (n, rest) → rest ≡ [] → (count : Bool)
    × (ws ≡ part count (decimal n ∷ [])) × ((nat_le 1 n && nat_le n 16000) ≡ true) × (has_number 1 n count ≡ true)
count_found [] rest n ok none = let p = (ok_pair 1 n [] rest (Ok (1, [])) refl ok).0
    in (false, refl, subst (λ k. (nat_le 1 k && nat_le k 16000) ≡ true) p refl, same-true n 1 (sym p))
count_found (w ∷ ws) rest n ok none = let r = number_found 1 16000 n (w ∷ ws) rest ok
    in (true, r.0 ∙ ap (λ l. decimal n ∷ l) none, both (nat_le 1 n) (nat_le n 16000) (le-true 1 n r.1) (le-true n 16000 r.2), refl)

places_as : (b : Bool) (w : List ℕ) (ws rest : List (List ℕ)) (n : ℕ) (k : FaultKind) → bytes_eq w (codes "places") ≡ b
    → (if b then number_at 1 1048576 ws else Err k) ≡ Ok (n, rest) → rest ≡ [] → ((w ∷ ws) ≡ codes "places" ∷ decimal n ∷ [])
    × (is_places n ≡ true)
places_as true w ws rest n k t ok none =
    let r = number_found 1 1048576 n ws rest ok in (
      ap (λ v. v ∷ ws) ((bytes_eq-Decides w (codes "places")).0 t)
          ∙ ap (λ l. codes "places" ∷ l) (r.0 ∙ ap (λ l. decimal n ∷ l) none),
      both (nat_le 1 n) (nat_le n 1048576) (le-true 1 n r.1) (le-true n 1048576 r.2),
    )
places_as false w ws rest n k t ok none = cc

pub places_found : (ws rest : List (List ℕ)) (n : ℕ) → places_at ws ≡ Ok (n, rest) → rest ≡ [] → (places : Bool)
    × (ws ≡ part places (codes "places" ∷ decimal n ∷ [])) × (is_places n ≡ true) × (has_number 16384 n places ≡ true)
places_found [] rest n ok none = let p = (ok_pair 16384 n [] rest (Ok (16384, [])) refl ok).0
    in (false, refl, subst (λ k. is_places k ≡ true) p refl, same-true n 16384 (sym p))
places_found (w ∷ ws) rest n ok none = let r = places_as (bytes_eq w (codes "places")) w ws rest n _ refl ok none in (true, r.0, r.1, refl)

-- ---- operands

pub made_found : {X : Type 0} (make : ℕ → X) (low high : ℕ) (ws rest : List (List ℕ)) (x : X)
    → made make (number_at low high ws) ≡ Ok (x, rest) → (n : ℕ) × (ws ≡ decimal n ∷ rest) × (low ≤ n) × (n ≤ high) × (make n ≡ x)
made_found {X} make low high ws rest x ok =
    let a = bind_ok {B = X × List (List ℕ)} (number_at low high ws) (λ n. Ok (make n.0, n.1)) (x, rest) ok in
    let r = number_found low high a.0.0 ws a.0.1 a.1 in
    let p = ok_pair (make a.0.0) x a.0.1 rest (Ok (make a.0.0, a.0.1)) refl a.2 in
    (a.0.0, r.0 ∙ ap (λ l. decimal a.0.0 ∷ l) p.1, r.1, r.2, p.0)

operand_word_found : (b : Bool) (w e : List ℕ) (ws rest : List (List ℕ)) (o v : Operand) (next : Result (Operand × List (List ℕ)) FaultKind)
    → operand_word o ≡ e → is_operand o ≡ true → bytes_eq w e ≡ b
    → (next ≡ Ok (v, rest) → ((w ∷ ws) ≡ operand_word v ∷ rest) × (is_operand v ≡ true))
    → if◌then◌else◌ {A = Result (Operand × List (List ℕ)) FaultKind} b (Ok (o, ws)) next ≡ Ok (v, rest) → ((w ∷ ws) ≡ operand_word v ∷ rest)
    × (is_operand v ≡ true)
operand_word_found true w e ws rest o v next is fits t more ok =
    let p = ok_pair o v ws rest (Ok (o, ws)) refl ok in
    subst (λ x. ((w ∷ ws) ≡ operand_word x ∷ rest) × (is_operand x ≡ true)) p.0 (
      ap (λ u. u ∷ ws) ((bytes_eq-Decides w e).0 t ∙ sym is)
          ∙ ap (λ l. operand_word o ∷ l) p.1,
      fits,
    )
operand_word_found false w e ws rest o v next is fits t more ok = more ok

operand_number_found : (ws rest : List (List ℕ)) (v : Operand)
    → made {X = Operand} (λ n. Number n) (number_at 0 4294967295 ws) ≡ Ok (v, rest) → (ws ≡ operand_word v ∷ rest) × (is_operand v ≡ true)
operand_number_found ws rest v ok =
    let r = made_found {X = Operand} (λ n. Number n) 0 4294967295 ws rest v ok in
    subst (λ o. (ws ≡ operand_word o ∷ rest) × (is_operand o ≡ true)) r.4 (r.1, lt-true r.0 (2 ^ 32) (omega (arith, r.3)))

pub operand_found : (ws rest : List (List ℕ)) (v : Operand) → operand_at ws ≡ Ok (v, rest) → (ws ≡ operand_word v ∷ rest)
    × (is_operand v ≡ true)
operand_found [] rest v ok = cc
operand_found (w ∷ ws) rest v ok =
    operand_word_found (bytes_eq w (codes "it")) w (codes "it") ws rest It v _ refl refl refl
    (λ more. operand_word_found (bytes_eq w (codes "sum")) w (codes "sum") ws rest Sum v _ refl refl refl
    (λ last. operand_number_found (w ∷ ws) rest v last) more)
    ok

-- ---- targets and names of Jobs

few_ok : (limit count : ℕ) (u : Unit {0}) (b : Bool) (k : FaultKind) → nat_le count limit ≡ b
    → if◌then◌else◌ {A = Result (Unit {0}) FaultKind} b (Ok tt) (Err k) ≡ Ok u → count ≤ limit
few_ok limit count u true k t e = le-from_true count limit t
few_ok limit count u false k t e = cc

pub at_most_found : (k : FaultKind) (limit count : ℕ) (u : Unit {0}) → at_most k limit count ≡ Ok u → count ≤ limit
at_most_found k limit count u e = few_ok limit count u (nat_le count limit) k refl e

other_ok : (name : List ℕ) (u : Unit {0}) (b : Bool) (k : FaultKind) → is_main name ≡ b
    → if◌then◌else◌ {A = Result (Unit {0}) FaultKind} b (Err k) (Ok tt) ≡ Ok u → is_main name ≡ false
other_ok name u true k t e = cc
other_ok name u false k t e = t

pub other_than_main_found : (ws : List (List ℕ)) (name : List ℕ) (rest : List (List ℕ)) (u : Unit {0}) → ws ≡ name ∷ rest
    → other_than_main ws ≡ Ok u → is_main name ≡ false
other_than_main_found ws name rest u is e = other_ok name u (is_main name) _ refl (sym (ap other_than_main is) ∙ e)

launchable_ok : (own main : Bool) (o : Option ℕ) (i : ℕ) (ws rest : List (List ℕ))
    → launchable {X = List (List ℕ)} own main o ws ≡ Ok (i, rest) → (o ≡ Some i) × (main ≡ false) × (ws ≡ rest)
launchable_ok true main None i ws rest e = cc
launchable_ok false main None i ws rest e = cc
launchable_ok own true (Some j) i ws rest e = cc
launchable_ok own false (Some j) i ws rest e = let p = ok_pair j i ws rest (Ok (j, ws)) refl e in (ap (λ k. Some k) p.0, refl, p.1)

pub target_found : (blocks : List (List ℕ)) (own : List ℕ) (ws : List (List ℕ)) (i : ℕ) (rest : List (List ℕ))
    → target_at blocks own ws ≡ Ok (i, rest) → (ws ≡ name_of blocks i ∷ rest) × (i < length blocks) × (is_main (name_of blocks i) ≡ false)
target_found blocks own ws i rest ok =
    let x = bind_ok (name_at ws) (λ x. launchable (bytes_eq own x.0) (is_main x.0) (place_from 0 x.0 blocks) x.1) (i, rest) ok in
    let a = name_found ws x.0.0 x.0.1 x.1 in
    let c = launchable_ok (bytes_eq own x.0.0) (is_main x.0.0) (place_from 0 x.0.0 blocks) i x.0.1 rest x.2 in
    let p = placed 0 x.0.0 blocks i c.0 in
    let same : i ≡ i - 0 = omega arith in
    let q : name_of blocks i ≡ x.0.0 = ap (name_of blocks) same ∙ p.2 in
    (a.0 ∙ ap (λ l. x.0.0 ∷ l) c.2 ∙ ap (λ n. n ∷ rest) (sym q), omega (arith, p.1), ap is_main q ∙ c.1)

abbrev pub new_job_words : Option (List ℕ) → List (List ℕ)
new_job_words None = []
new_job_words (Some name) = codes "as" ∷ name ∷ []

abbrev pub IsFreshJob : List (List ℕ) → Option (List ℕ) → Type 0
IsFreshJob names None = Unit {0}
IsFreshJob names (Some name) = is_fresh names name ≡ true

job_as : (b : Bool) (names : List (List ℕ)) (w : List ℕ) (ws : List (List ℕ)) (j : Option (List ℕ)) (k : FaultKind)
    → bytes_eq w (codes "as") ≡ b → (if b then (new_at names ws >>= λ n. end_at n.1 >>= λ u. Ok (Some n.0)) else Err k) ≡ Ok j
    → ((w ∷ ws) ≡ new_job_words j) × IsFreshJob names j
job_as true names w ws j k t e =
    let x = bind_ok (new_at names ws) (λ n. end_at n.1 >>= λ u. Ok (Some n.0)) j e in
    let z = bind_ok (end_at x.0.1) (λ u. Ok (Some x.0.0)) j x.2 in
    let a = new_found names ws x.0.0 x.0.1 x.1 in
    let c = end_found x.0.1 z.0 z.1 in
    let p : Some x.0.0 ≡ j = ok_is (Some x.0.0) j (Ok (Some x.0.0)) refl z.2 in
    subst (λ o. ((w ∷ ws) ≡ new_job_words o) × IsFreshJob names o) p
    (ap (λ v. v ∷ ws) ((bytes_eq-Decides w (codes "as")).0 t) ∙ ap (λ l. codes "as" ∷ l) (a.0 ∙ ap (λ l. x.0.0 ∷ l) c), a.1)
job_as false names w ws j k t e = cc

pub job_found : (names ws : List (List ℕ)) (j : Option (List ℕ)) → job_at names ws ≡ Ok j → (ws ≡ new_job_words j) × IsFreshJob names j
job_found names [] j e =
    let p : None ≡ j = ok_is {A = Option (List ℕ)} None j (Ok None) refl e in
    subst (λ o. ([] ≡ new_job_words o) × IsFreshJob names o) p (refl, tt)
job_found names (w ∷ ws) j e = job_as (bytes_eq w (codes "as")) names w ws j _ refl e
