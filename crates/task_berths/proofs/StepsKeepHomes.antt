-- Each kind of step keeps the rule of the berths.
use Rattle.std.proofs.Common.{◌≡◌, ◌≢◌, ℕ, ◌+◌, ◌/◌, ◌%◌, ◌<◌, eqb, Bool, true, false, true≢false, List, [], ◌∷◌, ◌++◌, inl, inr, length, get_or, set, sym, refl, ap, ◌∙◌, subst, arith, length-set, get_or-set_other, get_or-set_same, eq-eqb, ne_eqb, Option, Some, None, MatchBool}
use mathlib.Core.Logic.{dite}
use mathlib.Core.Option.{none, some}
use native.Mathlib.Decide.{ℕ_discrete}
use lib.ListN.{get_elem?}
use lib.Seq.{set-get_or}
use prog.Atomic.{either}
use Rattle.atomic_table.specs.Table.{State, Me, Act, keeps, takes, gives, Valid, stepped, carried_after, rest, Allows}
use Rattle.atomic_table.proofs.Lists.{set_here, set_else}
use Rattle.task_berths.specs.declared.rule.SeatView.{SeatView}
use Rattle.task_berths.specs.declared.rule.BerthStep.{BerthStep}
use Rattle.task_berths.specs.declared.rule.BerthStep.TheVariants.{Take, Ask, Leave}
use Rattle.task_berths.specs.Words.{out_word, asked_word, word_of}
use Rattle.task_berths.specs.Views.{has_tag, without_tag, having_seen, having_taken, carrying, having_left}
use Rattle.task_berths.specs.Homes.{Slots, Knows, HoldsTasks}
use Rattle.task_berths.specs.Steps.{Found, Claimed, Asked, Left, ClaimAnswer, AskAnswer, LiftAnswer}
use Rattle.task_berths.proofs.OneSeatSteps.{moved, looked}
use Rattle.task_berths.proofs.WordsByStep.{begins_all, word-snoc, taken_here, taken_else, asked_here, asked_else, left_here, left_else, asked-even, asked-half, asked_out, has_here, has_else, without_here, without_else, takes-append}

abbrev or_else : {A : Type 0} → A → Option A → A
or_else d (Some y) = y
or_else d None = d

abbrev is_some : {A : Type 0} → Option A → Bool
is_some (Some y) = true
is_some None = false

pub some_same : {A : Type 0} {x y : A} → ◌≡◌ {A = Option A} (Some x) (Some y) → x ≡ y
some_same {x = x} e = ap (or_else x) e

some_none : {A : Type 0} {B : Type 0} {x : A} → ◌≡◌ {A = Option A} (Some x) None → B
some_none e = absurd (true≢false (ap is_some e))

module _ {T : Type 0} (tag_of : T → ℕ) where
  abbrev St : Type 0
  St = State (Option T) SeatView

  abbrev Rule : St → Type 0
  Rule = HoldsTasks tag_of

  -- 0 became the seat's word
  pub claim_allowed : (slots id t number : ℕ) (me : Me (Option T) SeatView) → t < slots → me.1 ≡ [] → me.0.carries ≡ None → me.0.live ≡ true
      → me.0.number ≡ number
      → Allows Rule slots id me t (λ n. either (eqb n 0) (out_word number) n) (λ n r. ClaimAnswer tag_of t n me r)
  claim_allowed slots id t number me lt idle hand live same s r homes at small =
      dite (ℕ_discrete n 0) (λ is. subst Goal (sym (eq-eqb n 0 is)) (hit is)) (λ ne. subst Goal (sym (ne_eqb n 0 ne)) (miss tt))
    where
      n : ℕ
      n = get_or s.words t 0

      v : SeatView
      v = me.0

      kv : Knows s.homes s.views r.log r.owner id v
      kv = r.knows id v at

      Goal : Bool → Type 0
      Goal b = (x : SeatView) × (a : Act (Option T)) × Valid s.homes me.1 a × Rule (stepped s t (either b (out_word number) n) id me.1 x a)
          × MatchBool b (Claimed tag_of t me (x, carried_after me.1 a)) (Found t n v x × (carried_after me.1 a ≡ me.1))

      in_homes : t < length s.homes
      in_homes = omega (arith, lt, homes)

      miss : Unit {0} → Goal false
      miss q = let l = looked tag_of s r id t v me.1 live at in_homes in (having_seen v r.log, keeps, tt, l.0, (l.1, refl))

      log' : List BerthStep
      log' = r.log ++ Take t v.number ∷ []

      w : SeatView
      w = having_taken v t log'

      same_word : (u : ℕ) → u ≢ t → word_of u log' ≡ word_of u r.log
      same_word u ne = word-snoc u r.log (Take t v.number) ∙ taken_else u t (word_of u r.log) v.number (λ e. ne (sym e))

      new_word : word_of t log' ≡ out_word v.number
      new_word = word-snoc t r.log (Take t v.number) ∙ taken_here t (word_of t r.log) v.number

      hit : n ≡ 0 → Goal true
      hit is = let was : word_of t r.log ≡ 0 = sym (r.words t in_homes) ∙ is in let y = r.home t in_homes was in (
        w,
        takes t (Some y.0),
        y.1,
        moved tag_of s r id v w (set s.words t (out_word number)) (set s.homes t none) log' at record {
          wide = length-set s.words t _;
          long = length-set s.homes t none;
          begins = begins_all log';
          grows = (Take t v.number ∷ [], refl);
          made = let q = takes-append r.log (Take t v.number ∷ []) in omega (arith, q);
          same = (refl, (refl, (refl, (refl, refl))));
          words = λ u lu. dite (ℕ_discrete u t)
              (λ e. ap (λ k. get_or (set s.words t (out_word number)) k 0) e
              ∙ get_or-set_same s.words t (out_word number) 0 (omega (arith, in_homes, r.as_long)) ∙ ap out_word (sym same)
              ∙ sym new_word ∙ ap (λ k. word_of k log') (sym e))
              (λ ne. get_or-set_other s.words t u (out_word number) 0 ne ∙ r.words u lu ∙ sym (same_word u ne));
          home = λ u lu zero_. dite (ℕ_discrete u t)
              (λ e. absurd (omega (arith, sym new_word ∙ ap (λ k. word_of k log') (sym e) ∙ zero_)))
              (λ ne. let z = r.home u lu (sym (same_word u ne) ∙ zero_) in (z.0, set_else s.homes t u none ne ∙ z.1, z.2));
          away = λ u lu ne. dite (ℕ_discrete u t)
              (λ e. inl (
                live,
                (
                  ap (λ k. has_tag k w.held) e ∙ has_here t v.held,
                  ap (λ k. word_of k log' / 2) e ∙ ap (λ k. k / 2) new_word
                      ∙ omega arith,
                ),
              ))
              (λ apart. inr ((λ z. ne (same_word u apart ∙ z)), (ap (λ k. k / 2) (same_word u apart), λ h. has_else u t v.held apart ∙ h)));
          holds = λ u h. dite (ℕ_discrete u t)
              (λ e. (live, (omega (arith, e, in_homes), ap (λ k. word_of k log' / 2) e ∙ ap (λ k. k / 2) new_word ∙ omega arith)))
              (λ ne. let q = kv.holds u (sym (has_else u t v.held ne) ∙ h) in (q.0, (q.1.0, ap (λ k. k / 2) (same_word u ne) ∙ q.1.1)));
          down = λ u h not. let ne : u ≢ t = λ e. not (ap Some (sym e)) in set_else s.homes t u none ne
              ∙ kv.down u (sym (has_else u t v.held ne) ∙ h) (λ z. some_none (sym z ∙ hand));
          others = λ u j x ne e h. let q = (r.knows j x e).holds u h in
              let apart : u ≢ t = λ same_. absurd (omega (arith, q.1.1, ap (λ k. word_of k r.log / 2) same_, ap (λ k. k / 2) was)) in
              (ap (λ k. k / 2) (same_word u apart), set_else s.homes t u none apart);
        },
        record {
          others = kv.begins.0;
          now = ap (λ l. having_taken v t (l ++ Take t v.number ∷ [])) kv.begins.1;
          was_home = ap (word_of t) (sym kv.begins.1) ∙ was;
          task = y.0;
          carried = ap (λ l. (t, Some y.0) ∷ l) idle;
          tagged = y.2;
        },
      )

  -- the seat that has the task is asked, or was asked before
  pub ask_allowed : (slots id t word : ℕ) (me : Me (Option T) SeatView) → t < slots → me.0.live ≡ true → word ≢ 0 → word % 2 ≡ 0
      → Allows Rule slots id me t (λ n. either (eqb n word) (word + 1) n) (λ n r. AskAnswer t word n me r)
  ask_allowed slots id t word me lt live out even s r homes at small =
      dite (ℕ_discrete n word) (λ is. subst Goal (sym (eq-eqb n word is)) (hit is)) (λ ne. subst Goal (sym (ne_eqb n word ne)) (miss tt))
    where
      n : ℕ
      n = get_or s.words t 0

      v : SeatView
      v = me.0

      kv : Knows s.homes s.views r.log r.owner id v
      kv = r.knows id v at

      Goal : Bool → Type 0
      Goal b = (x : SeatView) × (a : Act (Option T)) × Valid s.homes me.1 a × Rule (stepped s t (either b (word + 1) n) id me.1 x a)
          × MatchBool b (Asked t n v x × (carried_after me.1 a ≡ me.1)) (Found t n v x × (carried_after me.1 a ≡ me.1))

      in_homes : t < length s.homes
      in_homes = omega (arith, lt, homes)

      miss : Unit {0} → Goal false
      miss q = let l = looked tag_of s r id t v me.1 live at in_homes in (having_seen v r.log, keeps, tt, l.0, (l.1, refl))

      log' : List BerthStep
      log' = r.log ++ Ask t ∷ []

      w : SeatView
      w = having_seen v log'

      else_word : (u : ℕ) → u ≢ t → word_of u log' ≡ word_of u r.log
      else_word u ne = word-snoc u r.log (Ask t) ∙ asked_else u t (word_of u r.log) (λ e. ne (sym e))

      new_word : word_of t log' ≡ asked_word (word_of t r.log)
      new_word = word-snoc t r.log (Ask t) ∙ asked_here t (word_of t r.log)

      same_half : (u : ℕ) → word_of u log' / 2 ≡ word_of u r.log / 2
      same_half u = dite (ℕ_discrete u t)
          (λ e. ap (λ k. word_of k log' / 2) e ∙ ap (λ k. k / 2) new_word ∙ asked-half (word_of t r.log)
          ∙ ap (λ k. word_of k r.log / 2) (sym e))
          (λ ne. ap (λ k. k / 2) (else_word u ne))

      still_out : (u : ℕ) → word_of u r.log ≡ 0 → word_of u log' ≡ 0
      still_out u z = dite (ℕ_discrete u t)
          (λ e. ap (λ k. word_of k log') e ∙ new_word ∙ ap asked_word (ap (λ k. word_of k r.log) (sym e) ∙ z))
          (λ ne. else_word u ne ∙ z)

      hit : n ≡ word → Goal true
      hit is = let was : word_of t r.log ≡ word = sym (r.words t in_homes) ∙ is in
          let home_before : (u : ℕ) → word_of u log' ≡ 0 → word_of u r.log ≡ 0 = λ u z. dite (ℕ_discrete u t)
          (λ e. absurd (asked_out (word_of t r.log) (λ q. out (sym was ∙ q)) (sym new_word ∙ ap (λ k. word_of k log') (sym e) ∙ z)))
          (λ ne. sym (else_word u ne) ∙ z) in (
            w,
            keeps,
            tt,
            moved tag_of s r id v w (set s.words t (word + 1)) s.homes log' at record {
              wide = length-set s.words t _;
              long = refl;
              begins = begins_all log';
              grows = (Ask t ∷ [], refl);
              made = let q = takes-append r.log (Ask t ∷ []) in omega (arith, q);
              same = (refl, (refl, (refl, (refl, refl))));
              words = λ u lu. dite (ℕ_discrete u t)
                  (λ e. ap (λ k. get_or (set s.words t (word + 1)) k 0) e
                  ∙ get_or-set_same s.words t (word + 1) 0 (omega (arith, in_homes, r.as_long))
                  ∙ sym (new_word ∙ ap asked_word was ∙ asked-even word out even) ∙ ap (λ k. word_of k log') (sym e))
                  (λ ne. get_or-set_other s.words t u (word + 1) 0 ne ∙ r.words u lu ∙ sym (else_word u ne));
              home = λ u lu zero_. r.home u lu (home_before u zero_);
              away = λ u lu ne. inr ((λ z. ne (still_out u z)), (same_half u, λ h. h));
              holds = λ u h. let q = kv.holds u h in (q.0, (q.1.0, same_half u ∙ q.1.1));
              down = kv.down;
              others = λ u j x ne e h. (same_half u, refl);
            },
            (
              record {
                others = kv.begins.0;
                now = ap (λ l. having_seen v (l ++ Ask t ∷ [])) kv.begins.1;
                found = r.words t in_homes ∙ ap (word_of t) kv.begins.1;
              },
              refl,
            ),
          )

  -- a load of a word that is no berth's, at which only the hand and the slot t change
  handed : (s : St) (r : Rule s) (id t i : ℕ) (hand : Option ℕ) (v : SeatView) (homes' : Slots T) → get_elem? s.views id ≡ some v
      → has_tag t v.held ≡ true
      → length homes' ≡ length s.homes
      → ((u : ℕ) → u ≢ t → get_elem? homes' u ≡ get_elem? s.homes u)
      → ((u : ℕ) → has_tag u v.held ≡ true → hand ≢ Some u → get_elem? homes' u ≡ some (some None))
      → Rule record { words = set s.words i (get_or s.words i 0); homes = homes'; views = set s.views id (carrying v hand) }
  handed s r id t i hand v homes' at has_it long apart down =
      moved tag_of s r id v (carrying v hand) (set s.words i (get_or s.words i 0)) homes' r.log at record {
        wide = length-set s.words i _;
        long = long;
        begins = kv.begins;
        grows = begins_all r.log;
        made = refl;
        same = (refl, (refl, (refl, (refl, refl))));
        words = λ u lu. ap (λ (l : List ℕ). get_or l u 0) (set-get_or s.words i 0) ∙ r.words u lu;
        home = λ u lu zero_. let z = r.home u lu zero_ in (
          z.0,
          apart u (λ e. absurd (omega (arith, zero_, (kv.holds t has_it).1.1, ap (λ k. word_of k r.log / 2) e))) ∙ z.1,
          z.2,
        );
        away = λ u lu ne. inr (ne, (refl, λ h. h));
        holds = λ u h. kv.holds u h;
        down = down;
        others = λ u j x ne e h. (refl, apart u (λ is. ne (same_seat j x e (ap (λ k. has_tag k x.held) (sym is) ∙ h))));
      }
    where
      kv : Knows s.homes s.views r.log r.owner id v
      kv = r.knows id v at

      same_seat : (j : ℕ) (x : SeatView) → get_elem? s.views j ≡ some x → has_tag t x.held ≡ true → j ≡ id
      same_seat j x e h = let q = (r.knows j x e).holds t h in let p = kv.holds t has_it in
          let numbers : x.number ≡ v.number = omega (arith, q.1.1, p.1.1) in
          sym ((r.knows j x e).own q.0) ∙ ap r.owner numbers ∙ kv.own p.0

  pub lay_allowed : (slots id i t : ℕ) (me : Me (Option T) SeatView) → t < slots → me.1 ≡ (t, None) ∷ [] → me.0.carries ≡ Some t
      → has_tag t me.0.held ≡ true
      → Allows Rule slots id me i (λ n. n) (λ n r. r ≡ (carrying me.0 None, []))
  lay_allowed slots id i t me lt carried hand has_it s r homes at small = (
    carrying v None,
    gives,
    tt,
    subst (λ (c : List (ℕ × Option T)). Rule (stepped s i (get_or s.words i 0) id c (carrying v None) gives)) (sym carried)
        (handed s r id t i None v homes' at has_it (length-set s.homes t (some None))
        (λ u ne. set_else s.homes t u (some None) ne)
        (λ u h ne. dite (ℕ_discrete u t)
        (λ e. ap (get_elem? homes') e ∙ set_here s.homes t (some None) (omega (arith, lt, homes)))
        (λ apart. set_else s.homes t u (some None) apart ∙ kv.down u h (λ z. apart (some_same (sym z ∙ hand)))))),
    ap (λ c. (carrying v None, rest c)) carried,
  )
    where
      v : SeatView
      v = me.0

      kv : Knows s.homes s.views r.log r.owner id v
      kv = r.knows id v at

      homes' : Slots T
      homes' = set s.homes t (some None)

  pub lift_allowed : (slots id t : ℕ) (me : Me (Option T) SeatView) → t < slots → me.1 ≡ [] → me.0.carries ≡ None
      → has_tag t me.0.held ≡ true
      → Allows Rule slots id me (slots + t) (λ n. n) (λ n r. LiftAnswer slots (slots + t) me r)
  lift_allowed slots id t me lt idle hand has_it s r homes at small = (
    carrying v (Some t),
    takes t None,
    kv.down t has_it (λ z. some_none (sym z ∙ hand)),
    handed s r id t (slots + t) (Some t) v (set s.homes t none) at has_it (length-set s.homes t none)
        (λ u ne. set_else s.homes t u none ne)
        (λ u h ne. let apart : u ≢ t = λ e. ne (ap Some (sym e)) in set_else s.homes t u none apart
        ∙ kv.down u h (λ z. some_none (sym z ∙ hand))),
    λ u e. subst (λ k. ◌≡◌ {A = Me (Option T) SeatView} (carrying v (Some t), (t, None) ∷ me.1) (carrying v (Some k), (k, None) ∷ []))
        (omega (arith, e)) (ap (λ l. (carrying v (Some t), (t, None) ∷ l)) idle),
  )
    where
      v : SeatView
      v = me.0

      kv : Knows s.homes s.views r.log r.owner id v
      kv = r.knows id v at

  -- the seat's word became 0
  pub leave_allowed : (slots id t : ℕ) (me : Me (Option T) SeatView) (task : T) → t < slots → me.1 ≡ (t, Some task) ∷ [] → tag_of task ≡ t
      → me.0.carries ≡ Some t → has_tag t me.0.held ≡ true
      → Allows Rule slots id me t (λ _. 0) (λ n r. Left t n me r)
  leave_allowed slots id t me task lt carried tagged hand has_it s r homes at small = (
    w,
    gives,
    tt,
    subst (λ (c : List (ℕ × Option T)). Rule (stepped s t 0 id c w gives)) (sym carried)
        (moved tag_of s r id v w (set s.words t 0) homes' log' at record {
          wide = length-set s.words t _;
          long = length-set s.homes t (some (Some task));
          begins = begins_all log';
          grows = (Leave t ∷ [], refl);
          made = let q = takes-append r.log (Leave t ∷ []) in omega (arith, q);
          same = (refl, (refl, (refl, (refl, refl))));
          words = λ u lu. dite (ℕ_discrete u t)
              (λ e. ap (λ k. get_or (set s.words t 0) k 0) e ∙ get_or-set_same s.words t 0 0 (omega (arith, in_homes, r.as_long))
              ∙ sym (ap (λ k. word_of k log') e ∙ new_word))
              (λ ne. get_or-set_other s.words t u 0 0 ne ∙ r.words u lu ∙ sym (else_word u ne));
          home = λ u lu zero_. dite (ℕ_discrete u t)
              (λ e. (task, ap (get_elem? homes') e ∙ set_here s.homes t (some (Some task)) in_homes, tagged ∙ sym e))
              (λ ne. let z = r.home u lu (sym (else_word u ne) ∙ zero_) in (z.0, set_else s.homes t u (some (Some task)) ne ∙ z.1, z.2));
          away = λ u lu ne. dite (ℕ_discrete u t)
              (λ e. absurd (ne (ap (λ k. word_of k log') e ∙ new_word)))
              (λ apart. inr (
                (λ z. ne (else_word u apart ∙ z)),
                (
                  ap (λ k. k / 2) (else_word u apart),
                  λ h. without_else u t v.held apart
                      ∙ h,
                ),
              ));
          holds = λ u h. let ne : u ≢ t = kept u h in let q = kv.holds u (sym (without_else u t v.held ne) ∙ h)
              in (q.0, (q.1.0, ap (λ k. k / 2) (else_word u ne) ∙ q.1.1));
          down = λ u h not. let ne : u ≢ t = kept u h in set_else s.homes t u (some (Some task)) ne
              ∙ kv.down u (sym (without_else u t v.held ne) ∙ h) (λ z. ne (some_same (sym z ∙ hand)));
          others = λ u j x ne e h. let apart : u ≢ t = λ is. ne (same_seat j x e (ap (λ k. has_tag k x.held) (sym is) ∙ h)) in
              (ap (λ k. k / 2) (else_word u apart), set_else s.homes t u (some (Some task)) apart);
        }),
    record {
      others = kv.begins.0;
      now = λ i. (having_left v t (kv.begins.1 i ++ Leave t ∷ []), rest (carried i));
      found = r.words t in_homes ∙ ap (word_of t) kv.begins.1;
      own = ap (λ k. k / 2) (r.words t in_homes) ∙ (kv.holds t has_it).1.1;
    },
  )
    where
      v : SeatView
      v = me.0

      kv : Knows s.homes s.views r.log r.owner id v
      kv = r.knows id v at

      in_homes : t < length s.homes
      in_homes = omega (arith, lt, homes)

      homes' : Slots T
      homes' = set s.homes t (some (Some task))

      log' : List BerthStep
      log' = r.log ++ Leave t ∷ []

      w : SeatView
      w = having_left v t log'

      else_word : (u : ℕ) → u ≢ t → word_of u log' ≡ word_of u r.log
      else_word u ne = word-snoc u r.log (Leave t) ∙ left_else u t (word_of u r.log) (λ e. ne (sym e))

      new_word : word_of t log' ≡ 0
      new_word = word-snoc t r.log (Leave t) ∙ left_here t (word_of t r.log)

      kept : (u : ℕ) → has_tag u (without_tag t v.held) ≡ true → u ≢ t
      kept u h e = true≢false (sym h ∙ ap (λ k. has_tag k (without_tag t v.held)) e ∙ without_here t v.held)

      same_seat : (j : ℕ) (x : SeatView) → get_elem? s.views j ≡ some x → has_tag t x.held ≡ true → j ≡ id
      same_seat j x e h = let q = (r.knows j x e).holds t h in let p = kv.holds t has_it in
          let numbers : x.number ≡ v.number = omega (arith, q.1.1, p.1.1) in
          sym ((r.knows j x e).own q.0) ∙ ap r.owner numbers ∙ kv.own p.0
