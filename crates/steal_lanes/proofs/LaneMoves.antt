-- Each put and take keeps the rule of a lane.
use Rattle.std.proofs.Common.{◌≡◌, ◌≢◌, ℕ, ◌+◌, ◌≤◌, Bool, true, false, List, [], ◌∷◌, ◌++◌, length, set, if◌then◌else◌, Option, Some, None, Result, Ok, Err, MatchOption, MatchResult, sym, refl, ap, ◌∙◌, subst, ⊎_elim, append_assoc, append-nil, arith}
use Rattle.std.proofs.lemmas.List.{length-append}
use mathlib.Core.Option.{some}
use lib.ListN.{get_elem?}
use Rattle.crossbeam_deque.specs.Tasks.{Pushes, Takes, Admits}
use Rattle.crossbeam_deque.proofs.Lists.{at_set, at_snoc}
use Rattle.steal_lanes.specs.declared.lane_view.LaneOp.{LaneOp}
use Rattle.steal_lanes.specs.declared.lane_view.LaneView.{LaneView}
use Rattle.steal_lanes.specs.Queues.{op, puts, takes, guest, queue_after, MayCome, Replays, tickets_put, Knows, IsLane, Adds}

replays_longer : (q r : List ℕ) (log : List LaneOp) (e : LaneOp) → Replays q log r → MayCome r e.is_put e.ticket
    → Replays q (log ++ e ∷ []) (queue_after r e.is_put e.ticket)
replays_longer q r [] e h may = (subst (λ l. MayCome l e.is_put e.ticket) (sym h) may, ap (λ l. queue_after l e.is_put e.ticket) h)
replays_longer q r (x ∷ xs) e h may = (h.0, replays_longer (queue_after q x.is_put x.ticket) r xs e h.1 may)

pub tickets_put-append : (xs ys : List LaneOp) → tickets_put (xs ++ ys) ≡ tickets_put xs ++ tickets_put ys
tickets_put-append [] ys = refl
tickets_put-append (e ∷ es) ys = by_put e.is_put (tickets_put-append es ys)
  where
    by_put : (b : Bool) → tickets_put (es ++ ys) ≡ tickets_put es ++ tickets_put ys
        → (if b then e.ticket ∷ tickets_put (es ++ ys) else tickets_put (es ++ ys)) ≡
        (if b then e.ticket ∷ tickets_put es else tickets_put es) ++ tickets_put ys
    by_put true h = ap (λ l. e.ticket ∷ l) h
    by_put false h = h

-- what another port still knows
still_knows : (log : List LaneOp) (j : ℕ) (u : LaneView) (e : LaneOp) → Knows log j u → (u.owns ≡ true → e.is_put ≡ false)
    → Knows (log ++ e ∷ []) j u
still_knows log j u e k may = record {
  more = k.more ++ e ∷ [];
  begins = sym (append_assoc u.seen k.more (e ∷ [])) ∙ ap (λ l. l ++ e ∷ []) k.begins;
  first = k.first;
  puts_seen = λ o. tickets_put-append k.more (e ∷ []) ∙ ap (λ l. l ++ tickets_put (e ∷ [])) (k.puts_seen o)
      ∙ ap (λ (b : Bool). if b then e.ticket ∷ [] else []) (may o);
}

-- one put or take at a port
moves : (items next : List ℕ) (views : List LaneView) (port : ℕ) (v : LaneView) (e : LaneOp) → MayCome items e.is_put e.ticket
    → queue_after items e.is_put e.ticket ≡ next → IsLane items views → get_elem? views port ≡ some v
    → ((j : ℕ) → j ≢ port → j ≡ 0 → e.is_put ≡ false)
    → (w : LaneView) × IsLane next (set views port w) × Adds v (e ∷ []) w
moves items next views port v e may is h at apart = let k = h.known port v at in let log = h.log ++ e ∷ []
    in let w : LaneView = record { owns = v.owns; seen = log } in
    let replays : Replays [] log next = subst (Replays [] log) is (replays_longer [] items h.log e h.replays may) in (
      w,
      record {
        log = log;
        replays = replays;
        known = λ j u at'. ⊎_elim
            (λ (t : (j ≡ port) × (w ≡ u)). subst (λ (x : LaneView). Knows log j x) t.1
            (record { more = []; begins = append-nil log; first = λ o. t.0 ∙ k.first o; puts_seen = λ o. refl }))
            (λ (t : (j ≢ port) × (get_elem? views j ≡ some u)). let ku = h.known j u t.1
            in still_knows h.log j u e ku (λ o. apart j t.0 (ku.first o)))
            (at_set views port j w u at');
      },
      record {
        others = k.more;
        seen = ap (λ (l : List LaneOp). l ++ e ∷ []) (sym k.begins);
        owns = refl;
        puts_seen = k.puts_seen;
        left =
            next;
        replays = replays;
      },
    )

pub owner_puts : (v : LaneView) (t port : ℕ) → port ≡ 0 → Pushes IsLane port v (t ∷ []) (λ w. Adds v (puts (t ∷ [])) w)
owner_puts v t port zero_port items views h at = moves items (items
    ++ t ∷ []) views port v (op true t) tt refl h at (λ j ne z. absurd (ne (z ∙ sym zero_port)))

pub takes_first : (port : ℕ) (v : LaneView) → Takes IsLane port v 1 (λ xs w. Adds v (takes xs) w)
takes_first port v [] items views some_ one h at = absurd (omega arith)
takes_first port v (t ∷ []) items views some_ one h at =
    moves (t ∷ items) items views port v (op false t) (items, refl) refl h at (λ j ne z. refl)
takes_first port v (t ∷ u ∷ more) items views some_ one h at = absurd (omega arith)

pub admits_guest : Admits IsLane guest
admits_guest items views h = record {
  log = h.log;
  replays = h.replays;
  known = λ j u e. ⊎_elim (λ (at : get_elem? views j ≡ some u). h.known j u at)
      (λ (is : guest ≡ u). subst (λ (x : LaneView). Knows h.log j x) is
      (record { more = h.log; begins = refl; first = λ o. absurd (false_true o); puts_seen = λ o. absurd (false_true o) }))
      (at_snoc views guest u j e);
}
  where
    false_true : false ≡ true → ⊥
    false_true o = let k : false ≡ true = o in cc

-- ---- how many tickets were put

-- a put of the owner is one more
pub one_more : (v w : LaneView) (t : ℕ) → v.owns ≡ true → Adds v (puts (t ∷ [])) w
    → length (tickets_put w.seen) ≡ length (tickets_put v.seen) + 1
one_more v w t o a =
    ap (λ l. length (tickets_put l)) a.seen ∙ ap length (tickets_put-append (v.seen ++ a.others) (puts (t ∷ []))
    ∙ ap (λ l. l ++ t ∷ []) (tickets_put-append v.seen a.others ∙ ap (λ l. tickets_put v.seen ++ l) (a.puts_seen o)
    ∙ append-nil (tickets_put v.seen)))
    ∙ length-append (tickets_put v.seen) (t ∷ [])

-- a take of the owner changes nothing there
pub none_more : (v w : LaneView) (t : ℕ) → v.owns ≡ true → Adds v (takes (t ∷ [])) w
    → length (tickets_put w.seen) ≡ length (tickets_put v.seen)
none_more v w t o a =
    ap (λ l. length (tickets_put l)) a.seen ∙ ap length (tickets_put-append (v.seen ++ a.others) (takes (t ∷ []))
    ∙ append-nil (tickets_put (v.seen ++ a.others)) ∙ tickets_put-append v.seen a.others
    ∙ ap (λ l. tickets_put v.seen ++ l) (a.puts_seen o) ∙ append-nil (tickets_put v.seen))

-- what the owner keeps, whether its put succeeds or not
pub after_put : (X : Type 0) (r : Result (Unit {0}) ℕ) (v w : LaneView) (t i j : ℕ) → v.owns ≡ true → i ≤ length (tickets_put v.seen)
    → MatchResult r (λ _. Adds v (puts (t ∷ [])) w × (j ≡ i + 1)) (λ x. (x ≡ t) × (w ≡ v) × (j ≡ i) × X) → (w.owns ≡ true)
    × (j ≤ length (tickets_put w.seen))
after_put X (Ok u) v w t i j o le m = let n = one_more v w t o m.0 in (m.0.owns ∙ o, omega (arith, m.1))
after_put X (Err x) v w t i j o le m = let n = ap (λ (y : LaneView). length (tickets_put y.seen)) m.1
    in (ap (λ (y : LaneView). y.owns) m.1 ∙ o, omega (arith, m.2))

-- and whether its take finds a ticket or not
pub after_take : (X : Type 0) (r : Option ℕ) (v w : LaneView) (i j : ℕ) → v.owns ≡ true → i ≤ length (tickets_put v.seen) → j ≤ i
    → MatchOption r ((w ≡ v) × X) (λ t. Adds v (takes (t ∷ [])) w) → (w.owns ≡ true) × (j ≤ length (tickets_put w.seen))
after_take X None v w i j o le less m = let n = ap (λ (y : LaneView). length (tickets_put y.seen)) m.0
    in (ap (λ (y : LaneView). y.owns) m.0 ∙ o, omega arith)
after_take X (Some t) v w i j o le less m = let n = none_more v w t o m in (m.owns ∙ o, omega arith)

pub at_least : (a b d : ℕ) → a ≤ b → b ≤ d → a ≤ d
at_least a b d h k = omega arith
