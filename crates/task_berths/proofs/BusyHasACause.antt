-- Why a take found its task away.
use Rattle.std.proofs.Common.{◌≡◌, ◌≢◌, ℕ, suc, ◌+◌, ◌*◌, ◌/◌, ◌%◌, Bool, false, List, [], ◌∷◌, ◌++◌, ◌⊎◌, inl, inr, ⊎_elim, sym, refl, ap, ◌∙◌, subst, arith, append_assoc, eq-eqb, ne_eqb, Option, MatchBool}
use Rattle.atomic_table.specs.Table.{Me}
use mathlib.Core.Logic.{dite}
use native.Mathlib.Decide.{ℕ_discrete}
use Rattle.task_berths.specs.declared.rule.SeatView.{SeatView}
use Rattle.task_berths.specs.declared.rule.BerthStep.{BerthStep}
use Rattle.task_berths.specs.declared.rule.BerthStep.TheVariants.{Take, Ask}
use Rattle.task_berths.specs.Words.{Begins, asked_word, word_after, word_of}
use Rattle.task_berths.specs.Views.{has_tag, having_seen}
use Rattle.task_berths.specs.Steps.{Found, Claimed, Asked, ClaimAnswer, AskAnswer}
use Rattle.task_berths.specs.Answers.{IsBusy, IsTakenSince}
use Rattle.task_berths.proofs.WordsByStep.{begins_all, word-append, word-snoc, asked_here, asked-even, take_or_stays}

begins_then : (a b c : List BerthStep) → Begins a b → Begins b c → Begins a c
begins_then a b c p q = (p.0 ++ q.0, q.1 ∙ ap (λ l. l ++ q.0) p.1 ∙ append_assoc a p.0 q.0)

-- another word than 0 and than before: a take came between
since : (t : ℕ) (moment es : List BerthStep) → word_of t (moment ++ es) ≢ 0
    → (word_of t moment ≢ 0 → word_of t (moment ++ es) / 2 ≢ word_of t moment / 2) → IsTakenSince t moment (moment ++ es)
since t moment es out other = ⊎_elim
    (λ (h : (a : List BerthStep) × (b : List BerthStep) × (k : ℕ) × (es ≡ a ++ Take t k ∷ b)). (h.0, h.1, h.2, ap (λ l. moment ++ l) h.3))
    (λ h. ⊎_elim
    (λ (z : word_after t (word_of t moment) es ≡ 0). absurd (out (word-append t 0 moment es ∙ z)))
    (λ (z : (word_of t moment ≢ 0) × (word_after t (word_of t moment) es / 2 ≡ word_of t moment / 2)). absurd
    (other z.0 (ap (λ k. k / 2) (word-append t 0 moment es) ∙ z.1)))
    h)
    (take_or_stays t (word_of t moment) es)

module _ {T : Type 0} (tag_of : T → ℕ) where
  seen_is : (t n : ℕ) (v w : SeatView) (l : Found t n v w) → w.seen ≡ v.seen ++ l.others
  seen_is t n v w l = ap (λ (z : SeatView). z.seen) l.now

  word_is : (t n : ℕ) (v w : SeatView) (l : Found t n v w) → word_of t w.seen ≡ n
  word_is t n v w l = ap (word_of t) (seen_is t n v w l) ∙ sym l.found

  again : (t n : ℕ) (v w : SeatView) (l : Found t n v w) → w ≡ having_seen v w.seen
  again t n v w l = l.now ∙ ap (having_seen v) (sym (seen_is t n v w l))

  -- it was asked already
  pub busy_before : (t n : ℕ) (v w : SeatView) → Found t n v w → has_tag t v.held ≡ false → n ≢ 0 → n % 2 ≢ 0 → IsBusy t v w
  busy_before t n v w l not out odd = record {
    moment = w.seen;
    since = (l.others, seen_is t n v w l);
    until = begins_all w.seen;
    stood = λ z. out (sym (word_is t n v w l) ∙ z);
    another = λ e. l.elsewhere not out (ap (λ k. k / 2) (sym (word_is t n v w l)) ∙ e);
    why = inl (word_is t n v w l ∙ halves ∙ ap (λ k. suc (k / 2 * 2)) (sym (word_is t n v w l)));
    now = again t n v w l;
  }
    where
      halves : n ≡ suc (n / 2 * 2)
      halves = omega (arith, odd)

  -- it was asked now
  pub busy_now : (t n : ℕ) (v w x : SeatView) → Found t n v w → has_tag t v.held ≡ false → n ≢ 0 → n % 2 ≡ 0 → Asked t n w x → IsBusy t v x
  busy_now t n v w x l not out even told = record {
    moment = w.seen;
    since = (l.others, seen_is t n v w l);
    until = (told.others ++ Ask t ∷ [], x_seen ∙ append_assoc w.seen told.others (Ask t ∷ []));
    stood = λ z. out (sym (word_is t n v w l) ∙ z);
    another = λ e. l.elsewhere not out (ap (λ k. k / 2) (sym (word_is t n v w l)) ∙ e);
    why = inl (ap (word_of t) x_seen ∙ word-snoc t (w.seen ++ told.others) (Ask t) ∙ asked_here t (word_of t (w.seen ++ told.others))
        ∙ ap asked_word (sym told.found) ∙ asked-even n out even ∙ halves ∙ ap (λ k. suc (k / 2 * 2)) (sym (word_is t n v w l)));
    now = told.now ∙ (λ i. having_seen (l.now i) (sym x_seen i));
  }
    where
      x_seen : x.seen ≡ (w.seen ++ told.others) ++ Ask t ∷ []
      x_seen = ap (λ (z : SeatView). z.seen) told.now

      halves : n + 1 ≡ suc (n / 2 * 2)
      halves = omega (arith, even)

  -- somebody else asked it, or it has moved on
  pub busy_else : (t n m : ℕ) (v w x : SeatView) → Found t n v w → has_tag t v.held ≡ false → n ≢ 0 → n % 2 ≡ 0 → Found t m w x → m ≢ 0
      → m ≢ n → IsBusy t v x
  busy_else t n m v w x l not out even k away other = record {
    moment = w.seen;
    since = (l.others, seen_is t n v w l);
    until = (k.others, seen_is t m w x k);
    stood = λ z. out (sym (word_is t n v w l) ∙ z);
    another = λ e. l.elsewhere not out (ap (λ q. q / 2) (sym (word_is t n v w l)) ∙ e);
    why = dite (ℕ_discrete m (n + 1))
        (λ e. inl (word_is t m w x k ∙ e ∙ halves ∙ ap (λ q. suc (q / 2 * 2)) (sym (word_is t n v w l))))
        (λ ne. inr (subst (IsTakenSince t w.seen) (sym (seen_is t m w x k)) (since t w.seen k.others (λ z. away (k.found ∙ z))
        (λ _ half. absurd (omega (arith, even, other, ne, ap (λ q. q / 2) k.found ∙ half ∙ ap (λ q. q / 2) (word_is t n v w l)))))));
    now = again t m w x k ∙ (λ i. having_seen (l.now i) x.seen);
  }
    where
      halves : n + 1 ≡ suc (n / 2 * 2)
      halves = omega (arith, even)

  -- it came home, and went out again
  pub busy_again : (t n m : ℕ) (v w x y : SeatView) → Found t n v w → has_tag t v.held ≡ false → n ≢ 0 → Found t 0 w x → Found t m x y
      → m ≢ 0 → IsBusy t v y
  busy_again t n m v w x y l not out k j away = record {
    moment = w.seen;
    since = (l.others, seen_is t n v w l);
    until = begins_then w.seen x.seen y.seen (k.others, seen_is t 0 w x k) (j.others, seen_is t m x y j);
    stood = λ z. out (sym (word_is t n v w l) ∙ z);
    another = λ e. l.elsewhere not out (ap (λ q. q / 2) (sym (word_is t n v w l)) ∙ e);
    why = inr (later (since t x.seen j.others (λ z. away (j.found ∙ z)) (λ ne. absurd (ne (word_is t 0 w x k)))));
    now = again t m x y j ∙ (λ i. having_seen (k.now i) y.seen) ∙ (λ i. having_seen (l.now i) y.seen);
  }
    where
      later : IsTakenSince t x.seen (x.seen ++ j.others) → IsTakenSince t w.seen y.seen
      later h = (
        k.others ++ h.0,
        h.1,
        h.2,
        seen_is t m x y j ∙ h.3 ∙ ap (λ l. l ++ (h.0 ++ Take t h.2 ∷ h.1)) (seen_is t 0 w x k)
            ∙ append_assoc w.seen k.others (h.0 ++ Take t h.2 ∷ h.1)
            ∙ ap (λ l. w.seen ++ l) (sym (append_assoc k.others h.0 (Take t h.2 ∷ h.1))),
      )

  missed : (t n : ℕ) (m r : Me (Option T) SeatView) → n ≢ 0 → ClaimAnswer tag_of t n m r → Found t n m.0 r.0
  missed t n m r ne h = (subst (λ (b : Bool). MatchBool b (Claimed tag_of t m r) (Found t n m.0 r.0 × (r.1 ≡ m.1))) (ne_eqb n 0 ne) h).0

  told : (t w : ℕ) (m r : Me (Option T) SeatView) → AskAnswer t w w m r → Asked t w m.0 r.0
  told t w m r h = (subst (λ (b : Bool). MatchBool b (Asked t w m.0 r.0 × (r.1 ≡ m.1)) (Found t w m.0 r.0 × (r.1 ≡ m.1))) (eq-eqb w w refl)
      h).0

  passed_by : (t w n : ℕ) (m r : Me (Option T) SeatView) → n ≢ w → AskAnswer t w n m r → Found t n m.0 r.0
  passed_by t w n m r ne h = (subst (λ (b : Bool). MatchBool b (Asked t n m.0 r.0 × (r.1 ≡ m.1)) (Found t n m.0 r.0 × (r.1 ≡ m.1)))
      (ne_eqb n w ne) h).0

  -- after a claim that missed and a try to ask
  pub busy_second : (t n k : ℕ) (a b c : Me (Option T) SeatView) → has_tag t a.0.held ≡ false → n ≢ 0 → n % 2 ≡ 0 → k ≢ 0
      → ClaimAnswer tag_of t n a b → AskAnswer t n k b c → IsBusy t a.0 c.0
  busy_second t n k a b c not out even there p q = dite (ℕ_discrete k n)
      (λ e. busy_now t n a.0 b.0 c.0 (missed t n a b out p) not out even (told t n b c (subst (λ x. AskAnswer t n x b c) e q)))
      (λ ne. busy_else t n k a.0 b.0 c.0 (missed t n a b out p) not out even (passed_by t n k b c ne q) there ne)

  -- after a second claim that missed
  pub busy_third : (t n k : ℕ) (a b c d : Me (Option T) SeatView) → has_tag t a.0.held ≡ false → n ≢ 0 → k ≢ 0 → ClaimAnswer tag_of t n a b
      → AskAnswer t n 0 b c → ClaimAnswer tag_of t k c d → IsBusy t a.0 d.0
  busy_third t n k a b c d not out there p q l = busy_again t n k a.0 b.0 c.0 d.0 (missed t n a b out p) not out
      (passed_by t n 0 b c (λ e. out (sym e)) q) (missed t k c d there l) there
