-- Each task is in its berth, or out with one seat.
use Rattle.std.proofs.Common.{◌≡◌, ℕ, suc, ◌/◌, ◌<◌, true, ◌⊎◌, inl, inr, length, get_or, sym, ap, ◌∙◌, subst, arith, Option}
use mathlib.Core.Logic.{dite}
use mathlib.Core.Option.{some}
use native.Mathlib.Decide.{ℕ_discrete}
use lib.ListN.{get_elem?}
use Rattle.atomic_table.specs.Table.{State}
use Rattle.task_berths.specs.declared.rule.SeatView.{SeatView}
use Rattle.task_berths.specs.Words.{word_of}
use Rattle.task_berths.specs.Homes.{Holder, HoldsTasks, IsIn, IsOut}

module _ {T : Type 0} (tag_of : T → ℕ) where
  -- between any two steps a task is in its berth, or out with one seat
  pub at_home_or_out : (s : State (Option T) SeatView) (t : ℕ) → HoldsTasks tag_of s → t < length s.homes → IsIn tag_of s t ⊎ IsOut s t
  at_home_or_out s t r lt = dite (ℕ_discrete (word_of t r.log) 0)
      (λ z. inl record {
        word = r.words t lt ∙ z;
        home = r.home t lt z;
        nobody = λ id v at h. absurd (omega (arith, z, ((r.knows id v at).holds t h).1.1, ap (λ k. k / 2) z));
      })
      (λ ne. let h = subst (λ n. Holder s.views t n) (sym (r.words t lt)) (r.away t lt ne) in inr record {
        holder = h;
        alone = λ id v at it. let q = (r.knows id v at).holds t it in owns id v at h q.0 (ap (λ n. n / 2) (r.words t lt) ∙ q.1.1);
        numbered = λ id v at live half. owns id v at h live half;
      })
    where
      owns : (id : ℕ) (v : SeatView) → get_elem? s.views id ≡ some v → (h : Holder s.views t (get_or s.words t 0)) → v.live ≡ true
          → get_or s.words t 0 / 2 ≡ suc v.number → id ≡ h.id
      owns id v at h live half = sym ((r.knows id v at).own live) ∙ ap r.owner (omega (arith, half, h.numbered))
          ∙ (r.knows h.id h.v h.at).own h.live
