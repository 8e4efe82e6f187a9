-- What the calls on a handle do, from what they do with the end.
use Rattle.std.specs.Prelude.{◌≡◌, ℕ, ◌+◌, ◌==◌, true, false, Option, Some, None, Result, Ok, Err, refl}
use Rattle.std.proofs.Common.{arith, sym, ap, ◌∙◌, subst}
use Rattle.channel_ends.specs.declared.end.End.{End}
use Rattle.channel_ends.specs.declared.faults.SplitFault.{SplitFault}
use Rattle.channel_ends.specs.declared.faults.SplitFault.TheVariants as split
use Rattle.channel_ends.specs.Ends.{ring_of, SameEnd, SplitSo}
use Rattle.channel_ends.specs.Handles.{Did, Went, PutSo, Splits}
use Rattle.channel_ends.specs.Marks.{mark_of}

-- ---- what C sees of a handle tells whether there is an end

differ : true ≡ false → ⊥
differ e = cc

later : (n : ℕ) → (n + 1 == 0) ≡ false
later n = grind arith

pub unmarked : (end : Option End) → mark_of end ≡ 0 → end ≡ None
unmarked None e = refl
unmarked (Some x) e = let never : ⊥ = omega (arith, e) in absurd never

pub marked : (end : Option End) (n : ℕ) → n ≡ mark_of end → (n ≡ 0 → ⊥) → (x : End) × (end ≡ Some x)
marked None n e differs = absurd (differs e)
marked (Some x) n e differs = (x, refl)

pub there : (end : Option End) → (mark_of end == 0) ≡ false → (x : End) × (end ≡ Some x)
there None e = absurd (differ e)
there (Some x) e = (x, refl)

pub empty : (end : Option End) → (mark_of end == 0) ≡ true → end ≡ None
empty None e = refl
empty (Some x) e = absurd (differ (sym e ∙ later x.tag))

-- ---- what the end did, through its box

pub did : (does : End → End → Type 0) (old new : Option End) (e d f : End) → d ≡ e → old ≡ Some e → new ≡ Some f → SameEnd d f
    → does d f → Did does old new
did does old new e d f through was now same done = record {
  before = e;
  after = f;
  was = was;
  is = now;
  same = subst (λ (x : End). SameEnd x f) through same;
  done = subst (λ (x : End). does x f) through done;
}

pub went : (does : End → End → Type 0) (old new : Option End) (e d f : End) → d ≡ e → old ≡ Some e → new ≡ None → SameEnd d f
    → does d f → Went does old new
went does old new e d f through was now same done = record {
  before = e;
  last = f;
  was = was;
  is = now;
  same = subst (λ (x : End). SameEnd x f) through same;
  done = subst (λ (x : End). does x f) through done;
}

pub splits_off : (e d f made : End) (old new from to : Option End) (r : Result (Unit {0}) SplitFault) → d ≡ e → old ≡ Some e
    → new ≡ Some f → from ≡ None → SplitSo d f (Ok made) → PutSo made to r → Splits old new from to r
splits_off e d f made old new from to (Ok u) through was now bare parts put = (
  bare,
  record {
    before = e;
    after = f;
    made = made;
    was = was;
    is = now;
    put = put;
    split = subst (λ (x : End). SplitSo x f (Ok made)) through parts;
  },
)
splits_off e d f made old new from to (Err split.NoEnd) through was now bare parts put = absurd put
splits_off e d f made old new from to (Err split.InUse) through was now bare parts put = absurd put
splits_off e d f made old new from to (Err split.NoTag) through was now bare parts put = absurd put
splits_off e d f made old new from to (Err split.Memory) through was now bare parts put =
    let own : SplitSo e f (Ok made) = subst (λ (x : End). SplitSo x f (Ok made)) through parts in (
      (bare, put),
      record { before = e; after = f; was = was; is = now; ring = own.0; tag = own.3 },
    )

pub splits_not : (e d f : End) (old new from : Option End) (fault : SplitFault) → d ≡ e → old ≡ Some e → new ≡ Some f → from ≡ None
    → SplitSo d f (Err fault) → Splits old new from from (Err fault)
splits_not e d f old new from split.NoTag through was now bare s =
    let own : SplitSo e f (Err split.NoTag) = subst (λ (x : End). SplitSo x f (Err split.NoTag)) through s in (
      (bare, bare),
      e,
      was,
      now ∙ ap (λ (x : End). Some x) own.1,
      own.0,
    )
splits_not e d f old new from split.Memory through was now bare s =
    let own : SplitSo e f (Err split.Memory) = subst (λ (x : End). SplitSo x f (Err split.Memory)) through s in (
      (bare, bare),
      record { before = e; after = f; was = was; is = now; ring = ap ring_of own.1; tag = ap (λ (x : End). x.tag) own.1 },
    )
splits_not e d f old new from other through was now bare s = absurd s
