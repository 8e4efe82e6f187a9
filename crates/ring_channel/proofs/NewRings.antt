-- A ring as it is made.
use Rattle.std.specs.Prelude.{◌≡◌, ℕ, zero, suc, ◌+◌, ◌-◌, ◌*◌, ◌==◌, ◌<◌, Bool, true, false, List, [], ◌∷◌, ◌++◌, map, length, replicate, None, if◌then◌else◌, refl}
use Rattle.std.proofs.Common.{get_or, sym, ap, ◌∙◌, subst, arith, eq-eqb, ne_eqb}
use Rattle.std.proofs.lemmas.List.{length-map, length-replicate, get_or_append_left}
use Rattle.std.proofs.Math.Seq.{get_or-append_seam}
use mathlib.Core.Logic.{dite}
use native.Mathlib.Decide.{ℕ_discrete}
use mathlib.Core.Option.{some, some-injective, some-ne-none}
use lib.ListN.{get_elem?}
use Rattle.atomic_table.specs.Table.{opening}
use Rattle.worded.specs.Views.{first_view}
use Rattle.worded.specs.Histories.{Knows, HasTag}
use Rattle.worded.proofs.TagsAndPrefixes.{zero_not, same_id, no_tag, only_one, not_first}
use Rattle.ring_channel.specs.declared.act.RingEntry.{RingEntry}
use Rattle.ring_channel.specs.declared.act.RingSide.{RingSide}
use Rattle.ring_channel.specs.declared.act.RingSide.TheVariants.{Receive, Send}
use Rattle.ring_channel.specs.Rings.{state_from, LegalFrom, Legal, maker}
use Rattle.ring_channel.specs.Tables.{first_word, wait_word, Fits, word_count, HoldsRing}
use Rattle.ring_channel.specs.Seen.{Seen}

at_replicate : {A : Type 0} (n k : ℕ) (x : A) → k < n → get_elem? (replicate n x) k ≡ some x
at_replicate zero k x lt = absurd (omega (arith, lt))
at_replicate (suc n) zero x lt = refl
at_replicate (suc n) (suc k) x lt = at_replicate n k x (omega (arith, lt))

at_mapped : {A B : Type 0} (f : A → B) (xs : List A) (k : ℕ) (x : A) → get_elem? xs k ≡ some x → get_elem? (map f xs) k ≡ some (f x)
at_mapped f [] k x e = absurd (some-ne-none x (sym e))
at_mapped f (y ∷ ys) zero x e = ap (λ z. some (f z)) (some-injective y x e)
at_mapped f (y ∷ ys) (suc k) x e = at_mapped f ys k x e

before_next : (k i : ℕ) → k < i + 1 → (k ≡ i → ⊥) → k < i
before_next k i lt ne = omega (arith, lt, ne)

-- a list of the first numbers of f is one longer
pub one_word_more : (f : ℕ → ℕ) (xs : List ℕ) (i x : ℕ) → length xs ≡ i → x ≡ f i → ((k : ℕ) → k < i → get_or xs k 0 ≡ f k) → (k : ℕ)
    → k < i + 1 → get_or (xs ++ x ∷ []) k 0 ≡ f k
one_word_more f xs i x long is h k lt = dite (ℕ_discrete k i)
    (λ e. ap (λ j. get_or (xs ++ x ∷ []) j 0) (e ∙ sym long) ∙ get_or-append_seam xs x [] 0 ∙ is ∙ ap f (sym e))
    (λ ne. let l : k < i = before_next k i lt ne in get_or_append_left xs (x ∷ []) 0 k (subst (λ m. k < m) (sym long) l) ∙ h k l)

none_waits : (d : RingSide) → first_word (wait_word d) ≡ 0
none_waits Receive = refl
none_waits Send = refl

slot_first : (k : ℕ) → 2 * (32 + k - 32) ≡ 2 * k + 0
slot_first k = omega arith

-- the first seat has the tag 0
abbrev first_owner : ℕ → ℕ
first_owner t = if t == 0 then 1 else 0

nothing_yet : (T : Type 0) (n : ℕ) → Legal {T = T} n []
unfolding LegalFrom
nothing_yet T n = tt

module _ {T : Type 0} where
  first_fits : (n i m : ℕ) → m ≡ first_word i → Fits {T = T} n [] i m
  unfolding state_from
  first_fits n i m is = record {
    tail = λ e. is ∙ ap first_word e;
    head = λ e. is ∙ ap first_word e;
    waits = λ d e. is ∙ ap first_word e ∙ none_waits d;
    slot = λ k e. is ∙ ap first_word e ∙ slot_first k;
  }

  mine : (n : ℕ) → Knows (Legal n) (Fits {T = T} n) maker [] first_owner 0 (first_view n)
  mine n = record {
    begins = ([], refl);
    told = ([], refl);
    owned = λ t h. (ap (λ (b : Bool). if b then 1 else 0) (eq-eqb t 0 (only_one t 0 h)), refl);
    given_to = λ t h. absurd (no_tag t h);
    chief = λ o. (refl, λ t h. ap (λ (b : Bool). if b then 1 else 0) (ne_eqb t 0 (not_first t 0 [] h).0));
  }

  first_views : (n j : ℕ) (u : Seen T) → get_elem? (first_view n ∷ []) j ≡ some u
      → Knows (Legal n) (Fits {T = T} n) maker [] first_owner j u
  first_views n zero u e = subst (Knows (Legal n) (Fits n) maker [] first_owner 0) (some-injective (first_view n) u e) (mine n)
  first_views n (suc j) u e = absurd (some-ne-none u (sym e))

  first_held : (n t j : ℕ) (b : Bool) → (t == 0) ≡ b → (if b then 1 else 0) ≡ suc j
      → HasTag {E = RingEntry T} {K = ℕ} (first_view n ∷ []) j t
  first_held n t zero true e o = (first_view n, refl, ap (λ (b : Bool). if b then true else false) e)
  first_held n t (suc j) true e o = absurd (zero_not (same_id 0 (suc j) o))
  first_held n t j false e o = absurd (zero_not o)

  -- the table at the start
  pub opens : (n : ℕ) (words : List ℕ) → length words ≡ word_count n → ((i : ℕ) → i < word_count n → get_or words i 0 ≡ first_word i)
      → HoldsRing {T = T} n (opening words (replicate n None) (first_view n))
  unfolding state_from
  opens n words long first = record {
    one = record {
      log = [];
      owner = first_owner;
      is_legal = nothing_yet T n;
      unowned = λ t z. refl;
      held = λ t j o. first_held n t j (t == 0) refl o;
      wide = long;
      words_fit = λ i lt. first_fits n i (get_or words i 0) (first i lt);
      views_fit = first_views n;
    };
    many = length-map (replicate n None) some ∙ length-replicate n None;
    homes = λ k lt. at_mapped some (replicate n None) k None (at_replicate n k None lt);
  }
