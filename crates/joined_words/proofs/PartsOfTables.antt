-- A part of a table has one history.
use Rattle.std.proofs.Common.{◌≡◌, ℕ, zero, suc, ◌+◌, ◌<◌, ◌≤◌, arith, Bool, true, false, List, [], ◌∷◌, ◌++◌, map, take, drop, length, get_or, refl, sym, ap, ◌∙◌, subst}
use mathlib.Core.Option.{some, some-injective, some-ne-none}
use lib.ListN.{get_elem?}
use Rattle.atomic_table.specs.Table.{State}
use Rattle.worded.specs.declared.view.View.{View}
use Rattle.worded.specs.Views.{has_tag, holds_tag}
use Rattle.worded.specs.Histories.{entries_of, Knows, HasOneHistory}
use Rattle.joined_words.specs.Parts.{Part, entries_in, tag_in, tags_in, view_in, IsPartOf}
use Rattle.joined_words.specs.Tables.{state_in}
use Rattle.joined_words.proofs.PartsOfLists.{prefix_in, tags-append, has_tag-in, entries_of-in}

pub at_mapped : {A B : Type 0} (f : A → B) (xs : List A) (k : ℕ) (x : A) → get_elem? xs k ≡ some x → get_elem? (map f xs) k ≡ some (f x)
at_mapped f [] k x e = absurd (some-ne-none x (sym e))
at_mapped f (y ∷ ys) zero x e = ap (λ z. some (f z)) (some-injective y x e)
at_mapped f (y ∷ ys) (suc k) x e = at_mapped f ys k x e

-- what is at a place of a mapped list is the image of what was there
mapped_at : {A B : Type 0} (f : A → B) (xs : List A) (k : ℕ) (y : B) → get_elem? (map f xs) k ≡ some y
    → (x : A) × (get_elem? xs k ≡ some x) × (f x ≡ y)
mapped_at f [] k y e = absurd (some-ne-none y (sym e))
mapped_at f (x ∷ xs) zero y e = (x, refl, some-injective (f x) y e)
mapped_at f (x ∷ xs) (suc k) y e = mapped_at f xs k y e

taken : (count i : ℕ) (ws : List ℕ) → i < count → get_or (take count ws) i 0 ≡ get_or ws i 0
taken zero i ws lt = absurd (let q : ⊥ = omega arith in q)
taken (suc count) i [] lt = refl
taken (suc count) zero (w ∷ ws) lt = refl
taken (suc count) (suc i) (w ∷ ws) lt = taken count i ws (omega arith)

dropped : (from i : ℕ) (ws : List ℕ) → get_or (drop from ws) i 0 ≡ get_or ws (from + i) 0
dropped zero i ws = ap (λ k. get_or ws k 0) (let q : i ≡ 0 + i = omega arith in q)
dropped (suc from) i [] = refl
dropped (suc from) i (w ∷ ws) = dropped from i ws ∙ ap (λ k. get_or (w ∷ ws) k 0) (let q : suc (from + i) ≡ suc from + i = omega arith in q)

width : (from count : ℕ) (ws : List ℕ) → from + count ≤ length ws → length (take count (drop from ws)) ≡ count
width zero zero ws le = refl
width zero (suc count) [] le = absurd (let q : ⊥ = omega arith in q)
width zero (suc count) (w ∷ ws) le = ap suc (width zero count ws (omega arith))
width (suc from) zero [] le = refl
width (suc from) (suc count) [] le = absurd (let q : ⊥ = omega arith in q)
width (suc from) count (w ∷ ws) le = width from count ws (omega arith)

module _ {E K F L : Type 0} (part : Part E K F L) (legal : K → List E → Type 0) (fits : K → List E → ℕ → ℕ → Type 0) (who : E → ℕ)
    (size : K → ℕ) (legal' : L → List F → Type 0) (fits' : L → List F → ℕ → ℕ → Type 0) (who' : F → ℕ) (size' : L → ℕ)
    (p : IsPartOf part legal fits who size legal' fits' who' size') where
  acts : (t : ℕ) (es : List E) → entries_of who' t (entries_in part.read es) ≡
      entries_in part.read (entries_of who (tag_in part.place t) es)
  acts t es = entries_of-in part.read who who' part.place p.small p.own p.apart t es

  same_in : (t : ℕ) (xs ys : List E) → entries_of who (tag_in part.place t) xs ≡ entries_of who (tag_in part.place t) ys
      → entries_of who' t (entries_in part.read xs) ≡ entries_of who' t (entries_in part.read ys)
  same_in t xs ys h = acts t xs ∙ ap (entries_in part.read) h ∙ sym (acts t ys)

  tag_of : (t : ℕ) (ts : List ℕ) (b : Bool) → has_tag t (tags_in part.place ts) ≡ b → has_tag (tag_in part.place t) ts ≡ b
  tag_of t ts b h = sym (has_tag-in part.place t ts p.small) ∙ h

  holds_in : (t : ℕ) (v : View E K) → holds_tag (tag_in part.place t) v ≡ true → holds_tag t (view_in part v) ≡ true
  holds_in t v h = ap (has_tag t) (sym (tags-append part.place v.tags v.heard_tags))
      ∙ has_tag-in part.place t (v.tags ++ v.heard_tags) p.small ∙ h

  knows_in : (k : K) (log : List E) (owner : ℕ → ℕ) (id : ℕ) (v : View E K) → Knows (legal k) (fits k) who log owner id v
      → Knows (legal' (part.key_of k)) (fits' (part.key_of k)) who' (entries_in part.read log) (λ t. owner (tag_in part.place t)) id
      (view_in part v)
  knows_in k log owner id v q = record {
    begins = prefix_in part.read v.seen log q.begins;
    told = prefix_in part.read v.heard log q.told;
    owned = λ t h. let o = q.owned (tag_in part.place t) (tag_of t v.tags true h) in (o.0, same_in t log v.seen o.1);
    given_to = λ t h. let o = q.given_to (tag_in part.place t) (tag_of t v.heard_tags true h) in (o.0, same_in t log v.heard o.1);
    chief = λ c. ((q.chief c).0, λ t h. (q.chief c).1 (tag_in part.place t) (tag_of t v.given false h));
  }

  pub one_history_in : {S : Type 0} (k : K) (s : State S (View E K)) → HasOneHistory (legal k) (fits k) who (size k) s
      → HasOneHistory (legal' (part.key_of k)) (fits' (part.key_of k)) who' (size' (part.key_of k))
      (state_in part k (size' (part.key_of k)) s)
  one_history_in k s r = record {
    log = entries_in part.read r.log;
    owner = λ t. r.owner (tag_in part.place t);
    is_legal = p.legal_in k r.log r.is_legal;
    unowned = λ t z. acts t r.log ∙ ap (entries_in part.read) (r.unowned (tag_in part.place t) z);
    held = λ t id o. let h = r.held (tag_in part.place t) id o in
        (view_in part h.0, at_mapped (view_in part) s.views id h.0 h.1, holds_in t h.0 h.2);
    wide = width (part.first k) (size' (part.key_of k)) s.words (let w = p.within k in let e = r.wide in omega arith);
    words_fit = λ i lt. subst (fits' (part.key_of k) (entries_in part.read r.log) i)
        (sym (taken (size' (part.key_of k)) i (drop (part.first k) s.words) lt ∙ dropped (part.first k) i s.words))
        (p.fits_in k r.log i (get_or s.words (part.first k + i) 0) lt (r.words_fit (part.first k + i)
        (let w = p.within k in omega arith)));
    views_fit = λ id w at. let m = mapped_at (view_in part) s.views id w at in
        subst (Knows (legal' (part.key_of k)) (fits' (part.key_of k)) who' (entries_in part.read r.log)
        (λ t. r.owner (tag_in part.place t)) id) m.2 (knows_in k r.log r.owner id m.0 (r.views_fit id m.0 m.1));
  }
