-- A hub as it is made.
use Rattle.std.specs.Prelude.{◌≡◌, ℕ, zero, suc, ◌+◌, ◌*◌, ◌/◌, ◌%◌, ◌==◌, ◌<◌, ◌≤◌, Bool, List, [], ◌∷◌, ◌++◌, length, if◌then◌else◌, refl}
use Rattle.std.proofs.Math.ListN.{get_or-append}
use Rattle.std.proofs.Math.Seq.{get_or-append_seam}
use mathlib.Core.Logic.{dite}
use native.Mathlib.Decide.{ℕ_discrete}
use Rattle.cell_words.specs.Sizes.{AreFirsts}
use Rattle.std.proofs.Common.{ap, sym, ◌∙◌, subst, arith, get_or, length-append, eq-eqb, ne_eqb}
use Rattle.channel_model.specs.Channels.{Shape, empty, places_at}
use Rattle.channel_model.specs.Histories.{replay_from, Legal, LegalFrom}
use Rattle.word_rules.specs.Cells.{board_from}
use Rattle.word_rules.specs.Words.{base, cells_in, word_count, Fits}
use Rattle.word_rules.specs.Deeds as rows
use Rattle.word_rules.specs.declared.size.ForestSize.{ForestSize}
use Rattle.word_rules.proofs.FirstRows.{first_words_fit}
use Rattle.cell_words.proofs.LooksAtCells.{none_below_start}
use Rattle.cell_words.proofs.PlacesDecided.{decided_none}

pub none_legal : (shape : Shape) → Legal shape []
unfolding LegalFrom
none_legal shape = tt

pub all_free : (shape : Shape) (i : ℕ) → Fits shape [] i 0
unfolding board_from replay_from
all_free shape i = record {
  cell = λ c p lc lp e. (refl, tt);
  wait = λ c p lc lp e. (refl, tt);
  sends = λ c lc e. none_below_start empty;
  receives = λ c lc e. none_below_start empty;
  run = λ c lc e p le lt. absurd (omega (arith, lt));
  decided = λ c lc e. decided_none shape [] c ((0 / 2097152) % 2097152) (0 / 4398046511104) (0 % 2097152) (omega arith) (omega arith);
  mark = λ c p lc lp e. record { told = λ b told. cc; behind = λ lt d same. absurd (omega (arith, same)) };
}

-- ---- the numbers of first cells

pub base_step : (shape : Shape) (i : ℕ) → i < length shape → base shape (i + 1) ≡ base shape i + (places_at shape i + 1)
base_step [] i lt = absurd (omega arith)
base_step (x ∷ xs) zero lt = base_zero xs
  where
    base_zero : (xs : Shape) → (x.1 + 1) + base xs 0 ≡ 0 + (x.1 + 1)
    base_zero [] = omega arith
    base_zero (y ∷ ys) = omega arith
base_step (x ∷ xs) (suc i) lt = let h = base_step xs i (omega arith) in let e : suc i + 1 ≡ suc (i + 1) = omega arith
    in ap (base (x ∷ xs)) e ∙ omega arith

pub base_start : (shape : Shape) → base shape 0 ≡ 0
base_start [] = refl
base_start (x ∷ xs) = refl

pub base_all : (shape : Shape) → base shape (length shape) ≡ cells_in shape
base_all [] = refl
base_all (x ∷ xs) = let h = base_all xs in omega arith

pub base_below : (shape : Shape) (i : ℕ) → i < length shape → base shape (i + 1) ≤ cells_in shape
base_below [] i lt = absurd (omega arith)
base_below (x ∷ xs) zero lt = let h = base_start xs in omega arith
base_below (x ∷ xs) (suc i) lt = let h = base_below xs i (omega arith) in let e : suc i + 1 ≡ suc (i + 1) = omega arith
    in subst (λ (n : ℕ). base (x ∷ xs) n ≤ cells_in (x ∷ xs)) (sym e) (omega arith)

-- as many words as are asked for
pub count_is : (shape kinds : Shape) (cells i : ℕ) → shape ≡ kinds → cells ≡ cells_in kinds → i < word_count shape
    → i < 3 * cells + 16 * length kinds + 1
count_is shape kinds cells i same total h = let a = ap cells_in same in let b = ap (λ (s : Shape). length s) same in omega arith

pub no_firsts : (shape : Shape) (firsts : List ℕ) → firsts ≡ [] → AreFirsts shape 0 firsts
no_firsts shape firsts e = record { count = ap length e; first = λ c lt. absurd (omega arith) }

-- one channel more
pub firsts_more : (shape : Shape) (i next : ℕ) (firsts more : List ℕ) → more ≡ firsts ++ next ∷ [] → next ≡ base shape i
    → AreFirsts shape i firsts → AreFirsts shape (i + 1) more
firsts_more shape i next firsts more e is h = record {
  count = ap length e ∙ length-append firsts (next ∷ []) ∙ ap (λ (n : ℕ). n + 1) h.count;
  first = λ c lt. dite (ℕ_discrete c i)
      (λ (same : c ≡ i). ap (λ (l : List ℕ). get_or l c 0) e ∙ ap (λ (n : ℕ). get_or (firsts ++ next ∷ []) n 0) (same ∙ sym h.count)
      ∙ get_or-append_seam firsts next [] 0 ∙ is ∙ ap (base shape) (sym same))
      (λ ne. ap (λ (l : List ℕ). get_or l c 0) e ∙ get_or-append firsts (next ∷ []) 0 c (let k = h.count in omega arith)
      ∙ h.first c (omega arith));
}

-- ---- the words of rows, behind those of the channels

-- before the root's word all words are free
pub free_below : (i first n : ℕ) → i < first → ◌≡◌ {A = ℕ} (if i == first then n else 0) 0
free_below i first n lt = ap (λ (b : Bool). if b then n else 0) (ne_eqb i first (omega (arith, lt)))

-- the words of a forest that has the root alone
pub first_rows_fit : (ws : List ℕ) (cells channels : ℕ) (size : ForestSize) → ((i : ℕ) → get_or ws i 0 ≡
    (if i == 8 + (3 * cells + 16 * channels + 1) then (if size.rows == 0 then 0 else 2) else 0)) → (shape kinds : Shape) → shape ≡ kinds
    → cells ≡ cells_in kinds → channels ≡ length kinds → (i : ℕ) → i < 2 * size.rows
    → rows.Fits size [] i (get_or ws ((8 + word_count shape) + i) 0)
first_rows_fit ws cells channels size h shape kinds same total count i lt =
    first_words_fit (λ j. get_or ws ((8 + word_count shape) + j) 0) each size i
  where
    here : 8 + word_count shape ≡ 8 + (3 * cells + 16 * channels + 1)
    here = let a = ap cells_in same in let b = ap (λ (s : Shape). length s) same in omega (arith, a, b, total, count)

    first : (j : ℕ) → (((8 + word_count shape) + j) == 8 + (3 * cells + 16 * channels + 1)) ≡ (j == 0)
    first j = dite (ℕ_discrete j 0)
        (λ e. eq-eqb ((8 + word_count shape) + j) (8 + (3 * cells + 16 * channels + 1)) (omega (arith, e, here)) ∙ sym (eq-eqb j 0 e))
        (λ ne. ne_eqb ((8 + word_count shape) + j) (8 + (3 * cells + 16 * channels + 1)) (λ k. ne (omega (arith, k, here)))
        ∙ sym (ne_eqb j 0 ne))

    each : (j : ℕ) → get_or ws ((8 + word_count shape) + j) 0 ≡ (if j == 0 then 2 else 0)
    each j = h ((8 + word_count shape) + j) ∙ ap (λ (b : Bool). if b then (if size.rows == 0 then 0 else 2) else 0) (first j)
        ∙ ap (λ (b : Bool). if j == 0 then (if b then 0 else 2) else 0) (ne_eqb size.rows 0 (λ e. omega (arith, e, lt)))
