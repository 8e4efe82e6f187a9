-- What several reads and writes come to.
use Rattle.std.proofs.Common.{◌≡◌, ℕ, ◌+◌, ◌≤◌, List, ◌++◌, length, take, drop, ap, sym, ◌∙◌, append_assoc, arith, Option, Some, None}
use Rattle.std.proofs.lemmas.List.{take-append-le, take-append-drop, drop-drop, take_all}
use Rattle.std.proofs.Math.Seq.{take-add}
use Rattle.co_base.specs.Streams.{Gave, Took}

-- what a loop of reads keeps: the front of the buffer is what was given since it began
pub record Filled (old new : Option (List ℕ)) (before now count limit : ℕ) (buffer : List ℕ) : Type 0 where
  pub size : length buffer ≡ limit + 1
  pub inside : count ≤ limit + 1
  pub given : Gave old new (take count buffer)
  pub rises : before ≤ now

-- what a loop of writes keeps: the front of the text is what was taken since it began
pub record Written (old new : Option (List ℕ)) (before now count : ℕ) (text : List ℕ) : Type 0 where
  pub inside : count ≤ length text
  pub taken : Took old new (take count text)
  pub rises : before ≤ now

-- two reads give what the first gave, and then what the second gave
pub gave_then : (a b c : Option (List ℕ)) (xs ys : List ℕ) → Gave a b xs → Gave b c ys → Gave a c (xs ++ ys)
gave_then None None c xs ys p q = elim c as (λ (o : Option (List ℕ)). Gave None o ys
    → Gave None o (xs ++ ys)) [ None ↦ λ h. h | Some s ↦ λ h. h ] q
gave_then None (Some b) c xs ys p q = absurd p
gave_then (Some a) (Some b) (Some c) xs ys p q = p ∙ ap (λ l. xs ++ l) q ∙ sym (append_assoc xs ys c)
gave_then (Some a) (Some b) None xs ys p q = q
gave_then (Some a) None c xs ys p q = absurd p

-- two writes take what the first took, and then what the second took
pub took_then : (a b c : Option (List ℕ)) (xs ys : List ℕ) → Took a b xs → Took b c ys → Took a c (xs ++ ys)
took_then a b None xs ys p q = tt
took_then (Some a) (Some b) (Some c) xs ys p q = q ∙ ap (λ l. l ++ ys) p ∙ append_assoc a xs ys
took_then None (Some b) (Some c) xs ys p q = absurd p
took_then a None (Some c) xs ys p q = absurd q

-- one more write keeps what the loop keeps
pub written_more : (old mid new : Option (List ℕ)) (before a b done n : ℕ) (text : List ℕ) → Written old mid before a done text
    → n ≤ length (drop done text) → done + n ≤ length text → Took mid new (take n (drop done text)) → a ≤ b
    → Written old new before b (done + n) text
written_more old mid new before a b done n text w fits inside t rise = record {
  inside = inside;
  taken = rw (take-add done n text) (took_then old mid new (take done text) (take n (drop done text)) w.taken t);
  rises = omega (arith, w.rises);
}

-- one more read keeps what the loop keeps
pub filled_more : (old mid new : Option (List ℕ)) (before a b count n limit : ℕ) (buffer filled : List ℕ)
    → Filled old mid before a count limit buffer → length filled ≡ length buffer → take count filled ≡ take count buffer
    → count + n ≤ length filled → Gave mid new (take n (drop count filled)) → a ≤ b → Filled old new before b (count + n) limit filled
filled_more old mid new before a b count n limit buffer filled w len front fits t rise = record {
  size = omega (arith, w.size);
  inside = omega (arith, w.size);
  given = rw (take-add count n filled, front) (gave_then old mid new (take count buffer) (take n (drop count filled)) w.given t);
  rises = omega (arith, w.rises);
}

-- a piece copied to the front of a buffer is the first of the bytes left
pub given_at : (bytes buf piece : List ℕ) (at n : ℕ) → piece ≡ take n (drop at bytes) → length piece ≡ n
    → drop at bytes ≡ take n (piece ++ drop n buf) ++ drop (at + n) bytes
given_at bytes buf piece at n e len =
    let front : take n (piece ++ drop n buf) ≡ piece = take-append-le n piece (drop n buf) (omega arith) ∙ take_all n piece (omega arith) in
    let back : drop (at + n) bytes ≡ drop n (drop at bytes) = sym (drop-drop n at bytes) in
    sym (ap (λ l. l ++ drop (at + n) bytes) (front ∙ e) ∙ ap (λ l. take n (drop at bytes) ++ l) back ∙ take-append-drop n (drop at bytes))
