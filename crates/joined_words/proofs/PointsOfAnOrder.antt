-- A beginning of the one history is a point of its order.
use Rattle.std.proofs.Common.{◌≡◌, suc, true, false, List, [], ◌∷◌, ◌++◌, length, take, refl, sym, ap, subst}
use mathlib.Core.List.{IsPrefix}
use Rattle.either.specs.declared.Either.{Either}
use Rattle.either.specs.declared.Either.TheVariants.{Left, Right}
use Rattle.joined_words.specs.Parts.{entries_in}
use Rattle.joined_words.specs.Joints.{first_of, second_of}
use Rattle.joined_words.specs.Orders.{order_of, firsts_in, seconds_in, HasOrder, IsPointOf}

module _ {E F : Type 0} where
  firsts : (log : List (Either E F)) → firsts_in (order_of log) ≡ length (entries_in first_of log)
  firsts [] = refl
  firsts (Left e ∷ log) = ap suc (firsts log)
  firsts (Right f ∷ log) = firsts log

  seconds : (log : List (Either E F)) → seconds_in (order_of log) ≡ length (entries_in second_of log)
  seconds [] = refl
  seconds (Left e ∷ log) = seconds log
  seconds (Right f ∷ log) = ap suc (seconds log)

  order-append : (xs ys : List (Either E F)) → order_of (xs ++ ys) ≡ order_of xs ++ order_of ys
  order-append [] ys = refl
  order-append (Left e ∷ xs) ys = ap (λ l. true ∷ l) (order-append xs ys)
  order-append (Right f ∷ xs) ys = ap (λ l. false ∷ l) (order-append xs ys)

  first_taken : (xs ys : List (Either E F)) → entries_in first_of xs ≡ take (firsts_in (order_of xs)) (entries_in first_of (xs ++ ys))
  first_taken [] ys = refl
  first_taken (Left e ∷ xs) ys = ap (λ l. e ∷ l) (first_taken xs ys)
  first_taken (Right f ∷ xs) ys = first_taken xs ys

  second_taken : (xs ys : List (Either E F)) → entries_in second_of xs ≡ take (seconds_in (order_of xs)) (entries_in second_of (xs ++ ys))
  second_taken [] ys = refl
  second_taken (Left e ∷ xs) ys = second_taken xs ys
  second_taken (Right f ∷ xs) ys = ap (λ l. f ∷ l) (second_taken xs ys)

  pub has_order : (log : List (Either E F)) → HasOrder log
  has_order log = record { first = firsts log; second = seconds log }

  pub is_point : (seen log : List (Either E F)) → IsPrefix seen log → IsPointOf seen log
  is_point seen log p = subst (IsPointOf seen) p.1 (record {
    begins = (order_of p.0, sym (order-append seen p.0));
    first = first_taken seen p.0;
    second = second_taken seen p.0;
  })
