-- Members that are added piece by piece.
use Rattle.std.proofs.Common.{◌≡◌, ℕ, List, [], ◌++◌, append_assoc, append-nil}

-- a member that is a number, behind others
pub one_number : (f n a c : List ℕ) → f ++ n ++ a ++ c ≡ f ++ ((n ++ a ++ c) ++ [])
one_number f n a c = simp (append_assoc, append-nil)

-- two members that are numbers, behind others
pub two_numbers : (f n a c m b : List ℕ) → f ++ n ++ a ++ (c ++ m) ++ b ++ c ≡ f ++ ((n ++ a ++ c) ++ ((m ++ b ++ c) ++ []))
two_numbers f n a c m b = simp (append_assoc, append-nil)

-- the beginning of an event
pub beginning : (o n a c m b p k t : List ℕ)
    → o ++ n ++ a ++ (c ++ m) ++ b ++ (c ++ p ++ k) ++ t ++ c ≡ o ++ (n ++ a ++ c) ++ (m ++ b ++ c) ++ p ++ (k ++ t ++ c)
beginning o n a c m b p k t = simp append_assoc

-- the end of an event
pub ending : (o a s c d e : List ℕ) → o ++ a ++ s ++ (c ++ d ++ e) ≡ o ++ a ++ s ++ c ++ d ++ e
ending o a s c d e = simp append_assoc
