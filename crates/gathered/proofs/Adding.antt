-- Pieces that are added one after the other.
use Rattle.std.proofs.Common.{◌≡◌, ℕ, List, [], ◌++◌, false, refl, sym, ap, ◌∙◌, append_assoc, append-nil, Vec, Global, Result, Ok, Err, IfOk}
use Rattle.std.specs.declared.alloc.AllocError.{AllocError}
use Rattle.gathered.specs.declared.text.Text.{Text}
use Rattle.gathered.specs.Texts.{Adds, GoesOn}

-- ---- pieces

-- one piece, and then another
pub adds : {a b c : Text} {x y : List ℕ} → Adds a b x → Adds b c y → Adds a c (x ++ y)
adds {a} {b} {c} {x} {y} p q = record {
  held = λ h. p.held (q.held h);
  behind = λ h. q.behind h ∙ ap (λ l. l ++ y) (p.behind (q.held h)) ∙ append_assoc a.bytes.items x y;
}

-- the same piece by another name for it
pub adds_same : {a b : Text} {x y : List ℕ} → x ≡ y → Adds a b x → Adds a b y
adds_same {a} {b} {x} {y} e p = record { held = p.held; behind = λ h. p.behind h ∙ ap (λ l. a.bytes.items ++ l) e }

-- one piece, and then two that are added at once
pub adds_then : {a b c : Text} {x : List ℕ} (y z : List ℕ) → Adds a b x → Adds b c (y ++ z) → Adds a c (x ++ y ++ z)
adds_then {a} {b} {c} {x} y z p q = adds_same (sym (append_assoc x y z)) (adds p q)

-- nothing is added
pub adds_nothing : {a : Text} → Adds a a []
adds_nothing {a} = record { held = λ h. h; behind = λ h. sym (append-nil a.bytes.items) }

-- all that was added to an empty text, if memory held it
pub whole_text : {a b : Text} {x : List ℕ} (result : Result (Vec ℕ Global) AllocError) → a.bytes.items ≡ [] → Adds a b x
    → IfOk result (λ bytes. bytes.items ≡ b.bytes.items) → IfOk result (λ _. b.full ≡ false) → IfOk result (λ bytes. bytes.items ≡ x)
whole_text {a} {b} {x} (Ok bytes) empty p is held = is ∙ p.behind held ∙ ap (λ l. l ++ x) empty
whole_text (Err e) empty p is held = tt

-- ---- loops

-- nothing was added yet
pub nothing_added_yet : {a : Text} {all : List ℕ} → GoesOn a a all all
nothing_added_yet {a} {all} = record { held = λ h. h; behind = λ h. refl }

-- a piece of the rest is added
pub goes_on : {a b c : Text} {x all : List ℕ} (rest : List ℕ) → GoesOn a b (x ++ rest) all → Adds b c x → GoesOn a c rest all
goes_on {a} {b} {c} {x} {all} rest p q = record {
  held = λ h. p.held (q.held h);
  behind = λ h. ap (λ l. l ++ rest) (q.behind h) ∙ append_assoc b.bytes.items x rest ∙ p.behind (q.held h);
}

-- all is added where nothing is left
pub all_added : {a b : Text} {all : List ℕ} → GoesOn a b [] all → Adds a b all
all_added {a} {b} {all} p = record { held = p.held; behind = λ h. sym (append-nil b.bytes.items) ∙ p.behind h }
