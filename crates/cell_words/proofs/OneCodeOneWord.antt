-- Two words with one number are one word.
use Rattle.std.specs.Prelude.{◌≡◌, ℕ, ◌+◌, ◌*◌, ◌==◌, ◌<◌, Bool, true, false, if◌then◌else◌, refl}
use Rattle.std.proofs.Common.{sym, ap, ◌∙◌, arith}
use Rattle.word_rules.specs.declared.cell_word.CellState.{CellState}
use Rattle.word_rules.specs.declared.cell_word.CellState.TheVariants.{Free, Receiver, Offer, Buffered, Emptied, Closed, Voided}
use Rattle.word_rules.specs.declared.cell_word.CellWord.{CellWord}
use Rattle.word_rules.specs.declared.wait_word.ResolvedBy.{ResolvedBy}
use Rattle.word_rules.specs.declared.wait_word.ResolvedBy.TheVariants.{Nobody, Hand, Take, Admit, Close, Cancel, Revoke, Void}
use Rattle.word_rules.specs.declared.wait_word.WaitWord.{WaitWord}
use Rattle.word_rules.specs.Codes.{bit, state_code, packed_cell, IsNarrowCell, resolver_code, packed_wait, IsNarrowWait}

bit_is : (a b : Bool) → bit a ≡ bit b → a ≡ b
bit_is false false e = refl
bit_is false true e = absurd (omega arith)
bit_is true false e = absurd (omega arith)
bit_is true true e = refl

bit_small : (a : Bool) → bit a < 2
bit_small false = omega arith
bit_small true = omega arith

abbrev state_from : ℕ → CellState
state_from n = if n == 0 then Free else (if n == 1 then Receiver else
    (if n == 2 then Offer else (if n == 3 then Buffered else (if n == 4 then Emptied else (if n == 5 then Closed else Voided)))))

from_state : (s : CellState) → state_from (state_code s) ≡ s
from_state Free = refl
from_state other = refl

state_small : (s : CellState) → state_code s < 8
state_small Free = omega arith
state_small other = omega arith

abbrev resolver_from : ℕ → ResolvedBy
resolver_from n = if n == 0 then Nobody else (if n == 1 then Hand else
    (if n == 2 then Take else (if n == 3 then Admit else (if n ==
    4 then Close else (if n == 5 then Cancel else (if n == 6 then Revoke else Void))))))

from_resolver : (s : ResolvedBy) → resolver_from (resolver_code s) ≡ s
from_resolver Nobody = refl
from_resolver other = refl

resolver_small : (s : ResolvedBy) → resolver_code s < 8
resolver_small Nobody = omega arith
resolver_small other = omega arith

-- ---- a cell

cells_1 : (a b c d e f g h i j : ℕ) → a < 8 → f < 8 → a + 8 * b + 64 * c + 128 * d + 4294967296 * e ≡
    f + 8 * g + 64 * h + 128 * i + 4294967296 * j → a ≡ f
cells_1 a b c d e f g h i j la lf k = omega arith

cells_2 : (b c d e g h i j : ℕ) → b < 8 → g < 8 → 8 * b + 64 * c + 128 * d + 4294967296 * e ≡ 8 * g + 64 * h + 128 * i + 4294967296 * j
    → b ≡ g
cells_2 b c d e g h i j lb lg k = omega arith

cells_3 : (c d e h i j : ℕ) → c < 2 → h < 2 → 64 * c + 128 * d + 4294967296 * e ≡ 64 * h + 128 * i + 4294967296 * j → c ≡ h
cells_3 c d e h i j lc lh k = omega arith

cells_4 : (d e i j : ℕ) → d < 8388608 → i < 8388608 → 128 * d + 4294967296 * e ≡ 128 * i + 4294967296 * j → d ≡ i
cells_4 d e i j ld li k = omega arith

pub cell_code_is : (v w : CellWord) → IsNarrowCell v → IsNarrowCell w → packed_cell v ≡ packed_cell w → v ≡ w
cell_code_is v w n m e =
    let a : state_code v.state ≡ state_code w.state = cells_1 (state_code v.state) v.clause (bit v.own_wait) v.holder v.value
    (state_code w.state) w.clause (bit w.own_wait) w.holder w.value (state_small v.state) (state_small w.state) e in
    let e2 : 8 * v.clause + 64 * bit v.own_wait + 128 * v.holder + 4294967296 * v.value ≡
    8 * w.clause + 64 * bit w.own_wait + 128 * w.holder + 4294967296 * w.value = omega arith in
    let b : v.clause ≡ w.clause = cells_2 v.clause (bit v.own_wait) v.holder v.value w.clause (bit w.own_wait) w.holder w.value n.clause
    m.clause e2 in
    let e3 : 64 * bit v.own_wait + 128 * v.holder + 4294967296 * v.value ≡ 64 * bit w.own_wait + 128 * w.holder + 4294967296 * w.value =
    omega arith in
    let c : bit v.own_wait ≡ bit w.own_wait = cells_3 (bit v.own_wait) v.holder v.value (bit w.own_wait) w.holder w.value
    (bit_small v.own_wait) (bit_small w.own_wait) e3 in
    let e4 : 128 * v.holder + 4294967296 * v.value ≡ 128 * w.holder + 4294967296 * w.value = omega arith in
    let d : v.holder ≡ w.holder = cells_4 v.holder v.value w.holder w.value n.holder m.holder e4 in
    let r : v.value ≡ w.value = omega arith in
    let s : v.state ≡ w.state = sym (from_state v.state) ∙ ap state_from a ∙ from_state w.state in
    let t : v.own_wait ≡ w.own_wait = bit_is v.own_wait w.own_wait c in
    λ i. record { state = s i; clause = b i; own_wait = t i; holder = d i; value = r i }

-- ---- a wait

waits_1 : (a b c d e f g h i j : ℕ) → a < 8 → f < 8 → a + 8 * b + 64 * c + 128 * d + 4294967296 * e ≡
    f + 8 * g + 64 * h + 128 * i + 4294967296 * j → a ≡ f
waits_1 a b c d e f g h i j la lf k = omega arith

waits_4 : (d e i j : ℕ) → d < 2 → i < 2 → 128 * d + 4294967296 * e ≡ 128 * i + 4294967296 * j → d ≡ i
waits_4 d e i j ld li k = omega arith

pub wait_code_is : (v w : WaitWord) → IsNarrowWait v → IsNarrowWait w → packed_wait v ≡ packed_wait w → v ≡ w
wait_code_is v w n m e =
    let a : resolver_code v.by ≡ resolver_code w.by = waits_1 (resolver_code v.by) v.clause (bit v.settled) (bit v.cancelled) v.value
    (resolver_code w.by) w.clause (bit w.settled) (bit w.cancelled) w.value (resolver_small v.by) (resolver_small w.by) e in
    let e2 : 8 * v.clause + 64 * bit v.settled + 128 * bit v.cancelled + 4294967296 * v.value ≡
    8 * w.clause + 64 * bit w.settled + 128 * bit w.cancelled + 4294967296 * w.value = omega arith in
    let b : v.clause ≡ w.clause = cells_2 v.clause (bit v.settled) (bit v.cancelled) v.value w.clause (bit w.settled) (bit w.cancelled)
    w.value n.clause m.clause e2 in
    let e3 : 64 * bit v.settled + 128 * bit v.cancelled + 4294967296 * v.value ≡
    64 * bit w.settled + 128 * bit w.cancelled + 4294967296 * w.value = omega arith in
    let c : bit v.settled ≡ bit w.settled = cells_3 (bit v.settled) (bit v.cancelled) v.value (bit w.settled) (bit w.cancelled) w.value
    (bit_small v.settled) (bit_small w.settled) e3 in
    let e4 : 128 * bit v.cancelled + 4294967296 * v.value ≡ 128 * bit w.cancelled + 4294967296 * w.value = omega arith in
    let d : bit v.cancelled ≡ bit w.cancelled = waits_4 (bit v.cancelled) v.value (bit w.cancelled) w.value (bit_small v.cancelled)
    (bit_small w.cancelled) e4 in
    let r : v.value ≡ w.value = omega arith in
    let s : v.by ≡ w.by = sym (from_resolver v.by) ∙ ap resolver_from a ∙ from_resolver w.by in
    let t : v.settled ≡ w.settled = bit_is v.settled w.settled c in
    let u : v.cancelled ≡ w.cancelled = bit_is v.cancelled w.cancelled d in
    λ i. record { by = s i; clause = b i; settled = t i; cancelled = u i; value = r i }
