-- Two words with one number are one word.
use Rattle.std.specs.Prelude.{◌≡◌, ℕ, ◌+◌, ◌*◌, ◌==◌, ◌<◌, Bool, true, false, if◌then◌else◌, refl}
use Rattle.std.proofs.Common.{sym, ap, ◌∙◌, arith}
use Rattle.job_model.specs.declared.acts.JobState.{JobState}
use Rattle.job_model.specs.declared.acts.JobState.TheVariants.{New, Active, Completing, Cancelling, Cancelled, Completed}
use Rattle.word_rules.specs.declared.job_word.JobWord.{JobWord}
use Rattle.word_rules.specs.declared.link_word.LinkWord.{LinkWord}
use Rattle.word_rules.specs.Rows.{bit, state_code, job_code, link_code, IsNarrow, IsNarrowLink}

pub bit_is : (a b : Bool) → bit a ≡ bit b → a ≡ b
bit_is false false e = refl
bit_is false true e = absurd (omega arith)
bit_is true false e = absurd (omega arith)
bit_is true true e = refl

pub bit_small : (a : Bool) → bit a < 2
bit_small false = omega arith
bit_small true = omega arith

abbrev state_from : ℕ → JobState
state_from n = if n == 1 then New else (if n == 2 then Active else
    (if n == 3 then Completing else (if n == 4 then Cancelling else (if n == 5 then Cancelled else Completed))))

from_code : (s : JobState) → state_from (state_code s) ≡ s
from_code New = refl
from_code other = refl

pub state_is : (s t : JobState) → state_code s ≡ state_code t → s ≡ t
state_is s t e = sym (from_code s) ∙ ap state_from e ∙ from_code t

pub state_small : (s : JobState) → state_code s < 8
state_small New = omega arith
state_small other = omega arith

pub state_some : (s : JobState) → 0 < state_code s
state_some New = omega arith
state_some other = omega arith

fields_1 : (a b c d e f g h i j : ℕ) → a < 8 → f < 8 → b < 2 → g < 2 → c < 16384 → h < 16384 → d < 16384 → i < 16384
    → a + 8 * b + 16 * c + 262144 * d + 4294967296 * e ≡ f + 8 * g + 16 * h + 262144 * i + 4294967296 * j → a ≡ f
fields_1 a b c d e f g h i j la lf lb lg lc lh ld li k = omega arith

fields_2 : (b c d e g h i j : ℕ) → b < 2 → g < 2 → 8 * b + 16 * c + 262144 * d + 4294967296 * e ≡
    8 * g + 16 * h + 262144 * i + 4294967296 * j → b ≡ g
fields_2 b c d e g h i j lb lg k = omega arith

fields_3 : (c d e h i j : ℕ) → c < 16384 → h < 16384 → 16 * c + 262144 * d + 4294967296 * e ≡ 16 * h + 262144 * i + 4294967296 * j → c ≡ h
fields_3 c d e h i j lc lh k = omega arith

fields_4 : (d e i j : ℕ) → d < 16384 → i < 16384 → 262144 * d + 4294967296 * e ≡ 262144 * i + 4294967296 * j → d ≡ i
fields_4 d e i j ld li k = omega arith

pub job_code_is : (v w : JobWord) → IsNarrow v → IsNarrow w → job_code v ≡ job_code w → v ≡ w
job_code_is v w n m e =
    let a : state_code v.state ≡ state_code w.state = fields_1 (state_code v.state) (bit v.body_ended) v.first_child v.living v.rest
    (state_code w.state) (bit w.body_ended) w.first_child w.living w.rest (state_small v.state) (state_small w.state)
    (bit_small v.body_ended) (bit_small w.body_ended) n.first_child m.first_child n.living m.living e in
    let e2 : 8 * bit v.body_ended + 16 * v.first_child + 262144 * v.living + 4294967296 * v.rest ≡
    8 * bit w.body_ended + 16 * w.first_child + 262144 * w.living + 4294967296 * w.rest = omega arith in
    let b : bit v.body_ended ≡ bit w.body_ended = fields_2 (bit v.body_ended) v.first_child v.living v.rest (bit w.body_ended) w.first_child
    w.living w.rest (bit_small v.body_ended) (bit_small w.body_ended) e2 in
    let e3 : 16 * v.first_child + 262144 * v.living + 4294967296 * v.rest ≡ 16 * w.first_child + 262144 * w.living + 4294967296 * w.rest =
    omega arith in
    let c : v.first_child ≡ w.first_child = fields_3 v.first_child v.living v.rest w.first_child w.living w.rest n.first_child m.first_child
    e3 in
    let e4 : 262144 * v.living + 4294967296 * v.rest ≡ 262144 * w.living + 4294967296 * w.rest = omega arith in
    let d : v.living ≡ w.living = fields_4 v.living v.rest w.living w.rest n.living m.living e4 in
    let r : v.rest ≡ w.rest = omega arith in
    let s : v.state ≡ w.state = state_is v.state w.state a in
    let t : v.body_ended ≡ w.body_ended = bit_is v.body_ended w.body_ended b in
    λ i. record { state = s i; body_ended = t i; first_child = c i; living = d i; rest = r i }

pub job_code_some : (w : JobWord) → 0 < job_code w
job_code_some w = let k = state_some w.state in omega arith

links_1 : (a b c d e f m g h i j k l n : ℕ) → a < 16384 → g < 16384
    → a + 16384 * b + 268435456 * c + 17592186044416 * d + 35184372088832 * e + 70368744177664 * f + 140737488355328 * m
    ≡ g + 16384 * h + 268435456 * i + 17592186044416 * j + 35184372088832 * k + 70368744177664 * l + 140737488355328 * n → a ≡ g
links_1 a b c d e f m g h i j k l n la lg q = omega arith

links_2 : (b c d e f m h i j k l n : ℕ) → b < 16384 → h < 16384
    → 16384 * b + 268435456 * c + 17592186044416 * d + 35184372088832 * e + 70368744177664 * f + 140737488355328 * m
    ≡ 16384 * h + 268435456 * i + 17592186044416 * j + 35184372088832 * k + 70368744177664 * l + 140737488355328 * n → b ≡ h
links_2 b c d e f m h i j k l n lb lh q = omega arith

links_3 : (c d e f m i j k l n : ℕ) → c < 65536 → i < 65536
    → 268435456 * c + 17592186044416 * d + 35184372088832 * e + 70368744177664 * f + 140737488355328 * m
    ≡ 268435456 * i + 17592186044416 * j + 35184372088832 * k + 70368744177664 * l + 140737488355328 * n → c ≡ i
links_3 c d e f m i j k l n lc li q = omega arith

-- the four bits
flags_1 : (d e f m j k l n : ℕ) → d < 2 → j < 2 → d + 2 * e + 4 * f + 8 * m ≡ j + 2 * k + 4 * l + 8 * n → d ≡ j
flags_1 d e f m j k l n ld lj q = omega arith

flags_2 : (e f m k l n : ℕ) → e < 2 → k < 2 → e + 2 * f + 4 * m ≡ k + 2 * l + 4 * n → e ≡ k
flags_2 e f m k l n le lk q = omega arith

pub link_code_is : (v w : LinkWord) → IsNarrowLink v → IsNarrowLink w → link_code v ≡ link_code w → v ≡ w
link_code_is v w n m e =
    let vs : ℕ = bit v.kind.supervisor in
    let vc : ℕ = bit v.kind.scoped in
    let vl : ℕ = bit v.kind.lazy in
    let vd : ℕ = bit v.disclosed in
    let ws : ℕ = bit w.kind.supervisor in
    let wc : ℕ = bit w.kind.scoped in
    let wl : ℕ = bit w.kind.lazy in
    let wd : ℕ = bit w.disclosed in
    let a : v.parent ≡ w.parent = links_1 v.parent v.next v.tag vs vc vl vd w.parent w.next w.tag ws wc wl wd n.parent m.parent e in
    let b : v.next ≡ w.next = links_2 v.next v.tag vs vc vl vd w.next w.tag ws wc wl wd n.next m.next (omega arith) in
    let c : v.tag ≡ w.tag = links_3 v.tag vs vc vl vd w.tag ws wc wl wd n.tag m.tag (omega arith) in
    let q : vs + 2 * vc + 4 * vl + 8 * vd ≡ ws + 2 * wc + 4 * wl + 8 * wd = omega arith in
    let d : vs ≡ ws = flags_1 vs vc vl vd ws wc wl wd (bit_small v.kind.supervisor) (bit_small w.kind.supervisor) q in
    let r : vc + 2 * vl + 4 * vd ≡ wc + 2 * wl + 4 * wd = omega arith in
    let f : vc ≡ wc = flags_2 vc vl vd wc wl wd (bit_small v.kind.scoped) (bit_small w.kind.scoped) r in
    let t : vl + 2 * vd ≡ wl + 2 * wd = omega arith in
    let g : vl ≡ wl = flags_2 vl vd 0 wl wd 0 (bit_small v.kind.lazy) (bit_small w.kind.lazy) (omega arith) in
    let u : vd ≡ wd = omega arith in
    let k : v.kind.supervisor ≡ w.kind.supervisor = bit_is v.kind.supervisor w.kind.supervisor d in
    let l : v.kind.scoped ≡ w.kind.scoped = bit_is v.kind.scoped w.kind.scoped f in
    let o : v.kind.lazy ≡ w.kind.lazy = bit_is v.kind.lazy w.kind.lazy g in
    let h : v.disclosed ≡ w.disclosed = bit_is v.disclosed w.disclosed u in
    λ i. record { parent = a i; next = b i; tag = c i; kind = record { supervisor = k i; scoped = l i; lazy = o i }; disclosed = h i }

-- without the hint a link word has 47 bits
pub link_code_short : (w : LinkWord) → IsNarrowLink w → w.disclosed ≡ false → link_code w < 140737488355328
link_code_short w n h = let a = bit_small w.kind.supervisor in let b = bit_small w.kind.scoped in let c = bit_small w.kind.lazy
    in let d : bit w.disclosed ≡ 0 = ap bit h in omega (arith, n.parent, n.next, n.tag)
