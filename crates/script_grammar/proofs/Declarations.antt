-- What holds of each program: its lines name channels, blocks and Jobs that it declares, and each tag runs a block.
use Rattle.std.proofs.Common.{◌≡◌, ℕ, zero, suc, ◌+◌, ◌<◌, ◌≤◌, Bool, true, false, nat_le, List, [], ◌∷◌, length, Option, Some, refl, ap, sym, ◌∙◌, arith, get_or, slice_get}
use Rattle.std.specs.List.{list_all}
use Rattle.std.proofs.lemmas.List.{length-map, get_or-map}
use Rattle.std.proofs.lemmas.Option.{slice_get-get_or, slice_get_within}
use Rattle.channel_model.specs.declared.acts.Kind.{Kind}
use Rattle.channel_model.specs.declared.acts.Kind.TheVariants.{Rendezvous, Buffered, Unlimited, Conflated, DropOldest, DropLatest, Signal}
use Rattle.channel_model.specs.Channels.{kind_at, places_at, is_signal}
use Rattle.script_grammar.specs.declared.instructions.Instruction.{Instruction}
use Rattle.script_grammar.specs.Programs.{Program, Block, Declared, shape_of}
use Rattle.script_grammar.specs.Grammar.{is_kind, is_declared}
use Rattle.script_grammar.specs.WellFormed.{IsProgram}
use Rattle.script_grammar.specs.Tags.{tags_of, block_of_tag, code_of}
use Rattle.script_grammar.specs.Declarations.{names_channel, launch_below, targets_back}
use Rattle.script_grammar.proofs.Truths.{both_true, le-from_true}
use Rattle.script_grammar.proofs.NamedIsDeclared.{Declares-from_program}
use Rattle.script_grammar.proofs.Layouts.{test_at, channels_known, block_of_tag-some}

-- ---- tests of all elements

pub test_below : {X : Type 0} (test : X → Bool) (xs : List X) (i : ℕ) (d : X) → list_all test xs ≡ true → i < length xs
    → test (get_or xs i d) ≡ true
test_below test xs i d all h = test_at test xs i (get_or xs i d) all (slice_get-get_or xs i d h)

-- ---- channels

pub length-shape_of : (p : Program) → length (shape_of p) ≡ length p.channels
length-shape_of p = length-map p.channels (λ c. (c.kind, c.places))

no_channel : Declared
no_channel = record { name = []; kind = Signal; places = 0 }

declared_at : (p : Program) → IsProgram p → (c : ℕ) → c < length (shape_of p)
    → is_declared p.version (get_or p.channels c no_channel) ≡ true
declared_at p ok c h = test_below (is_declared p.version) p.channels c no_channel ok.channels (omega (arith, h, length-shape_of p))

shape_at : (p : Program) (c : ℕ) → c < length (shape_of p)
    → get_or (shape_of p) c (Signal, 0) ≡ ((get_or p.channels c no_channel).kind, (get_or p.channels c no_channel).places)
shape_at p c h = get_or-map (λ d. (d.kind, d.places)) p.channels c no_channel (Signal, 0) (omega (arith, h, length-shape_of p))

kind_is : (p : Program) (c : ℕ) → c < length (shape_of p) → kind_at (shape_of p) c ≡ (get_or p.channels c no_channel).kind
kind_is p c h = ap (λ (x : Kind × ℕ). x.0) (shape_at p c h)

-- each declared channel is of a kind that a script may declare
pub kind_at-shape : (p : Program) → IsProgram p → (c : ℕ) → c < length (shape_of p) → is_kind p.version (kind_at (shape_of p) c) ≡ true
kind_at-shape p ok c h =
    let d = get_or p.channels c no_channel in
    ap (is_kind p.version) (kind_is p c h) ∙ (both_true (is_kind p.version d.kind) _ (declared_at p ok c h)).0

-- no declared channel carries nothing
pub is_signal-shape_of : (p : Program) → IsProgram p → (c : ℕ) → c < length (shape_of p) → is_signal (kind_at (shape_of p) c) ≡ false
is_signal-shape_of p ok c h =
    let d = get_or p.channels c no_channel in
    ap is_signal (kind_is p c h) ∙ no_signal d.kind (both_true (is_kind p.version d.kind) _ (declared_at p ok c h)).0
  where
    no_signal : (kind : Kind) → is_kind p.version kind ≡ true → is_signal kind ≡ false
    no_signal Rendezvous e = refl
    no_signal (Buffered k) e = refl
    no_signal Unlimited e = refl
    no_signal Conflated e = refl
    no_signal (DropOldest k) e = refl
    no_signal (DropLatest k) e = refl
    no_signal Signal e = cc

pub places_at-shape_of : (p : Program) → IsProgram p → (c : ℕ) → c < length (shape_of p) → (1 ≤ places_at (shape_of p) c)
    × (places_at (shape_of p) c ≤ 1048576)
places_at-shape_of p ok c h =
    let d = get_or p.channels c no_channel in
    let same : places_at (shape_of p) c ≡ d.places = ap (λ (x : Kind × ℕ). x.1) (shape_at p c h) in
    let range = both_true (nat_le 1 d.places) (nat_le d.places 1048576) (both_true (is_kind p.version d.kind) _ (declared_at p ok c h)).1 in
    let low = le-from_true 1 d.places range.0 in
    let high = le-from_true d.places 1048576 range.1 in
    (omega (arith, same, low), omega (arith, same, high))

-- ---- lines

-- a line of a coroutine names a channel that is declared, or none
pub line-within : (p : Program) → IsProgram p → (tag i : ℕ) (x : Instruction) → slice_get (code_of p tag) i ≡ Some x
    → names_channel (length (shape_of p)) x ≡ true
line-within p ok tag i x at =
    let known : names_channel (length p.channels) x ≡ true =
    test_at (names_channel (length p.channels)) (code_of p tag) i x (channels_known p tag ok) at in
    ap (λ n. names_channel n x) (length-shape_of p) ∙ known

-- ---- targets

target_from : (from j i : ℕ) (bs : List Block) (b : Block) (x : Instruction) → targets_back from bs ≡ true → slice_get bs j ≡ Some b
    → slice_get b.code i ≡ Some x → launch_below (from + j) x ≡ true
target_from from j i [] b x e at line = cc
target_from from zero i (c ∷ bs) b x e at line =
    let same : c ≡ b = cc in
    let here : from ≡ from + zero = omega arith in
    ap (λ n. launch_below n x) (sym here) ∙ test_at (launch_below from) c.code i x (both_true (list_all (launch_below from) c.code) _ e).0
    (ap (λ (d : Block). slice_get d.code i) same ∙ line)
target_from from (suc j) i (c ∷ bs) b x e at line =
    let here : from + 1 + j ≡ from + suc j = omega arith in
    ap (λ n. launch_below n x) (sym here) ∙ target_from (from + 1) j i bs b x (both_true (list_all (launch_below from) c.code) _ e).1 at
    line

-- a line launches a block before its own, or none
pub target-before : (p : Program) → IsProgram p → (n i : ℕ) (b : Block) (x : Instruction) → slice_get p.blocks n ≡ Some b
    → slice_get b.code i ≡ Some x → launch_below n x ≡ true
target-before p ok n i b x at line =
    let here : n ≡ 0 + n = omega arith in
    ap (λ m. launch_below m x) here ∙ target_from 0 n i p.blocks b x (Declares-from_program p ok).targets at line

-- ---- tags

-- a tag runs a block that is declared
pub block_of_tag-within : (p : Program) → IsProgram p → (tag n : ℕ) → block_of_tag p tag ≡ Some n → n < length p.blocks
block_of_tag-within p ok tag n e =
    let x = block_of_tag-some p ok tag (slice_get_within (tags_of p) tag n e) in
    let same : x.0 ≡ n = some_is x.0 n (block_of_tag p tag) x.1 e in
    omega (arith, same, x.2)
  where
    some_is : (i j : ℕ) (o : Option ℕ) → o ≡ Some i → o ≡ Some j → i ≡ j
    some_is i j o e f = cc
