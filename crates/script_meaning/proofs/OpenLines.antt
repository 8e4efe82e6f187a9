-- The lines that are open at a line, and the line that closes each.
use Rattle.std.specs.Prelude.{◌≡◌, ℕ, zero, suc, ◌+◌, ◌<◌, ◌≤◌, true, false, List, [], ◌∷◌, ◌++◌, length, drop, Some, slice_get, refl, if◌then◌else◌}
use Rattle.std.proofs.Common.{sym, ap, ◌∙◌, subst, arith, drop-cons}
use Rattle.std.proofs.lemmas.Option.{slice_get_within, get_or_from_slice_get}
use Rattle.script_grammar.specs.declared.instructions.Instruction.{Instruction}
use Rattle.script_grammar.specs.declared.instructions.Instruction.TheVariants as line
use Rattle.script_grammar.specs.Blocks.{but_first, is_end, opens_lines}
use Rattle.script_grammar.specs.Nesting.{closing_from, closing_of, end_from, one_less, depth_after}
use Rattle.script_grammar.proofs.OpenedIsClosed.{closing_from-end}
use Rattle.script_meaning.specs.Inside.{heads_after, heads_from, heads_at}

-- ---- what a line does to the lines that are open

-- it opens, it is an end, or neither
pub data LineKind (x : Instruction) : Type 0 where
  opens : opens_lines x ≡ true → is_end x ≡ false → LineKind x
  closes : x ≡ line.End → LineKind x
  other : opens_lines x ≡ false → is_end x ≡ false → LineKind x

pub line_kind : (x : Instruction) → LineKind x
line_kind (line.Send c v) = LineKind.other refl refl
line_kind (line.TrySend c v) = LineKind.other refl refl
line_kind (line.Receive c) = LineKind.other refl refl
line_kind (line.TryReceive c) = LineKind.other refl refl
line_kind (line.Close c) = LineKind.other refl refl
line_kind (line.CancelChannel c) = LineKind.other refl refl
line_kind line.Yield = LineKind.other refl refl
line_kind (line.Launch b how job) = LineKind.other refl refl
line_kind (line.Start job) = LineKind.other refl refl
line_kind (line.Join job) = LineKind.other refl refl
line_kind (line.Await job) = LineKind.other refl refl
line_kind (line.Cancel job) = LineKind.other refl refl
line_kind (line.Fail v) = LineKind.other refl refl
line_kind (line.SetResult v) = LineKind.other refl refl
line_kind (line.Repeat n) = LineKind.opens refl refl
line_kind (line.Each c) = LineKind.opens refl refl
line_kind (line.Scope supervisor) = LineKind.opens refl refl
line_kind line.Select = LineKind.opens refl refl
line_kind (line.OnSend c v) = LineKind.other refl refl
line_kind (line.OnReceive c) = LineKind.other refl refl
line_kind line.End = LineKind.closes refl

pub heads_open : (place : ℕ) (hs : List ℕ) (x : Instruction) → opens_lines x ≡ true → heads_after place hs x ≡ place ∷ hs
heads_open place hs x e = ap (λ b. if b then place ∷ hs else (if is_end x then but_first hs else hs)) e

pub heads_other : (place : ℕ) (hs : List ℕ) (x : Instruction) → opens_lines x ≡ false → is_end x ≡ false → heads_after place hs x ≡ hs
heads_other place hs x o e = ap (λ b. if b then place ∷ hs else (if is_end x then but_first hs else hs)) o
    ∙ ap (λ b. if b then but_first hs else hs) e

-- ---- one line more

pub heads_step : (place : ℕ) (hs : List ℕ) (code : List Instruction) (i : ℕ) (x : Instruction) → slice_get code i ≡ Some x
    → heads_from place hs code (suc i) ≡ heads_after (place + i) (heads_from place hs code i) x
heads_step place hs [] i x at = cc
heads_step place hs (y ∷ code) zero x at =
    let same : y ≡ x = cc in
    let here : place ≡ place + 0 = omega arith in
    ap (heads_after place hs) same ∙ ap (λ n. heads_after n hs x) here
heads_step place hs (y ∷ code) (suc i) x at =
    let here : place + 1 + i ≡ place + suc i = omega arith in
    heads_step (place + 1) (heads_after place hs y) code i x at
    ∙ ap (λ n. heads_after n (heads_from (place + 1) (heads_after place hs y) code i) x) here

pub heads_next : (code : List Instruction) (i : ℕ) (x : Instruction) → slice_get code i ≡ Some x
    → heads_at code (i + 1) ≡ heads_after i (heads_at code i) x
heads_next code i x at =
    let up : i + 1 ≡ suc i = omega arith in
    let here : 0 + i ≡ i = omega arith in
    ap (heads_at code) up ∙ heads_step 0 [] code i x at ∙ ap (λ n. heads_after n (heads_at code i) x) here

pub heads_end : (code : List Instruction) (i h : ℕ) (hs : List ℕ) → slice_get code i ≡ Some line.End → heads_at code i ≡ h ∷ hs
    → heads_at code (i + 1) ≡ hs
heads_end code i h hs at e = heads_next code i line.End at ∙ ap but_first e

none_more : (place : ℕ) (hs : List ℕ) (j : ℕ) → heads_from place hs [] j ≡ hs
none_more place hs zero = refl
none_more place hs (suc j) = refl

-- so many lines more
heads_more : (place : ℕ) (hs : List ℕ) (code : List Instruction) (i j : ℕ)
    → heads_from place hs code (i + j) ≡ heads_from (place + i) (heads_from place hs code i) (drop i code) j
heads_more place hs code zero j =
    let here : place ≡ place + 0 = omega arith in
    let same : 0 + j ≡ j = omega arith in
    ap (heads_from place hs code) same ∙ ap (λ n. heads_from n hs code j) here
heads_more place hs [] (suc i) j = let same : suc i + j ≡ suc (i + j) = omega arith in ap (heads_from place hs []) same
    ∙ sym (none_more (place + suc i) hs j)
heads_more place hs (x ∷ code) (suc i) j =
    let here : place + 1 + i ≡ place + suc i = omega arith in
    let same : suc i + j ≡ suc (i + j) = omega arith in
    ap (heads_from place hs (x ∷ code)) same ∙ heads_more (place + 1) (heads_after place hs x) code i j
    ∙ ap (λ n. heads_from n (heads_from (place + 1) (heads_after place hs x) code i) (drop i code) j) here

pub drop_at : (code : List Instruction) (i : ℕ) (l : Instruction) → slice_get code i ≡ Some l → drop i code ≡ l ∷ drop (i + 1) code
drop_at code i l e =
    let one : suc i ≡ i + 1 = omega arith in
    drop-cons code i l (slice_get_within code i l e) ∙ ap (λ y. y ∷ drop (suc i) code) (get_or_from_slice_get code i l l e)
    ∙ ap (λ n. l ∷ drop n code) one

-- the line at a number below the length
pub line_at : (code : List Instruction) (i : ℕ) → i < length code → (l : Instruction) × (slice_get code i ≡ Some l)
line_at [] i h = absurd (omega (arith, h))
line_at (x ∷ code) zero h = (x, refl)
line_at (x ∷ code) (suc i) h = let shorter : i < length code = omega (arith, h) in line_at code i shorter

-- ---- where each was opened

-- it was opened before, and those round it were open there
pub record OpenedAt (code : List Instruction) (i h : ℕ) (hs : List ℕ) : Type 0 where
  pub before : h < i
  pub round : heads_at code h ≡ hs
  pub opener : Instruction
  pub opener_is : slice_get code h ≡ Some opener
  pub opens : opens_lines opener ≡ true

later : (code : List Instruction) (i h : ℕ) (hs : List ℕ) → OpenedAt code i h hs → OpenedAt code (i + 1) h hs
later code i h hs o = record {
  before = omega (arith, o.before);
  round = o.round;
  opener = o.opener;
  opener_is = o.opener_is;
  opens =
      o.opens;
}

first_of : {A : Type 0} (x y : A) (xs ys : List A) → x ∷ xs ≡ y ∷ ys → (x ≡ y) × (xs ≡ ys)
first_of x y xs ys e = (cc, cc)

none_first : {A : Type 0} {B : Type 0} (ds : List A) (h : A) (hs : List A) → [] ≡ ds ++ h ∷ hs → B
none_first [] h hs e = cc
none_first (d ∷ ds) h hs e = cc

-- what is left of a list without its first has one before it
with_first : (l ds : List ℕ) (h : ℕ) (hs : List ℕ) → but_first l ≡ ds ++ h ∷ hs → (d : ℕ) × (l ≡ d ∷ ds ++ h ∷ hs)
with_first [] ds h hs e = none_first ds h hs e
with_first (d ∷ l) ds h hs e = (d, ap (λ m. d ∷ m) e)

opened_next : (code : List Instruction) (i : ℕ) (x : Instruction) → slice_get code i ≡ Some x
    → ((ds : List ℕ) (h : ℕ) (hs : List ℕ) → heads_at code i ≡ ds ++ h ∷ hs → OpenedAt code i h hs)
    → (ds : List ℕ) (h : ℕ) (hs : List ℕ) → heads_at code (i + 1) ≡ ds ++ h ∷ hs → OpenedAt code (i + 1) h hs
opened_next code i x at more ds h hs e = by_kind (line_kind x)
  where
    by_list : (ds : List ℕ) → opens_lines x ≡ true → i ∷ heads_at code i ≡ ds ++ h ∷ hs → OpenedAt code (i + 1) h hs
    by_list [] o f =
        let two = first_of i h (heads_at code i) hs f in
        record {
          before = omega (arith, two.0);
          round = ap (heads_at code) (sym two.0)
              ∙ two.1;
          opener = x;
          opener_is = ap (slice_get code) (sym two.0) ∙ at;
          opens = o;
        }
    by_list (d ∷ ds) o f = later code i h hs (more ds h hs (first_of i d (heads_at code i) (ds ++ h ∷ hs) f).1)

    by_kind : LineKind x → OpenedAt code (i + 1) h hs
    by_kind (LineKind.opens o n) = by_list ds o (sym (heads_open i (heads_at code i) x o) ∙ sym (heads_next code i x at) ∙ e)
    by_kind (LineKind.closes c) =
        let left : but_first (heads_at code i) ≡ ds ++ h ∷ hs = sym (ap (heads_after i (heads_at code i)) c) ∙ sym (heads_next code i x at)
        ∙ e in
        let w = with_first (heads_at code i) ds h hs left in
        later code i h hs (more (w.0 ∷ ds) h hs w.1)
    by_kind (LineKind.other o n) = later code i h hs (more ds h hs (sym (heads_other i (heads_at code i) x o n)
        ∙ sym (heads_next code i x at) ∙ e))

-- each line that is open was opened before, where those round it were open
pub opened_at : (code : List Instruction) (i : ℕ) → i ≤ length code → (ds : List ℕ) (h : ℕ) (hs : List ℕ) → heads_at code i ≡ ds ++ h ∷ hs
    → OpenedAt code i h hs
opened_at code zero le ds h hs e = none_first ds h hs e
opened_at code (suc i) le ds h hs e =
    let lt : i < length code = omega (arith, le) in
    let l = line_at code i lt in
    let up : suc i ≡ i + 1 = omega arith in
    subst (λ n. OpenedAt code n h hs) (sym up) (opened_next code i l.0 l.1 (opened_at code i (omega (arith, le))) ds h hs
    (sym (ap (heads_at code) up) ∙ e))

-- ---- what closes each

closes_next : (code : List Instruction) (i : ℕ) (x : Instruction) → slice_get code i ≡ Some x
    → ((ds : List ℕ) (h : ℕ) (hs : List ℕ) → heads_at code i ≡ ds ++ h ∷ hs → closing_of code h ≡ closing_from (length ds) i (drop i code))
    → (ds : List ℕ) (h : ℕ) (hs : List ℕ) → heads_at code (i + 1) ≡ ds ++ h ∷ hs
    → closing_of code h ≡ closing_from (length ds) (i + 1) (drop (i + 1) code)
closes_next code i x at more ds h hs e = by_kind (line_kind x)
  where
    rest : List Instruction
    rest = drop (i + 1) code

    here : (d : ℕ) → closing_from d i (drop i code) ≡ closing_from d i (x ∷ rest)
    here d = ap (closing_from d i) (drop_at code i x at)

    passes : (d : ℕ) → is_end x ≡ false → closing_from d i (x ∷ rest) ≡ closing_from (depth_after x d) (i + 1) rest
    passes d n = ap (λ b. if b then end_from d i (closing_from (one_less d) (i + 1) rest) else closing_from (depth_after x d) (i + 1) rest)
        n

    deeper : (d : ℕ) → opens_lines x ≡ true → depth_after x d ≡ d + 1
    deeper d o = ap (λ b. if b then d + 1 else (if is_end x then one_less d else d)) o

    as_deep : (d : ℕ) → opens_lines x ≡ false → is_end x ≡ false → depth_after x d ≡ d
    as_deep d o n = ap (λ b. if b then d + 1 else (if is_end x then one_less d else d)) o ∙ ap (λ b. if b then one_less d else d) n

    by_list : (ds : List ℕ) → opens_lines x ≡ true → is_end x ≡ false → i ∷ heads_at code i ≡ ds ++ h ∷ hs
        → closing_of code h ≡ closing_from (length ds) (i + 1) rest
    by_list [] o n f = ap (closing_of code) (sym (first_of i h (heads_at code i) hs f).0)
    by_list (d ∷ ds) o n f =
        let up : length ds + 1 ≡ length (d ∷ ds) = omega arith in
        more ds h hs (first_of i d (heads_at code i) (ds ++ h ∷ hs) f).1 ∙ here (length ds) ∙ passes (length ds) n
        ∙ ap (λ m. closing_from m (i + 1) rest) (deeper (length ds) o ∙ up)

    by_kind : LineKind x → closing_of code h ≡ closing_from (length ds) (i + 1) rest
    by_kind (LineKind.opens o n) = by_list ds o n (sym (heads_open i (heads_at code i) x o) ∙ sym (heads_next code i x at) ∙ e)
    by_kind (LineKind.closes c) =
        let left : but_first (heads_at code i) ≡ ds ++ h ∷ hs = sym (ap (heads_after i (heads_at code i)) c) ∙ sym (heads_next code i x at)
        ∙ e in
        let w = with_first (heads_at code i) ds h hs left in
        more (w.0 ∷ ds) h hs w.1 ∙ here (length (w.0 ∷ ds)) ∙ ap (λ y. closing_from (length (w.0 ∷ ds)) i (y ∷ rest)) c
    by_kind (LineKind.other o n) =
        more ds h hs (sym (heads_other i (heads_at code i) x o n) ∙ sym (heads_next code i x at) ∙ e) ∙ here (length ds)
        ∙ passes (length ds) n ∙ ap (λ m. closing_from m (i + 1) rest) (as_deep (length ds) o n)

-- a line that is open is closed by the first end at which one more is closed than opened, where so many are open within it
pub open_closes : (code : List Instruction) (i : ℕ) → i ≤ length code → (ds : List ℕ) (h : ℕ) (hs : List ℕ) → heads_at code i ≡ ds ++ h ∷ hs
    → closing_of code h ≡ closing_from (length ds) i (drop i code)
open_closes code zero le ds h hs e = none_first ds h hs e
open_closes code (suc i) le ds h hs e =
    let lt : i < length code = omega (arith, le) in
    let l = line_at code i lt in
    let up : suc i ≡ i + 1 = omega arith in
    closes_next code i l.0 l.1 (open_closes code i (omega (arith, le))) ds h hs (sym (ap (heads_at code) up) ∙ e)
    ∙ ap (λ n. closing_from (length ds) n (drop n code)) (sym up)

-- an end closes the innermost line that is open
pub end_closes_first : (code : List Instruction) (i h : ℕ) (hs : List ℕ) → slice_get code i ≡ Some line.End → heads_at code i ≡ h ∷ hs
    → closing_of code h ≡ Some i
end_closes_first code i h hs at e =
    let lt = slice_get_within code i line.End at in
    open_closes code i (omega (arith, lt)) [] h hs e ∙ ap (closing_from 0 i) (drop_at code i line.End at)

-- a line that is open is closed at this line or later
pub closed_later : (code : List Instruction) (i : ℕ) → i ≤ length code → (ds : List ℕ) (h : ℕ) (hs : List ℕ) (e : ℕ) → heads_at code i ≡ ds
    ++ h ∷ hs → closing_of code h ≡ Some e → i ≤ e
closed_later code i le ds h hs e is c = let f = closing_from-end (length ds) i e (drop i code) (sym (open_closes code i le ds h hs is) ∙ c)
    in omega (arith, f.1)

-- ---- what is open at the end that closes a line

-- behind these lines the line h is the innermost that is open, and an end stands there
abbrev pub ClosesFrom : ℕ → List ℕ → List Instruction → ℕ → ℕ → List ℕ → Type 0
ClosesFrom place heads code e h hs = (j : ℕ) × (e ≡ place + j) × (slice_get code j ≡ Some line.End)
    × (heads_from place heads code j ≡ h ∷ hs)

closing_open : (place d e h : ℕ) (hs ds : List ℕ) (code : List Instruction) → length ds ≡ d → closing_from d place code ≡ Some e
    → ClosesFrom place (ds ++ h ∷ hs) code e h hs
closing_open place d e h hs ds [] n is = cc
closing_open place d e h hs ds (x ∷ code) n is = by_kind (line_kind x) (λ ds d m f. closing_open (place + 1) d e h hs ds code m f)
  where
    More : Type 0
    More = (ds : List ℕ) (d : ℕ) → length ds ≡ d → closing_from d (place + 1) code ≡ Some e
        → ClosesFrom (place + 1) (ds ++ h ∷ hs) code e h hs

    onward : (heads : List ℕ) → heads_after place (ds ++ h ∷ hs) x ≡ heads → ClosesFrom (place + 1) heads code e h hs
        → ClosesFrom place (ds ++ h ∷ hs) (x ∷ code) e h hs
    onward heads f c = (suc c.0, omega (arith, c.1), c.2, ap (λ l. heads_from (place + 1) l code c.0) f ∙ c.3)

    passes : is_end x ≡ false → closing_from (depth_after x d) (place + 1) code ≡ Some e
    passes f =
        sym (ap (λ b. if b then end_from d place (closing_from (one_less d) (place + 1) code) else closing_from (depth_after x d)
        (place + 1) code) f) ∙ is

    at_end : (ds : List ℕ) (d : ℕ) → length ds ≡ d → x ≡ line.End → end_from d place (closing_from (one_less d) (place + 1) code) ≡ Some e
        → More
        → ClosesFrom place (ds ++ h ∷ hs) (x ∷ code) e h hs
    at_end [] zero m c f more = let here : place ≡ e = cc in (0, omega (arith, here), ap (λ y. Some y) c, refl)
    at_end [] (suc d) m c f more = absurd (omega (arith, m))
    at_end (a ∷ ds) zero m c f more = absurd (omega (arith, m))
    at_end (a ∷ ds) (suc d) m c f more =
        let q = more ds d (omega (arith, m)) f in
        (suc q.0, omega (arith, q.1), q.2, ap (λ l. heads_from (place + 1) l code q.0) (ap (heads_after place (a ∷ ds ++ h ∷ hs)) c) ∙ q.3)

    by_kind : LineKind x → More → ClosesFrom place (ds ++ h ∷ hs) (x ∷ code) e h hs
    by_kind (LineKind.opens o f) more =
        let deeper : depth_after x d ≡ suc d = ap (λ b. if b then d + 1 else (if is_end x then one_less d else d)) o ∙ omega arith in
        onward (place ∷ ds ++ h ∷ hs) (heads_open place (ds ++ h ∷ hs) x o)
        (more (place ∷ ds) (suc d) (omega (arith, n)) (sym (ap (λ m. closing_from m (place + 1) code) deeper) ∙ passes f))
    by_kind (LineKind.closes c) more = at_end ds d n c (ap (λ y. closing_from d place (y ∷ code)) (sym c) ∙ is) more
    by_kind (LineKind.other o f) more =
        let as_deep : depth_after x d ≡ d = ap (λ b. if b then d + 1 else (if is_end x then one_less d else d)) o
        ∙ ap (λ b. if b then one_less d else d) f in
        onward (ds ++ h ∷ hs) (heads_other place (ds ++ h ∷ hs) x o f)
        (more ds d n (sym (ap (λ m. closing_from m (place + 1) code) as_deep) ∙ passes f))

-- what closes a line is an end behind it, behind which the lines are open that were open at the line
pub record ClosedAt (code : List Instruction) (i e : ℕ) : Type 0 where
  pub behind : i < e
  pub is_end : slice_get code e ≡ Some line.End
  pub open_then : heads_at code e ≡ i ∷ heads_at code i
  pub open_after : heads_at code (e + 1) ≡ heads_at code i

slice_drop : (code : List Instruction) (i j : ℕ) → slice_get (drop i code) j ≡ slice_get code (i + j)
slice_drop code zero j = let same : j ≡ 0 + j = omega arith in ap (slice_get code) same
slice_drop [] (suc i) zero = refl
slice_drop [] (suc i) (suc j) = refl
slice_drop (x ∷ code) (suc i) j = let same : suc (i + j) ≡ suc i + j = omega arith in slice_drop code i j ∙ ap (slice_get (x ∷ code)) same

pub closed_at : (code : List Instruction) (i e : ℕ) (x : Instruction) → slice_get code i ≡ Some x → opens_lines x ≡ true
    → closing_of code i ≡ Some e → ClosedAt code i e
closed_at code i e x at o is =
    let c = closing_open (i + 1) 0 e i (heads_at code i) [] (drop (i + 1) code) refl is in
    let place : i + 1 + c.0 ≡ e = sym c.1 in
    let zero_up : i + 1 ≡ 0 + (i + 1) = omega arith in
    let end : slice_get code e ≡ Some line.End = ap (slice_get code) (sym place) ∙ sym (slice_drop code (i + 1) c.0) ∙ c.2 in
    let first : heads_at code (i + 1) ≡ i ∷ heads_at code i = heads_next code i x at ∙ heads_open i (heads_at code i) x o in
    let within : heads_at code e ≡ i ∷ heads_at code i =
    ap (heads_at code) (sym place) ∙ heads_more 0 [] code (i + 1) c.0
    ∙ ap (λ n. heads_from n (heads_at code (i + 1)) (drop (i + 1) code) c.0) (sym zero_up)
    ∙ ap (λ l. heads_from (i + 1) l (drop (i + 1) code) c.0) first ∙ c.3 in
    record { behind = omega (arith, c.1); is_end = end; open_then = within; open_after = heads_end code e i (heads_at code i) end within }
