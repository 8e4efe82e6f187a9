-- What sources and sinks tell of their bytes and failures.
use Rattle.std.specs.Prelude.{◌≡◌, ℕ, ◌+◌, ◌-◌, min, ◌<◌, ◌≤◌, ◌^◌, ◌⊎◌, List, ◌++◌, length, take, Option, Some, None, []}

-- a count one higher, which stands still at its last value
abbrev pub one_more : ℕ → ℕ
one_more count = min (count + 1) (2 ^ 64 - 1)

-- the count rose in this call, or stands at its last value
abbrev pub Rose : ℕ → ℕ → Type 0
Rose old new = (old < new) ⊎ (new ≡ 2 ^ 64 - 1)

-- the bytes given are the first of those left, which loses them; what is told was told before, and is told on
abbrev pub Gave : Option (List ℕ) → Option (List ℕ) → List ℕ → Type 0
Gave None None given = Unit {0}
Gave None (Some new) given = ⊥
Gave (Some old) None given = ⊥
Gave (Some old) (Some new) given = old ≡ given ++ new

-- so many bytes were given
abbrev pub GaveJust : ℕ → Option (List ℕ) → Option (List ℕ) → Type 0
GaveJust count old new = (given : List ℕ) × (length given ≡ count) × Gave old new given

-- no more than so many bytes were given
abbrev pub GaveAtMost : ℕ → Option (List ℕ) → Option (List ℕ) → Type 0
GaveAtMost most old new = (given : List ℕ) × (length given ≤ most) × Gave old new given

-- nothing is left, where it is told
abbrev pub IsDrained : Option (List ℕ) → Type 0
IsDrained None = Unit {0}
IsDrained (Some left) = left ≡ []

-- the bytes taken are added to those held; what is told was told before, and need not be told on
abbrev pub Took : Option (List ℕ) → Option (List ℕ) → List ℕ → Type 0
Took old None taken = Unit {0}
Took None (Some new) taken = ⊥
Took (Some old) (Some new) taken = new ≡ old ++ taken

-- a part of the text from its front was taken, and not the whole
abbrev pub TookPart : List ℕ → Option (List ℕ) → Option (List ℕ) → Type 0
TookPart text old new = (count : ℕ) × (count < length text) × Took old new (take count text)
