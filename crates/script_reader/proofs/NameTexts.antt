-- Names are text.
use Rattle.std.proofs.Common.{◌≡◌, ℕ, List, [], ◌∷◌, true, zero, suc, ◌<◌, arith, get_or, refl, ap, map}
use Rattle.std.specs.Prelude.{string_bytes}
use Rattle.script_grammar.specs.Programs.{channel_names, block_names}
use Rattle.script_reader.specs.declared.script.Channel.{Channel}
use Rattle.script_reader.specs.declared.script.Coroutine.{Coroutine}
use Rattle.script_reader.specs.Programs.{declared_of, block_of}
use Rattle.std.proofs.lemmas.Bool.Decides.{nat_tests}
use Rattle.std.proofs.lemmas.Str.{IsUtf8-from_ascii}
use Rattle.std.specs.Str.{IsUtf8}
use Rattle.std.specs.List.{list_all}
use Rattle.script_grammar.proofs.Truths.{both_true}
use Rattle.script_grammar.specs.Grammar.{is_name, is_name_byte, is_lower}

-- ---- names are text

low_byte : (b : ℕ) → is_name_byte b ≡ true → b < 128
low_byte b e = grind (arith, nat_tests)

lower_byte : (b : ℕ) → is_lower b ≡ true → b < 128
lower_byte b e = grind (arith, nat_tests)

rest_low : (bs : List ℕ) → list_all is_name_byte bs ≡ true → (i : ℕ) → get_or bs i 0 < 128
rest_low [] e i = omega arith
rest_low (b ∷ bs) e zero = low_byte b (both_true (is_name_byte b) (list_all is_name_byte bs) e).0
rest_low (b ∷ bs) e (suc i) = rest_low bs (both_true (is_name_byte b) (list_all is_name_byte bs) e).1 i

name_low : (bs : List ℕ) → is_name bs ≡ true → (i : ℕ) → get_or bs i 0 < 128
name_low [] e i = cc
name_low (b ∷ bs) e zero = lower_byte b (both_true (is_lower b) _ e).0
name_low (b ∷ bs) e (suc i) = rest_low bs (both_true (list_all is_name_byte bs) _ (both_true (is_lower b) _ e).1).0 i

pub name_utf8 : (name : List ℕ) → is_name name ≡ true → IsUtf8 name
name_utf8 name e = IsUtf8-from_ascii name (name_low name e)

-- ---- names in memory

pub names_of_channels : (cs : List Channel) → channel_names (map declared_of cs) ≡ map (λ c. string_bytes c.name) cs
names_of_channels [] = refl
names_of_channels (c ∷ cs) = ap (λ l. string_bytes c.name ∷ l) (names_of_channels cs)

pub names_of_blocks : (cs : List Coroutine) → block_names (map block_of cs) ≡ map (λ c. string_bytes c.name) cs
names_of_blocks [] = refl
names_of_blocks (c ∷ cs) = ap (λ l. string_bytes c.name ∷ l) (names_of_blocks cs)
