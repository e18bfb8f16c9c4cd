-- The grammar of a catalogue.
--   digit, letter   the bytes 0 to 9, and a to p
--   Number          the digits of a lot number: 1 to 6, the first of them not 0
--   value           the number that they write
--   Mark            one or more letters
--   opened          the bytes LOT and a space, and what follows them
--   line            the line of a number and a mark: the bytes LOT and a space, the digits, a space, the letters, and byte 10
--   IsLine          a lot line, with its digits and its letters
--   Begins          the beginning of some lot line, which may be all of it
--   Stuck           the text's first byte that cannot go on stands at i: what is before it begins a line and is none yet, and with
--                   the byte at i, if there is one, it begins no line
--   LotValue        a lot by its number and the bytes of its mark
--   LineOf          a lot line, with its lot
--   Lines           a text that is the lines of these lots, one after another
use Rattle.std.specs.Prelude.{◌≡◌, ℕ, suc, ◌-◌, ◌<◌, ◌≤◌, Bool, true, ◌&&◌, List, [], ◌∷◌, ◌++◌, map, length, take, nat_le, slice_index_or}
use Rattle.std.specs.Int.Digits.{number_from_digits as number}
use Rattle.std.specs.List.{AllByRecursion}

abbrev pub digit : ℕ → Bool
digit b = nat_le 48 b && nat_le b 57

abbrev pub letter : ℕ → Bool
letter b = nat_le 97 b && nat_le b 112

pub record Number (digits : List ℕ) : Type 0 where
  pub some : 1 ≤ length digits
  pub few : length digits ≤ 6
  pub all : AllByRecursion (λ b. digit b ≡ true) digits
  pub first : slice_index_or digits 0 0 ≡ 48 → ⊥

abbrev pub value : List ℕ → ℕ
value digits = number 10 (map (λ b. b - 48) digits)

pub record Mark (letters : List ℕ) : Type 0 where
  pub some : 1 ≤ length letters
  pub all : AllByRecursion (λ b. letter b ≡ true) letters

abbrev pub opened : List ℕ → List ℕ
opened rest = 76 ∷ 79 ∷ 84 ∷ 32 ∷ rest

abbrev pub line : List ℕ → List ℕ → List ℕ
line digits letters = opened (digits ++ 32 ∷ (letters ++ 10 ∷ []))

pub record IsLine (l digits letters : List ℕ) : Type 0 where
  pub number : Number digits
  pub mark : Mark letters
  pub is : l ≡ line digits letters

abbrev pub Begins : List ℕ → Type 0
Begins l = (more digits letters : List ℕ) × IsLine (l ++ more) digits letters

pub record Stuck (text : List ℕ) (i : ℕ) : Type 0 where
  pub within : i ≤ length text
  pub begun : Begins (take i text)
  pub unfinished : (digits letters : List ℕ) → IsLine (take i text) digits letters → ⊥
  pub bad : i < length text → Begins (take (suc i) text) → ⊥

pub record LotValue : Type 0 where
  pub number : ℕ
  pub mark : List ℕ

pub record LineOf (lot : LotValue) (l digits : List ℕ) : Type 0 where
  pub line : IsLine l digits lot.mark
  pub number : lot.number ≡ value digits

abbrev pub Lines : List ℕ → List LotValue → Type 0
Lines text [] = text ≡ []
Lines text (lot ∷ lots) = (l digits rest : List ℕ) × LineOf lot l digits × (text ≡ l ++ rest) × Lines rest lots
