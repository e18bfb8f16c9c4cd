-- The order of words: shorter ones first, and among equally long ones by letters.
--   Lower     of two words of one length, the first has the lower letter where they first differ
--   Before    the first word comes before the second: it is shorter, or as long and lower
--   First     the word has a property, and comes before every other word that has it
--   OrderLaw  what comes before a word is no longer than it; of two different words one comes before the other, and not the other way round; and what
--             comes before a word that comes before a third comes before the third
use Rattle.std.specs.Prelude.{◌≡◌, ℕ, ◌<◌, ◌≤◌, ◌⊎◌, List, [], ◌∷◌, length}

abbrev pub Lower : List ℕ → List ℕ → Type 0
Lower [] v = ⊥
Lower (a ∷ w) [] = ⊥
Lower (a ∷ w) (b ∷ v) = (a < b) ⊎ ((a ≡ b) × Lower w v)

abbrev pub Before : List ℕ → List ℕ → Type 0
Before w v = (length w < length v) ⊎ ((length w ≡ length v) × Lower w v)

abbrev pub First : (List ℕ → Type 0) → List ℕ → Type 0
First P w = P w × ((v : List ℕ) → P v → (w ≡ v) ⊎ Before w v)

pub record OrderLaw : Type 0 where
  pub shorter : (w v : List ℕ) → Before w v → length w ≤ length v
  pub one_way : (w v : List ℕ) → Before w v → Before v w → ⊥
  pub chained : (u v w : List ℕ) → Before u v → Before v w → Before u w
  pub total : (w v : List ℕ) → ((w ≡ v) ⊎ Before w v) ⊎ Before v w
