-- Relations on states, and their classes. A relation is given as a test, which says of two states whether they are joined; definitions that are to hold
-- of the smallest relation too, which is no test, take any family of types.
--   Joins            the test says yes
--   EquivalenceOn    an equivalence on the states below n
--   RightInvariant   an equivalence that is closed under every step: joined states have joined next states under each letter
--   Within           the second test joins whatever the first joins, of the states below n
--   Below            both states of each of the pairs are below n
--   Holds            the test joins each of the pairs
--   Smallest         every right-invariant equivalence with a property joins x and y: so does the smallest one that has it
--   join             what an equivalence J joins, and the class of x with that of y
--   Joined           this is the smallest equivalence that has what J joins and joins x and y
--   JoinLaw          so it is for every equivalence
--   Agree            two tests agree on the states below n
--   Representatives  the list has one state of each class, of the states below n: no state of it is related to a later one, and every state below n is
--                    related to one of them
--   HasClasses       the relation has c classes on the states below n: there are representatives, and every list of them has length c
--   none_below       no state below m is joined to x
--   least            the states below n to which no lower state is joined: the lowest of each class
--   classes          how many these are
--   ClassesLaw       an equivalence has so many classes
use Rattle.std.specs.Prelude.{◌≡◌, ℕ, zero, suc, ◌<◌, Bool, true, cond, not, ◌&&◌, ◌||◌, List, [], ◌∷◌, length, All, AllPairs, Any}
use Rattle.automaton.specs.Automata.{Automaton}

abbrev pub Joins : (ℕ → ℕ → Bool) → ℕ → ℕ → Type 0
Joins J x y = J x y ≡ true

pub record EquivalenceOn (n : ℕ) (E : ℕ → ℕ → Type 0) : Type 0 where
  pub itself : (x : ℕ) → x < n → E x x
  pub turned : (x y : ℕ) → x < n → y < n → E x y → E y x
  pub chained : (x y z : ℕ) → x < n → y < n → z < n → E x y → E y z → E x z

pub record RightInvariant (m : Automaton) (E : ℕ → ℕ → Type 0) : Type 0 where
  pub equivalence : EquivalenceOn m.count E
  pub steps : (x y a : ℕ) → x < m.count → y < m.count → a < m.letters → E x y → E (m.next x a) (m.next y a)

abbrev pub Within : ℕ → (ℕ → ℕ → Bool) → (ℕ → ℕ → Bool) → Type 0
Within n J E = (x y : ℕ) → x < n → y < n → Joins J x y → Joins E x y

abbrev pub Below : ℕ → List (ℕ × ℕ) → Type 0
Below n [] = Unit {0}
Below n (c ∷ cs) = (c.0 < n) × (c.1 < n) × Below n cs

abbrev pub Holds : List (ℕ × ℕ) → (ℕ → ℕ → Bool) → Type 0
Holds [] E = Unit {0}
Holds (c ∷ cs) E = Joins E c.0 c.1 × Holds cs E

abbrev pub Smallest : Automaton → ((ℕ → ℕ → Bool) → Type 0) → ℕ → ℕ → Type 0
Smallest m Has x y = (E : ℕ → ℕ → Bool) → RightInvariant m (Joins E) → Has E → Joins E x y

abbrev pub join : (ℕ → ℕ → Bool) → ℕ → ℕ → ℕ → ℕ → Bool
join J x y u v = J u v || (J u x && J y v) || (J u y && J x v)

pub record Joined (n : ℕ) (J : ℕ → ℕ → Bool) (x y : ℕ) : Type 0 where
  pub equivalence : EquivalenceOn n (Joins (join J x y))
  pub before : Within n J (join J x y)
  pub pair : Joins (join J x y) x y
  pub least : (E : ℕ → ℕ → Bool) → EquivalenceOn n (Joins E) → Within n J E → Joins E x y → Within n (join J x y) E

abbrev pub JoinLaw : Type 0
JoinLaw = (n : ℕ) (J : ℕ → ℕ → Bool) → EquivalenceOn n (Joins J) → (x y : ℕ) → x < n → y < n → Joined n J x y

abbrev pub Agree : ℕ → (ℕ → ℕ → Bool) → (ℕ → ℕ → Bool) → Type 0
Agree n J L = (u v : ℕ) → u < n → v < n → J u v ≡ L u v

pub record Representatives (n : ℕ) (R : ℕ → ℕ → Type 0) (l : List ℕ) : Type 0 where
  pub inside : All (λ r. r < n) l
  pub unrelated : AllPairs (λ u r. R u r → ⊥) l
  pub every : (x : ℕ) → x < n → Any (R x) l

pub record HasClasses (n : ℕ) (R : ℕ → ℕ → Type 0) (c : ℕ) : Type 0 where
  pub found : (l : List ℕ) × Representatives n R l × (length l ≡ c)
  pub only : (l : List ℕ) → Representatives n R l → length l ≡ c

unfoldable pub none_below : (ℕ → ℕ → Bool) → ℕ → ℕ → Bool
none_below J x zero = true
none_below J x (suc m) = not (J m x) && none_below J x m

unfoldable pub least : (ℕ → ℕ → Bool) → ℕ → List ℕ
least J zero = []
least J (suc n) = cond (none_below J n n) (n ∷ least J n) (least J n)

unfoldable pub classes : (ℕ → ℕ → Bool) → ℕ → ℕ
classes J n = length (least J n)

abbrev pub ClassesLaw : Type 0
ClassesLaw = (n : ℕ) (J : ℕ → ℕ → Bool) → EquivalenceOn n (Joins J) → HasClasses n (Joins J) (classes J n)
